use Rattle.std.proofs.Common.{◌≡◌, ◌&&◌, take, refl, sym, ap, ◌∙◌, arith}
use Rattle.std.specs.List.{list_all}
use Rattle.std.proofs.lemmas.Grind.{common_steps}
use Rattle.std.proofs.lemmas.List.Folds.{list_all_more}
use Rattle.cast_record.specs.ItemWords.{is_hex_digit}
use Rattle.cast_record.proofs.item_word.is_block.Goals as goal

pub loop-digit-init : goal.loop-digit-init
loop-digit-init c = refl

pub loop-digit-preserved : goal.loop-digit-preserved
loop-digit-preserved c =
    (λ i. c.loop-digit.invariant i && c.is_digit-are_digits.ensures i) ∙ sym (list_all_more is_hex_digit c.args.digits.now c.loop-digit.digit-index 0 c.loop-digit-test.true)

pub returns : goal.returns
returns c =
    let whole : take c.loop-digit.digit-index c.args.digits.now ≡ c.args.digits.now = grind (arith, common_steps) in
    c.loop-digit.invariant ∙ ap (list_all is_hex_digit) whole
