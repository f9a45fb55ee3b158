use Rattle.std.proofs.Common.{◌≡◌, ◌%◌, ◌∙◌, sym, length, arith}
use Rattle.std.proofs.lemmas.Bool.Decides.{nat_tests}
use Rattle.std.proofs.lemmas.Grind.{common_steps}
use Rattle.cast_record.proofs.ItemWordLemmas.{even_digits, odd_digits}
use Rattle.cast_record.proofs.item_word.is_hex.Goals as goal

pub returns : goal.returns
returns c =
    let even : length c.args.digits.now % 2 ≡ 0 = grind (arith, nat_tests, common_steps) in
    c.are_digits.ensures ∙ sym (even_digits c.args.digits.now even)

pub returns-then-digits-ne0 : goal.returns-then-digits-ne0
returns-then-digits-ne0 c =
    let odd : length c.args.digits.now % 2 ≡ 1 = grind (arith, nat_tests, common_steps) in
    sym (odd_digits c.args.digits.now odd)
