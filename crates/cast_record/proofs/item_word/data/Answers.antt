use Rattle.std.proofs.Common.{◌≡◌, ◌∙◌, sym, nat_lt, length, false, arith}
use Rattle.std.proofs.lemmas.Bool.Decides.{nat_tests}
use Rattle.std.proofs.lemmas.Grind.{common_steps}
use Rattle.cast_record.proofs.ItemWordLemmas.{data_kind}
use Rattle.cast_record.proofs.item_word.data.Goals as goal

pub returns : goal.returns
returns c =
    let short : nat_lt 2048 (length c.args.digits.now) ≡ false = grind (arith, nat_tests, common_steps) in
    c.then_some.ensures ∙ sym (data_kind c.args.digits.now c.is_hex.result short (sym c.is_hex.ensures))
