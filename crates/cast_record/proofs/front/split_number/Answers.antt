use Rattle.std.proofs.Common.{◌≡◌, ◌+◌, ◌-◌, ◌*◌, ◌<◌, ◌^◌, subst, get_or, true, arith, ℕ}
use Rattle.std.specs.Char.{is_ascii_digit}
use Rattle.std.proofs.lemmas.Bool.Decides.{nat_tests}
use Rattle.std.proofs.lemmas.Grind.{common_steps}
use Rattle.cast_record.specs.Fronts.{IsNumberSoFar}
use Rattle.cast_record.proofs.FrontLemmas.{digit_more}
use Rattle.cast_record.proofs.front.split_number.Goals as goal

pub loop-at-preserved : goal.loop-at-preserved
loop-at-preserved c =
    let digit : is_ascii_digit (get_or c.args.bytes.now c.loop-at.at 0) ≡ true = grind (arith, nat_tests, common_steps) in
    let value : c.loop-at.value * 10 + (get_or c.args.bytes.now c.loop-at.at 0 - 48) ≡ c.in_ok-value.value = grind (arith, nat_tests, common_steps) in
    let fits : c.loop-at.value * 10 + (get_or c.args.bytes.now c.loop-at.at 0 - 48) < 2 ^ 64 = grind (arith, nat_tests, common_steps) in
    subst (λ (v : ℕ). IsNumberSoFar c.args.bytes.now (c.loop-at.at + 1) v) value (digit_more c.args.bytes.now c.loop-at.at c.loop-at.value c.loop-at.invariant (omega arith) digit fits)
