use Rattle.std.proofs.Common.{◌≡◌, ◌+◌, ◌-◌, ◌<◌, ◌≤◌, sym, subst, length, take, drop, get_or, arith, List, ℕ}
use Rattle.std.proofs.lemmas.Bool.Decides.{nat_tests}
use Rattle.std.proofs.lemmas.Grind.{common_steps}
use Rattle.cast_record.specs.Fronts.{BeginsWithNumber}
use Rattle.cast_record.proofs.FrontLemmas.{number_ended}
use Rattle.cast_record.proofs.front.end_number.Goals as goal

pub returns : goal.returns
returns c =
    let whole : take (length c.args.bytes.now - (c.args.digits + 1)) (drop (c.args.digits + 1) c.args.bytes.now) ≡ drop (c.args.digits + 1) c.args.bytes.now = grind (arith, common_steps) in
    let some : 0 < c.args.digits = grind (arith, nat_tests) in
    let first : 2 ≤ c.args.digits → get_or c.args.bytes.now 0 0 ≡ 48 → ⊥ = (λ two zero_first. grind (arith, nat_tests)) in
    subst (λ (rest : List ℕ). BeginsWithNumber c.args.bytes.now c.args.value rest) (sym whole) (number_ended c.args.bytes.now c.args.digits c.args.value c.requires.number c.requires.within c.requires.blank some first)
