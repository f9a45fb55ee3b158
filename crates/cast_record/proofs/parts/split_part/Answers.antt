use Rattle.std.proofs.Common.{◌≡◌, ◌-◌, ◌+◌, nat_eq, sym, arith, take, drop, length}
use Rattle.std.proofs.lemmas.Grind.{common_steps}
use Rattle.cast_record.proofs.PartLemmas.{split_found, split_missed}
use Rattle.cast_record.proofs.parts.split_part.Goals as goal

pub returns-in-Some : goal.returns-in-Some
returns-in-Some c =
    let found = split_found (λ b. nat_eq b c.args.separator) c.args.bytes.now c.in-Some.at (sym c.in-Some.ensures) in
    let whole : take (length c.args.bytes.now - (c.in-Some.at + 1)) (drop (c.in-Some.at + 1) c.args.bytes.now) ≡ drop (c.in-Some.at + 1) c.args.bytes.now = grind (arith, common_steps) in
    rw whole found

pub returns-in-None : goal.returns-in-None
returns-in-None c = split_missed (λ b. nat_eq b c.args.separator) c.args.bytes.now (sym c.in-None.ensures)
