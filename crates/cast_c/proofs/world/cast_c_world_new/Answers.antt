use Rattle.std.proofs.Common.{[], IsSomeAnd, sym, subst}
use Rattle.cast_world.specs.Group.{State, Stands}
use Rattle.cast_c.specs.Numbers.{IsNew}
use Rattle.cast_c.proofs.world.cast_c_world_new.Goals as goal

-- src/world.rt:28:1
pub returns-in-Ok-new-2-clause-made : goal.returns-in-Ok-new-2-clause-made
returns-in-Ok-new-2-clause-made c = λ _.
    let config = c.in-Ok.checked in
    let stands = subst (λ (world : State). Stands config [] world) (sym c.in-Ok-new-2.ensures.ok) c.in-Ok-new.ensures in
    subst (λ held. IsSomeAnd held (IsNew c.args.config.now)) (sym c.of.ensures)
    (record { config = config; same = c.in-Ok.ensures.ok; stands = stands })
