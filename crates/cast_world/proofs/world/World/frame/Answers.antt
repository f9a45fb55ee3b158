use Rattle.std.proofs.Common.{◌∙◌, ap}
use Rattle.cast_world.specs.Group.{frame_by}
use Rattle.cast_world.proofs.Faults.{made_again, never_told}
use Rattle.cast_world.proofs.world.World.frame.Goals as goal

pub returns-in_err-mark-clause-none : goal.returns-in_err-mark-clause-none
returns-in_err-mark-clause-none c config past st =
    never_told config past c.args.self.now st c.from_residual.result c.args.from c.args.seq c.in_err-mark.ensures.found.0

pub returns-clause-found : goal.returns-clause-found
returns-clause-found c config past st =
    made_again config past c.args.self.now st c.args.from c.args.seq c.in_ok-mark.mark c.in_ok-mark.ensures.found c.in_ok-rebuild.field-0 (c.in_ok-rebuild.ensures c.self.inside.config ∙ ap (λ w. frame_by w c.args.from c.args.seq c.in_ok-mark.mark) c.self.view_is)
