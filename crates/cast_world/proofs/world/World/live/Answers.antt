use Rattle.std.proofs.Common.{◌∙◌, ap}
use Rattle.cast_world.proofs.Showing.{shown_live}
use Rattle.cast_world.proofs.world.World.live.Goals as goal

pub returns-in-Some : goal.returns-in-Some
returns-in-Some c config past st = c.live.ensures ∙ ap (λ node. node.live) c.in-Some.ensures.1 ∙ shown_live config past c.args.self.now st c.args.node c.in-Some.ensures.0
