use Rattle.std.proofs.Common.{◌∙◌, ap, subst, ◌<◌}
use Rattle.cast_agree.specs.Counted.{decision}
use Rattle.cast_world.proofs.Showing.{decision_shown, decision_nowhere}
use Rattle.cast_world.proofs.world.World.decision.Goals as goal

pub returns-in_err-node : goal.returns-in_err-node
returns-in_err-node c config past st = c.from_residual.ensures ∙ decision_nowhere config past c.args.self.now st c.args.node c.args.instance c.in_err-node.ensures

pub returns : goal.returns
returns c config past st =
    c.decision.ensures ∙ ap (λ node. decision node.deliveries.agree c.args.instance) c.in_ok-node.ensures.1
    ∙ decision_shown config past c.args.self.now st c.args.node c.args.instance (subst (λ n. c.args.node < n) st.size c.in_ok-node.ensures.0)
