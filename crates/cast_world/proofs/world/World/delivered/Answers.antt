use Rattle.std.proofs.Common.{◌∙◌, sym, subst, ap}
use Rattle.std.specs.Prelude.{slice_get}
use Rattle.cast_model.specs.Shown.{ShowsDelivered}
use Rattle.cast_world.proofs.Showing.{shown_delivered}
use Rattle.cast_world.proofs.world.World.delivered.Goals as goal

pub returns : goal.returns
returns c config past st =
    subst (ShowsDelivered config past c.args.node c.args.sender) (sym (c.delivered.ensures ∙ ap (λ node. slice_get node.deliveries.delivered c.args.sender) c.in_ok-node.ensures.1))
    (shown_delivered config past c.args.self.now st c.args.node c.args.sender c.in_ok-node.ensures.0)
