use Rattle.std.proofs.Common.{◌∙◌, ap, subst, sym, Some, None}
use Rattle.std.specs.Prelude.{if◌then◌else◌}
use Rattle.std.specs.FinMap as finite
use Rattle.cast_model.specs.Shown.{ShowsOwed}
use Rattle.cast_node.specs.Kept.{link_to}
use Rattle.cast_node.specs.Calls.{is_peer}
use Rattle.cast_world.proofs.Showing.{shown_owed}
use Rattle.cast_world.proofs.world.World.owed.Goals as goal

pub returns : goal.returns
returns c config past st =
    subst (ShowsOwed config past c.args.from c.args.to) (sym (c.owed.ensures ∙ ap (λ node. if is_peer node c.args.to then Some (finite.len (link_to node c.args.to).owed) else None) c.in_ok-node.ensures.1))
    (shown_owed config past c.args.self.now st c.args.from c.args.to c.in_ok-node.ensures.0)
