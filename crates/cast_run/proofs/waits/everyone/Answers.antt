use Rattle.std.proofs.Common.{◌+◌, ◌++◌, ◌∷◌, [], ◌∙◌, ap, sym, subst}
use Rattle.cast_run.specs.Waits.{AreNewActors}
use Rattle.cast_run.proofs.Fair.{no_actors, nodes_more, new_job}
use Rattle.cast_run.proofs.waits.everyone.Goals as goal

pub loop-node-init : goal.loop-node-init
loop-node-init c = no_actors _ c.new-all.ensures.items

pub loop-node-preserved : goal.loop-node-preserved
loop-node-preserved c =
    let l = c.loop-node in
    nodes_more l.node l.all.items _ _ _ _ c.in_ok-push.ensures.items c.new_actor.ensures c.in_ok-push-2.ensures.items c.new_actor-in-loop-node.ensures l.invariant

pub loop-place-preserved : goal.loop-place-preserved
loop-place-preserved c =
    let l = c.loop-place in
    subst (AreNewActors c.args.nodes (l.place + 1)) (sym (c.in_ok-push-3.ensures.items ∙ ap (λ z. l.all.items ++ z ∷ []) c.new_actor-in-loop-place.ensures)) (new_job c.args.nodes l.place l.all.items l.invariant)
