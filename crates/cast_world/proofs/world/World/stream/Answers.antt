use Rattle.std.proofs.Common.{◌<◌, ◌∙◌, ap, subst}
use Rattle.cast_world.proofs.Showing.{stream_shown}
use Rattle.cast_world.proofs.world.World.stream.Goals as goal

pub returns : goal.returns
returns c config past st =
    let l = subst (λ n. c.args.node < n) st.size c.in_ok-node.ensures.0 in
    (l, c.stream.ensures ∙ ap (λ node. node.stream) c.in_ok-node.ensures.1 ∙ stream_shown config past c.args.self.now st c.args.node l)
