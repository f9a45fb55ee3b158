use Rattle.std.proofs.Common.{◌≤◌, [], length, slice_index_or, sym, ap, ◌∙◌, arith}
use Rattle.std.specs.Ordering.{nat_cmp}
use Rattle.std.specs.FinSet as set
use Rattle.std.specs.FinSet.{len-empty}
use Rattle.std.proofs.lemmas.List.{get_or_past}
use Rattle.cast_node.specs.Kept.{knowers_of}
use Rattle.cast_node.proofs.node.Node.known_by.Goals as goal

pub returns-then-from-nodes : goal.returns-then-from-nodes
returns-then-from-nodes c =
    let rows = c.self.inside.deliveries.knowers in
    let past : length rows ≤ c.args.sender = omega (arith, c.if-from-nodes.true, c.from.ensures, c.sender.view_is, c.nodes.ensures, c.self.invariant.rows) in
    sym (sym (ap (λ k. set.len (knowers_of k c.args.sender c.args.number)) c.self.view_is)
    ∙ ap (λ row. set.len (slice_index_or row c.args.number (set.empty {R = nat_cmp}))) (get_or_past rows c.args.sender [] past)
    ∙ len-empty nat_cmp)
