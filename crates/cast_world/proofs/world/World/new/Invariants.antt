-- So many nodes that have done nothing, and so many empty rows of frames.
use Rattle.std.proofs.Common.{◌≡◌, [], map, replicate}
use Rattle.std.specs.List.{range_with_len}
use Rattle.cast_node.specs.Kept.{nothing_kept}
use Rattle.cast_world.proofs.world.World.new.Given as goal

abbrev pub invariant-loop-id : goal.invariant-loop-id
invariant-loop-id l = record {
  nodes : l.nodes.items ≡ map (nothing_kept l.fn.config) (range_with_len 0 l.id);
  rows : map (λ row. row.items) l.marks.items ≡ replicate l.id [];
}
