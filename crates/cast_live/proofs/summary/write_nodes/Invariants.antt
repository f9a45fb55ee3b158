-- The lines of the nodes so far were written.
use Rattle.std.proofs.Common.{◌≡◌, false, drop}
use Rattle.cast_model.specs.History.{History}
use Rattle.cast_world.specs.Group.{Stands}
use Rattle.cast_record.proofs.WrittenLemmas.{IsGoing}
use Rattle.cast_live.specs.Live.{nodes_text, ends_of}
use Rattle.cast_live.proofs.summary.write_nodes.Given as goal

abbrev pub invariant-loop-node : goal.invariant-loop-node
invariant-loop-node g l = record {
  sound : l.writer.failed ≡ false;
  going : (past : History) → Stands l.config past l.world → IsGoing (g.W.Write.contents l.fn.writer.inner) (g.W.Write.contents l.writer.inner) l.writer.failed
      (nodes_text l.config past 0 (ends_of l.reports)) (nodes_text l.config past l.node (ends_of (drop l.node l.reports)));
}
