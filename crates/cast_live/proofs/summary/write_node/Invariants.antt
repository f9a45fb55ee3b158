-- The end of the node and the counts of the senders so far were written.
use Rattle.std.proofs.Common.{◌≡◌, ◌-◌, ◌++◌, false, codes}
use Rattle.std.specs.List.{range_with_len}
use Rattle.cast_model.specs.History.{History}
use Rattle.cast_world.specs.Group.{Stands}
use Rattle.cast_record.proofs.WrittenLemmas.{IsGoing}
use Rattle.cast_live.specs.Live.{counts_text, node_text}
use Rattle.cast_live.proofs.summary.write_node.Given as goal

abbrev pub invariant-loop-sender : goal.invariant-loop-sender
invariant-loop-sender g l = record {
  sound : l.writer.failed ≡ false;
  going : (past : History) → Stands l.config past l.world → IsGoing (g.W.Write.contents l.fn.writer.inner) (g.W.Write.contents l.writer.inner) l.writer.failed
      (node_text l.config past l.node l.fn.ended) (counts_text l.config past l.node (range_with_len l.sender (l.config.nodes - l.sender)) ++ codes "\n");
}
