-- The deliveries so far were put, each with the decision that it caused.
use Rattle.std.proofs.Common.{◌≤◌, drop, length}
use Rattle.cast_draw.specs.Deeds.{deeds}
use Rattle.cast_draw.proofs.DeedLemmas.{IsGoing}
use Rattle.cast_draw.proofs.deeds.put_deeds.Given as goal

abbrev pub invariant-loop-message : goal.invariant-loop-message
invariant-loop-message l =
    record {
      within : l.decided ≤ length l.decisions;
      going : IsGoing l.at l.fn.marks l.marks (deeds l.deliveries l.decisions) (deeds (drop l.message-index l.deliveries) (drop l.decided l.decisions));
    }
