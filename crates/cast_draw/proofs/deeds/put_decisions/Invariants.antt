-- The decisions so far were put.
use Rattle.std.proofs.Common.{drop, map}
use Rattle.cast_draw.specs.declared.mark.Deed.TheVariants.{Decides}
use Rattle.cast_draw.proofs.DeedLemmas.{IsGoing}
use Rattle.cast_draw.proofs.deeds.put_decisions.Given as goal

abbrev pub invariant-loop-decision : goal.invariant-loop-decision
invariant-loop-decision l =
    record {
      going : IsGoing l.at l.fn.marks l.marks (map Decides l.decisions) (map Decides (drop l.decision-index l.decisions));
    }
