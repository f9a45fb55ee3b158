use Rattle.std.proofs.Common.{map, ap, arith}
use Rattle.std.proofs.lemmas.List.{drop_all}
use Rattle.cast_draw.specs.declared.mark.Deed.TheVariants.{Decides}
use Rattle.cast_draw.proofs.DeedLemmas.{going_decision, going_done}
use Rattle.cast_draw.proofs.deeds.put_decisions.Goals as goal

pub loop-decision-preserved : goal.loop-decision-preserved
loop-decision-preserved c =
    record {
      going = going_decision c.args.decisions.now c.loop-decision.decision-index _ c.put_decision.new.marks c.loop-decision-test.true c.loop-decision.invariant.going c.in_ok-put_decision.ensures;
    }

pub returns : goal.returns
returns c = going_done (ap (map Decides) (drop_all c.loop-decision.decision-index c.args.decisions.now (omega (arith, c.loop-decision-test.false)))) c.loop-decision.invariant.going
