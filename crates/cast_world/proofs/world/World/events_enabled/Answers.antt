use Rattle.std.proofs.Common.{◌∙◌, arith, sym}
use Rattle.std.specs.List.{filter, flat_map}
use Rattle.cast_model.specs.Rounds.{due}
use Rattle.cast_world.specs.Offers.{is_possible, makings, arrivals_new}
use Rattle.cast_world.proofs.Offering.{grown_to, listed, rest_or_full}
use Rattle.cast_world.proofs.world.World.events_enabled.Goals as goal

pub loop-from-preserved : goal.loop-from-preserved
loop-from-preserved c config past st =
    grown_to (arrivals_new past) (is_possible config past) c.loop-from.from (filter (is_possible config past) (flat_map makings (due config past))) c.loop-from.events.items c.offer_arrivals.new.events.items
    (c.loop-from.invariant config past st) (c.in_ok-offer_arrivals.ensures config past st)

pub returns-clause-exact : goal.returns-clause-exact
returns-clause-exact c config past st =
    let size = st.size in
    listed config past c.loop-from.from c.loop-from.events.items (omega (arith, c.loop-from.auto.from-end, c.loop-from-test.false, c.node_count-from-end.ensures.value, size)) (c.loop-from.invariant config past st)

pub returns-clause-rest : goal.returns-clause-rest
returns-clause-rest c config past st none = rest_or_full config past st.accepted (sym (returns-clause-exact c config past st) ∙ none)
