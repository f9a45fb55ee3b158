use Rattle.std.proofs.Common.{◌*◌, [], ap, refl}
use Rattle.std.proofs.lemmas.Result.{err_from_is_err_and}
use Rattle.cast_model.specs.Rounds.{Rest, after_round}
use Rattle.cast_model.proofs.Round.{with_all}
use Rattle.cast_model.proofs.TwoRounds.{rests, two_rounds_rest}
use Rattle.cast_world.specs.Rounds.{Spreads}
use Rattle.cast_world.proofs.Rounding.{left_first, left_settled, slot_settled, slot_stops, round_ends, round_spreads, where_taken}
use Rattle.cast_world.proofs.world.World.round.Goals as goal

pub slots-init : goal.slots-init
slots-init c config past st = left_first config past _ c.args.self.now (c.in-Ok.ensures.found config past st) st

pub returns-in_err-settle-clause-takes : goal.returns-in_err-settle-clause-takes
returns-in_err-settle-clause-takes c config past st =
    let p = err_from_is_err_and c.from_residual.result c.from_residual.ensures.1 in
    let left = left_settled config past _ _ c.slots.self _ (c.slots.invariant config past st) c.in-Some.ensures.some in
    rw (p.1, p.2) (slot_stops config past _ c.in-Some.slot c.next_slot.new.self left c.settle.new.self c.in_err-settle.field-0.0 (c.in_err-settle.ensures config (with_all past left.front) left.stands))

pub slots-preserved : goal.slots-preserved
slots-preserved c config past st =
    let left = left_settled config past _ _ c.slots.self _ (c.slots.invariant config past st) c.in-Some.ensures.some in
    slot_settled config past _ c.in-Some.slot c.next_slot.new.self left c.settle.new.self (c.in_ok-settle.ensures config (with_all past left.front) left.stands)

pub returns-clause-takes : goal.returns-clause-takes
returns-clause-takes c config past st =
    round_ends config past _ [] c.next_slot.new.self _ (c.in-Ok.ensures.found config past st) (ap (λ n. 2 * n) c.len-frames.ensures.len) refl (left_settled config past _ _ c.slots.self _ (c.slots.invariant config past st) c.in_default-next_slot.ensures.none)

pub returns-clause-spreads : goal.returns-clause-spreads
returns-clause-spreads c config past st = round_spreads config past st.accepted (returns-clause-takes c config past st).accepted

pub returns-clause-rests : goal.returns-clause-rests
returns-clause-rests c config past st same = rests config past st.accepted (returns-clause-takes c config past st).accepted same

pub returns-clause-second : goal.returns-clause-second
returns-clause-second c config past accepted first st = two_rounds_rest config past accepted first (returns-clause-takes c config (after_round config past) st).accepted

pub returns-in_default-clause-spreads : goal.returns-in_default-clause-spreads
returns-in_default-clause-spreads c config past st =
    where_taken config past (Spreads config past) c.unlisted.result c.args.self.now (c.unlisted.ensures config past st) (round_spreads config past st.accepted)

pub returns-in_default-clause-rests : goal.returns-in_default-clause-rests
returns-in_default-clause-rests c config past st same =
    where_taken config past (Rest config (after_round config past)) c.unlisted.result c.args.self.now (c.unlisted.ensures config past st) (λ all. rests config past st.accepted all same)

pub returns-in_default-clause-second : goal.returns-in_default-clause-second
returns-in_default-clause-second c config past accepted first st =
    where_taken config (after_round config past) (Rest config (after_round config (after_round config past))) c.unlisted.result c.args.self.now (c.unlisted.ensures config (after_round config past) st) (two_rounds_rest config past accepted first)
