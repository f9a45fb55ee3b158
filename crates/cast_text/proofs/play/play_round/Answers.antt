use Rattle.std.proofs.Common.{[], Ok, Err, refl}
use Rattle.std.proofs.lemmas.Result.{err_from_is_err_and}
use Rattle.cast_text.proofs.Playing.{round_none, round_skips, round_more, round_refused, round_breaks, round_done, slot_events, plays_these}
use Rattle.cast_text.proofs.play.play_round.Goals as goal

pub returns-in_err-due-clause-plays : goal.returns-in_err-due-clause-plays
returns-in_err-due-clause-plays g c config past st =
    let p = err_from_is_err_and c.from_residual.result c.from_residual.ensures.1 in
    rw (p.1, p.2) (g.met.O.Observer.laws.wants c.args.observer.now _ c.requires)

pub slots-init : goal.slots-init
slots-init g c = record {
  ready = c.requires;
  round = λ config past st. round_none g.met.O.Observer.laws config c.args.index past c.args.world.now _ c.args.observer.now st (g.met.O.Observer.laws.none c.args.observer.now c.requires) (c.in_ok-due.ensures.found config past st);
}

pub returns-in_err-play_slot-clause-plays : goal.returns-in_err-play_slot-clause-plays
returns-in_err-play_slot-clause-plays g c config past st =
    let p = err_from_is_err_and c.from_residual-in_err-play_slot.result c.from_residual-in_err-play_slot.ensures.1 in
    let left = round_skips g.met.O.Observer.laws config c.args.index past c.args.observer.now c.slots.observer c.slots.invariant.ready _ _ c.slots.world _ (c.slots.invariant.round config past st) c.in-Some.ensures.some in
    let t = left.round.trying in
    let events = slot_events config c.args.index past t.now _ _ c.in-Some.slot c.next_slot.new.world t.stands left.round.going in
    let broke = plays_these g.met.O.Observer.laws config c.args.index t.now _ _ c.play_slot.new.world c.slots.observer c.play_slot.new.observer (Err c.in_err-play_slot.field-0.0) events (c.in_err-play_slot.ensures.plays config t.now t.stands) in
    rw (p.1, p.2) (round_breaks g.met.O.Observer.laws config c.args.index past _ _ c.in-Some.slot c.next_slot.new.world c.play_slot.new.world _ _ _ left.round _ broke)

pub returns-then-not-branch-clause-plays : goal.returns-then-not-branch-clause-plays
returns-then-not-branch-clause-plays g c config past st =
    let left = round_skips g.met.O.Observer.laws config c.args.index past c.args.observer.now c.slots.observer c.slots.invariant.ready _ _ c.slots.world _ (c.slots.invariant.round config past st) c.in-Some.ensures.some in
    let t = left.round.trying in
    let events = slot_events config c.args.index past t.now _ _ c.in-Some.slot c.next_slot.new.world t.stands left.round.going in
    let plays = plays_these g.met.O.Observer.laws config c.args.index t.now _ _ c.play_slot.new.world c.slots.observer c.play_slot.new.observer (Ok c.in_ok-play_slot.field-0) events (c.in_ok-play_slot.ensures.plays config t.now t.stands) in
    round_refused g.met.O.Observer.laws config c.args.index past _ _ c.in-Some.slot c.next_slot.new.world c.play_slot.new.world _ _ _ left.round c.in_ok-play_slot.field-0 c.if-not-branch.true plays

pub slots-preserved : goal.slots-preserved
slots-preserved g c = record {
  ready = c.in_ok-play_slot.ensures.ready;
  round = λ config past st.
      let left = round_skips g.met.O.Observer.laws config c.args.index past c.args.observer.now c.slots.observer c.slots.invariant.ready _ _ c.slots.world _ (c.slots.invariant.round config past st) c.in-Some.ensures.some in
      let t = left.round.trying in
      let events = slot_events config c.args.index past t.now _ _ c.in-Some.slot c.next_slot.new.world t.stands left.round.going in
      let plays = plays_these g.met.O.Observer.laws config c.args.index t.now _ _ c.play_slot.new.world c.slots.observer c.play_slot.new.observer (Ok c.in_ok-play_slot.field-0) events (c.in_ok-play_slot.ensures.plays config t.now t.stands) in
      round_more g.met.O.Observer.laws config c.args.index past _ _ c.in-Some.slot c.next_slot.new.world c.play_slot.new.world _ _ _ left.round c.in_ok-play_slot.field-0 c.if-not-branch.false plays;
}

pub returns-clause-plays : goal.returns-clause-plays
returns-clause-plays g c config past st =
    round_done g.met.O.Observer.laws config c.args.index past [] c.next_slot.new.world c.args.observer.now c.slots.observer refl (round_skips g.met.O.Observer.laws config c.args.index past c.args.observer.now c.slots.observer c.slots.invariant.ready _ _ c.slots.world _ (c.slots.invariant.round config past st) c.in_default.ensures.none)
