use Rattle.std.proofs.Common.{◌≡◌, ◌∙◌, ap, length}
use Rattle.cast_world.specs.Group.{marks_at}
use Rattle.cast_world.specs.Plans.{events_of, events_from}
use Rattle.cast_text.proofs.Playing.{plays_these}
use Rattle.cast_text.proofs.play.play_slot.Goals as goal

pub returns-clause-plays : goal.returns-clause-plays
returns-clause-plays g c config past st =
    let same : c.events-events.result ≡ events_from c.args.world.now c.args.slot.now =
    c.events-events.ensures ∙ (λ k. events_of c.args.slot.now (c.frame_count-carry.ensures.value k) (c.frame_count-took.ensures.value k)) ∙ ap (λ slot. events_of c.args.slot.now (length (marks_at c.args.world.now slot.from)) (length (marks_at c.args.world.now slot.to))) c.slot.view_is in
    plays_these g.met.O.Observer.laws config c.args.index past _ _ c.play_events.new.world c.args.observer.now c.play_events.new.observer c.play_events.result same (c.play_events.ensures.plays config past st)
