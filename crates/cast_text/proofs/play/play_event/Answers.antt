use Rattle.std.proofs.Common.{◌∙◌, sym, subst}
use Rattle.cast_world.specs.Group.{Stands}
use Rattle.cast_text.proofs.Playing.{event_shown, event_overlooked}
use Rattle.cast_text.proofs.play.play_event.Goals as goal
use Rattle.cast_text.proofs.play.play_event.Goals.{then-overlooks_silence+else-step_if_silent, else-overlooks_silence}

pub returns-then-step_if_silent-clause-plays : goal.returns-then-step_if_silent-clause-plays
returns-then-step_if_silent-clause-plays g c config past st =
    event_overlooked g.met.O.Observer.laws config c.args.index past c.args.event.now c.step_if_silent.new.self c.args.observer.now (c.step_if_silent.ensures.took c.if-step_if_silent.true config past st)
    (λ answer silent. c.overlooks_silence.ensures c.if-overlooks_silence.true c.args.index c.args.event.now answer c.requires silent)

pub returns-clause-plays : goal.returns-clause-plays
returns-clause-plays g c config past st =
    let here : Stands config past c.if-overlooks_silence.world = elim c.if-overlooks_silence.branch [
      | then-overlooks_silence+else-step_if_silent w ↦ subst (Stands config past) (sym (w.world-is ∙ w.step_if_silent.ensures.not w.if-step_if_silent.false)) st
      | else-overlooks_silence w ↦ subst (Stands config past) (sym w.world-is) st
    ] in
    event_shown g.met.O.Observer.laws config c.args.index past c.args.event.now c.step.result c.step.new.self c.show_reply.result c.args.observer.now c.show_reply.new.observer (c.step.ensures.stands config past here) c.show_reply.ensures.shows
