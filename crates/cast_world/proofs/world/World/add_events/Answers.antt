use Rattle.std.proofs.Common.{◌≡◌, List, ◌+◌, ◌++◌, length, sym, ap, ◌∙◌, subst, map-id}
use Rattle.std.specs.Prelude.{slice_index_or}
use Rattle.std.specs.Array.Iter.{array_into_iter_items, array_steps}
use Rattle.std.proofs.lemmas.Iterator.{YieldsList}
use Rattle.std.proofs.lemmas.Iterator.Adapters.{fact_from_extend}
use Rattle.std.proofs.lemmas.Iterator.Consumers.{YieldsList-from_shown}
use Rattle.cast_message.specs.declared.event.Event.{Event}
use Rattle.cast_model.specs.Rounds.{Due}
use Rattle.cast_world.specs.Group.{marks_at}
use Rattle.cast_world.specs.Plans.{events_of}
use Rattle.cast_world.specs.Rounds.{events_after}
use Rattle.cast_world.proofs.world.World.add_events.Goals as goal

pub returns : goal.returns
returns c =
    let world = c.args.self.now in
    let made = c.args.made.now in
    let due = c.args.due in
    let same : c.events.result ≡ events_after world made due =
    c.events.ensures
    ∙ (λ k. events_of due (c.frame_count.ensures.value k + slice_index_or made ((c.from.ensures ∙ (λ j. (c.due-inside.view_is j).from)) k) 0) (c.frame_count-2.ensures.value k + slice_index_or made ((c.from-2.ensures ∙ (λ j. (c.due-inside-2.view_is j).to)) k) 0))
    ∙ ap (λ (d : Due). events_of due (length (marks_at world d.from) + slice_index_or made d.from 0) (length (marks_at world d.to) + slice_index_or made d.to 0)) c.due.view_is in
    fact_from_extend (λ (event : Event). event) c.extend.result c.extend.ensures.ran
    (λ it is. subst (YieldsList array_steps (λ (event : Event). event) it) is.0 (YieldsList-from_shown array_steps (λ (event : Event). event) array_into_iter_items (λ s t h. h.0) (λ s x t h. h) it))
    (λ (xs : List Event) e h. h.0 ∙ ap (λ events. c.args.events.now.items ++ events) (sym (map-id xs) ∙ e ∙ same))
