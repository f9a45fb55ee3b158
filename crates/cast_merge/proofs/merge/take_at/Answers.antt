use Rattle.std.proofs.Common.{◌∙◌, ◌∷◌, ap, sym, map}
use Rattle.std.specs.Prelude.{slice_set}
use Rattle.cast_message.specs.declared.event.Event.{Event}
use Rattle.cast_merge.specs.ByStamp.{event_at}
use Rattle.cast_merge.specs.Fronts.{events_left}
use Rattle.cast_merge.proofs.Fronts.{goes_on, ends_there}
use Rattle.cast_merge.proofs.merge.take_at.Goals as goal

pub returns-in_default-clause-taken : goal.returns-in_default-clause-taken
returns-in_default-clause-taken c =
    let front = c.index.result.now in
    ap (map event_at) (ends_there c.args.fronts.now.items c.args.place front c.requires.first c.index.ensures c.in_default.ensures)
    ∙ (λ i. sym c.in_ok-event.ensures i ∷ events_left (sym c.remove.ensures.items i))

pub returns-clause-taken : goal.returns-clause-taken
returns-clause-taken c =
    ap (map event_at) (goes_on c.args.fronts.now.items c.args.place c.index.result.now c.in-Some.next c.requires.first c.index.ensures c.in-Some.ensures)
    ∙ ap (λ (event : Event). event ∷ events_left (slice_set c.args.fronts.now.items c.args.place c.in-Some.next)) (sym c.in_ok-event.ensures)
