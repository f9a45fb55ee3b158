use Rattle.std.proofs.Common.{◌<◌, ◌∙◌, refl, sym, ap, subst, length, slice_get, swap_remove}
use Rattle.std.proofs.lemmas.Option.{slice_get_read}
use Rattle.cast_run.specs.Waits.{WaitsState, KeepsWaits}
use Rattle.cast_run.proofs.Waiting.{keeps_left}
use Rattle.cast_run.proofs.waits.Waits.end.Goals as goal

pub invariant_of-self : goal.invariant_of-self
invariant_of-self c =
    let i = c.self.inside in
    let within = subst (λ (s : WaitsState). c.args.place < length s.live) (sym c.self.view_is) c.requires in
    subst (λ l. KeepsWaits l i.steps i.oldest i.longest i.most) (sym c.swap_remove.ensures.items)
    (keeps_left i.live.items i.steps i.oldest i.longest i.most c.args.place c.swap_remove.result within c.self.invariant)

pub returns : goal.returns
returns c =
    let i = c.self.inside in
    let p = c.args.place in
    let gone = c.swap_remove.result in
    let w : WaitsState = record { live = i.live.items; steps = i.steps; longest = i.longest; most = i.most } in
    let within = subst (λ (s : WaitsState). p < length s.live) (sym c.self.view_is) c.requires in (
      gone,
      ap (λ (s : WaitsState). slice_get s.live p) (sym c.self.view_is) ∙ slice_get_read i.live.items (length i.live.items) p gone refl within c.swap_remove.ensures.value,
      ap (λ l. record w { live = l }) c.swap_remove.ensures.items ∙ ap (λ (s : WaitsState). record s { live = swap_remove s.live p gone }) c.self.view_is,
    )
