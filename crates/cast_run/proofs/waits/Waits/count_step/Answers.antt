use Rattle.std.proofs.Common.{◌+◌, ◌∙◌, refl, sym, ap, subst, length, slice_get, slice_set}
use Rattle.std.proofs.lemmas.Option.{slice_get_read, slice_get_within}
use Rattle.cast_run.specs.Waits.{WaitsState, IsNext}
use Rattle.cast_run.proofs.Waiting.{next_read, keeps_next, none_waits}
use Rattle.cast_run.proofs.waits.Waits.count_step.Goals as goal

pub invariant_of-self : goal.invariant_of-self
invariant_of-self c =
    let i = c.self.inside in
    let w : WaitsState = record { live = i.live.items; steps = i.steps; longest = i.longest; most = i.most } in
    let p = c.args.place in
    let a = c.index_mut.result.now in
    let next : IsNext w p c.requires.next.0 = subst (λ s. IsNext s p c.requires.next.0) (sym c.self.view_is) c.requires.next.1 in
    let read = slice_get_read i.live.items (length i.live.items) p a refl (slice_get_within i.live.items p c.requires.next.0 next.0) c.index_mut.ensures.value in
    keeps_next w i.oldest c.self.invariant p a (next_read w p c.requires.next.0 a next read)

pub returns-clause-next : goal.returns-clause-next
returns-clause-next c =
    let i = c.self.inside in
    let p = c.args.place in
    let a = c.index_mut.result.now in
    let old = c.args.self.now in
    let first = c.requires.next in
    let live = ap (λ (s : WaitsState). s.live) c.self.view_is in
    let within = slice_get_within i.live.items p first.0 (ap (λ l. slice_get l p) live ∙ first.1.0) in
    let read = ap (λ l. slice_get l p) (sym live) ∙ slice_get_read i.live.items (length i.live.items) p a refl within c.index_mut.ensures.value in (
      a,
      next_read old p first.0 a first.1 read,
      ap (λ (s : WaitsState). record s { steps = s.steps + 1; live = slice_set s.live p (record { place = a.place; last = s.steps + 1 }) }) c.self.view_is,
    )

pub returns-clause-fair : goal.returns-clause-fair
returns-clause-fair c =
    let i = c.self.inside in
    let w : WaitsState = record { live = i.live.items; steps = i.steps; longest = i.longest; most = i.most } in
    let p = c.args.place in
    let a = c.index_mut.result.now in
    let next : IsNext w p c.requires.next.0 = subst (λ s. IsNext s p c.requires.next.0) (sym c.self.view_is) c.requires.next.1 in
    let read = slice_get_read i.live.items (length i.live.items) p a refl (slice_get_within i.live.items p c.requires.next.0 next.0) c.index_mut.ensures.value in
    let now : WaitsState = record { live = slice_set i.live.items p (record { place = a.place; last = i.steps + 1 }); steps = i.steps + 1; longest = i.longest; most = i.most } in
    none_waits now (keeps_next w i.oldest c.self.invariant p a (next_read w p c.requires.next.0 a next read)).3
