use Rattle.std.proofs.Common.{◌≡◌, ◌∙◌, ◌+◌, ◌<◌, ap, sym, subst, arith, slice_get, get_or, length, None, rules}
use Rattle.std.proofs.lemmas.Option.{get_or_from_slice_get}
use Rattle.cast_log.specs.Logged.{shown_entry, shown_kind}
use Rattle.cast_desk.specs.Feed.{told_by, orders_in}
use Rattle.cast_desk.proofs.Feeds.{silent_tells_none}
use Rattle.cast_engine.specs.declared.feeding.Place.{Place}
use Rattle.cast_engine.specs.Feeding.{IsPlaced, told_to}
use Rattle.cast_engine.proofs.Fed.{passed, passed_silently, all_fed}
use Rattle.cast_engine.proofs.feeding.next_notice.Goals.{in-Whole+in_ok-notice+in_default-2, in_default-kind}
use Rattle.cast_engine.proofs.feeding.next_notice.Goals as goal

pub loop-place-smaller : goal.loop-place-smaller
loop-place-smaller c = elim c.match-entry.branch [
  | in-Whole+in_ok-notice+in_default-2 w ↦ omega (arith, c.loop-place-test.true, ap (λ (p : Place). p.entry) w.place-is)
  | in_default-kind w ↦ omega (arith, c.loop-place-test.true, ap (λ (p : Place). p.entry) w.place-is)
]

pub loop-place-preserved : goal.loop-place-preserved
loop-place-preserved c =
    let now = c.loop-place.place in
    let log = c.args.log.now.entries in
    let e = shown_entry c.entry.result in
    let is : e ≡ get_or log now.entry e = sym (get_or_from_slice_get log now.entry e e c.entry.ensures) in
    let keep = c.loop-place.invariant in
    let within : now.entry < length log = omega (arith, c.loop-place-test.true) in
    let cap : length log < 18446744073709551616 = search rules in
    let after : Place → Place = λ p. record { entry = p.entry + 1; orders = p.orders; told = 0; waiting = p.waiting } in
    let P : Place → Type 0 = λ p. IsPlaced c.args.client log (after p) × (told_to c.args.client log (after p) ≡ told_to c.args.client log c.args.place.now) × (p.waiting ≡ None) in
    elim c.match-entry.branch [
      | in-Whole+in_ok-notice+in_default-2 w ↦
          let kind = ap shown_kind w.in-Whole.is in
          let past = passed c.args.client log now keep.0 within e is
          (ap (λ k. slice_get (told_by c.args.client now.orders k) now.told) kind ∙ sym w.in_ok-notice.ensures.ok ∙ w.in_default-2.is) w.orders_in.result
          (w.orders_in.ensures ∙ ap orders_in (sym kind)) cap now.waiting keep.2 in
          subst P (sym w.place-is) (past.0, past.1 ∙ keep.1, keep.2)
      | in_default-kind w ↦
          let none = silent_tells_none c.entry.result.kind w.in_default-kind.not-Whole c.args.client now.orders in
          let past = passed_silently c.args.client log now keep.0 within e is none.0 none.1 cap now.waiting keep.2 in
          subst P (sym w.place-is) (past.0, past.1 ∙ keep.1, keep.2)
    ]

pub returns-clause-none : goal.returns-clause-none
returns-clause-none c = all_fed c.args.client c.args.log.now.entries c.loop-place.place c.loop-place.invariant.0 (omega (arith, c.loop-place-test.false))
