use Rattle.std.proofs.Common.{◌<◌, ◌+◌, ◌-◌, None, length, sym, ap, ◌∙◌, arith}
use Rattle.std.specs.Map.{keys_of}
use Rattle.std.specs.Prelude.{slice_set}
use Rattle.std.proofs.lemmas.List.{get_or_default}
use Rattle.cast_fifo.specs.HeldBack.{marked}
use Rattle.cast_fifo.specs.Windows.{entries_of}
use Rattle.cast_fifo.proofs.Entries.{past, none_at, with_known, marked_near, marked_far, window_marked}
use Rattle.cast_fifo.proofs.queue.mark_at.Goals as goal

pub returns-then-place-ge-REACH-clause-window : goal.returns-then-place-ge-REACH-clause-window
returns-then-place-ge-REACH-clause-window c = window_marked _ _ c.args.far.now.entries _ _ c.args.number c.requires.window c.mark_far.ensures

pub returns-then-place-ge-REACH-clause-entries : goal.returns-then-place-ge-REACH-clause-entries
returns-then-place-ge-REACH-clause-entries c =
    ap (entries_of c.args.next c.args.ring.now.items) c.mark_far.ensures
    ∙ marked_far c.args.next c.args.ring.now.items c.args.far.now.entries c.args.number (omega (arith, c.if-place-ge-REACH.true, c.requires.window.short))

pub returns-then-place-len-clause-entries : goal.returns-then-place-len-clause-entries
returns-then-place-len-clause-entries c =
    let next = c.args.next in
    let ring = c.args.ring.now.items in
    let place = c.args.number - next in
    let inside : place < length ring = omega (arith, c.if-place-len.true, c.len.ensures, c.args.ring.now.ok) in
    ap (λ p. entries_of next (slice_set ring place p) c.args.far.now.entries) (c.mark_place.ensures ∙ ap with_known (c.index_mut.ensures.value ∙ get_or_default ring place _ None inside))
    ∙ marked_near next ring c.args.far.now.entries c.args.number place (omega (arith, c.requires.from)) (past c.args.number (next + 4096) (keys_of c.args.far.now.entries) (omega (arith, c.if-place-ge-REACH.false)) c.requires.window.beyond)

pub returns-else-place-len-clause-entries : goal.returns-else-place-len-clause-entries
returns-else-place-len-clause-entries c =
    let next = c.args.next in
    let ring = c.args.ring.now.items in
    let far = c.args.far.now.entries in
    let none = none_at far c.args.number (past c.args.number (next + 4096) (keys_of far) (omega (arith, c.if-place-ge-REACH.false)) c.requires.window.beyond) in
    sym (ap (λ o. entries_of next ring (marked far c.args.number o)) none)
    ∙ marked_far next ring far c.args.number (omega (arith, c.if-place-len.false, c.len.ensures, c.args.ring.now.ok, c.requires.from))
