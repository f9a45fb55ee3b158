use Rattle.std.proofs.Common.{◌≤◌, ◌-◌, List, Option, Some, false, sym, ap, ◌∙◌, subst, refl, arith}
use Rattle.std.specs.Prelude.{slice_set}
use Rattle.std.specs.VecDeque.{deque_capacity}
use Rattle.std.proofs.lemmas.Bool.Decides.{nat_tests}
use Rattle.cast_fifo.specs.declared.waiting.Waiting.{Waiting}
use Rattle.cast_fifo.specs.HeldBack.{HeldBack}
use Rattle.cast_fifo.specs.Windows.{StartsUnmarked, IsWindow}
use Rattle.cast_fifo.proofs.Entries.{seen, kept_near, seen_near, kept_far, seen_far}
use Rattle.cast_fifo.proofs.queue.Queue.keep.Goals as goal
use Rattle.cast_fifo.proofs.queue.Queue.keep.Goals.{After-make_places}

pub invariant_of-self-then-place-ge-REACH : goal.invariant_of-self-then-place-ge-REACH
invariant_of-self-then-place-ge-REACH c =
    let kept = kept_far _ c.self.inside.ring.items c.self.inside.far.entries _ _ (deque_capacity c.reserve.new.self) c.args.number (record { item = c.args.item; known = false }) c.self.invariant.0 (omega (arith, c.if-place-ge-REACH.true)) c.requires.number (omega (arith, c.in_ok-reserve.ensures.ok, c.reserve.ensures.len, c.len.ensures, c.self.invariant.0.short)) c.in_ok-insert.ensures.entries in
    subst (λ (ring : List (Option Waiting)). IsWindow c.self.inside.next ring c.insert.new.self.entries (deque_capacity c.reserve.new.self) × StartsUnmarked ring) (sym c.reserve.ensures.items) (kept, c.self.invariant.1)

pub returns-then-place-ge-REACH-clause-ok : goal.returns-then-place-ge-REACH-clause-ok
returns-then-place-ge-REACH-clause-ok c =
    ap (λ (ring : List (Option Waiting)). seen c.self.inside.next c.self.inside.closed ring c.insert.new.self.entries) c.reserve.ensures.items
    ∙ seen_far _ _ _ c.self.inside.far.entries _ c.args.self.now _ c.args.number (record { item = c.args.item; known = false }) c.self.invariant.0 c.self.view_is (omega (arith, c.if-place-ge-REACH.true)) c.in_ok-insert.ensures.entries

-- the number is not one that was passed
is_new : (c : After-make_places) → c.self.inside.next ≤ c.args.number
is_new c = let at = ap (λ (h : HeldBack). h.next) c.self.view_is in grind (arith, nat_tests, c.requires.new, at)

pub invariant_of-self-2 : goal.invariant_of-self-2
invariant_of-self-2 c =
    let place = c.args.number - c.self.inside.next in
    let waiting : Waiting = record { item = c.args.item; known = false } in
    let from = is_new (goal.at.invariant_of-self-2 c).After-make_places in
    subst (λ (room : List (Option Waiting)). IsWindow c.self.inside.next (slice_set room place (Some waiting)) c.self.inside.far.entries (deque_capacity c.make_places.new.ring) × StartsUnmarked (slice_set room place (Some waiting))) (sym c.in_ok-make_places.ensures.ok)
    (kept_near _ c.self.inside.ring.items _ _ (deque_capacity c.make_places.new.ring) c.args.number place _ c.args.item c.self.invariant.0 c.self.invariant.1 c.make_places.ensures.room (omega (arith, from)) (omega (arith, c.if-place-ge-REACH.false)) refl c.requires.number)

pub returns-clause-ok : goal.returns-clause-ok
returns-clause-ok c =
    let place = c.args.number - c.self.inside.next in
    let waiting : Waiting = record { item = c.args.item; known = false } in
    let from = is_new (goal.at.returns-clause-ok c).After-make_places in
    ap (λ (room : List (Option Waiting)). seen c.self.inside.next c.self.inside.closed (slice_set room place (Some waiting)) c.self.inside.far.entries) c.in_ok-make_places.ensures.ok
    ∙ seen_near _ _ c.self.inside.ring.items _ c.args.self.now _ c.args.number place _ waiting c.self.invariant.0 c.self.view_is (omega (arith, from)) (omega (arith, c.if-place-ge-REACH.false)) refl
