use Rattle.std.proofs.Common.{◌≤◌, ◌<◌, ◌+◌, ◌-◌, inl, inr, true≢false, None, length, sym, ap, ◌∙◌, refl, arith}
use Rattle.std.specs.Option.{option_copied}
use Rattle.std.specs.Map.{keys_of}
use Rattle.std.specs.VecDeque.{deque_len}
use Rattle.std.proofs.lemmas.Bool.Decides.{leb_tells}
use Rattle.std.proofs.lemmas.List.{get_or_default}
use Rattle.cast_fifo.specs.HeldBack.{HeldBack, waiting_at}
use Rattle.cast_fifo.proofs.Entries.{far_at, near_at, none_at, past}
use Rattle.cast_fifo.proofs.queue.Queue.at.Goals as goal

pub returns-then-place-ge-REACH : goal.returns-then-place-ge-REACH
returns-then-place-ge-REACH c =
    c.get.ensures.value ∙ sym (far_at c.self.inside.next c.self.inside.ring.items c.self.inside.far.entries c.args.number (omega (arith, c.self.invariant.0.short, c.if-place-ge-REACH.true, c.requires, ap (λ (h : HeldBack). h.next) c.self.view_is)))
    ∙ ap (λ (h : HeldBack). waiting_at h.waiting c.args.number) c.self.view_is

pub returns-in_err-get : goal.returns-in_err-get
returns-in_err-get c =
    let ring = c.self.inside.ring.items in
    let far = c.self.inside.far.entries in
    let next = c.self.inside.next in
    let from : next ≤ c.args.number = omega (arith, c.requires, ap (λ (h : HeldBack). h.next) c.self.view_is) in
    let gone : deque_len c.self.inside.ring ≤ c.args.number - next = elim (leb_tells (deque_len c.self.inside.ring) (c.args.number - next)) [ inl l ↦ l.1 | inr l ↦ absurd (true≢false (sym (c.in_err-get.ensures.variant.1 l.1))) ] in
    ap option_copied c.from_residual.ensures
    ∙ sym (none_at far c.args.number (past c.args.number (next + 4096) (keys_of far) (omega (arith, c.if-place-ge-REACH.false, from)) c.self.invariant.0.beyond))
    ∙ sym (far_at next ring far c.args.number (omega (arith, gone, from, c.self.inside.ring.ok)))
    ∙ ap (λ (h : HeldBack). waiting_at h.waiting c.args.number) c.self.view_is

pub returns : goal.returns
returns c =
    let ring = c.self.inside.ring.items in
    let far = c.self.inside.far.entries in
    let next = c.self.inside.next in
    let place = c.args.number - next in
    let from : next ≤ c.args.number = omega (arith, c.requires, ap (λ (h : HeldBack). h.next) c.self.view_is) in
    let inside : place < deque_len c.self.inside.ring = c.in_ok-get.ensures.variant.0 refl in
    let within : place < length ring = omega (arith, inside, c.self.inside.ring.ok) in
    c.as_ref.ensures.value ∙ c.in_ok-get.ensures.lookup ∙ get_or_default ring place c.in_ok-get.field-0.now None within
    ∙ sym (near_at next ring far c.args.number place (omega (arith, from)) (past c.args.number (next + 4096) (keys_of far) (omega (arith, c.if-place-ge-REACH.false, from)) c.self.invariant.0.beyond))
    ∙ ap (λ (h : HeldBack). waiting_at h.waiting c.args.number) c.self.view_is
