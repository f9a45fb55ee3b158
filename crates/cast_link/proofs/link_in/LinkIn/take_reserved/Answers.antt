use Rattle.std.proofs.Common.{◌≡◌, nat_eq, ◌||◌, not, sym, ap, ◌∙◌, arith}
use Rattle.std.specs.FinSet as set
use Rattle.std.proofs.lemmas.Bool.Decides.{nat_tests}
use Rattle.cast_message.specs.Members.{insert-member}
use Rattle.cast_message.specs.Bits.{is_set}
use Rattle.cast_link.specs.Taken.{Inward}
use Rattle.cast_link.proofs.Slots.{taken_in, near_taken, not_below, base_free}
use Rattle.cast_link.proofs.link_in.LinkIn.take_reserved.Goals as goal

pub returns-then-may_ack-clause-after : goal.returns-then-may_ack-clause-after
returns-then-may_ack-clause-after c = insert-member c.args.self.now.slots c.args.slot (sym c.may_ack.ensures ∙ c.if-may_ack.true)

pub returns-then-slot-self-clause-after : goal.returns-then-slot-self-clause-after
returns-then-slot-self-clause-after c =
    let base = c.self.inside.base in
    let words = c.self.inside.words.items in
    let far = c.self.inside.far.keys in
    let slots = ap (λ (i : Inward). i.slots) c.self.view_is in
    let from = not_below base words far c.args.self.now.slots c.args.slot slots c.ranges.slot.fits (sym c.may_ack.ensures ∙ c.if-may_ack.false) in
    near_taken base words c.set_bit.new.words.items far c.args.self.now.slots c.args.slot slots from c.ranges.slot.fits
    (λ other. c.set_bit.ensures.bits other ∙ ap (λ b. nat_eq other b || is_set words other) c.bit_of.ensures)

pub returns-then-slot-self-2-clause-first : goal.returns-then-slot-self-2-clause-first
returns-then-slot-self-2-clause-first c =
    let slots = taken_in _ _ _ c.args.self.now.slots (ap (λ (i : Inward). i.slots) c.self.view_is) c.args.slot c.ranges.slot.fits in
    grind (arith, nat_tests, slots, c.if-slot-self-2.true)

pub returns-then-slot-self-2-clause-after : goal.returns-then-slot-self-2-clause-after
returns-then-slot-self-2-clause-after c =
    let slots = taken_in _ _ _ c.args.self.now.slots (ap (λ (i : Inward). i.slots) c.self.view_is) c.args.slot c.ranges.slot.fits in
    insert-member c.args.self.now.slots c.args.slot (grind (arith, nat_tests, slots, c.if-slot-self-2.true))

pub returns-clause-first : goal.returns-clause-first
returns-clause-first c =
    let base = base_free _ _ _ c.args.self.now.slots c.self.invariant (ap (λ (i : Inward). i.slots) c.self.view_is) (omega (arith, c.ranges.slot.fits)) in
    ap not (sym base ∙ ap (set.contains c.args.self.now.slots) (omega arith))
