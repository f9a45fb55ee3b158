use Rattle.std.proofs.Common.{◌∙◌, ap, arith}
use Rattle.std.proofs.lemmas.Bool.Decides.{nat_tests}
use Rattle.cast_message.specs.Bits.{is_set}
use Rattle.cast_link.specs.Taken.{Inward}
use Rattle.cast_link.proofs.Slots.{taken_in}
use Rattle.cast_link.proofs.link_in.LinkIn.may_ack.Goals as goal

pub returns-then-slot-self : goal.returns-then-slot-self
returns-then-slot-self c =
    let slots = taken_in _ _ _ c.args.self.now.slots (ap (λ (i : Inward). i.slots) c.self.view_is) c.args.slot (omega arith) in
    grind (arith, nat_tests, slots, c.if-slot-self.true)

pub returns-then-has_bit : goal.returns-then-has_bit
returns-then-has_bit c =
    let slots = taken_in _ _ _ c.args.self.now.slots (ap (λ (i : Inward). i.slots) c.self.view_is) c.args.slot (omega arith) in
    let bit = c.has_bit.ensures ∙ ap (is_set c.self.inside.words.items) c.bit_of.ensures in
    grind (arith, nat_tests, slots, bit, c.if-slot-self.false, c.if-has_bit.true)

pub returns-else-has_bit : goal.returns-else-has_bit
returns-else-has_bit c =
    let slots = taken_in _ _ _ c.args.self.now.slots (ap (λ (i : Inward). i.slots) c.self.view_is) c.args.slot (omega arith) in
    let bit = c.has_bit.ensures ∙ ap (is_set c.self.inside.words.items) c.bit_of.ensures in
    grind (arith, nat_tests, slots, bit, c.contains.ensures, c.if-slot-self.false, c.if-has_bit.false)
