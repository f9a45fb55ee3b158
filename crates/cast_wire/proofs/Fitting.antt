-- The bytes of a packet have none of the faults.
use Rattle.std.proofs.Common.{◌≡◌, ℕ, ◌++◌, None, refl, arith}
use Rattle.std.proofs.lemmas.Bool.Decides.{nat_tests}
use Rattle.cast_message.specs.declared.message.Item.{Item}
use Rattle.cast_message.specs.declared.message.Item.TheVariants.{Data, Propose, Close}
use Rattle.cast_message.specs.declared.message.FrameBody.{FrameBody}
use Rattle.cast_message.specs.declared.message.FrameBody.TheVariants.{Carry, Took}
use Rattle.cast_wire.specs.declared.packet.Packet.{Packet}
use Rattle.cast_wire.specs.Wire.{head_bytes, item_kind, body_kind, body_bytes, packet_bytes, wire_fault, first_wire_fault, wire_causes}
use Rattle.cast_wire.specs.Law.{FitsItem, FitsBody}

by_item : (group stamp from to seq slot sender number : ℕ) (item : Item) → FitsItem item
    → wire_fault (head_bytes (item_kind item) group stamp from to seq ++ body_bytes (Carry slot (record { sender = sender; number = number; item = item }))) ≡ None
unfolding first_wire_fault wire_causes
by_item group stamp from to seq slot sender number (Data bytes) fits = grind (arith, nat_tests, fits)
by_item group stamp from to seq slot sender number (Propose instance value) fits = refl
by_item group stamp from to seq slot sender number Close fits = refl

by_body : (group stamp from to seq : ℕ) (body : FrameBody) → FitsBody body
    → wire_fault (head_bytes (body_kind body) group stamp from to seq ++ body_bytes body) ≡ None
unfolding first_wire_fault wire_causes
by_body group stamp from to seq (Took slot) fits = refl
by_body group stamp from to seq (Carry slot message) fits = by_item group stamp from to seq slot message.sender message.number message.item fits

pub not_refused : (x : Packet) → FitsBody x.frame.body → wire_fault (packet_bytes x) ≡ None
not_refused x fits = by_body x.group x.stamp x.frame.from x.frame.to x.frame.seq x.frame.body fits
