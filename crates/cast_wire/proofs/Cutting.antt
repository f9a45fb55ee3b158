-- What stands at which place of a packet's bytes.
use Rattle.std.proofs.Common.{◌≡◌, ℕ, List, ◌∷◌, ◌++◌, take, drop, sym, refl, ap, ◌∙◌}
use Rattle.std.specs.Prelude.{slice_index_or}
use Rattle.std.specs.Int.{w64, from_le_bytes}
use Rattle.std.proofs.lemmas.Nat.{from_le_bytes-to_le_bytes_8}
use Rattle.cast_message.specs.declared.message.Item.{Item}
use Rattle.cast_message.specs.declared.message.Item.TheVariants.{Data, Propose, Close}
use Rattle.cast_message.specs.declared.message.Message.{Message}
use Rattle.cast_message.specs.declared.message.FrameBody.{FrameBody}
use Rattle.cast_message.specs.declared.message.FrameBody.TheVariants.{Carry, Took}
use Rattle.cast_wire.specs.declared.packet.Packet.{Packet}
use Rattle.cast_wire.specs.Wire.{number_bytes, item_kind, item_bytes, message_bytes, body_kind, body_bytes, packet_bytes}
use Rattle.cast_wire.specs.Law.{IsNumber, HasItemNumbers, HasBodyNumbers, HasNumbers}

same_number : (a b : ℕ) → IsNumber a → IsNumber b → number_bytes a ≡ number_bytes b → a ≡ b
same_number a b la lb e = sym (from_le_bytes-to_le_bytes_8 a la) ∙ ap (from_le_bytes w64) e ∙ from_le_bytes-to_le_bytes_8 b lb

first_number : (a b : ℕ) (r s : List ℕ) → IsNumber a → IsNumber b → number_bytes a ++ r ≡ number_bytes b ++ s → (a ≡ b) × (r ≡ s)
first_number a b r s la lb e = (same_number a b la lb (ap (take 8) e), ap (drop 8) e)

first_byte : (a b : ℕ) (r s : List ℕ) → ◌≡◌ {A = List ℕ} (a ∷ r) (b ∷ s) → (a ≡ b) × (r ≡ s)
first_byte a b r s e = (ap (λ l. slice_index_or l 0 0) e, ap (drop 1) e)

same_item : (x y : Item) → HasItemNumbers x → HasItemNumbers y → item_kind x ≡ item_kind y → item_bytes x ≡ item_bytes y → x ≡ y
same_item (Data a) (Data b) nx ny k e = ap Data e
same_item (Propose i v) (Propose j w) nx ny k e =
    let p = first_number i j (number_bytes v) (number_bytes w) nx.0 ny.0 e in
    let q = same_number v w nx.1 ny.1 p.1 in
    λ t. Propose (p.0 t) (q t)
same_item Close Close nx ny k e = refl
same_item (Data a) (Propose j w) nx ny k e = absurd cc
same_item (Data a) Close nx ny k e = absurd cc
same_item (Propose i v) (Data b) nx ny k e = absurd cc
same_item (Propose i v) Close nx ny k e = absurd cc
same_item Close (Data b) nx ny k e = absurd cc
same_item Close (Propose j w) nx ny k e = absurd cc

same_message : (x y : Message) → IsNumber x.number → IsNumber y.number → HasItemNumbers x.item → HasItemNumbers y.item → item_kind x.item ≡ item_kind y.item → message_bytes x ≡ message_bytes y → x ≡ y
same_message x y lx ly nx ny k e =
    let s = first_byte x.sender y.sender (number_bytes x.number ++ item_bytes x.item) (number_bytes y.number ++ item_bytes y.item) e in
    let n = first_number x.number y.number (item_bytes x.item) (item_bytes y.item) lx ly s.1 in
    let i = same_item x.item y.item nx ny k n.1 in
    λ t. record { sender = s.0 t; number = n.0 t; item = i t }

took_is_no_item : (y : Item) → 0 ≡ item_kind y → ⊥
took_is_no_item (Data b) e = cc
took_is_no_item (Propose j w) e = cc
took_is_no_item Close e = cc

same_body : (x y : FrameBody) → HasBodyNumbers x → HasBodyNumbers y → body_kind x ≡ body_kind y → body_bytes x ≡ body_bytes y → x ≡ y
same_body (Took a) (Took b) nx ny k e = ap Took (same_number a b nx ny e)
same_body (Carry a m) (Carry b n) nx ny k e =
    let p = first_number a b (message_bytes m) (message_bytes n) nx.0 ny.0 e in
    let q = same_message m n nx.1 ny.1 nx.2 ny.2 k p.1 in
    λ t. Carry (p.0 t) (q t)
same_body (Took a) (Carry b n) nx ny k e = absurd (took_is_no_item n.item k)
same_body (Carry a m) (Took b) nx ny k e = absurd (took_is_no_item m.item (sym k))

pub same_packet : (x y : Packet) → HasNumbers x → HasNumbers y → packet_bytes x ≡ packet_bytes y → x ≡ y
same_packet x y nx ny e =
    let k : body_kind x.frame.body ≡ body_kind y.frame.body = ap (λ l. slice_index_or l 3 0) e in
    let g = same_number x.group y.group nx.group ny.group (ap (λ l. take 8 (drop 4 l)) e) in
    let s = same_number x.stamp y.stamp nx.stamp ny.stamp (ap (λ l. take 8 (drop 12 l)) e) in
    let f : x.frame.from ≡ y.frame.from = ap (λ l. slice_index_or l 20 0) e in
    let to : x.frame.to ≡ y.frame.to = ap (λ l. slice_index_or l 21 0) e in
    let q = same_number x.frame.seq y.frame.seq nx.seq ny.seq (ap (λ l. take 8 (drop 22 l)) e) in
    let b = same_body x.frame.body y.frame.body nx.body ny.body k (ap (drop 30) e) in
    λ t. record { group = g t; stamp = s t; frame = record { from = f t; to = to t; seq = q t; body = b t } }
