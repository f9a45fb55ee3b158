-- How two nodes settle a slot if nothing is delivered or decided by it.
--     IsQuiet ds s i                  the pair had its turn: nothing is delivered because one more node holds it
--     MaySettle kept to slot s i      the node can send the slot with this pair, which is quiet
--     SettlesGiven kept to slot new   the node sends the slot, and takes its acknowledgement without news
--     SettlesTaken kept from slot s i new   the node takes the slot with this pair without news, and acknowledges it
use Rattle.std.specs.Prelude.{◌≡◌, ℕ, ◌<◌, [], length, slice_index_or, true, None, Ok}
use Rattle.cast_message.specs.declared.event.Answer.TheVariants.{Sent as AnswerSent}
use Rattle.cast_message.specs.declared.message.Item.{Item}
use Rattle.cast_model.specs.Steps.{Sent, Acknowledged, Arrived}
use Rattle.cast_fifo.specs.HeldBack.{held_of, came, known_items, known_after}
use Rattle.cast_node.specs.Kept.{Kept}
use Rattle.cast_node.specs.Delivering.{Delivering}
use Rattle.cast_node.specs.Turns.{Gives, kept_fault, kept_after, message_owed}
use Rattle.cast_node.specs.Calls.{carried_frame, took_frame, silent_reply}

-- the pair had its turn, and there is a place for the nodes known to hold it
pub record IsQuiet (ds : Delivering) (s i : ℕ) : Type 0 where
  pub held : came (held_of ds.hold_back s) i ≡ true
  pub place : i < length (slice_index_or ds.knowers s [])
  pub nothing_new : known_items (held_of ds.hold_back s) i ≡ []
  pub same : known_after (held_of ds.hold_back s) i ≡ held_of ds.hold_back s

pub record MaySettle (kept : Kept) (to slot s i : ℕ) : Type 0 where
  pub clear : kept_fault kept (Sent to slot) ≡ None
  pub sender : s ≡ (message_owed kept to slot).sender
  pub number : i ≡ (message_owed kept to slot).number
  pub quiet : IsQuiet kept.deliveries s i

abbrev pub SettlesGiven : Kept → ℕ → ℕ → Kept → Type 0
SettlesGiven kept to slot new =
    Gives kept (Sent to slot) (Ok (AnswerSent kept.frames)) (kept_after kept (Sent to slot))
    × ((seq : ℕ) → Gives (kept_after kept (Sent to slot)) (Arrived (took_frame kept.me to seq slot))
    (silent_reply kept.me) new)

-- whatever the frame's number and the message's item
abbrev pub SettlesTaken : Kept → ℕ → ℕ → ℕ → ℕ → Kept → Type 0
SettlesTaken kept from slot s i new = (seq : ℕ) (item : Item) →
    let frame = carried_frame kept.me from seq slot s i item in
    let taken = kept_after kept (Arrived frame) in
    Gives kept (Arrived frame) (silent_reply kept.me) taken
    × Gives taken (Acknowledged from slot) (Ok (AnswerSent taken.frames)) new
