-- What a hold-back does, by the calls so far, newest first.
--     is_ready calls s i         the pair was offered, or held and marked
--     item_of calls s i          the item of the pair; if two came, the first counts
--     IsNext calls s n           n is the least number of s that wasn't offered and wasn't both held and marked
--     between calls s n m        the messages of s from n up to m
--     held_by nodes calls        what the calls leave, by sender
--     MayBeCalled nodes calls    the conditions of each call
--     GivesInOrder               what each call returns, and what `next` and `closed` show after it
use Rattle.std.specs.Prelude.{◌≡◌, ℕ, ◌-◌, ◌<◌, ◌==◌, Bool, true, false, ◌&&◌, ◌||◌, if◌then◌else◌, List, [], ◌∷◌, map, replicate, slice_set, Option, Some, None, is_some, unwrap_or}
use Rattle.std.specs.List.{list_any, range_with_len}
use Rattle.cast_message.specs.declared.message.Item.{Item}
use Rattle.cast_message.specs.declared.message.Item.TheVariants.{Close}
use Rattle.cast_message.specs.declared.message.Message.{Message}
use Rattle.cast_model.specs.History.{numbered}
use Rattle.cast_fifo.specs.HeldBack.{HeldBack, nothing_held, held_of, came, with_item, known_items, known_after, offered_items, offered_after}
use Rattle.cast_message.specs.Items.{is_close}

pub data Call : Type 0 where
  Hold : Message → Call
  Known : ℕ → ℕ → Call
  Offer : Message → Call

abbrev pub is_pair : Message → ℕ → ℕ → Bool
is_pair message s i = message.sender == s && message.number == i

abbrev pub is_offer_of : ℕ → ℕ → Call → Bool
is_offer_of s i (Hold message) = false
is_offer_of s i (Known sender number) = false
is_offer_of s i (Offer message) = is_pair message s i

abbrev pub is_hold_of : ℕ → ℕ → Call → Bool
is_hold_of s i (Hold message) = is_pair message s i
is_hold_of s i (Known sender number) = false
is_hold_of s i (Offer message) = false

abbrev pub is_mark_of : ℕ → ℕ → Call → Bool
is_mark_of s i (Hold message) = false
is_mark_of s i (Known sender number) = sender == s && number == i
is_mark_of s i (Offer message) = false

abbrev pub is_ready : List Call → ℕ → ℕ → Bool
is_ready calls s i =
    list_any (is_offer_of s i) calls
    || (list_any (is_hold_of s i) calls && list_any (is_mark_of s i) calls)

-- the item of a call for a pair
abbrev pub brought : Call → ℕ → ℕ → Option Item
brought (Hold message) s i = if is_pair message s i then Some message.item else None
brought (Known sender number) s i = None
brought (Offer message) s i = if is_pair message s i then Some message.item else None

abbrev pub first_of : Option Item → Option Item → Option Item
first_of None later = later
first_of (Some item) later = Some item

abbrev pub item_of : List Call → ℕ → ℕ → Option Item
item_of [] s i = None
item_of (call ∷ past) s i = first_of (item_of past s i) (brought call s i)

pub record IsNext (calls : List Call) (s n : ℕ) : Type 0 where
  pub all_below : (i : ℕ) → i < n → is_ready calls s i ≡ true
  pub not_itself : is_ready calls s n ≡ false

-- the default is for a pair that never came; no pair between is such
abbrev pub message_of : List Call → ℕ → ℕ → Message
message_of calls s i = record { sender = s; number = i; item = unwrap_or (item_of calls s i) Close }

abbrev pub between : List Call → ℕ → ℕ → ℕ → List Message
between calls s n m = map (message_of calls s) (range_with_len n (m - n))

-- one of the first n messages of s is a Close
abbrev pub has_close : List Call → ℕ → ℕ → Bool
has_close calls s n = list_any (λ i. is_close (message_of calls s i).item) (range_with_len 0 n)

abbrev pub sender_of : Call → ℕ
sender_of (Hold message) = message.sender
sender_of (Known sender number) = sender
sender_of (Offer message) = message.sender

abbrev pub held_after : List HeldBack → Call → List HeldBack
held_after all (Hold message) =
    let held = held_of all message.sender in
    slice_set all message.sender (with_item held message.number message.item)
held_after all (Known sender number) =
    slice_set all sender (known_after (held_of all sender) number)
held_after all (Offer message) =
    let held = held_of all message.sender in
    slice_set all message.sender (offered_after held message.number message.item)

abbrev pub held_by : ℕ → List Call → List HeldBack
held_by nodes [] = replicate nodes nothing_held
held_by nodes (call ∷ past) = held_after (held_by nodes past) call

-- what a call returns; `hold` returns no messages
abbrev pub answer : List HeldBack → Call → List Message
answer all (Hold message) = []
answer all (Known sender number) =
    numbered sender (held_of all sender).next (known_items (held_of all sender) number)
answer all (Offer message) =
    let held = held_of all message.sender in
    numbered message.sender held.next (offered_items held message.number message.item)

-- the sender is below the number of nodes, and a marked pair was held or offered
abbrev pub MayCall : ℕ → List Call → Call → Type 0
MayCall nodes past (Hold message) = message.sender < nodes
MayCall nodes past (Known sender number) =
    (sender < nodes) × (is_some (item_of past sender number) ≡ true)
MayCall nodes past (Offer message) = message.sender < nodes

abbrev pub MayBeCalled : ℕ → List Call → Type 0
MayBeCalled nodes [] = Unit {0}
MayBeCalled nodes (call ∷ past) = MayBeCalled nodes past × MayCall nodes past call

pub record ShowsOf (nodes : ℕ) (calls : List Call) (s : ℕ) : Type 0 where
  pub next : IsNext calls s (held_of (held_by nodes calls) s).next
  pub closed : (held_of (held_by nodes calls) s).closed
      ≡ has_close calls s (held_of (held_by nodes calls) s).next
  pub came_is : (i : ℕ) → came (held_of (held_by nodes calls) s) i ≡ is_some (item_of calls s i)

-- a call returns the messages from `next` before it up to `next` after it
abbrev pub AnswersTurns : ℕ → List Call → Call → Type 0
AnswersTurns nodes past call =
    let s = sender_of call in
    answer (held_by nodes past) call
    ≡ between (call ∷ past) s
    (held_of (held_by nodes past) s).next (held_of (held_by nodes (call ∷ past)) s).next

abbrev pub GivesInOrder : Type 0
GivesInOrder =
    (nodes : ℕ) →
    ((calls : List Call) → MayBeCalled nodes calls → (s : ℕ) → s < nodes → ShowsOf nodes calls s)
    × ((past : List Call) (call : Call) → MayBeCalled nodes (call ∷ past) →
    AnswersTurns nodes past call)
