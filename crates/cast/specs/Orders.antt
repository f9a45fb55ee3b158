-- The orders in which messages of several senders may come, and calls that go over them.
--     times s order                      how often sender s is in the order
--     goes_on counts order s             sender s has a message left after this order
--     orders_from counts steps begun     each order that begins so and has this many senders more, each while it has messages left
--     orders counts                      each order that has each sender as often as its count
--     IsOrder counts order               the order has all messages, and no sender more often than its count
--     AreDifferent all                   no order is there twice
--     Visits sees old all new on         the visitor saw all of these, one after another, or some first ones and then stopped
--     message_at streams order i         the message at place i of the order: its sender's next item
--     messages_of streams order n        the first n messages of the order
--     HoldsAlong stands good ..          after each message of the order, and before the first one, a machine is good
--     IsNext holds all front             the first orders hold, and this is a first part of the next one
--     Checks stands good old order ..    what a check does with an order
--     IsOutcome holds counts most ..     what was found holds of all orders
use Rattle.std.specs.Prelude.{◌≡◌, ◌≢◌, ◌⊎◌, ℕ, zero, suc, Bool, true, false, Option, Some, None, ◌<◌, ◌≤◌, ◌+◌, ◌==◌, ◌++◌, ◌∷◌, [], List, length, if◌then◌else◌, nat_lt, slice_index_or, slice_get, take, All, IfSome}
use Rattle.std.specs.List.{count_by, filter_map, flat_map, range_with_len, sum}
use Rattle.cast_message.specs.declared.message.Item.{Item}
use Rattle.cast_message.specs.declared.message.Message.{Message}
use Rattle.cast_message.specs.Items.{byte_sized}
use Rattle.cast.specs.declared.interleavings.Checking.{Checking}
use Rattle.cast.specs.declared.interleavings.EveryOrder.{EveryOrder}
use Rattle.cast.specs.declared.interleavings.EveryOrder.TheVariants.{AllHold, Refused, More, TooLong}

abbrev pub times : ℕ → List ℕ → ℕ
times s order = count_by (λ x. x == s) order

abbrev pub goes_on : List ℕ → List ℕ → ℕ → Bool
goes_on counts order s = nat_lt (times s order) (slice_index_or counts s 0)

unfoldable pub orders_from : List ℕ → ℕ → List ℕ → List (List ℕ)
orders_from counts zero begun = begun ∷ []
orders_from counts (suc steps) begun =
    flat_map (λ s. if goes_on counts begun s then orders_from counts steps (begun ++ s ∷ []) else []) (range_with_len 0 (length counts))

abbrev pub orders : List ℕ → List (List ℕ)
orders counts = orders_from counts (sum counts) []

unfoldable pub Visits : {V : Type 0} → (V → List ℕ → V → Bool → Type 0) → V → List (List ℕ) → V → Bool → Type 0
Visits sees old [] new on = (new ≡ old) × (on ≡ true)
Visits {V} sees old (order ∷ rest) new on =
    (sees old order new false × (on ≡ false))
    ⊎ ((between : V) × sees old order between true × Visits sees between rest new on)

-- the item at this place of the stream, as the message of this node
abbrev pub message_by : Option ℕ → ℕ → Option Item → Option Message
message_by (Some node) number (Some item) = Some (record { sender = node; number = number; item = item })
message_by (Some node) number None = None
message_by None number item = None

abbrev pub message_at : List (List Item) → List ℕ → ℕ → Option Message
message_at streams order i =
    let s = slice_index_or order i 0 in
    let number = times s (take i order) in
    message_by (byte_sized s) number (slice_get (slice_index_or streams s []) number)

abbrev pub messages_of : List (List Item) → List ℕ → ℕ → List Message
messages_of streams order n = filter_map (message_at streams order) (range_with_len 0 n)

abbrev pub HoldsAlong : {C S : Type 0} → (S → List Message → Type 0) → (C → S → Type 0) → C → List (List Item) → List ℕ → Type 0
HoldsAlong {C} {S} stands good check streams order =
    (n : ℕ) → n ≤ length order → (state : S) × stands state (messages_of streams order n) × good check state

-- a first part of the order
abbrev pub IsFront : List ℕ → List ℕ → Type 0
IsFront order front = (n : ℕ) × (front ≡ take n order)

-- the first orders hold, and this is a first part of the next one
pub record IsNext (holds : List ℕ → Type 0) (all : List (List ℕ)) (front : List ℕ) : Type 0 where
  pub before : List (List ℕ)
  pub order : List ℕ
  pub rest : List (List ℕ)
  pub all_are : all ≡ before ++ order ∷ rest
  pub hold : All holds before
  pub next : IsFront order front

-- the check goes on if the order holds, and stops at one that it refuses, or if it may take none
pub record Checks {C S : Type 0} (stands : S → List Message → Type 0) (good : C → S → Type 0) (old : Checking C) (order : List ℕ) (new : Checking C) (on : Bool) : Type 0 where
  pub same : (new.check ≡ old.check) × (new.streams ≡ old.streams)
  pub holds : on ≡ true → (new.left + 1 ≡ old.left) × (new.refused ≡ old.refused) × HoldsAlong stands good old.check.now old.streams.now order
  pub stops : on ≡ false → new.refused ≡ None → old.left ≡ 0
  pub refuses : on ≡ false → old.refused ≡ None → IfSome new.refused (λ front. IsFront order front.items)

abbrev pub IsOutcome : (List ℕ → Type 0) → List ℕ → ℕ → EveryOrder → Type 0
IsOutcome holds counts most (AllHold n) = (n ≡ length (orders counts)) × All holds (orders counts)
IsOutcome holds counts most (Refused front) = IsNext holds (orders counts) front.items
IsOutcome holds counts most More = most < length (orders counts)
IsOutcome holds counts most TooLong = Unit {0}

-- the order has all messages, and no sender more often than its count
abbrev pub IsOrder : List ℕ → List ℕ → Type 0
IsOrder counts order = (length order ≡ sum counts) × ((s : ℕ) → times s order ≤ slice_index_or counts s 0)

-- no order is there twice
abbrev pub AreDifferent : List (List ℕ) → Type 0
AreDifferent all = (i j : ℕ) → i < j → j < length all → slice_index_or all i [] ≢ slice_index_or all j []
