-- What waits: a ring of places from the next number, and the entries of numbers farther away.
use Rattle.std.specs.Prelude.{◌≡◌, ℕ, ◌+◌, ◌^◌, ◌≤◌, ◌<◌, Bool, false, List, [], ◌∷◌, ◌++◌, length, Option, Some, None}
use Rattle.std.specs.List.{All}
use Rattle.std.specs.Map.{keys_of}
use Rattle.cast_message.specs.declared.message.Item.{Item}
use Rattle.cast_fifo.specs.declared.waiting.Waiting.{Waiting}
use Rattle.cast_fifo.specs.HeldBack.{HeldBack, item_due}

-- the places from a number on, without the empty ones
abbrev pub entries_from : ℕ → List (Option Waiting) → List (ℕ × Waiting)
entries_from number [] = []
entries_from number (None ∷ places) = entries_from (number + 1) places
entries_from number (Some w ∷ places) = (number, w) ∷ entries_from (number + 1) places

abbrev pub entries_of : ℕ → List (Option Waiting) → List (ℕ × Waiting) → List (ℕ × Waiting)
entries_of next ring far = entries_from next ring ++ far

abbrev pub held_in : ℕ → Bool → List (Option Waiting) → List (ℕ × Waiting) → HeldBack
held_in next closed ring far =
    record { next = next; closed = closed; waiting = entries_of next ring far }

-- the first place has no mark: a marked message would have had its turn
abbrev pub StartsUnmarked : List (Option Waiting) → Type 0
StartsUnmarked [] = Unit {0}
StartsUnmarked (None ∷ places) = Unit {0}
StartsUnmarked (Some w ∷ places) = w.known ≡ false

-- a ring of up to 4,096 places, and an entry farther away only for numbers beyond it, for which it has room
pub record IsWindow (next : ℕ) (ring : List (Option Waiting)) (far : List (ℕ × Waiting)) (room : ℕ)
    : Type 0 where
  pub short : length ring ≤ 4096
  pub fits : next + length ring < 2 ^ 64
  pub beyond : All (λ number. next + 4096 ≤ number) (keys_of far)
  pub below : All (λ number. number + 1 < 2 ^ 64) (keys_of far)
  pub reach : 0 < length far → 4096 ≤ room

-- the item of the first place, if it is marked
abbrev pub due_front : List (Option Waiting) → Option Item
due_front [] = None
due_front (place ∷ places) = item_due place

-- the item of the first place, or else this one
abbrev pub front_item : List (Option Waiting) → Item → Item
front_item (Some w ∷ places) item = w.item
front_item places item = item
