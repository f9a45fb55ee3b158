-- What is held of a sender, by each number's item and whether it is ready.
--     HoldsBack items ready held    of these items, by number, those up to the first that isn't ready had their turn, and the others wait
use Rattle.std.specs.Prelude.{◌≡◌, ℕ, ◌+◌, ◌≤◌, ◌<◌, Bool, true, false, List, [], ◌∷◌, Option, Some, None, unwrap_or}
use Rattle.std.specs.List.{list_any, range_with_len}
use Rattle.cast_message.specs.declared.message.Item.{Item}
use Rattle.cast_message.specs.declared.message.Item.TheVariants.{Close}
use Rattle.cast_fifo.specs.declared.waiting.Waiting.{Waiting}
use Rattle.cast_fifo.specs.HeldBack.{HeldBack, waiting_at}
use Rattle.cast_message.specs.Items.{is_close}

-- the numbers rise, beginning at or above this one
abbrev pub Ascends : ℕ → List (ℕ × Waiting) → Type 0
Ascends n [] = Unit {0}
Ascends n (e ∷ es) = (n ≤ e.0) × Ascends (e.0 + 1) es

abbrev pub waiting_of : Option Item → Bool → Option Waiting
waiting_of None ready = None
waiting_of (Some item) ready = Some (record { item = item; known = ready })

abbrev pub close_at : (ℕ → Option Item) → ℕ → Bool
close_at items i = is_close (unwrap_or (items i) Close)

-- what is held if these items came, by number, and these are ready
pub record HoldsBack (items : ℕ → Option Item) (ready : ℕ → Bool) (held : HeldBack) : Type 0 where
  pub below : (i : ℕ) → i < held.next → ready i ≡ true
  pub stops : ready held.next ≡ false
  pub waits : (i : ℕ) → held.next ≤ i → waiting_at held.waiting i ≡ waiting_of (items i) (ready i)
  pub ascends : Ascends held.next held.waiting
  pub closed : held.closed ≡ list_any (close_at items) (range_with_len 0 held.next)
