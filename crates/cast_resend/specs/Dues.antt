-- Which slots are due to a peer.
--     owes kept to slot              the node owes the peer this slot
--     IsFirstDue .. first heard slot it is the least that was never sent, and the window has room for it
--     NoneFirstDue .. first heard    there is none
--     IsDue kept to window due slot  it is owed, and due again, or due for the first time
--     NoneDue kept to window due     no slot that is owed is due
use Rattle.std.specs.Prelude.{◌≡◌, ℕ, ◌+◌, ◌-◌, ◌≤◌, ◌<◌, Bool, true, false, ◌&&◌, ◌⊎◌, List, ◌++◌, length, slice_get, Some, option_to_list, Option}
use Rattle.std.specs.FinMap as finite
use Rattle.cast_journal.specs.Lists.{Has}
use Rattle.cast_node.specs.Kept.{Kept, link_to}
use Rattle.cast_node.specs.Calls.{is_peer}
use Rattle.cast_resend.specs.declared.due.Due.{Due}

abbrev pub owes : Kept → ℕ → ℕ → Bool
owes kept to slot = is_peer kept to && finite.contains_key (link_to kept to).owed slot

abbrev pub AreNotOwed : Kept → ℕ → List ℕ → Type 0
AreNotOwed kept to slots = (slot : ℕ) → Has slots slot → owes kept to slot ≡ false

-- the last of them is not owed
abbrev pub EndsNotOwed : Kept → ℕ → List ℕ → Type 0
EndsNotOwed kept to slots = (slot : ℕ) → slice_get slots (length slots - 1) ≡ Some slot → owes kept to slot ≡ false

-- some at the end, which are not owed, were dropped
abbrev pub Drops : Kept → ℕ → List ℕ → List ℕ → Type 0
Drops kept to old new = (gone : List ℕ) × (old ≡ new ++ gone) × AreNotOwed kept to gone

-- this is the last of them
abbrev pub EndsIn : List ℕ → ℕ → Type 0
EndsIn slots slot = slice_get slots (length slots - 1) ≡ Some slot

-- it is the least that was never sent, and the window has room for it
pub record IsFirstDue (kept : Kept) (to window first heard slot : ℕ) : Type 0 where
  pub owed : owes kept to slot ≡ true
  pub new : first ≤ slot
  pub room : slot - heard < window
  pub least : (other : ℕ) → first ≤ other → other < slot → owes kept to other ≡ false

-- the window is full, or no such slot is owed
abbrev pub NoneFirstDue : Kept → ℕ → ℕ → ℕ → ℕ → Type 0
NoneFirstDue kept to window first heard =
    (window ≤ first - heard)
    ⊎ ((slot : ℕ) → first ≤ slot → slot - heard < window → owes kept to slot ≡ false)

-- it is owed, and due again or due for the first time
abbrev pub IsDue : Kept → ℕ → ℕ → Due → ℕ → Type 0
IsDue kept to window due slot =
    (EndsIn due.again.items slot × (owes kept to slot ≡ true)) ⊎ IsFirstDue kept to window due.first due.heard slot

pub record NoneDue (kept : Kept) (to window : ℕ) (due : Due) : Type 0 where
  pub again : AreNotOwed kept to due.again.items
  pub first : NoneFirstDue kept to window due.first due.heard

-- The slot is due again, or counts as never sent. So do all that were due again, if there is no room for one more.
pub record AddsAgain (slot : ℕ) (old new : Due) : Type 0 where
  pub first : new.first ≤ old.first
  pub stay : (other : ℕ) → other < new.first → (other ≡ slot) ⊎ Has old.again.items other → Has new.again.items other
  pub below : ((other : ℕ) → Has old.again.items other → other < old.first)
      → (other : ℕ) → Has new.again.items other → other < new.first

-- the last that is due again was taken, or the slot is the last that was sent
abbrev pub Takes : ℕ → Due → Due → Type 0
Takes slot old new =
    ((slot < old.first) × (new.first ≡ old.first)
    × ((last : Option ℕ) × (old.again.items ≡ new.again.items ++ option_to_list last)))
    ⊎ ((old.first ≤ slot) × (old.first ≤ new.first) × (new.first ≤ slot + 1) × (new.again.items ≡ old.again.items))
