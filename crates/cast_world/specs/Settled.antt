-- Slots that are settled without news, one after another.
--     Ends                          what the two nodes of a link keep, and the marks of the frames that each made
--     SettlesSlot old slot new      the giver sends the slot, and the taker takes and acknowledges it
--     SettlesSlots old slots new    the same for several slots, in order
--     SettlesBetween world p q slots new    the same in a world, where p gives to q
--     SettlesFront world old new after      the first of some due slots are settled, and the others are left
--     SettlesSilently world ds new  due slots are settled, and none of their events delivers or decides anything
use Rattle.std.specs.Prelude.{◌≡◌, ℕ, ◌<◌, List, [], ◌∷◌, ◌++◌, slice_set}
use Rattle.cast_model.specs.Rounds.{Due}
use Rattle.cast_node.specs.Kept.{Kept}
use Rattle.cast_node.specs.Turns.{message_owed, carry_of, took_of}
use Rattle.cast_node.specs.Settling.{SettlesGiven, SettlesTaken}
use Rattle.cast_world.specs.declared.frames.Mark.{Mark}
use Rattle.cast_world.specs.Group.{State, StandingFor, node_at, marks_at, mark_of}
use Rattle.cast_world.specs.Plans.{events_from}
use Rattle.cast_world.specs.Rounds.{TakesSilently}

pub record Ends : Type 0 where
  pub giver : Kept
  pub taker : Kept
  pub carried : List Mark  -- the giver's frames
  pub told : List Mark  -- the taker's

abbrev pub ends : Kept → Kept → List Mark → List Mark → Ends
ends giver taker carried told =
    record { giver = giver; taker = taker; carried = carried; told = told }

pub record SettlesSlot (old : Ends) (slot : ℕ) (new : Ends) : Type 0 where
  pub given : SettlesGiven old.giver old.taker.me slot new.giver
  pub taken : SettlesTaken old.taker old.giver.me slot
      (message_owed old.giver old.taker.me slot).sender
      (message_owed old.giver old.taker.me slot).number new.taker
  pub sender : (message_owed old.giver old.taker.me slot).sender < 64
  pub carried : new.carried ≡ old.carried ++ mark_of (carry_of old.giver old.taker.me slot) ∷ []
  pub told : new.told ≡ old.told ++ mark_of (took_of old.taker old.giver.me slot) ∷ []

unfoldable pub SettlesSlots : Ends → List ℕ → Ends → Type 0
SettlesSlots old [] new = new ≡ old
SettlesSlots old (slot ∷ slots) new =
    (next : Ends) × SettlesSlot old slot next × SettlesSlots next slots new

abbrev pub ends_at : State → ℕ → ℕ → Ends
ends_at world p q = ends (node_at world p) (node_at world q) (marks_at world p) (marks_at world q)

abbrev pub with_ends : State → ℕ → ℕ → Ends → State
with_ends world p q e = record world {
  nodes = slice_set (slice_set world.nodes p e.giver) q e.taker;
  marks = slice_set (slice_set world.marks p e.carried) q e.told;
}

pub record SettlesBetween (world : State) (p q : ℕ) (slots : List ℕ) (new : State) : Type 0 where
  pub after : Ends
  pub settles : SettlesSlots (ends_at world p q) slots after
  pub moves : new ≡ with_ends world p q after

unfoldable pub SettlesSilently : State → List Due → State → Type 0
SettlesSilently world [] new = new ≡ world
SettlesSilently world (d ∷ ds) new =
    (next : State)
    × StandingFor world (λ config past. TakesSilently config past (events_from world d) next)
    × SettlesSilently next ds new

-- the first of the slots are settled so, and taken off
pub record SettlesFront (world : State) (old new : List Due) (after : State) : Type 0 where
  pub front : List Due
  pub split : old ≡ front ++ new
  pub settles : SettlesSilently world front after
