-- What is due in a round, as a function of what a world keeps.
--     live_at world              the nodes that have not crashed; AreLive world nodes: these are they
--     owed_slots link            the slots of a link that are owed, ascending; owed_below n link: those below n
--     due_at world               the slots that live nodes owe live nodes, by giver, then taker
--     events_of d carry took     the events that settle a slot, whose two frames have these numbers
--     events_from world d        the events that settle one slot from here
use Rattle.std.specs.Prelude.{◌≡◌, ◌≢◌, ℕ, false, ◌^◌, ◌<◌, ◌≤◌, ◌==◌, nat_lt, ◌&&◌, if◌then◌else◌, List, [], ◌∷◌, length, map}
use Rattle.std.specs.List.{filter, flat_map, range_with_len}
use Rattle.std.specs.Ordering.{nat_cmp}
use Rattle.std.specs.FinMap as finite
use Rattle.std.specs.FinSet as set
use Rattle.cast_message.specs.declared.event.Event.{Event}
use Rattle.cast_message.specs.declared.event.Event.TheVariants.{Send, Ack, Arrive}
use Rattle.cast_model.specs.Delivery.{nodes_of}
use Rattle.cast_model.specs.Rounds.{Due}
use Rattle.cast_message.specs.declared.message.Message.{Message}
use Rattle.cast_link.specs.Links.{Link}
use Rattle.cast_node.specs.Kept.{link_to}
use Rattle.cast_world.specs.Group.{State, node_at, marks_at}

abbrev pub live_at : State → List ℕ
live_at world = filter (λ p. (node_at world p).live) (nodes_of world.config)

abbrev pub AreLive : State → set.FinSet nat_cmp → Type 0
AreLive world nodes =
    (q : ℕ) → set.contains nodes q ≡ (nat_lt q (length world.nodes) && (node_at world q).live)

abbrev pub due_of : ℕ → ℕ → ℕ → Due
due_of p q slot = record { from = p; to = q; slot = slot }

-- the owed slots below n
abbrev pub owed_below : ℕ → Link Message → List ℕ
owed_below n link = filter (finite.contains_key link.owed) (range_with_len 0 n)

abbrev pub owed_slots : Link Message → List ℕ
owed_slots link = owed_below link.given link

-- no slot from n on is owed
abbrev pub OwesNoneFrom : ℕ → Link Message → Type 0
OwesNoneFrom n link = (slot : ℕ) → n ≤ slot → finite.contains_key link.owed slot ≡ false

-- slots are few, and no slot is owed that wasn't given
pub record IsBounded (world : State) : Type 0 where
  pub few : (p q : ℕ) → p < length world.nodes → q < length world.nodes → p ≢ q →
      (link_to (node_at world p) q).given < 2 ^ 64
  pub given : (p q : ℕ) → p < length world.nodes → q < length world.nodes → p ≢ q →
      OwesNoneFrom (link_to (node_at world p) q).given (link_to (node_at world p) q)

abbrev pub due_between_at : State → ℕ → ℕ → List Due
due_between_at world p q =
    if p == q then [] else map (due_of p q) (owed_slots (link_to (node_at world p) q))

abbrev pub due_at : State → List Due
due_at world = flat_map (λ p. flat_map (due_between_at world p) (live_at world)) (live_at world)

-- the events that settle a slot, whose two frames have these numbers
abbrev pub events_of : Due → ℕ → ℕ → List Event
events_of d carry took =
    Send d.from d.to d.slot
    ∷ Arrive d.from carry
    ∷ Ack d.to d.from d.slot
    ∷ Arrive d.to took
    ∷ []

-- the events that settle one slot from here
abbrev pub events_from : State → Due → List Event
events_from world d = events_of d (length (marks_at world d.from)) (length (marks_at world d.to))
