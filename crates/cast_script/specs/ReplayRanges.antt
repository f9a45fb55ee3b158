-- The ranges of what a replay writes, which the types of the code guarantee.
use Rattle.std.specs.Prelude.{ℕ, ◌^◌, ◌<◌, List, [], ◌∷◌}
use Rattle.std.specs.List.{All}
use Rattle.cast_message.specs.declared.event.Event.{Event}
use Rattle.cast_message.specs.declared.event.Event.TheVariants.{Order, Send, Ack, Arrive, Crash}
use Rattle.cast_record.specs.Hex.{AreBytes}
use Rattle.cast_script.specs.Replay.{Atom, word, number, digits, event_atoms}

abbrev pub IsAtomWithin : Atom → Type 0
IsAtomWithin (word s) = Unit {0}
IsAtomWithin (number n) = n < 2 ^ 64
IsAtomWithin (digits bytes) = AreBytes bytes

abbrev pub AreAtomsWithin : List Atom → Type 0
AreAtomsWithin [] = Unit {0}
AreAtomsWithin (a ∷ others) = IsAtomWithin a × AreAtomsWithin others

abbrev pub AreMembersWithin : List (List ℕ × Atom) → Type 0
AreMembersWithin [] = Unit {0}
AreMembersWithin (m ∷ ms) = IsAtomWithin m.1 × AreMembersWithin ms

-- each node's number is a byte
abbrev pub HasNodes : Event → Type 0
HasNodes (Order node item) = node < 256
HasNodes (Send from to slot) = (from < 256) × (to < 256)
HasNodes (Ack from to slot) = (from < 256) × (to < 256)
HasNodes (Arrive from seq) = from < 256
HasNodes (Crash node) = node < 256

pub record IsEventWithin (event : Event) : Type 0 where
  pub atoms : AreAtomsWithin (event_atoms event)
  pub nodes : HasNodes event

abbrev pub AreEventsWithin : List Event → Type 0
AreEventsWithin events = All IsEventWithin events
