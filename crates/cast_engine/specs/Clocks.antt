-- How a log's stamps follow the clocks from which they are read.
--     makes kind                   an entry that makes a frame
--     stamps_made log              the stamps of the frames made, in order: that of frame q at place q
--     IsStampedBy Came clock e     the clock gives the entry its stamp; Came from seq sent: that frame's stamp is sent
--     Follows Came clock log       the clock gives each entry its stamp, one after another
use Rattle.std.specs.Prelude.{◌≡◌, ℕ, ◌+◌, max, Bool, true, false, List, [], ◌∷◌, map}
use Rattle.std.specs.List.{filter}
use Rattle.cast_message.specs.declared.event.Event.{Event}
use Rattle.cast_message.specs.declared.event.Event.TheVariants.{Send, Ack, Arrive}
use Rattle.cast_log.specs.declared.entry.Entry.{Entry}
use Rattle.cast_log.specs.declared.entry.EntryKind.{EntryKind}
use Rattle.cast_log.specs.declared.entry.EntryKind.TheVariants.{Step as StepEntry, Refused}

abbrev pub makes_by : Event → Bool
makes_by (Send from to slot) = true
makes_by (Ack from to slot) = true
makes_by _ = false

abbrev pub makes : EntryKind → Bool
makes (StepEntry event origin outcome) = makes_by event
makes (Refused origin fault) = false

-- each entry of a Send or an Ack makes one frame; frames are numbered from 0
unfoldable pub stamps_made : List Entry → List ℕ
stamps_made log = map (λ e. e.stamp) (filter (λ e. makes e.kind) log)

-- an arrival has the stamp after the greater of the clock's and its frame's; any other entry has the stamp after the
-- clock's (Lamport 1978)
abbrev pub IsStampedAs : (ℕ → ℕ → ℕ → Type 0) → ℕ → ℕ → EntryKind → Type 0
IsStampedAs Came clock stamp (StepEntry (Arrive from seq) origin outcome) =
    (sent : ℕ) × Came from seq sent × (stamp ≡ max clock sent + 1)
IsStampedAs Came clock stamp _ = stamp ≡ clock + 1

abbrev pub IsStampedBy : (ℕ → ℕ → ℕ → Type 0) → ℕ → Entry → Type 0
IsStampedBy Came clock e = IsStampedAs Came clock e.stamp e.kind

-- the clock becomes the stamp of each entry
unfoldable pub Follows : (ℕ → ℕ → ℕ → Type 0) → ℕ → List Entry → Type 0
Follows Came clock [] = Unit {0}
Follows Came clock (e ∷ es) = IsStampedBy Came clock e × Follows Came e.stamp es
