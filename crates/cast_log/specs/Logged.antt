-- What a log keeps, and what it lends.
--     Logged                         the entries of a log, and how many it has room for
--     silent event                   the step of an event that delivers and decides nothing
--     kind_of whole brief number     what an entry that is kept so says; `whole` has the entries kept whole
--     entries_of whole rows          the entries that are kept so
--     IsPlaced n brief number        if it refers to a place, the place is below n
--     IsShort brief                  it refers to no place
--     IsLog whole rows               each place that a row refers to exists
--     shown_kind, shown_entry        what is lent
--     is_step kind, step_event kind  whether it is a step, and its event
use Rattle.std.specs.Prelude.{◌≡◌, ℕ, ◌<◌, ◌≤◌, ◌^◌, min, List, ◌++◌, length, map, slice_index_or, Bool, true, false, Option, Some, None, refl}
use Rattle.std.specs.List.{All}
use Rattle.std.specs.Coded.{Coded, code_by, coded×, coded_ℕ, coded_list}
use Rattle.cast_message.specs.declared.event.Event.{Event}
use Rattle.cast_message.specs.declared.event.Event.TheVariants.{Send, Ack, Arrive, Crash}
use Rattle.cast_model.specs.OwnSteps.{nothing}
use Rattle.cast_log.specs.declared.entry.Entry.{Entry}
use Rattle.cast_log.specs.declared.entry.EntryKind.{EntryKind}
use Rattle.cast_log.specs.declared.entry.EntryKind.TheVariants.{Step, Refused}
use Rattle.cast_log.specs.declared.log.Brief.{Brief}
use Rattle.cast_log.specs.declared.log.Brief.TheVariants.{Sent, Acked, Arrived, Whole}
use Rattle.cast_log.specs.declared.log.Row.{Row}
use Rattle.cast_log.specs.declared.log.KindRef.{KindRef}
use Rattle.cast_log.specs.declared.log.KindRef.TheVariants.{Sent as SentRef, Acked as AckedRef, Arrived as ArrivedRef, Whole as WholeRef}
use Rattle.cast_log.specs.declared.log.EntryRef.{EntryRef}

pub record Logged : Type 0 where
  pub entries : List Entry
  pub room : ℕ

abbrev pub logged_code : Coded Entry → Coded Logged
logged_code entry =
    code_by (List Entry × ℕ) (coded× (coded_list entry) coded_ℕ)
    (λ log. (log.entries, log.room)) (λ p. record { entries = p.0; room = p.1 }) (λ _. refl)

abbrev pub entry_with : ℕ → EntryKind → Entry
entry_with stamp kind = record { stamp = stamp; kind = kind }

abbrev pub silent : Event → EntryKind
silent event = Step event None nothing

-- the default, for a place that holds nothing; no row refers to such a place
abbrev pub no_kind : EntryKind
no_kind = silent (Crash 0)

abbrev pub kind_of : List EntryKind → Brief → ℕ → EntryKind
kind_of whole (Sent from to) number = silent (Send from to number)
kind_of whole (Acked from to) number = silent (Ack from to number)
kind_of whole (Arrived from) number = silent (Arrive from number)
kind_of whole Whole number = slice_index_or whole number no_kind

abbrev pub entry_of : List EntryKind → Row → Entry
entry_of whole row = entry_with row.stamp (kind_of whole row.brief row.number)

abbrev pub entries_of : List EntryKind → List Row → List Entry
entries_of whole rows = map (entry_of whole) rows

-- four bytes number the places of the entries kept whole
abbrev pub room_of : ℕ → ℕ → ℕ
room_of rows whole = min (min rows whole) (2 ^ 32)

abbrev pub IsPlaced : ℕ → Brief → ℕ → Type 0
IsPlaced n Whole number = number < n
IsPlaced n _ number = Unit {0}

abbrev pub IsShort : Brief → Type 0
IsShort Whole = ⊥
IsShort _ = Unit {0}

abbrev pub IsWithin : ℕ → Row → Type 0
IsWithin n row = IsPlaced n row.brief row.number

-- the first list begins with the second
abbrev pub StartsWith : List EntryKind → List EntryKind → Type 0
StartsWith long short = (tail : List EntryKind) × (long ≡ short ++ tail)

pub record IsLog (whole : List EntryKind) (rows : List Row) : Type 0 where
  pub within : All (IsWithin (length whole)) rows
  pub few : length whole ≤ length rows

abbrev pub shown_kind : KindRef → EntryKind
shown_kind (SentRef from to slot) = silent (Send from to slot)
shown_kind (AckedRef from to slot) = silent (Ack from to slot)
shown_kind (ArrivedRef from seq) = silent (Arrive from seq)
shown_kind (WholeRef kind) = kind.now

abbrev pub shown_entry : EntryRef → Entry
shown_entry entry = entry_with entry.stamp (shown_kind entry.kind)

abbrev pub is_step : EntryKind → Bool
is_step (Step event origin outcome) = true
is_step (Refused origin fault) = false

abbrev pub step_event : EntryKind → Option Event
step_event (Step event origin outcome) = Some event
step_event (Refused origin fault) = None
