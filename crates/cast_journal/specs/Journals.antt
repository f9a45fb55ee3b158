-- A node, its log and its clock, and what a call changes of them.
use Rattle.std.specs.Prelude.{◌≡◌, ◌≢◌, ℕ, suc, ◌+◌, ◌<◌, ◌≤◌, ◌^◌, max, Bool, true, false, List, [], ◌∷◌, ◌++◌, length, slice_get, Option, Some, None, Result, Ok, Err, IsSome, ◌⊎◌, refl}
use Rattle.std.specs.Coded.{Coded, code_by, coded×, coded_ℕ, coded_list, coded_option}
use Rattle.cast_message.specs.declared.config.Config.{Config}
use Rattle.cast_message.specs.declared.event.Event.{Event}
use Rattle.cast_message.specs.declared.event.Event.TheVariants.{Arrive, Crash}
use Rattle.cast_message.specs.declared.event.Answer.{Answer}
use Rattle.cast_message.specs.declared.event.Answer.TheVariants.{Ordered as AnswerOrdered}
use Rattle.cast_message.specs.declared.event.Outcome.{Outcome}
use Rattle.cast_message.specs.declared.message.Item.{Item}
use Rattle.cast_message.specs.declared.message.Message.{Message}
use Rattle.cast_message.specs.declared.event.StepFault.{StepFault}
use Rattle.cast_model.specs.Steps.{Step, Ordered, Stopped}
use Rattle.cast_log.specs.declared.entry.Origin.{Origin}
use Rattle.cast_log.specs.declared.entry.Entry.{Entry}
use Rattle.cast_log.specs.declared.entry.EntryKind.{EntryKind}
use Rattle.cast_log.specs.declared.entry.EntryKind.TheVariants.{Step as StepEntry, Refused}
use Rattle.cast_node.specs.Kept.{Kept}
use Rattle.cast_node.specs.Turns.{Gives}
use Rattle.cast_journal.specs.declared.order.OrderIn.{OrderIn}
use Rattle.cast_node.specs.declared.report.EngineEnd.{EngineEnd}
use Rattle.cast_node.specs.declared.report.EngineEnd.TheVariants.{Stopped as AllStopped, Crashed, TurnLimit, LogFull, ClockFull}
use Rattle.cast_node.specs.Linked.{event_of, outcome_in_answer}
use Rattle.cast_journal.specs.declared.parcel.Parcel.{Parcel}
use Rattle.cast_journal.specs.Runs.{EngineKeeps, origin_of}

pub record JournalState : Type 0 where
  pub config : Config
  pub node : Kept
  pub log : List Entry
  pub clock : ℕ
  pub crash : Option ℕ  -- after so many entries the engine crashes
  pub ended : Option EngineEnd
  pub turns : ℕ  -- how many are left

-- an entry may be logged: there is room and a greater stamp, and no crash is due
pub record MayLog (j : JournalState) : Type 0 where
  pub running : j.ended ≡ None
  pub room : length j.log < j.config.log_limit
  pub time : j.clock + 1 < 2 ^ 64
  pub safe : (n : ℕ) → j.crash ≡ Some n → length j.log < n

-- one entry was logged
pub record Logs (old new : JournalState) (stamp : ℕ) (kind : EntryKind) : Type 0 where
  pub same_config : new.config ≡ old.config
  pub same_crash : new.crash ≡ old.crash
  pub log : new.log ≡ old.log ++ record { stamp = stamp; kind = kind } ∷ []
  pub clock : new.clock ≡ stamp

-- the node took a step, which was logged with a stamp one above the greater of the clock and this stamp
pub record LogsStep (old new : JournalState) (step : Step) (origin : Option Origin) (above : ℕ) : Type 0 where
  pub answer : Answer
  pub stamp : ℕ
  pub gives : Gives old.node step (Ok answer) new.node
  pub logs : Logs old new stamp (StepEntry (event_of old.node.me step) origin (outcome_in_answer answer))
  pub next : stamp ≡ max old.clock above + 1

-- the node refused an order, which was logged with a stamp one above the clock
pub record LogsRefusal (old new : JournalState) (order : OrderIn) : Type 0 where
  pub fault : StepFault
  pub stamp : ℕ
  pub gives : Gives old.node (Ordered order.item) (Err fault) new.node
  pub logs : Logs old new stamp (Refused (origin_of order) fault)
  pub next : stamp ≡ old.clock + 1

abbrev pub LogsOrder : JournalState → JournalState → OrderIn → Type 0
LogsOrder old new order =
    LogsStep old new (Ordered order.item) (Some (origin_of order)) old.clock ⊎ LogsRefusal old new order

abbrev pub delivered_in : EntryKind → List Message
delivered_in (StepEntry event origin outcome) = outcome.deliveries
delivered_in (Refused origin fault) = []

-- the last entry delivered this many messages
abbrev pub IsDeliveredLast : List Entry → ℕ → Type 0
IsDeliveredLast log count =
    (before : List Entry) × (e : Entry) × (log ≡ before ++ e ∷ []) × (count ≡ length (delivered_in e.kind))

-- a node was asked to take an item, and took or refused it
abbrev pub AsksOrder : Kept → Kept → Item → Result (Item × Outcome) StepFault → Type 0
AsksOrder old new item (Ok told) =
    (number : ℕ) × Gives old (Ordered item) (Ok (AnswerOrdered number told.1)) new
AsksOrder old new item (Err fault) = Gives old (Ordered item) (Err fault) new

-- how an engine may end that could log one more entry: all are quiet, or no turn is left
abbrev pub MayEnd : JournalState → EngineEnd → Type 0
MayEnd j AllStopped = MayLog j
MayEnd j TurnLimit = MayLog j × (j.turns ≡ 0)
MayEnd j _ = ⊥

-- only the end was noted, and turns were counted
abbrev pub OnlyEnds : JournalState → JournalState → Type 0
OnlyEnds old new = new ≡ record old { ended = new.ended; turns = new.turns }

-- the engine ends here, with or without a crash
abbrev pub Halts : JournalState → JournalState → Type 0
Halts old new = OnlyEnds old new ⊎ LogsStep old new Stopped None old.clock

-- why an engine ends that may log nothing more: the log or the clock is full, or the crash is due
abbrev pub HaltsBy : JournalState → Option EngineEnd → Type 0
HaltsBy j (Some LogFull) = j.config.log_limit ≤ length j.log
HaltsBy j (Some ClockFull) = (length j.log < j.config.log_limit) × (j.clock + 1 ≡ 2 ^ 64)
HaltsBy j (Some Crashed) = j.crash ≡ Some (length j.log)
HaltsBy j _ = ⊥

-- a clock is full if it shows the last stamp, or if it was full before
abbrev pub EndsLate : JournalState → JournalState → Type 0
EndsLate old new = new.ended ≡ Some ClockFull
    → ((old.ended ≡ Some ClockFull) × (new.clock ≡ old.clock)) ⊎ (new.clock + 1 ≡ 2 ^ 64)

abbrev pub is_arrival_event : Event → Bool
is_arrival_event (Arrive from seq) = true
is_arrival_event _ = false

abbrev pub is_arrival : EntryKind → Bool
is_arrival (StepEntry event origin outcome) = is_arrival_event event
is_arrival (Refused origin fault) = false

-- the entry's stamp is one above the clock; an arrival's may be greater, as its parcel's may be
abbrev pub IsStampedAfter : ℕ → Entry → Type 0
IsStampedAfter clock e = (clock < e.stamp) × (is_arrival e.kind ≡ false → e.stamp ≡ clock + 1)

-- the stamps rise from `first`, and the last is the clock
unfoldable pub Rises : ℕ → List Entry → ℕ → Type 0
Rises first [] clock = clock ≡ first
Rises first (e ∷ es) clock = IsStampedAfter first e × Rises e.stamp es clock

abbrev pub is_crash_event : Event → Bool
is_crash_event (Crash node) = true
is_crash_event _ = false

abbrev pub is_crash : EntryKind → Bool
is_crash (StepEntry event origin outcome) = is_crash_event event
is_crash (Refused origin fault) = false

-- the log is not full, and no crash is due
abbrev pub GoesOn : ℕ → Option ℕ → List Entry → Type 0
GoesOn limit crash log = (length log < limit) × ((n : ℕ) → crash ≡ Some n → length log < n)

-- How a log may end. A crash comes last, after as many entries as the plan says, and if and only if the end is Crashed.
-- LogFull comes only at the limit, and ClockFull only below it. AllStopped and TurnLimit come only if no crash is due
-- either.
pub record EndsAs (limit : ℕ) (crash : Option ℕ) (ended : Option EngineEnd) (log : List Entry) : Type 0 where
  pub within : length log ≤ limit
  pub full : ended ≡ Some LogFull → length log ≡ limit
  pub below : ended ≡ Some ClockFull → length log < limit
  pub rested : ended ≡ Some AllStopped → GoesOn limit crash log
  pub used_up : ended ≡ Some TurnLimit → GoesOn limit crash log
  pub due : ended ≢ Some Crashed → (n : ℕ) → crash ≡ Some n → length log ≤ n
  pub last : (i : ℕ) (e : Entry) → slice_get log i ≡ Some e → is_crash e.kind ≡ true
      → (suc i ≡ length log) × (crash ≡ Some i) × (ended ≡ Some Crashed)
  pub crashed : ended ≡ Some Crashed
      → (i : ℕ) × (e : Entry) × (slice_get log i ≡ Some e) × (is_crash e.kind ≡ true)

-- what a journal leaves; if its engine had not ended, it ended here: as its log says, or else as if no turn were left
pub record IsClosed (j : JournalState) (log : List Entry) (node : Kept) (ended : EngineEnd) : Type 0 where
  pub new : JournalState
  pub halts : Halts j new
  pub kept : IsSome j.ended → new ≡ j
  pub cause : j.ended ≡ None → (ended ≡ TurnLimit) ⊎ HaltsBy j (Some ended)
  pub late : EndsLate j new
  pub parts : (log ≡ new.log) × (node ≡ new.node) × (new.ended ≡ Some ended)
  pub rises : Rises new.config.first_stamp new.log new.clock
  pub ends : EndsAs new.config.log_limit new.crash new.ended new.log
  pub spent : ended ≡ TurnLimit → new.turns ≡ 0

-- What a journal keeps: room for its whole log, rising stamps, how the log may end, and a live node before a crash. The
-- end TurnLimit comes only if no turn is left.
pub record JournalKeeps (config : Config) (room : ℕ) (node : Kept) (log : List Entry) (clock : ℕ)
    (crash : Option ℕ) (ended : Option EngineEnd) (turns : ℕ) : Type 0 where
  pub has_room : config.log_limit ≤ room
  pub rises : Rises config.first_stamp log clock
  pub ends : EndsAs config.log_limit crash ended log
  pub lives : ended ≢ Some Crashed → node.live ≡ true
  pub spent : ended ≡ Some TurnLimit → turns ≡ 0

abbrev pub journal_code : Coded Config → Coded Kept → Coded Entry → Coded EngineEnd → Coded JournalState
journal_code config kept entry end =
    code_by (Config × (Kept × (List Entry × (ℕ × (Option ℕ × (Option EngineEnd × ℕ))))))
    (coded× config (coded× kept (coded× (coded_list entry) (coded× coded_ℕ (coded× (coded_option coded_ℕ) (coded× (coded_option end) coded_ℕ))))))
    (λ j. (j.config, (j.node, (j.log, (j.clock, (j.crash, (j.ended, j.turns)))))))
    (λ p. record { config = p.0; node = p.1.0; log = p.1.1.0; clock = p.1.1.1.0; crash = p.1.1.1.1.0; ended = p.1.1.1.1.1.0; turns = p.1.1.1.1.1.1 })
    (λ _. refl)

-- what a journal keeps, together with the parcels and orders that were put, wait to be put, or were taken
abbrev pub KeepsOf : JournalState → List Parcel → Option Parcel → List (ℕ × Parcel)
    → Option Parcel → List (ℕ × OrderIn) → Type 0
KeepsOf j put held taken waiting orders =
    EngineKeeps j.config j.node.me j.node j.log j.clock put held taken waiting orders
