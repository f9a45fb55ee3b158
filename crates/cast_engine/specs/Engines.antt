-- An engine as contracts see it, and what it keeps.
use Rattle.std.specs.Prelude.{◌≡◌, Bool, true, ℕ, ◌+◌, ◌≤◌, ◌^◌, length, List, [], ◌∷◌, ◌++◌, map, slice_get, Option, Some, None, IsSome, ◌⊎◌, ⊤}
use Rattle.std.specs.Option.{option_to_list}
use Rattle.cast_message.specs.declared.config.Config.{Config}
use Rattle.cast_message.specs.declared.message.Frame.{Frame}
use Rattle.cast_box.specs.Ends.{PutterEnd, TakerEnd, IsSamePutter, IsSameTaker, AreSamePutters}
use Rattle.cast_log.specs.declared.entry.Entry.{Entry}
use Rattle.cast_desk.specs.declared.desk.Desk.{Desk}
use Rattle.cast_journal.specs.declared.order.OrderIn.{OrderIn}
use Rattle.cast_desk.specs.declared.notice.Notice.{Notice}
use Rattle.cast_journal.specs.declared.parcel.Parcel.{Parcel}
use Rattle.cast_engine.specs.declared.feeding.Place.{Place}
use Rattle.cast_engine.specs.declared.engine.Turn.{Turn}
use Rattle.cast_engine.specs.declared.engine.Turn.TheVariants.{Idle, Stopped, Ended}
use Rattle.cast_journal.specs.Lists.{Has}
use Rattle.cast_engine.specs.Clocks.{Follows, stamps_made}
use Rattle.cast_journal.specs.Runs.{EngineKeeps, AreArrivals, parcels_for, parcel, made_of}
use Rattle.cast_node.specs.Linked.{Trail, IsLogOf, made_in, stamped}
use Rattle.cast_box.specs.Lists.{StartsWith, HasTakenOfEnded}
use Rattle.cast_desk.specs.Feed.{feed}
use Rattle.cast_engine.specs.Serving.{Serves}
use Rattle.cast_journal.specs.Journals.{JournalState, KeepsOf, Rises, EndsAs}
use Rattle.cast_node.specs.declared.report.EngineEnd.{EngineEnd}
use Rattle.cast_node.specs.declared.report.EngineEnd.TheVariants.{ClockFull, TurnLimit}
use Rattle.cast_node.specs.Kept.{Kept}
use Rattle.cast_resend.specs.declared.resend.Resend.{Resend}
use Rattle.cast_resend.specs.Hopes.{NothingDue}
use Rattle.cast_engine.specs.Feeding.{AreFed, TellEach}

pub record EngineState : Type 0 where
  pub config : Config
  pub me : ℕ
  pub node : Kept
  pub resend : Resend  -- what was sent lately, and what is due
  pub lacks_memory : Bool  -- memory ran out, in the last turn, for a slot that was due
  pub crash : Option ℕ
  pub outbox : PutterEnd Parcel
  pub held : Option Parcel  -- waits to be put into the outbox
  pub inbox : TakerEnd Parcel
  pub waiting : Option Parcel  -- was taken from the inbox, and waits to be logged
  pub desk : Option Desk
  pub turns : ℕ  -- how many are left
  pub ended : Option EngineEnd

-- the engine has ended one more putter of its inbox
abbrev pub with_ended : EngineState → List Parcel → EngineState
with_ended e put = record e { inbox = record e.inbox { ended = e.inbox.ended ++ put ∷ [] } }

-- the desk of a node without clients has no box: it gives no orders, and has no trays
abbrev pub taken_at : Option Desk → List (ℕ × OrderIn)
taken_at None = []
taken_at (Some desk) = desk.orders.taken

abbrev pub trays_at : Option Desk → List (PutterEnd Notice)
trays_at None = []
trays_at (Some desk) = desk.trays.items

-- the same ends of the same desk and trays, or no desk before and after
pub record IsSameDesk (old new : Option Desk) : Type 0 where
  pub none : new ≡ None → old ≡ None
  pub some : (d : Desk) → new ≡ Some d
      → (was : Desk) × (old ≡ Some was)
      × IsSameTaker was.orders d.orders × AreSamePutters was.trays.items d.trays.items

-- the engine of the same node with ends of the same boxes
pub record IsSameEngine (old new : EngineState) : Type 0 where
  pub config : new.config ≡ old.config
  pub me : new.me ≡ old.me
  pub crash : new.crash ≡ old.crash
  pub outbox : IsSamePutter old.outbox new.outbox
  pub inbox : IsSameTaker old.inbox new.inbox
  pub desk : IsSameDesk old.desk new.desk

-- no parcel was put, taken or kept to be put, no order taken, and no notice put
abbrev pub HasSameBoxes : EngineState → EngineState → Type 0
HasSameBoxes old new =
    (new.outbox ≡ old.outbox) × (new.held ≡ old.held) × (new.inbox ≡ old.inbox)
    × (taken_at new.desk ≡ taken_at old.desk) × (trays_at new.desk ≡ trays_at old.desk)

-- at most this many parcels and orders were taken, parcels put, and notices put for each client
pub record DoesFew (takes orders puts tells : ℕ) (old new : EngineState) : Type 0 where
  pub taken : length new.inbox.taken ≤ length old.inbox.taken + takes
  pub ordered : length (taken_at new.desk) ≤ length (taken_at old.desk) + orders
  pub put : length new.outbox.put ≤ length old.outbox.put + puts
  pub told : TellEach tells (trays_at old.desk) (trays_at new.desk)

-- no slot is due, or the engine can't send: a parcel waits to be put, it has ended, or memory ran out
abbrev pub CanSendNothing : EngineState → Type 0
CanSendNothing e =
    IsSome e.held ⊎ (IsSome e.ended ⊎ ((e.lacks_memory ≡ true) ⊎ NothingDue e.node e.resend))

-- in an idle turn none of that was done, and nothing can be sent after it
abbrev pub IsIdleRightly : Turn → EngineState → EngineState → Type 0
IsIdleRightly Idle old new = HasSameBoxes old new × CanSendNothing new
IsIdleRightly _ old new = ⊤

-- if a turn says that the engine has ended, it has
abbrev pub HasEnded : Turn → Option EngineEnd → Type 0
HasEnded Stopped ended = IsSome ended
HasEnded Ended ended = IsSome ended
HasEnded _ ended = ⊤

-- a clock can't go above the stamp of the parcel that waits
abbrev pub HasLastStamp : Option Parcel → Type 0
HasLastStamp waiting = (x : Parcel) × (waiting ≡ Some x) × (x.stamp + 1 ≡ 2 ^ 64)

-- the clock is full, by its own stamp or by that of the parcel that waits
abbrev pub IsFull : ℕ → Option Parcel → Type 0
IsFull clock waiting = (clock + 1 ≡ 2 ^ 64) ⊎ HasLastStamp waiting

-- what an engine keeps of its journal and its boxes
pub record EngineStays (j : JournalState) (put : List Parcel) (held : Option Parcel)
    (taken : List (ℕ × Parcel)) (waiting : Option Parcel) (desk : Option Desk) (places : List Place)
    : Type 0 where
  pub keeps : KeepsOf j put held taken waiting (taken_at desk)
  pub fed : AreFed j.log (trays_at desk) places
  pub late : j.ended ≡ Some ClockFull → IsFull j.clock waiting

-- an order was taken from the desk, if there is one
abbrev pub TakesOrder : Option Desk → Option OrderIn → Option Desk → Type 0
TakesOrder old None new = (taken_at new ≡ taken_at old) × (trays_at new ≡ trays_at old)
TakesOrder old (Some order) new =
    (from : ℕ) × (taken_at new ≡ taken_at old ++ (from, order) ∷ []) × (trays_at new ≡ trays_at old)

-- the desk was empty, so all that its ended putters put was taken; without a desk, there is no order
abbrev pub HadNoOrder : Option Desk → Type 0
HadNoOrder None = ⊤
HadNoOrder (Some desk) = HasTakenOfEnded desk.orders.ended desk.orders.taken

-- no order was taken, and no notice given
abbrev pub IsUnused : Option Desk → Type 0
IsUnused desk =
    (taken_at desk ≡ [])
    × ((c : ℕ) (tray : PutterEnd Notice) → slice_get (trays_at desk) c ≡ Some tray → tray.put ≡ [])

-- what an ended engine leaves
pub record Leaves (e : EngineState) (log : List Entry) (node : Kept) (ended : EngineEnd) : Type 0 where
  pub held : Option Parcel
  pub clock : ℕ
  pub keeps : EngineKeeps e.config e.me node log clock e.outbox.put held e.inbox.taken e.waiting
      (taken_at e.desk)
  pub places : List Place
  pub fed : AreFed log (trays_at e.desk) places
  pub rises : Rises e.config.first_stamp log clock
  pub ends : EndsAs e.config.log_limit e.crash (Some ended) log
  -- an earlier end stays; no turn was left if the end is TurnLimit, and the clock was full if it is ClockFull
  pub before : IsSome e.ended → e.ended ≡ Some ended
  pub spent : ended ≡ TurnLimit → (e.turns ≡ 0) ⊎ (e.ended ≡ None)
  pub late : ended ≡ ClockFull → IsFull clock e.waiting

-- a frame of this maker and number came in a parcel with this stamp
abbrev pub CameIn : List (ℕ × Parcel) → ℕ → ℕ → ℕ → Type 0
CameIn taken from seq sent =
    (number : ℕ) × (frame : Frame) × Has taken (number, parcel sent frame) × (frame.from ≡ from)
    × (frame.seq ≡ seq)

-- The log says what the node did. The outbox got the first of the node's frames, in order, with their stamps. Of the
-- parcels taken from the inbox, those for the node are those whose frames arrived, in order, and the one that waits.
-- Each that arrived has a smaller stamp than its arrival. The clock began at the first stamp, and gave each entry its
-- own.
pub record Tells (e : EngineState) (log : List Entry) (node : Kept) : Type 0 where
  pub trail : Trail
  pub tells : IsLogOf e.config e.me trail log node
  pub sent : (x : Parcel) → Has e.outbox.put x
      → slice_get (made_in e.config e.me trail) x.frame.seq ≡ Some (stamped x.stamp x.frame)
  pub handed : StartsWith (made_in e.config e.me trail) (map made_of e.outbox.put)
  pub serves : Serves e.config e.me log trail (map (λ m. m.1) (taken_at e.desk))
  pub parcels : List Parcel
  pub arrived : AreArrivals trail parcels
  pub taken_in : parcels_for e.me e.inbox.taken ≡ parcels ++ option_to_list e.waiting
  pub stamps : Follows (CameIn e.inbox.taken) e.config.first_stamp log
  pub made : map (λ m. m.stamp) (made_in e.config e.me trail) ≡ stamps_made log

-- what was put into each tray is a prefix of its client's feed
abbrev pub WereTold : List Entry → List (PutterEnd Notice) → Type 0
WereTold log trays =
    (c : ℕ) (tray : PutterEnd Notice) → slice_get trays c ≡ Some tray → StartsWith (feed log c) tray.put
