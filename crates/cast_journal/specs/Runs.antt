-- What an engine did, entry by entry: its log as a function of it, and how it relates to its boxes.
--     Read, Run                        an entry with its step or order; all of them, newest first
--     trail_of run                     the steps
--     log_of config p run              the log
--     orders_of run                    the orders, accepted or refused, in order
--     IsRun config p run               each step was taken, and each order refused, at its place
--     clock_after first run            the clock, which began at `first`
--     AreStamped first run             each arrival's stamp is one above the greater of the clock's and its parcel's
--     parcels_of run                   the parcels that arrived, in order
--     parcels_for p taken              those of the parcels taken that are for this node
--     AreArrivals trail xs             the frames that arrived came in these parcels, in order, each sent before
--     arrivals_in trail                the frames that arrived, newest first
--     made_of x                        the frame of a parcel, with the stamp of the step that made it
use Rattle.std.specs.Prelude.{◌≡◌, ◌⊎◌, ℕ, ◌+◌, ◌<◌, ◌==◌, max, Bool, true, false, List, [], ◌∷◌, ◌++◌, map, Option, Some, None}
use Rattle.std.specs.List.{filter}
use Rattle.std.specs.Option.{option_to_list}
use Rattle.cast_message.specs.declared.config.Config.{Config}
use Rattle.cast_message.specs.declared.event.StepFault.{StepFault}
use Rattle.cast_message.specs.declared.message.Frame.{Frame}
use Rattle.cast_model.specs.Replies.{IsRefused}
use Rattle.cast_model.specs.Steps.{Step, Ordered, Arrived, Steps}
use Rattle.cast_model.specs.OwnSteps.{own_fault, node_reply}
use Rattle.cast_log.specs.declared.entry.Origin.{Origin}
use Rattle.cast_log.specs.declared.entry.Entry.{Entry}
use Rattle.cast_log.specs.declared.entry.EntryKind.TheVariants.{Step as StepEntry, Refused}
use Rattle.cast_node.specs.Kept.{Kept}
use Rattle.cast_node.specs.Stands.{Stands}
use Rattle.cast_node.specs.Turns.{may_want}
use Rattle.cast_journal.specs.declared.order.OrderIn.{OrderIn}
use Rattle.cast_journal.specs.declared.parcel.Parcel.{Parcel}
use Rattle.cast_journal.specs.Lists.{Has}
use Rattle.cast_node.specs.Linked.{StampedStep, Made, Trail, event_of, outcome_in, steps_in, made_in, kept_in, stamped, IsFor}

-- an entry, and its step or order
pub data Read : Type 0 where
  Moved : (stamp : ℕ) (step : Step) → Read  -- a step by which no order and no parcel was taken
  Came : (stamp : ℕ) (x : Parcel) → Read
  Served : (stamp : ℕ) (order : OrderIn) → Read
  Denied : (stamp : ℕ) (order : OrderIn) (fault : StepFault) → Read

-- what an engine did, newest first
abbrev pub Run : Type 0
Run = List Read

abbrev pub mark : ℕ → Step → StampedStep
mark stamp step = record { stamp = stamp; step = step }

abbrev pub with_mark : Read → Trail → Trail
with_mark (Moved stamp step) trail = mark stamp step ∷ trail
with_mark (Came stamp x) trail = mark stamp (Arrived x.frame) ∷ trail
with_mark (Served stamp order) trail = mark stamp (Ordered order.item) ∷ trail
with_mark (Denied stamp order fault) trail = trail

-- the steps, newest first
unfoldable pub trail_of : Run → Trail
trail_of [] = []
trail_of (r ∷ rs) = with_mark r (trail_of rs)

abbrev pub origin_of : OrderIn → Origin
origin_of order = record { client = order.client; ticket = order.ticket }

abbrev pub step_entry : Config → ℕ → Steps → ℕ → Step → Option Origin → Entry
step_entry config p steps stamp step origin = record {
  stamp = stamp;
  kind = StepEntry (event_of p step) origin (outcome_in (node_reply config p steps step));
}

abbrev pub entry_by : Config → ℕ → Steps → Read → Entry
entry_by config p steps (Moved stamp step) = step_entry config p steps stamp step None
entry_by config p steps (Came stamp x) = step_entry config p steps stamp (Arrived x.frame) None
entry_by config p steps (Served stamp order) =
    step_entry config p steps stamp (Ordered order.item) (Some (origin_of order))
entry_by config p steps (Denied stamp order fault) =
    record { stamp = stamp; kind = Refused (origin_of order) fault }

-- the log
unfoldable pub log_of : Config → ℕ → Run → List Entry
log_of config p [] = []
log_of config p (r ∷ rs) = log_of config p rs ++ entry_by config p (steps_in config p (trail_of rs)) r ∷ []

abbrev pub order_by : Read → List OrderIn
order_by (Moved stamp step) = []
order_by (Came stamp x) = []
order_by (Served stamp order) = order ∷ []
order_by (Denied stamp order fault) = order ∷ []

-- the orders, in order
unfoldable pub orders_of : Run → List OrderIn
orders_of [] = []
orders_of (r ∷ rs) = orders_of rs ++ order_by r

-- the step takes no order and no frame
abbrev pub is_own : Step → Bool
is_own (Ordered item) = false
is_own (Arrived frame) = false
is_own _ = true

abbrev pub IsRead : Config → ℕ → Steps → Read → Type 0
IsRead config p steps (Moved stamp step) =
    (own_fault config p steps step ≡ None) × IsFor p step × (is_own step ≡ true)
IsRead config p steps (Came stamp x) =
    (own_fault config p steps (Arrived x.frame) ≡ None) × (x.frame.to ≡ p)
IsRead config p steps (Served stamp order) = own_fault config p steps (Ordered order.item) ≡ None
IsRead config p steps (Denied stamp order fault) =
    IsRefused (own_fault config p steps (Ordered order.item)) fault

-- each step was taken, and each refused order refused, at its place
unfoldable pub IsRun : Config → ℕ → Run → Type 0
IsRun config p [] = Unit {0}
IsRun config p (r ∷ rs) = IsRun config p rs × IsRead config p (steps_in config p (trail_of rs)) r

abbrev pub parcel : ℕ → Frame → Parcel
parcel stamp frame = record { stamp = stamp; frame = frame }

abbrev pub stamp_of : Read → ℕ
stamp_of (Moved stamp step) = stamp
stamp_of (Came stamp x) = stamp
stamp_of (Served stamp order) = stamp
stamp_of (Denied stamp order fault) = stamp

-- the clock is the stamp of the last entry
unfoldable pub clock_after : ℕ → Run → ℕ
clock_after first [] = first
clock_after first (r ∷ rs) = stamp_of r

abbrev pub IsStamped : ℕ → Read → Type 0
IsStamped clock (Came stamp x) = stamp ≡ max clock x.stamp + 1
IsStamped clock _ = Unit {0}

-- the stamp of each arrival is one above the greater of the clock's and the parcel's
unfoldable pub AreStamped : ℕ → Run → Type 0
AreStamped first [] = Unit {0}
AreStamped first (r ∷ rs) = AreStamped first rs × IsStamped (clock_after first rs) r

abbrev pub parcel_by : Read → List Parcel
parcel_by (Came stamp x) = x ∷ []
parcel_by _ = []

-- the parcels that arrived, in order
unfoldable pub parcels_of : Run → List Parcel
parcels_of [] = []
parcels_of (r ∷ rs) = parcels_of rs ++ parcel_by r

-- those of the taken parcels that are for this node
abbrev pub parcels_for : ℕ → List (ℕ × Parcel) → List Parcel
parcels_for p taken = filter (λ x. x.frame.to == p) (map (λ m. m.1) taken)

abbrev pub made_of : Parcel → Made
made_of x = stamped x.stamp x.frame

abbrev pub arrived_by : Step → List Frame
arrived_by (Arrived frame) = frame ∷ []
arrived_by _ = []

-- the frames that arrived in these steps, newest first
unfoldable pub arrivals_in : Trail → List Frame
arrivals_in [] = []
arrivals_in (mark ∷ trail) = arrived_by mark.step ++ arrivals_in trail

-- what a step adds to the parcels that arrived before it
abbrev pub Adds : ℕ → Step → List Parcel → List Parcel → Type 0
Adds stamp (Arrived frame) before xs =
    (x : Parcel) × (xs ≡ before ++ x ∷ []) × (x.frame ≡ frame) × (x.stamp < stamp)
Adds stamp _ before xs = xs ≡ before

-- the frames that arrived in these steps came in these parcels, in order, each with a smaller stamp than its arrival
unfoldable pub AreArrivals : Trail → List Parcel → Type 0
AreArrivals [] xs = xs ≡ []
AreArrivals (mark ∷ trail) xs =
    (before : List Parcel) × AreArrivals trail before × Adds mark.stamp mark.step before xs

-- some node could have made the frame for this one, and it may have an effect
abbrev pub MayCome : Kept → Frame → Type 0
MayCome kept frame = may_want kept frame ≡ true

-- what a log, a node and boxes say about an engine
pub record EngineKeeps (config : Config) (p : ℕ) (kept : Kept) (log : List Entry) (clock : ℕ)
    (put : List Parcel) (held : Option Parcel) (taken : List (ℕ × Parcel)) (waiting : Option Parcel)
    (orders : List (ℕ × OrderIn)) : Type 0 where
  pub run : Run
  pub runs : IsRun config p run
  pub is_log : log ≡ log_of config p run
  pub stands : Stands config p (steps_in config p (trail_of run)) kept
  pub reached : kept ≡ kept_in config p (trail_of run)
  -- what was put into the outbox, followed by what it refused last, are the node's frames, in order, with the stamps of
  -- their steps
  pub handed : map made_of (put ++ option_to_list held) ≡ made_in config p (trail_of run)
  pub time : clock ≡ clock_after config.first_stamp run
  pub stamped : AreStamped config.first_stamp run
  -- the taken parcels for this node arrived, in order, except the one that waits
  pub taken_in : parcels_for p taken ≡ parcels_of run ++ option_to_list waiting
  -- the orders are those taken from the desk, one for one
  pub ordered : orders_of run ≡ map (λ m. m.1) orders

-- a parcel was put into the outbox, or waits
abbrev pub Handed : List Parcel → List Parcel → Option Parcel → Parcel → Type 0
Handed put put' held' x = ((put' ≡ put ++ x ∷ []) × (held' ≡ None)) ⊎ ((put' ≡ put) × (held' ≡ Some x))

-- a frame came in a parcel with a smaller stamp
abbrev pub CameBefore : List (ℕ × Parcel) → ℕ → Frame → Type 0
CameBefore taken stamp frame =
    (number : ℕ) × (sent : ℕ) × Has taken (number, parcel sent frame) × (sent < stamp)
