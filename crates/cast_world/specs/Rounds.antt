-- The result of a round, and what holds after it and at rest.
--     TakesAll config past events result world   the events were taken, or those before one that was refused
--     TakesRound config past result world        the same for the plan of a round
--     TakesSilently config past events world     the events were taken, and none of them delivered or decided anything
--     Spreads config past               after the round each live node holds exactly what some live node held before it
--     IsSettled past p q                p and q are not both live, or p owes q nothing
--     IsFirstGiver config past p        the least live node that owes a live node a slot
--     AgreesAtRest config past          the live nodes have delivered the same, and decided the same instances
--     HaveWhatAnyDelivered config past  the live nodes have delivered what any node delivered
use Rattle.std.specs.Prelude.{◌≡◌, ◌≢◌, ℕ, IsTrue, ◌-◌, ◌+◌, ◌≤◌, ◌<◌, true, List, [], ◌∷◌, ◌++◌, is_some, Option, Some, None, slice_index_or, length, Result, Ok, Err}
use Rattle.std.specs.List.{count_by}
use Rattle.cast_message.specs.declared.config.Config.{Config}
use Rattle.cast_message.specs.declared.event.Event.{Event}
use Rattle.cast_message.specs.declared.event.StepFault.{StepFault}
use Rattle.cast_message.specs.declared.event.StepFault.TheVariants.{FramesFull, Memory}
use Rattle.cast_model.specs.History.{History, is_live, broadcast, has_pair, first}
use Rattle.cast_model.specs.Delivery.{delivered, decision}
use Rattle.cast_model.specs.Headline.{IsPrefixOf}
use Rattle.cast_model.specs.Replies.{IsRefused, fault, reply, history_from}
use Rattle.cast_model.specs.Rounds.{owed, Rest, Due, Live, AreAccepted, makes_frame, plan, after_round, proposers}
use Rattle.cast_world.specs.Group.{State, Stands, marks_at}
use Rattle.cast_world.specs.Moves.{IsSilent}
use Rattle.cast_world.specs.Plans.{events_of}

-- these were taken, and the next one was refused
pub record Stops (config : Config) (past : History) (events : List Event)
    (refusal : StepFault) (world : State) : Type 0 where
  pub front : List Event
  pub event : Event
  pub rest : List Event
  pub split : events ≡ front ++ event ∷ rest
  pub accepted : AreAccepted config past front
  pub refused : IsRefused (fault config (history_from config past front) event) refusal
  pub stands : Stands config (history_from config past front) world

abbrev pub TakesAll : Config → History → List Event → Result (Unit {0}) StepFault → State → Type 0
TakesAll config past events (Ok done) world =
    AreAccepted config past events × Stands config (history_from config past events) world
TakesAll config past events (Err refusal) world = Stops config past events refusal world

-- the events were taken, and none of them delivered or decided anything
unfoldable pub TakesSilently : Config → History → List Event → State → Type 0
TakesSilently config past [] world = Stands config past world
TakesSilently config past (event ∷ events) world =
    IsSilent (reply config past event) × TakesSilently config (event ∷ past) events world

-- why a round stops with these events left: the next event's node has made all its frames; or the event has no fault,
-- but memory ran out
abbrev pub StopsFor : Config → History → List Event → StepFault → Type 0
StopsFor config now (event ∷ rest) FramesFull = fault config now event ≡ Some FramesFull
StopsFor config now (event ∷ rest) Memory = fault config now event ≡ None
StopsFor config now rest refusal = ⊥

pub record StopsRound (config : Config) (past : History) (refusal : StepFault) (world : State)
    : Type 0 where
  pub front : List Event
  pub rest : List Event
  pub split : plan config past ≡ front ++ rest
  pub accepted : AreAccepted config past front
  pub cause : StopsFor config (history_from config past front) rest refusal
  pub stands : Stands config (history_from config past front) world

-- all events of the plan were taken, and `made` of them made a frame
pub record EndsRound (config : Config) (past : History) (made : ℕ) (world : State) : Type 0 where
  pub accepted : AreAccepted config past (plan config past)
  pub frames : made ≡ count_by makes_frame (plan config past)
  pub stands : Stands config (after_round config past) world

abbrev pub TakesRound : Config → History → Result ℕ StepFault → State → Type 0
TakesRound config past (Ok made) world = EndsRound config past made world
TakesRound config past (Err refusal) world = StopsRound config past refusal world

-- after the round a live node holds exactly what some live node held before it
pub record Spreads (config : Config) (past : History) : Type 0 where
  pub all : (p q s i : ℕ) → Live config past p → Live config past q →
      has_pair (first past p) s i ≡ true → has_pair (first (after_round config past) q) s i ≡ true
  pub no_more : (q s i : ℕ) → Live config past q →
      has_pair (first (after_round config past) q) s i ≡ true →
      (p : ℕ) × Live config past p × (has_pair (first past p) s i ≡ true)

-- one of the two is not live, or the first owes the other nothing
abbrev pub IsSettled : History → ℕ → ℕ → Type 0
IsSettled past p q = IsTrue (is_live past p) → IsTrue (is_live past q) → p ≢ q → owed past p q ≡ []

abbrev pub IsSettledWithAll : Config → History → ℕ → Type 0
IsSettledWithAll config past p = (q : ℕ) → q < config.nodes → IsSettled past p q

-- the least live node that owes a live node a slot; if there is none, the group is at rest
abbrev pub IsFirstGiver : Config → History → Option ℕ → Type 0
IsFirstGiver config past None = Rest config past
IsFirstGiver config past (Some p) =
    (p < config.nodes) × ((q : ℕ) → q < p → IsSettledWithAll config past q)
    × (IsSettledWithAll config past p → ⊥)

-- All live nodes have delivered the same list from each sender, and the whole stream of a live one. Each decided an
-- instance if one of them did, or if they delivered proposals of enough senders.
pub record AgreesAtRest (config : Config) (past : History) : Type 0 where
  pub same : (p q s : ℕ) → Live config past p → Live config past q →
      delivered config past p s ≡ delivered config past q s
  pub whole : (p s : ℕ) → Live config past p → Live config past s →
      delivered config past p s ≡ broadcast past s
  pub decided : (p q j : ℕ) → Live config past p → Live config past q →
      is_some (decision config past p j) ≡ is_some (decision config past q j)
  pub proposed : (p q j : ℕ) → Live config past p → Live config past q →
      config.nodes - config.faults ≤ proposers config past p j →
      is_some (decision config past q j) ≡ true

-- each live node has delivered what any node delivered, even a crashed one
abbrev pub HaveWhatAnyDelivered : Config → History → Type 0
HaveWhatAnyDelivered config past = (p q s : ℕ) → Live config past p →
    IsPrefixOf (delivered config past q s) (delivered config past p s)

-- the events for one slot, if the nodes have made this many frames more than in the world
abbrev pub events_after : State → List ℕ → Due → List Event
events_after world made d =
    events_of d (length (marks_at world d.from) + slice_index_or made d.from 0)
    (length (marks_at world d.to) + slice_index_or made d.to 0)
