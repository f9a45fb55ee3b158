-- The promises about rounds and rest, for every accepted history.
use Rattle.std.specs.Prelude.{◌≡◌, ℕ, ◌-◌, ◌<◌, ◌≤◌, true, [], is_some}
use Rattle.cast_message.specs.declared.config.Config.{Config}
use Rattle.cast_message.specs.declared.config.Mode.TheVariants.{Uniform}
use Rattle.cast_message.specs.declared.event.Event.{Event}
use Rattle.cast_model.specs.History.{History, broadcast, has_pair, first, frames}
use Rattle.cast_model.specs.Delivery.{delivered, decision, knows, known_by}
use Rattle.cast_model.specs.Headline.{IsPrefixOf}
use Rattle.cast_model.specs.Replies.{IsAccepted, reply, after}
use Rattle.cast_model.specs.Rounds.{owed, Rest, Live, HoldTheSame, HaveFewCrashed, FewCrashedIn, AreAccepted, AcceptedUntilFull, due, plan, after_round, proposers}
use Rattle.cast_model.specs.Steps.{Step, steps_of}
use Rattle.cast_model.specs.OwnSteps.{IsStep, node_reply, node_after, own_frames, own_delivered, own_decision, own_owed, own_knows, own_known_by}

-- an event of a round is refused only if its node's frames are full
abbrev pub RefusesRoundsAsFullAlone : Type 0
RefusesRoundsAsFullAlone = (config : Config) (past : History) → AcceptedUntilFull config past (plan config past)

-- after a round each live node holds what some live node held before it
abbrev pub RoundsSpread : Type 0
RoundsSpread = (config : Config) (past : History) → IsAccepted config past → AreAccepted config past (plan config past) →
    (p q s i : ℕ) → Live config past p → Live config past q → has_pair (first past p) s i ≡ true →
    has_pair (first (after_round config past) q) s i ≡ true

-- after a round a live node holds nothing else
abbrev pub RoundsAddNothing : Type 0
RoundsAddNothing = (config : Config) (past : History) → IsAccepted config past → AreAccepted config past (plan config past) →
    (q s i : ℕ) → Live config past q → has_pair (first (after_round config past) q) s i ≡ true →
    (p : ℕ) × Live config past p × (has_pair (first past p) s i ≡ true)

-- if all live nodes held the same before a round, the group is at rest after it
abbrev pub RoundsRest : Type 0
RoundsRest = (config : Config) (past : History) → IsAccepted config past →
    AreAccepted config past (plan config past) → HoldTheSame config past → Rest config (after_round config past)

-- so after two rounds the group is at rest
abbrev pub TwoRoundsRest : Type 0
TwoRoundsRest = (config : Config) (past : History) → IsAccepted config past → AreAccepted config past (plan config past) →
    AreAccepted config (after_round config past) (plan config (after_round config past)) →
    Rest config (after_round config (after_round config past))

-- if nothing is due, the group is at rest; and if it is at rest, nothing is due
abbrev pub RestsWhereNothingIsDue : Type 0
RestsWhereNothingIsDue = (config : Config) (past : History) → due config past ≡ [] → Rest config past

abbrev pub NothingIsDueAtRest : Type 0
NothingIsDueAtRest = (config : Config) (past : History) → Rest config past → due config past ≡ []

-- at rest all live nodes have delivered the same from each sender
abbrev pub DeliversTheSameAtRest : Type 0
DeliversTheSameAtRest = (config : Config) (past : History) → IsAccepted config past → Rest config past →
    FewCrashedIn config.mode config past →
    (p q s : ℕ) → Live config past p → Live config past q → delivered config past p s ≡ delivered config past q s

-- at rest all live nodes have delivered the whole stream of each live sender
abbrev pub DeliversWholeStreamsAtRest : Type 0
DeliversWholeStreamsAtRest = (config : Config) (past : History) → IsAccepted config past → Rest config past →
    FewCrashedIn config.mode config past →
    (p s : ℕ) → Live config past p → Live config past s → delivered config past p s ≡ broadcast past s

-- at rest in uniform mode, live nodes have delivered all that any node delivered, even a crashed one, if no more have
-- crashed than are tolerated
abbrev pub DeliversWhatAnyDeliveredAtRest : Type 0
DeliversWhatAnyDeliveredAtRest = (config : Config) (past : History) → IsAccepted config past → Rest config past →
    config.mode ≡ Uniform → HaveFewCrashed config past →
    (p q s : ℕ) → Live config past p → IsPrefixOf (delivered config past q s) (delivered config past p s)

-- at rest, an instance that one live node decided is decided by every live node
abbrev pub DecidesTheSameAtRest : Type 0
DecidesTheSameAtRest = (config : Config) (past : History) → IsAccepted config past → Rest config past →
    FewCrashedIn config.mode config past →
    (p q j : ℕ) → Live config past p → Live config past q → is_some (decision config past p j) ≡ is_some (decision config past q j)

-- at rest, an instance is decided by every live node if enough senders' proposals are among the common deliveries
abbrev pub DecidesWhatIsProposedAtRest : Type 0
DecidesWhatIsProposedAtRest = (config : Config) (past : History) → IsAccepted config past → Rest config past →
    FewCrashedIn config.mode config past →
    (p q j : ℕ) → Live config past p → Live config past q →
    config.nodes - config.faults ≤ proposers config past p j → is_some (decision config past q j) ≡ true

-- a node answers from its own steps as the group does
abbrev pub NodesAnswerAsTheGroup : Type 0
NodesAnswerAsTheGroup = (config : Config) (past : History) → IsAccepted config past → (me : ℕ) → me < config.nodes →
    (event : Event) (step : Step) → IsStep past me event step →
    node_reply config me (steps_of past me) step ≡ reply config past event

-- a node's steps go on like those in the group
abbrev pub NodesStepAsTheGroup : Type 0
NodesStepAsTheGroup = (config : Config) (past : History) → IsAccepted config past → (me : ℕ) → me < config.nodes →
    (event : Event) (step : Step) → IsStep past me event step →
    node_after config me (steps_of past me) step ≡ steps_of (after config past event) me

-- a node makes the frames that the group says
abbrev pub NodesMakeTheFrames : Type 0
NodesMakeTheFrames = (config : Config) (past : History) → IsAccepted config past → (me : ℕ) →
    own_frames me (steps_of past me) ≡ frames past me

-- a node delivers what the group says
abbrev pub NodesDeliverAsTheGroup : Type 0
NodesDeliverAsTheGroup = (config : Config) (past : History) → IsAccepted config past → (me s : ℕ) →
    own_delivered config me (steps_of past me) s ≡ delivered config past me s

-- a node decides what the group says
abbrev pub NodesDecideAsTheGroup : Type 0
NodesDecideAsTheGroup = (config : Config) (past : History) → IsAccepted config past → (me j : ℕ) →
    own_decision config me (steps_of past me) j ≡ decision config past me j

-- a node owes what the group says
abbrev pub NodesOweAsTheGroup : Type 0
NodesOweAsTheGroup = (past : History) (me q : ℕ) → own_owed me (steps_of past me) q ≡ owed past me q

-- a node knows as many holders of a pair as the group says
abbrev pub NodesKnowHoldersAsTheGroup : Type 0
NodesKnowHoldersAsTheGroup = (config : Config) (past : History) (me s i : ℕ) →
    own_known_by config me (steps_of past me) s i ≡ known_by config past me s i

-- a node knows the same holders of a pair as the group says
abbrev pub NodesKnowWhoHoldsAsTheGroup : Type 0
NodesKnowWhoHoldsAsTheGroup = (past : History) (me s i r : ℕ) → own_knows me (steps_of past me) s i r ≡ knows past me s i r
