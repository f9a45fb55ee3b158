-- The main promise, for every list of events and the replies that the definitions give. Then what it depends on: the
-- answers about deliveries and decisions are what readers show; decisions shown keep the promise too; only slots that
-- were taken are acknowledged. Last, if no fault is tolerated, both modes are the same.
use Rattle.std.specs.Prelude.{◌≡◌, ◌<◌, ℕ, ◌*◌, true, List, [], Some}
use Rattle.std.specs.List.{Contains, cons_option, filter_map}
use Rattle.cast_message.specs.declared.config.Config.{Config}
use Rattle.cast_message.specs.declared.config.Mode.{Mode}
use Rattle.cast_message.specs.declared.event.Event.{Event}
use Rattle.cast_message.specs.declared.message.Item.TheVariants.{Propose}
use Rattle.cast_message.specs.Limits.{fault_factor}
use Rattle.cast_model.specs.History.{History, stream, acked, taken}
use Rattle.cast_model.specs.Delivery.{nodes_of, delivered, decision}
use Rattle.cast_model.specs.Headline.{AtMost, answered, decided_at, DeliversPrefixes, DeliversNothingAfterClose, DecidesProposals, DecidesFewValues, DecidesWithinFaults}
use Rattle.cast_model.specs.Replies.{IsAccepted, history, replies}

abbrev pub AllRunsDeliverPrefixes : Type 0
AllRunsDeliverPrefixes = (config : Config) (events : List Event) → DeliversPrefixes config events (replies config events)

abbrev pub AllRunsCloseStreams : Type 0
AllRunsCloseStreams = (config : Config) (events : List Event) → DeliversNothingAfterClose events (replies config events)

abbrev pub AllRunsDecideProposals : Type 0
AllRunsDecideProposals = (config : Config) (events : List Event) → DecidesProposals config events (replies config events)

abbrev pub AllRunsDecideFewValues : Type 0
AllRunsDecideFewValues = (config : Config) (events : List Event) → DecidesFewValues config (replies config events)

abbrev pub AllRunsDecideWithinFaults : Type 0
AllRunsDecideWithinFaults = (config : Config) (events : List Event) → DecidesWithinFaults config (replies config events)

-- the deliveries in the answers are what a node has delivered, even a crashed one
abbrev pub AllRunsAnswerWhatIsDelivered : Type 0
AllRunsAnswerWhatIsDelivered = (config : Config) (events : List Event) (q s : ℕ) →
    answered events (replies config events) q s ≡ delivered config (history config events) q s

-- the decision in the answers, once or never, is the value that the node shows for the instance
abbrev pub AllRunsAnswerWhatIsDecided : Type 0
AllRunsAnswerWhatIsDecided = (config : Config) (events : List Event) (q j : ℕ) →
    decided_at events (replies config events) q j ≡ cons_option (decision config (history config events) q j) []

-- what nodes show as decided in an instance
abbrev pub decisions_shown : Config → History → ℕ → List ℕ
decisions_shown config past j = filter_map (λ q. decision config past q j) (nodes_of config)

-- a value that a node shows as decided was proposed in its instance by a node of the group
abbrev pub AllNodesShowProposals : Type 0
AllNodesShowProposals = (config : Config) (past : History) → IsAccepted config past →
    (q j v : ℕ) → decision config past q j ≡ Some v →
    (s : ℕ) × (s < config.nodes) × Contains (stream past s) (Propose j v)

-- nodes show at most k values of an instance, if the faults are fewer than k
abbrev pub AllNodesShowFewValues : Type 0
AllNodesShowFewValues = (config : Config) (past : History) → IsAccepted config past → config.faults < config.choices →
    (j : ℕ) → AtMost config.choices (decisions_shown config past j)

-- q took each slot of which p has q's acknowledgement
abbrev pub OnlyTakenSlotsAreAcknowledged : Type 0
OnlyTakenSlotsAreAcknowledged = (config : Config) (past : History) → IsAccepted config past →
    (p q slot : ℕ) → acked past p q slot ≡ true → taken past p q slot ≡ true

-- the configuration in another mode, whose range it satisfies
abbrev pub in_mode : (config : Config) (mode : Mode) → fault_factor mode * config.faults < config.nodes → Config
in_mode config mode in_range = record config { mode = mode; mode_in_range = in_range }

-- if no fault is tolerated, the mode makes no difference to any reply
abbrev pub NoFaultsMakeModesOne : Type 0
NoFaultsMakeModesOne = (config : Config) → config.faults ≡ 0 → (mode : Mode) (in_range : fault_factor mode * config.faults < config.nodes) →
    (events : List Event) → replies (in_mode config mode in_range) events ≡ replies config events
