-- The main promise, for any list of events and the replies to them: its words, and then its clauses.
--     answered events replies q s    what q delivered from s, by the replies
--     decided replies j              the values decided in instance j, by the replies
--     decided_at events replies q j  those that q decided
--     DeliversPrefixes               FIFO order and integrity (Hadzilacos and Toueg, TR 94-1425)
--     DeliversNothingAfterClose      nothing is delivered after a close (this project's profile)
--     DecidesProposals               validity of k-set agreement (Chaudhuri 1993)
--     DecidesFewValues               its agreement, if the faults are fewer than k
--     DecidesWithinFaults            the source of its agreement, for any k
use Rattle.std.specs.Prelude.{◌≡◌, ℕ, suc, ◌+◌, ◌<◌, ◌≤◌, ◌==◌, nat_eq, Bool, if◌then◌else◌, List, [], ◌∷◌, ◌++◌, length, slice_get, Option, Some, None, Result, Ok, Err}
use Rattle.std.specs.List.{filter, filter_map, All, Contains, IsDistinct}
use Rattle.cast_message.specs.declared.config.Config.{Config}
use Rattle.cast_message.specs.declared.event.Event.{Event}
use Rattle.cast_message.specs.declared.event.Event.TheVariants.{Order}
use Rattle.cast_message.specs.declared.event.Answer.{Answer}
use Rattle.cast_message.specs.declared.event.Answer.TheVariants.{Ordered, Sent, Arrived, Down}
use Rattle.cast_message.specs.declared.event.Outcome.{Outcome}
use Rattle.cast_message.specs.declared.event.StepFault.{StepFault}
use Rattle.cast_message.specs.declared.message.Decision.{Decision}
use Rattle.cast_message.specs.declared.message.Item.TheVariants.{Propose, Close}
use Rattle.cast_message.specs.declared.message.Message.{Message}
use Rattle.cast_model.specs.History.{broadcast, stream}
use Rattle.cast_model.specs.Replies.{history}

-- ---- its words

-- this part of the outcome of an answer, if the event is at q
abbrev pub brought_at : {X : Type 0} → (Outcome → List X) → ℕ → Event → Answer → List X
brought_at read q (Order node item) (Ordered number outcome) = if node == q then read outcome else []
brought_at read q event (Arrived node outcome) = if node == q then read outcome else []
brought_at read q event _ = []

-- what an answer to an event says was delivered at q
abbrev pub deliveries_at : ℕ → Event → Answer → List Message
deliveries_at = brought_at (λ outcome. outcome.deliveries)

abbrev pub deliveries_for : ℕ → Event → Result Answer StepFault → List Message
deliveries_for q event (Ok a) = deliveries_at q event a
deliveries_for q event (Err refusal) = []

-- the message is from s
abbrev pub is_from : ℕ → Message → Bool
is_from s message = message.sender == s

-- the messages of s in the outcomes of q's events, in order
unfoldable pub answered : List Event → List (Result Answer StepFault) → ℕ → ℕ → List Message
answered [] results q s = []
answered (event ∷ events) [] q s = []
answered (event ∷ events) (result ∷ results) q s =
    filter (is_from s) (deliveries_for q event result) ++ answered events results q s

abbrev pub decisions_in_answer : Answer → List Decision
decisions_in_answer (Ordered number outcome) = outcome.decisions
decisions_in_answer (Sent seq) = []
decisions_in_answer (Arrived node outcome) = outcome.decisions
decisions_in_answer Down = []

abbrev pub decisions_in : Result Answer StepFault → List Decision
decisions_in (Ok a) = decisions_in_answer a
decisions_in (Err refusal) = []

abbrev pub value_for : ℕ → Decision → Option ℕ
value_for j decision = if decision.instance == j then Some decision.value else None

-- the values of the decisions of instance j, in order
unfoldable pub decided : List (Result Answer StepFault) → ℕ → List ℕ
decided [] j = []
decided (result ∷ results) j = filter_map (value_for j) (decisions_in result) ++ decided results j

-- what an answer to an event says was decided at q
abbrev pub decisions_at : ℕ → Event → Answer → List Decision
decisions_at = brought_at (λ outcome. outcome.decisions)

abbrev pub decisions_for : ℕ → Event → Result Answer StepFault → List Decision
decisions_for q event (Ok a) = decisions_at q event a
decisions_for q event (Err refusal) = []

-- the values that q decided in instance j, by the replies to its events, in order
unfoldable pub decided_at : List Event → List (Result Answer StepFault) → ℕ → ℕ → List ℕ
decided_at [] results q j = []
decided_at (event ∷ events) [] q j = []
decided_at (event ∷ events) (result ∷ results) q j =
    filter_map (value_for j) (decisions_for q event result) ++ decided_at events results q j

-- the first list is a prefix of the second
abbrev pub IsPrefixOf : {X : Type 0} → List X → List X → Type 0
IsPrefixOf {X} xs ys = (rest : List X) × (xs ++ rest ≡ ys)

-- only the last message may be a close
abbrev pub IsClosedOnlyAtEnd : List Message → Type 0
IsClosedOnlyAtEnd messages =
    (i : ℕ) (message : Message) → slice_get messages i ≡ Some message → message.item ≡ Close
    → suc i ≡ length messages

-- the list has at most k different values
abbrev pub AtMost : ℕ → List ℕ → Type 0
AtMost k values =
    (chosen : List ℕ) → IsDistinct nat_eq chosen → All (Contains values) chosen → length chosen ≤ k

-- ---- its clauses

-- what q delivers from s is a prefix of what s broadcast: each item once, in order and without gaps
abbrev pub DeliversPrefixes : Config → List Event → List (Result Answer StepFault) → Type 0
DeliversPrefixes config events results =
    (q s : ℕ) → IsPrefixOf (answered events results q s) (broadcast (history config events) s)

-- nothing from a sender is delivered after its close
abbrev pub DeliversNothingAfterClose : List Event → List (Result Answer StepFault) → Type 0
DeliversNothingAfterClose events results = (q s : ℕ) → IsClosedOnlyAtEnd (answered events results q s)

-- a decided value was proposed in its instance by a node of the group
abbrev pub DecidesProposals : Config → List Event → List (Result Answer StepFault) → Type 0
DecidesProposals config events results =
    (j v : ℕ) → Contains (decided results j) v
    → (s : ℕ) × (s < config.nodes) × Contains (stream (history config events) s) (Propose j v)

-- at most k values are decided in an instance, if the faults are fewer than k
abbrev pub DecidesFewValues : Config → List (Result Answer StepFault) → Type 0
DecidesFewValues config results =
    config.faults < config.choices → (j : ℕ) → AtMost config.choices (decided results j)

-- at most one more value is decided in an instance than there are tolerated faults
abbrev pub DecidesWithinFaults : Config → List (Result Answer StepFault) → Type 0
DecidesWithinFaults config results = (j : ℕ) → AtMost (config.faults + 1) (decided results j)
