-- Rest, and the events of one round.
--     owed past p q        the slots of p's gifts to q that are not acknowledged
--     Rest config past     no live node owes another live node
--     plan config past     the events of one round
--     HoldTheSame config past          all live nodes hold the same pairs
--     AreAccepted config past events   the events are accepted, one after another
--     AcceptedUntilFull                the same, up to the first at a node whose frames are full
use Rattle.std.specs.Prelude.{◌≡◌, ◌≢◌, ℕ, ◌+◌, ◌==◌, ◌<◌, ◌≤◌, not, ◌||◌, if◌then◌else◌, IsTrue, Bool, true, false, List, [], ◌∷◌, ◌++◌, length, map}
use Rattle.std.specs.Prelude.{Some, None, ◌⊎◌}
use Rattle.std.specs.List.{filter, flat_map, count_by, list_any, range_with_len}
use Rattle.cast_message.specs.declared.config.Config.{Config}
use Rattle.cast_message.specs.declared.event.Event.{Event}
use Rattle.cast_message.specs.declared.event.StepFault.TheVariants.{FramesFull}
use Rattle.cast_message.specs.declared.event.Event.TheVariants.{Send, Ack, Arrive}
use Rattle.cast_model.specs.History.{History, is_live, has_pair, first, given, frames, acked}
use Rattle.cast_message.specs.declared.config.Mode.{Mode}
use Rattle.cast_message.specs.declared.config.Mode.TheVariants.{Basic, Uniform}
use Rattle.cast_message.specs.Items.{proposes_in}
use Rattle.cast_model.specs.Delivery.{nodes_of, delivered}
use Rattle.cast_model.specs.Replies.{fault, history_from}

-- the slots given to q that it has not acknowledged to p, ascending
unfoldable pub owed : History → ℕ → ℕ → List ℕ
owed past p q = filter (λ slot. not (acked past p q slot)) (range_with_len 0 (length (given past p q)))

-- no live node owes another live node
pub record Rest (config : Config) (past : History) : Type 0 where
  pub settled : (p q : ℕ) → p < config.nodes → q < config.nodes → IsTrue (is_live past p)
      → IsTrue (is_live past q) → p ≢ q → owed past p q ≡ []

-- A slot that must be sent in a round.
pub record Due : Type 0 where
  pub from : ℕ
  pub to : ℕ
  pub slot : ℕ

unfoldable pub due_between : History → ℕ → ℕ → List Due
due_between past p q =
    if p == q then [] else map (λ slot. record { from = p; to = q; slot = slot }) (owed past p q)

unfoldable pub live_nodes : Config → History → List ℕ
live_nodes config past = filter (is_live past) (nodes_of config)

-- the slots that live nodes owe live nodes, by giver, then by taker, ascending
unfoldable pub due : Config → History → List Due
due config past =
    flat_map (λ p. flat_map (λ q. due_between past p q) (live_nodes config past)) (live_nodes config past)

-- how many frames p makes for these: one for each Send and each Ack of its own
unfoldable pub frames_for : List Due → ℕ → ℕ
frames_for before p = count_by (λ d. d.from == p || d.to == p) before

-- the four events for one slot, after those for the slots before it
unfoldable pub events_for : History → List Due → Due → List Event
events_for past before d =
    Send d.from d.to d.slot
    ∷ Arrive d.from (length (frames past d.from) + frames_for before d.from)
    ∷ Ack d.to d.from d.slot
    ∷ Arrive d.to (length (frames past d.to) + frames_for before d.to)
    ∷ []

unfoldable pub plan_from : History → List Due → List Due → List Event
plan_from past before [] = []
plan_from past before (d ∷ ds) = events_for past before d ++ plan_from past (before ++ d ∷ []) ds

-- the events of one round
unfoldable pub plan : Config → History → List Event
plan config past = plan_from past [] (due config past)

-- the event makes a frame
abbrev pub makes_frame : Event → Bool
makes_frame (Send from to slot) = true
makes_frame (Ack from to slot) = true
makes_frame _ = false

-- the history after a round in which every event of the plan is tried
unfoldable pub after_round : Config → History → History
after_round config past = history_from config past (plan config past)

-- a live node of the group
pub record Live (config : Config) (past : History) (p : ℕ) : Type 0 where
  pub in_group : p < config.nodes
  pub alive : IsTrue (is_live past p)

-- all live nodes hold the same pairs
abbrev pub HoldTheSame : Config → History → Type 0
HoldTheSame config past =
    (p q s i : ℕ) → Live config past p → Live config past q → has_pair (first past p) s i ≡ true
    → has_pair (first past q) s i ≡ true

-- the events are accepted, one after another
unfoldable pub AreAccepted : Config → History → List Event → Type 0
AreAccepted config past [] = Unit {0}
AreAccepted config past (event ∷ events) =
    (fault config past event ≡ None) × AreAccepted config (event ∷ past) events

-- the same, up to the first at a node whose frames are full
unfoldable pub AcceptedUntilFull : Config → History → List Event → Type 0
AcceptedUntilFull config past [] = Unit {0}
AcceptedUntilFull config past (event ∷ events) =
    ((fault config past event ≡ None) × AcceptedUntilFull config (event ∷ past) events)
    ⊎ (fault config past event ≡ Some FramesFull)

-- no more nodes have crashed than are tolerated
abbrev pub HaveFewCrashed : Config → History → Type 0
HaveFewCrashed config past = length (filter (λ p. not (is_live past p)) (nodes_of config)) ≤ config.faults

-- the same is required in uniform mode, if any fault is tolerated
abbrev pub FewCrashedIn : Mode → Config → History → Type 0
FewCrashedIn Basic config past = Unit {0}
FewCrashedIn Uniform config past = 0 < config.faults → HaveFewCrashed config past

-- how many nodes' proposals in instance j are among p's deliveries
unfoldable pub proposers : Config → History → ℕ → ℕ → ℕ
proposers config past p j =
    count_by (λ s. list_any (λ message. proposes_in j message.item) (delivered config past p s))
    (nodes_of config)
