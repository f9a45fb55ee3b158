-- What clients are notified of, compared with what a group broadcasts and decides.
--     HasGot config world p c got  client c of node p got these notices, a prefix of the feed of that node's log in the world
--     told notices                the deliveries in these notices, in order
--     of_sender s messages        those of these messages that s sent
--     values_told j notices       the values decided in instance j by these notices, in order
--     ordered_in log              the items of the orders that a log took, in order
--     TellsOrders                 a client's deliveries from a sender are a prefix of the items that the sender's log took
--     TellsPrefixes               a client's deliveries from each sender are a prefix of what that sender broadcast
--     TellsNumbers                if a client's order got a number, its item has that number in its node's stream
--     TellsDecisions              a client sees nothing of an instance, or the value that the node decided, once
--     TellsProposals              each value was proposed in its instance
--     TellsFewValues              all clients together see at most k values, if the faults are fewer than k
use Rattle.std.specs.Prelude.{◌≡◌, ℕ, ◌<◌, ◌≤◌, nat_eq, List, [], ◌∷◌, ◌++◌, length, map, slice_get, Option, Some, None, Ok}
use Rattle.std.specs.List.{filter, filter_map, cons_option, All, Contains, IsDistinct}
use Rattle.cast_message.specs.declared.config.Config.{Config}
use Rattle.cast_message.specs.declared.event.Event.TheVariants.{Order}
use Rattle.cast_message.specs.declared.event.Outcome.{Outcome}
use Rattle.cast_message.specs.declared.message.Item.{Item}
use Rattle.cast_message.specs.declared.message.Item.TheVariants.{Propose}
use Rattle.cast_message.specs.declared.message.Message.{Message}
use Rattle.cast_message.specs.declared.message.Decision.{Decision}
use Rattle.cast_model.specs.History.{History, stream}
use Rattle.cast_model.specs.Delivery.{decision}
use Rattle.cast_model.specs.Headline.{IsPrefixOf, is_from, value_for}
use Rattle.cast_model.specs.Shown.{item_of}
use Rattle.cast_box.specs.Lists.{StartsWith}
use Rattle.cast_log.specs.declared.entry.Entry.{Entry}
use Rattle.cast_log.specs.declared.entry.EntryKind.{EntryKind}
use Rattle.cast_log.specs.declared.entry.EntryKind.TheVariants.{Step as StepEntry}
use Rattle.cast_desk.specs.declared.notice.Notice.{Notice}
use Rattle.cast_desk.specs.declared.notice.Notice.TheVariants.{Reply, Delivered, Decided}
use Rattle.cast_desk.specs.Feed.{feed}
use Rattle.cast_node.specs.declared.report.NodeReport.{NodeReport}
use Rattle.cast_node.specs.Linked.{Trail, IsLogOf, Linked}
use Rattle.cast_world.specs.Group.{State, Stands, node_at}

abbrev pub message_told : Notice → Option Message
message_told (Delivered message) = Some message
message_told (Reply ticket outcome) = None
message_told (Decided decision) = None

abbrev pub told : List Notice → List Message
told notices = filter_map message_told notices

abbrev pub of_sender : ℕ → List Message → List Message
of_sender s messages = filter (is_from s) messages

abbrev pub item_ordered : EntryKind → List Item
item_ordered (StepEntry (Order node item) origin outcome) = item ∷ []
item_ordered _ = []

abbrev pub ordered_in : List Entry → List Item
ordered_in [] = []
ordered_in (e ∷ es) = item_ordered e.kind ++ ordered_in es

-- for linked logs: the deliveries from a sender in a prefix of a feed are a prefix of the items that the sender's log
-- took
abbrev pub TellsOrders : Type 0
TellsOrders =
    (config : Config) (reports : List NodeReport) → Linked config reports
    → (p s c : ℕ) (report maker : NodeReport) (got : List Notice)
    → slice_get reports p ≡ Some report → slice_get reports s ≡ Some maker
    → StartsWith (feed report.log c) got
    → IsPrefixOf (map item_of (of_sender s (told got))) (ordered_in maker.log)

abbrev pub decision_told : Notice → Option Decision
decision_told (Decided decision) = Some decision
decision_told (Reply ticket outcome) = None
decision_told (Delivered message) = None

abbrev pub values_told : ℕ → List Notice → List ℕ
values_told j notices = filter_map (value_for j) (filter_map decision_told notices)

-- client c of node p got these notices, a prefix of the feed of that node's log in the world
pub record HasGot (config : Config) (world : State) (p c : ℕ) (got : List Notice) : Type 0 where
  pub report : NodeReport
  pub trail : Trail
  pub same : node_at world p ≡ report.node
  pub tells : IsLogOf config p trail report.log report.node
  pub begins : StartsWith (feed report.log c) got

abbrev pub TellsPrefixes : Type 0
TellsPrefixes =
    (config : Config) (past : History) (world : State) (p s c : ℕ) (got : List Notice)
    → Stands config past world → HasGot config world p c got → s < config.nodes
    → IsPrefixOf (map item_of (of_sender s (told got))) (stream past s)

-- the log has the step that took the client's order of this item
pub record HasOrdered (log : List Entry) (client ticket : ℕ) (item : Item) : Type 0 where
  pub place : ℕ
  pub entry : Entry
  pub there : slice_get log place ≡ Some entry
  pub node : ℕ
  pub outcome : Outcome
  pub kind : entry.kind ≡ StepEntry (Order node item)
      (Some (record { client = client; ticket = ticket })) outcome

-- if the reply to an order is a number, the item has that number in its node's stream
abbrev pub TellsNumbers : Type 0
TellsNumbers =
    (config : Config) (past : History) (world : State) (p c : ℕ) (got : List Notice)
    → Stands config past world → (has : HasGot config world p c got)
    → (i ticket number : ℕ) → slice_get got i ≡ Some (Reply ticket (Ok number))
    → (item : Item) × HasOrdered has.report.log c ticket item × (slice_get (stream past p) number ≡ Some item)

-- a client sees nothing of an instance, or the value that its node decided there, once
abbrev pub TellsDecisions : Type 0
TellsDecisions =
    (config : Config) (past : History) (world : State) (p c : ℕ) (got : List Notice)
    → Stands config past world → HasGot config world p c got
    → (j : ℕ) → IsPrefixOf (values_told j got) (cons_option (decision config past p j) [])

-- each value that it sees was proposed in the instance, by a node of the group
abbrev pub TellsProposals : Type 0
TellsProposals =
    (config : Config) (past : History) (world : State) (p c : ℕ) (got : List Notice)
    → Stands config past world → HasGot config world p c got
    → (j v : ℕ) → Contains (values_told j got) v
    → (s : ℕ) × (s < config.nodes) × Contains (stream past s) (Propose j v)

-- some client of some node sees that the value was decided in instance j
pub record IsValueTold (config : Config) (world : State) (j v : ℕ) : Type 0 where
  pub node : ℕ
  pub client : ℕ
  pub got : List Notice
  pub has : HasGot config world node client got
  pub there : Contains (values_told j got) v

-- clients see at most k pairwise different values of an instance, if the faults are fewer than k
abbrev pub TellsFewValues : Type 0
TellsFewValues =
    (config : Config) (past : History) (world : State)
    → Stands config past world → config.faults < config.choices
    → (j : ℕ) (values : List ℕ) → IsDistinct nat_eq values
    → All (IsValueTold config world j) values → length values ≤ config.choices
