-- What a group of followers gives back.
--     told_by reports client            what the log of a client's node says to the client
--     AreCaughtUp stands .. machines    each machine has taken what its follower has not yet heard of that
--     IsOfItem p kind item              the entry is of an order of this item, which node p took or refused
--     HaveOrdered followers clients ..  each follower's client is at its node, which took the orders of its first items
--     HaveTaken stands config past ..   each machine matches exactly what its node delivered, in order
--     DeliverPrefixes config past       what a node delivered from a sender is a prefix of what that sender broadcast
--     DeliverTheSameAtRest config past  at rest live nodes have delivered the same from each sender
--     IsFollowed stands config ..       all that is known about what a group of followers gives back
use Rattle.std.specs.Prelude.{◌≡◌, ◌+◌, ℕ, List, [], ◌++◌, length, take, drop, map, slice_get, Option, Some, None}
use Rattle.cast_message.specs.declared.config.Config.{Config}
use Rattle.cast_message.specs.declared.event.Event.TheVariants.{Order}
use Rattle.cast_message.specs.declared.message.Item.{Item}
use Rattle.cast_message.specs.declared.message.Message.{Message}
use Rattle.cast_model.specs.Delivery.{delivery_log}
use Rattle.cast_model.specs.Headline.{IsPrefixOf}
use Rattle.cast_model.specs.History.{History, broadcast}
use Rattle.cast_model.specs.Replies.{history, replies}
use Rattle.cast_model.specs.Rounds.{FewCrashedIn, Live, Rest}
use Rattle.cast_world.specs.Group.{Stands}
use Rattle.cast_log.specs.declared.entry.EntryKind.{EntryKind}
use Rattle.cast_log.specs.declared.entry.EntryKind.TheVariants.{Step as StepEntry, Refused}
use Rattle.cast_desk.specs.Feed.{feed}
use Rattle.cast_desk.specs.declared.notice.Notice.{Notice}
use Rattle.cast_run.specs.Jobs.{told_job}
use Rattle.cast_merge.specs.Merge.{TellsMerge}
use Rattle.cast_merge.specs.Told.{of_sender, told}
use Rattle.cast_node.specs.Linked.{Linked}
use Rattle.cast_engine.specs.Serving.{Matches, entries_of}
use Rattle.cast_node.specs.declared.report.EngineEnd.TheVariants.{Stopped}
use Rattle.cast_node.specs.declared.report.NodeReport.{NodeReport}
use Rattle.cast_run.specs.Planned.{faults_of, KeepsTo}
use Rattle.cast_run.specs.Serves.{AreStamped, HaveOrigins}
use Rattle.cast_run.specs.declared.reports.ClientReport.{ClientReport}
use Rattle.cast_message.specs.declared.plan.Fault.{Fault}
use Rattle.cast_run.specs.Ran.{LogsEnd}
use Rattle.cast.specs.declared.follower.Follower.{Follower}
use Rattle.cast.specs.declared.followed.Followed.{Followed}

abbrev pub told_in : ℕ → Option NodeReport → List Notice
told_in client None = []
told_in client (Some report) = feed report.log client

abbrev pub told_by : List NodeReport → Option ClientReport → List Notice
told_by reports None = []
told_by reports (Some client) = told_in client.client (slice_get reports client.node)

-- the machine of follower i has taken the messages that its client was sent and the follower has not yet heard
abbrev pub IsCaughtUp : {M : Type 0} → (M → List Message → Type 0) → List NodeReport → List ClientReport
    → ℕ → Follower M → M → Type 0
IsCaughtUp stands reports clients i follower machine =
    (taken : List Message) → stands follower.machine taken
    → stands machine (taken ++ told (drop follower.heard (told_by reports (slice_get clients i))))

abbrev pub AreCaughtUp : {M : Type 0} → (M → List Message → Type 0) → List NodeReport → List ClientReport
    → List (Follower M) → List M → Type 0
AreCaughtUp {M} stands reports clients followers machines =
    (length machines ≡ length followers)
    × ((i : ℕ) (machine : M) → slice_get machines i ≡ Some machine
    → (follower : Follower M) × (slice_get followers i ≡ Some follower)
    × IsCaughtUp stands reports clients i follower machine)

-- the entry is of an order of this item, which node p took or refused
abbrev pub IsOfItem : ℕ → EntryKind → Item → Type 0
IsOfItem p (StepEntry event origin outcome) item = event ≡ Order p item
IsOfItem p (Refused origin fault) item = Unit {0}

-- The node's log has this client's orders of the follower's first items, one for one and in order: as many as the
-- report has tickets. If the engine stopped, each item is among these or left in the desk.
pub record IsOrdered {M : Type 0} (follower : Follower M) (client : ClientReport) (report : NodeReport)
    : Type 0 where
  pub orders : Matches (λ e item. IsOfItem client.node e.kind item)
      (entries_of client.client report.log) (take client.tickets follower.left)
  pub all : report.ended ≡ Stopped → client.tickets + client.left ≡ length follower.left

abbrev pub HaveOrdered : {M : Type 0} → List (ℕ × Follower M) → List ClientReport → List NodeReport → Type 0
HaveOrdered {M} followers clients reports =
    (length clients ≡ length followers)
    × ((i : ℕ) (client : ClientReport) → slice_get clients i ≡ Some client
    → (follower : Follower M) × (report : NodeReport)
    × (slice_get followers i ≡ Some (told_job client.node follower))
    × (slice_get reports client.node ≡ Some report) × IsOrdered follower client report)

abbrev pub HaveTaken : {M : Type 0} → (M → List Message → Type 0) → Config → History → List M
    → List ClientReport → Type 0
HaveTaken {M} stands config past machines clients =
    (i : ℕ) (machine : M) (client : ClientReport) → slice_get machines i ≡ Some machine
    → slice_get clients i ≡ Some client → stands machine (delivery_log config past client.node)

abbrev pub DeliverPrefixes : Config → History → Type 0
DeliverPrefixes config past =
    (p s : ℕ) → IsPrefixOf (of_sender s (delivery_log config past p)) (broadcast past s)

abbrev pub DeliverTheSameAtRest : Config → History → Type 0
DeliverTheSameAtRest config past =
    Rest config past → FewCrashedIn config.mode config past
    → (p q s : ℕ) → Live config past p → Live config past q
    → of_sender s (delivery_log config past p) ≡ of_sender s (delivery_log config past q)

-- in the history that all logs together make
abbrev pub past_of : {M : Type 0} → Config → Followed M → History
past_of config run = history config run.assembly.events

pub record IsFollowed {M : Type 0} (stands : M → List Message → Type 0) (config : Config)
    (faults : List Fault) (followers : List (ℕ × Follower M)) (run : Followed M) : Type 0 where
  -- about the followers' items
  pub ordered : HaveOrdered followers run.clients.items run.report.reports
  pub origins : HaveOrigins followers run.report.reports
  -- about the machines
  pub machines : length run.machines.items ≡ length followers
  pub taken : HaveTaken stands config (past_of config run) run.machines.items run.clients.items
  pub prefix : DeliverPrefixes config (past_of config run)
  pub agree : DeliverTheSameAtRest config (past_of config run)
  -- about the group
  pub config_is : run.report.config ≡ config
  pub linked : Linked config run.report.reports
  pub planned : KeepsTo config (faults_of faults) run.report.reports
  pub logs : LogsEnd config faults run.report.reports
  pub stamps : AreStamped config run.report.reports
  pub merge : TellsMerge (map (λ report. report.log) run.report.reports) run.assembly.events
      run.assembly.replies
  pub replies_are : run.assembly.replies ≡ replies config run.assembly.events
  pub world : Stands config (past_of config run) run.assembly.world
