-- What the peers of a group did, each with its journal, and when their logs are linked.
--     Did                                    what a peer did
--     Does group old d new                   a journal does this
--     IsRunOf group config me did j          from nothing on, it did all of these, the newest first
--     TookNoOthers config did                what a peer took, some peer made
--     ArePeersLinked                         then the logs are linked
use Rattle.std.specs.Prelude.{◌≡◌, ℕ, ◌<◌, List, [], ◌∷◌, length, slice_get, Option, Some, None}
use Rattle.cast_message.specs.declared.config.Config.{Config}
use Rattle.cast_message.specs.declared.message.FrameKind.{FrameKind}
use Rattle.cast_node.specs.Linked.{Linked}
use Rattle.cast_node.specs.declared.report.NodeReport.{NodeReport}
use Rattle.cast_journal.specs.declared.order.OrderIn.{OrderIn}
use Rattle.cast_journal.specs.declared.parcel.Parcel.{Parcel}
use Rattle.cast_journal.specs.Lists.{Has}
use Rattle.cast_journal.specs.Journals.{JournalState, LogsOrder, Halts}
use Rattle.cast_wire.specs.Law.{HasNumbers}
use Rattle.cast_peer.specs.Peers.{begun, packet_of, bytes_of, MakesFrame, Takes}

pub data Did : Type 0 where
  Gave : List ℕ → Did  -- it made a frame of these bytes, to be sent
  Lost : Did  -- it made a frame, but had no memory for its bytes
  Took : List ℕ → Did  -- it took these bytes, which the network brought
  Asked : OrderIn → Did  -- it took an order, or refused it
  Ended : Did  -- it noted that it ended, or logged a crash that was due

-- it made this frame, with the stamp of the step
pub record Makes (group : ℕ) (old : JournalState) (x : Parcel) (new : JournalState) : Type 0 where
  pub kind : FrameKind
  pub to : ℕ
  pub slot : ℕ
  pub makes : MakesFrame old kind to slot x new
  pub numbers : HasNumbers (packet_of group x)

abbrev pub Does : ℕ → JournalState → Did → JournalState → Type 0
Does group old (Gave bytes) new = (x : Parcel) × Makes group old x new × (bytes ≡ bytes_of group x)
Does group old Lost new = (x : Parcel) × Makes group old x new
Does group old (Took bytes) new = Takes group old bytes new
Does group old (Asked order) new = LogsOrder old new order
Does group old Ended new = Halts old new

-- the newest first
unfoldable pub IsRunOf : ℕ → Config → ℕ → List Did → JournalState → Type 0
IsRunOf group config me [] j = (turns : ℕ) × (j ≡ begun config me turns)
IsRunOf group config me (d ∷ ds) j =
    (old : JournalState) × IsRunOf group config me ds old × Does group old d j

-- nobody else makes a packet: what a peer took, some peer made
abbrev pub TookNoOthers : Config → (ℕ → List Did) → Type 0
TookNoOthers config did =
    (p : ℕ) (bytes : List ℕ) → p < config.nodes → Has (did p) (Took bytes)
    → (r : ℕ) × (r < config.nodes) × Has (did r) (Gave bytes)

-- the report of a peer that did this
pub record IsPeer (group : ℕ) (config : Config) (p : ℕ) (did : List Did) (report : NodeReport) : Type 0 where
  pub j : JournalState
  pub runs : IsRunOf group config p did j
  pub log : j.log ≡ report.log
  pub node : j.node ≡ report.node

abbrev pub ArePeersLinked : Type 0
ArePeersLinked =
    (group : ℕ) (config : Config) (did : ℕ → List Did) (reports : List NodeReport)
    → length reports ≡ config.nodes
    → ((p : ℕ) → p < config.nodes → (report : NodeReport)
    × (slice_get reports p ≡ Some report) × IsPeer group config p (did p) report)
    → TookNoOthers config did → Linked config reports
