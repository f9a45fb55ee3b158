-- What has arrived by the end of a run, in a group whose frames meet a plan of faults.
--     faults_of faults p                     the faults of the frames that node p makes
--     HaveFaults faults carriers             each carrier acts on those of its node's frames
--     ordinals_of nodes frames               how many frames of each kind were made for each node
--     frames_to q frames                     how many were made for node q
--     frames_made config p trail             the frames that node p made in these steps
--     is_same_frame frame other              it is the frame with this maker and number
--     times_arrived frame trail              how often a frame arrived
--     Allows fate later times                a frame with this fate may arrive this often, if `later` were made after it
--     LetsThrough faults nodes made times frame   the frame, among those its maker made, may arrive this often
--     KeepsTo config faults reports          each frame that arrived at a node was let through
use Rattle.std.specs.Prelude.{◌≡◌, ℕ, ◌<◌, ◌≤◌, ◌==◌, Bool, false, ◌&&◌, List, ◌∷◌, ◌++◌, length, map, replicate, slice_get, Some}
use Rattle.std.specs.List.{filter, fold, count_by}
use Rattle.cast_message.specs.declared.config.Config.{Config}
use Rattle.cast_message.specs.declared.message.Frame.{Frame}
use Rattle.cast_message.specs.declared.plan.Fault.{Fault}
use Rattle.cast_node.specs.declared.report.NodeReport.{NodeReport}
use Rattle.cast_node.specs.Linked.{Trail, IsLogOf, EachArrival, made_in}
use Rattle.cast_carrier.specs.declared.fate.Fate.{Fate}
use Rattle.cast_carrier.specs.declared.fate.Ordinals.{Ordinals}
use Rattle.cast_carrier.specs.Carriers.{CarrierState}
use Rattle.cast_carrier.specs.Copies.{none_taken, copies}
use Rattle.cast_carrier.specs.Fates.{fate_in, counted_in}
use Rattle.cast_carrier.specs.Plans.{is_from}
use Rattle.cast_journal.specs.Runs.{arrivals_in}

abbrev pub faults_of : List Fault → ℕ → List Fault
faults_of faults p = filter (is_from p) faults

abbrev pub HaveFaults : (ℕ → List Fault) → List CarrierState → Type 0
HaveFaults faults carriers = (p : ℕ) (c : CarrierState) → slice_get carriers p ≡ Some c → c.faults ≡ faults p

abbrev pub ordinals_of : ℕ → List Frame → List Ordinals
ordinals_of nodes frames = fold counted_in (replicate nodes none_taken) frames

abbrev pub frames_to : ℕ → List Frame → ℕ
frames_to q frames = count_by (λ frame. frame.to == q) frames

abbrev pub is_same_frame : Frame → Frame → Bool
is_same_frame frame other = other.from == frame.from && other.seq == frame.seq

abbrev pub times_arrived : Frame → Trail → ℕ
times_arrived frame trail = count_by (is_same_frame frame) (arrivals_in trail)

-- it is not lost; after it, as many are made for its target as delay it; and it arrives at most once, or twice if it is
-- repeated
abbrev pub Allows : Fate → ℕ → ℕ → Type 0
Allows fate later times = (fate.lost ≡ false) × (fate.delay ≤ later) × (times ≤ copies fate.twice)

abbrev pub LetsThrough : List Fault → ℕ → List Frame → ℕ → Frame → Type 0
LetsThrough faults nodes made times frame =
    (before after : List Frame) × (made ≡ before ++ frame ∷ after)
    × Allows (fate_in faults (ordinals_of nodes before) frame) (frames_to frame.to after) times

-- the frames that node p made in these steps, in order
abbrev pub frames_made : Config → ℕ → Trail → List Frame
frames_made config p trail = map (λ made. made.frame) (made_in config p trail)

-- a frame that arrived at a node with these steps comes from a node of the group, and the faults of that node's frames
-- let it through
abbrev pub Arrives : Config → (ℕ → List Fault) → (ℕ → Trail) → Trail → Frame → Type 0
Arrives config faults trails trail frame =
    (frame.from < config.nodes)
    × LetsThrough (faults frame.from) config.nodes
    (frames_made config frame.from (trails frame.from)) (times_arrived frame trail) frame

-- each node has a report, its log describes the steps that it took, and the plan let each frame through that arrived in
-- them
pub record KeepsTo (config : Config) (faults : ℕ → List Fault) (reports : List NodeReport) : Type 0 where
  pub size : length reports ≡ config.nodes
  pub trails : ℕ → Trail
  pub logs : (p : ℕ) (report : NodeReport) → slice_get reports p ≡ Some report
      → IsLogOf config p (trails p) report.log report.node
  pub arrivals : (q : ℕ) → q < config.nodes
      → EachArrival (λ stamp frame. Arrives config faults trails (trails q) frame) (trails q)
