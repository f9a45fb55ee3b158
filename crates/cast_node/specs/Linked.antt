-- When the logs of a group are linked.
--     StampedStep, Trail                   a step of a node with its stamp; all of them, the newest first
--     event_of p step                      a step of node p as an event, with a frame's maker and number
--     steps_in config p trail              the node's steps by these, without frames that no node could have made
--     taken_in config p trail              what the log has of them, the newest first
--     made_in config p trail               the frames that they made, each with the stamp of its step, in order
--     AreTaken config p trail              each step was taken, and each frame was for the node
--     taken log                            the steps in a log
--     IsRising log                         each stamp is greater than those before
--     IsLogOf config p trail log kept      the log has these steps, and the node matches them
--     EachArrival Holds trail              this holds for each frame that arrived, with the stamp of its step
--     IsMadeBefore config trails stamp frame    the frame was made by its maker with a smaller stamp
--     Linked config reports                each log has its node's steps, and each arrived frame was made before
use Rattle.std.specs.Prelude.{◌≡◌, ℕ, ◌<◌, List, [], ◌∷◌, ◌++◌, length, map, reverse, slice_get, Some, None, Result, Ok, Err}
use Rattle.std.specs.List.{AllPairs}
use Rattle.cast_message.specs.declared.config.Config.{Config}
use Rattle.cast_message.specs.declared.event.Event.{Event}
use Rattle.cast_message.specs.declared.event.Event.TheVariants.{Order, Send, Ack, Arrive, Crash}
use Rattle.cast_message.specs.declared.event.Outcome.{Outcome}
use Rattle.cast_message.specs.declared.event.Answer.{Answer}
use Rattle.cast_message.specs.declared.event.Answer.TheVariants.{Ordered as AnswerOrdered, Sent as AnswerSent, Arrived as AnswerArrived, Down}
use Rattle.cast_message.specs.declared.event.StepFault.{StepFault}
use Rattle.cast_message.specs.declared.message.Frame.{Frame}
use Rattle.cast_model.specs.Steps.{Step, Ordered, Sent, Acknowledged, Arrived, Stopped, Steps}
use Rattle.cast_model.specs.OwnSteps.{nothing, own_fault, own_made, node_reply, node_after}
use Rattle.cast_log.specs.declared.entry.Entry.{Entry}
use Rattle.cast_log.specs.declared.entry.EntryKind.{EntryKind}
use Rattle.cast_log.specs.declared.entry.EntryKind.TheVariants.{Step as StepEntry, Refused}
use Rattle.cast_node.specs.Kept.{Kept, nothing_kept}
use Rattle.cast_node.specs.Turns.{kept_after}
use Rattle.cast_node.specs.Stands.{Stands}
use Rattle.cast_node.specs.declared.report.NodeReport.{NodeReport}

-- A step of a node, with the stamp under which the node logged it.
pub record StampedStep : Type 0 where
  pub stamp : ℕ
  pub step : Step

-- the steps of a node with their stamps, the newest first
abbrev pub Trail : Type 0
Trail = List StampedStep

-- A step as a log has it.
pub record TakenStep : Type 0 where
  pub stamp : ℕ
  pub event : Event
  pub outcome : Outcome

-- A frame, with the stamp of the step that made it.
pub record Made : Type 0 where
  pub stamp : ℕ
  pub frame : Frame

-- a step of node p as an event
abbrev pub event_of : ℕ → Step → Event
event_of p (Ordered item) = Order p item
event_of p (Sent to slot) = Send p to slot
event_of p (Acknowledged to slot) = Ack p to slot
event_of p (Arrived frame) = Arrive frame.from frame.seq
event_of p Stopped = Crash p

abbrev pub outcome_in_answer : Answer → Outcome
outcome_in_answer (AnswerOrdered number outcome) = outcome
outcome_in_answer (AnswerSent seq) = nothing
outcome_in_answer (AnswerArrived node outcome) = outcome
outcome_in_answer Down = nothing

-- what a reply delivers and decides
abbrev pub outcome_in : Result Answer StepFault → Outcome
outcome_in (Ok answer) = outcome_in_answer answer
outcome_in (Err refusal) = nothing

-- the node's steps by these, the newest first
unfoldable pub steps_in : Config → ℕ → Trail → Steps
steps_in config p [] = []
steps_in config p (mark ∷ trail) = node_after config p (steps_in config p trail) mark.step

abbrev pub taken_by : Config → ℕ → Steps → StampedStep → TakenStep
taken_by config p steps mark = record {
  stamp = mark.stamp;
  event = event_of p mark.step;
  outcome = outcome_in (node_reply config p steps mark.step);
}

-- what the log has of them, the newest first
unfoldable pub taken_in : Config → ℕ → Trail → List TakenStep
taken_in config p [] = []
taken_in config p (mark ∷ trail) =
    taken_by config p (steps_in config p trail) mark ∷ taken_in config p trail

abbrev pub stamped : ℕ → Frame → Made
stamped stamp frame = record { stamp = stamp; frame = frame }

-- the frames that they made, in order
unfoldable pub made_in : Config → ℕ → Trail → List Made
made_in config p [] = []
made_in config p (mark ∷ trail) =
    made_in config p trail
    ++ map (stamped mark.stamp) (own_made p (steps_in config p trail) mark.step)

-- what the node keeps after them
unfoldable pub kept_in : Config → ℕ → Trail → Kept
kept_in config p [] = nothing_kept config p
kept_in config p (mark ∷ trail) = kept_after (kept_in config p trail) mark.step

-- a frame that arrives at p is for p
abbrev pub IsFor : ℕ → Step → Type 0
IsFor p (Arrived frame) = frame.to ≡ p
IsFor p _ = Unit {0}

-- no step is refused in its place
unfoldable pub AreTaken : Config → ℕ → Trail → Type 0
AreTaken config p [] = Unit {0}
AreTaken config p (mark ∷ trail) =
    AreTaken config p trail × (own_fault config p (steps_in config p trail) mark.step ≡ None)
    × IsFor p mark.step

-- the step of an entry; a refused order is none
abbrev pub taken_of : ℕ → EntryKind → List TakenStep
taken_of stamp (StepEntry event origin outcome) =
    record { stamp = stamp; event = event; outcome = outcome } ∷ []
taken_of stamp (Refused origin fault) = []

-- the steps in a log, in order
unfoldable pub taken : List Entry → List TakenStep
taken [] = []
taken (entry ∷ log) = taken_of entry.stamp entry.kind ++ taken log

abbrev pub IsBefore : Entry → Entry → Type 0
IsBefore earlier later = earlier.stamp < later.stamp

-- each stamp is greater than those before
abbrev pub IsRising : List Entry → Type 0
IsRising log = AllPairs IsBefore log

-- the log of node p has these steps, and the node matches them
pub record IsLogOf (config : Config) (p : ℕ) (trail : Trail) (log : List Entry) (kept : Kept)
    : Type 0 where
  pub rising : IsRising log
  pub tells : taken log ≡ reverse (taken_in config p trail)
  pub accepted : AreTaken config p trail
  pub stands : Stands config p (steps_in config p trail) kept
  pub reached : kept ≡ kept_in config p trail

-- for a step by which a frame arrived, with its stamp
abbrev pub OnArrival : (ℕ → Frame → Type 0) → ℕ → Step → Type 0
OnArrival Holds stamp (Arrived frame) = Holds stamp frame
OnArrival Holds stamp _ = Unit {0}

-- for each such step
unfoldable pub EachArrival : (ℕ → Frame → Type 0) → Trail → Type 0
EachArrival Holds [] = Unit {0}
EachArrival Holds (mark ∷ trail) = EachArrival Holds trail × OnArrival Holds mark.stamp mark.step

-- the arrived frame is the one with its number that its maker made, in a step with a smaller stamp
abbrev pub IsMadeBefore : Config → (ℕ → Trail) → ℕ → Frame → Type 0
IsMadeBefore config trails stamp frame =
    (sent : ℕ) × (sent < stamp) × (frame.from < config.nodes)
    × (slice_get (made_in config frame.from (trails frame.from)) frame.seq
    ≡ Some (stamped sent frame))

-- each log has its node's steps, and each arrived frame was made before
pub record Linked (config : Config) (reports : List NodeReport) : Type 0 where
  pub size : length reports ≡ config.nodes
  pub trails : ℕ → Trail
  pub logs : (p : ℕ) (report : NodeReport) → slice_get reports p ≡ Some report →
      IsLogOf config p (trails p) report.log report.node
  pub arrivals : (p : ℕ) → p < config.nodes → EachArrival (IsMadeBefore config trails) (trails p)
