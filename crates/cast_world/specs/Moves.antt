-- What a step changes in a world: one node takes a step, and may make a frame.
--     TakesStep world p step made reply new     node p is asked for the step, and if it takes it, makes these frames
--     MakesFrame world kind from to slot reply new   a node makes a frame of this kind for a slot, and its mark is kept
--     StepsTo world event reply new             the world answers the event with this reply, and becomes the new one
--     IsSilent reply                            a send, an acknowledgement, or an arrival without news was accepted
--     actor_of event                            the first node named in the event: it takes the step, or made the frame
--     IsSound world                             the nodes are those of the group, and frames go to them
use Rattle.std.specs.Prelude.{◌≡◌, ◌⊎◌, ℕ, ◌<◌, ◌≤◌, nat_lt, if◌then◌else◌, List, [], ◌∷◌, ◌++◌, length, slice_get, slice_index_or, slice_set, Option, Some, None, Result, Ok, Err}
use Rattle.cast_message.specs.declared.event.Event.{Event}
use Rattle.cast_message.specs.declared.event.Event.TheVariants.{Order, Send, Ack, Arrive, Crash}
use Rattle.cast_message.specs.declared.event.Answer.{Answer}
use Rattle.cast_message.specs.declared.event.Answer.TheVariants.{Sent as AnswerSent, Arrived as AnswerArrived}
use Rattle.cast_message.specs.declared.event.StepFault.{StepFault}
use Rattle.cast_message.specs.declared.event.StepFault.TheVariants.{NoNode, NoFrame}
use Rattle.cast_model.specs.OwnSteps.{nothing}
use Rattle.cast_model.specs.Replies.{IsRefused}
use Rattle.cast_message.specs.declared.message.FrameKind.{FrameKind}
use Rattle.cast_message.specs.declared.message.FrameKind.TheVariants.{Carry, Took}
use Rattle.cast_model.specs.Steps.{Step, Ordered, Arrived, Stopped, making}
use Rattle.cast_node.specs.Kept.{Kept}
use Rattle.cast_node.specs.Turns.{kept_fault, frame_made, Gives}
use Rattle.cast_world.specs.declared.frames.Mark.{Mark}
use Rattle.cast_world.specs.Group.{State, node_at, marks_at, mark_of, frame_by}

-- the marks of node p
abbrev pub row_at : List (List Mark) → ℕ → List Mark
row_at all p = slice_index_or all p []

-- the marks with these more for node p
abbrev pub marks_after : List (List Mark) → ℕ → List Mark → List (List Mark)
marks_after all p [] = all
marks_after all p (mark ∷ more) = slice_set all p (slice_index_or all p [] ++ mark ∷ more)

abbrev pub moved : State → ℕ → Kept → List Mark → State
moved world p kept made =
    record world { nodes = slice_set world.nodes p kept; marks = marks_after world.marks p made }

-- node p took the step
pub record Takes (world new : State) (p : ℕ) (step : Step) (made : List Mark) (answer : Answer)
    : Type 0 where
  pub within : p < length world.nodes
  pub gives : Gives (node_at world p) step (Ok answer) (node_at new p)
  pub moves : new ≡ moved world p (node_at new p) made

-- node p refused it, or there is no such node
abbrev pub Refuses : State → ℕ → Step → StepFault → Type 0
Refuses world p step refusal =
    ((p < length world.nodes) × IsRefused (kept_fault (node_at world p) step) refusal)
    ⊎ ((length world.nodes ≤ p) × (refusal ≡ NoNode))

abbrev pub TakesStep : State → ℕ → Step → List Mark → Result Answer StepFault → State → Type 0
TakesStep world p step made (Ok answer) new = Takes world new p step made answer
TakesStep world p step made (Err refusal) new = (new ≡ world) × Refuses world p step refusal

-- why there is no frame, with this many nodes
abbrev pub missing : ℕ → ℕ → StepFault
missing nodes from = if nat_lt from nodes then NoFrame else NoNode

-- the mark in this place of the maker's marks, or why there is none
abbrev pub FindsMark : List (List Mark) → ℕ → ℕ → Result Mark StepFault → Type 0
FindsMark all from seq (Ok mark) = slice_get (row_at all from) seq ≡ Some mark
FindsMark all from seq (Err refusal) =
    (slice_get (row_at all from) seq ≡ None) × (refusal ≡ missing (length all) from)

abbrev pub ArrivesBy : State → ℕ → ℕ → Option Mark → Result Answer StepFault → State → Type 0
ArrivesBy world from seq (Some mark) reply new =
    TakesStep world mark.to (Arrived (frame_by world from seq mark)) [] reply new
ArrivesBy world from seq None (Ok answer) new = ⊥
ArrivesBy world from seq None (Err refusal) new =
    (new ≡ world) × (refusal ≡ missing (length world.nodes) from)

abbrev pub MakesFrame : State → FrameKind → ℕ → ℕ → ℕ → Result Answer StepFault → State → Type 0
MakesFrame world kind from to slot reply new =
    let mark = mark_of (frame_made kind (node_at world from) to slot) in
    TakesStep world from (making kind to slot) (mark ∷ []) reply new

abbrev pub StepsTo : State → Event → Result Answer StepFault → State → Type 0
StepsTo world (Order node item) reply new = TakesStep world node (Ordered item) [] reply new
StepsTo world (Send from to slot) reply new = MakesFrame world Carry from to slot reply new
StepsTo world (Ack from to slot) reply new = MakesFrame world Took from to slot reply new
StepsTo world (Arrive from seq) reply new =
    ArrivesBy world from seq (slice_get (marks_at world from) seq) reply new
StepsTo world (Crash node) reply new = TakesStep world node Stopped [] reply new

abbrev pub IsSilent : Result Answer StepFault → Type 0
IsSilent (Ok (AnswerSent seq)) = Unit {0}
IsSilent (Ok (AnswerArrived node outcome)) = outcome ≡ nothing
IsSilent _ = ⊥

abbrev pub actor_of : Event → ℕ
actor_of (Order node item) = node
actor_of (Send from to slot) = from
actor_of (Ack from to slot) = from
actor_of (Arrive from seq) = from
actor_of (Crash node) = node

pub record IsSound (world : State) : Type 0 where
  pub size : length world.nodes ≡ world.config.nodes
  pub rows : length world.marks ≡ world.config.nodes
  pub places : (p : ℕ) → p < world.config.nodes → (node_at world p).me ≡ p
  pub configs : (p : ℕ) → p < world.config.nodes → (node_at world p).config ≡ world.config
  pub targets : (p seq : ℕ) (mark : Mark) → slice_get (marks_at world p) seq ≡ Some mark →
      mark.to < world.config.nodes
