-- What one node has done, given its own steps alone, each arrival with the frame that arrived.
--     making kind to slot         the step in which a node makes a frame of this kind for a slot
--     steps_of past q             q's steps in a history of the group
--     own_items steps             the items that the node ordered, in order
--     held me steps               the messages that it holds, each with the node that it came from
--     frames_in steps             the frames that arrived
--     frame_count steps           how many frames it made
use Rattle.std.specs.Prelude.{ℕ, ◌+◌, ◌==◌, if◌then◌else◌, List, [], ◌∷◌, ◌++◌, length, map, Option, Some, None}
use Rattle.cast_message.specs.declared.event.Event.{Event}
use Rattle.cast_message.specs.declared.event.Event.TheVariants.{Order, Send, Ack, Arrive, Crash}
use Rattle.cast_message.specs.declared.message.Item.{Item}
use Rattle.cast_message.specs.declared.message.Message.{Message}
use Rattle.cast_message.specs.declared.message.Frame.{Frame}
use Rattle.cast_message.specs.declared.message.FrameBody.{FrameBody}
use Rattle.cast_message.specs.declared.message.FrameBody.TheVariants.{Carry, Took}
use Rattle.cast_message.specs.declared.message.FrameKind.{FrameKind}
use Rattle.cast_message.specs.declared.message.FrameKind.TheVariants as kinds
use Rattle.cast_model.specs.History.{History, FirstCopy, has_pair, frames, frame_arriving}

-- A step of one node.
pub data Step : Type 0 where
  Ordered : (item : Item) → Step
  Sent : (to slot : ℕ) → Step
  Acknowledged : (to slot : ℕ) → Step
  Arrived : (frame : Frame) → Step
  Stopped : Step

abbrev pub making : FrameKind → ℕ → ℕ → Step
making kinds.Carry to slot = Sent to slot
making kinds.Took to slot = Acknowledged to slot

-- the steps of a node, the newest first
abbrev pub Steps : Type 0
Steps = List Step

abbrev pub step_by : Option Frame → ℕ → List Step
step_by None q = []
step_by (Some frame) q = if frame.to == q then Arrived frame ∷ [] else []

-- the step that an event is for q, if it is one
abbrev pub step_of : (ℕ → List Frame) → Event → ℕ → List Step
step_of made (Order node item) q = if node == q then Ordered item ∷ [] else []
step_of made (Send from to slot) q = if from == q then Sent to slot ∷ [] else []
step_of made (Ack from to slot) q = if from == q then Acknowledged to slot ∷ [] else []
step_of made (Arrive from seq) q = step_by (frame_arriving made (Arrive from seq)) q
step_of made (Crash node) q = if node == q then Stopped ∷ [] else []

unfoldable pub steps_of : History → ℕ → Steps
steps_of [] q = []
steps_of (event ∷ past) q = step_of (frames past) event q ++ steps_of past q

-- what each step gives, in order
unfoldable pub each : {A : Type 0} → (Step → List A) → Steps → List A
each tell [] = []
each tell (step ∷ steps) = each tell steps ++ tell step

abbrev pub item_of : Step → List Item
item_of (Ordered item) = item ∷ []
item_of _ = []

abbrev pub own_items : Steps → List Item
own_items steps = each item_of steps

abbrev pub frame_of : Step → List Frame
frame_of (Arrived frame) = frame ∷ []
frame_of _ = []

abbrev pub frames_in : Steps → List Frame
frames_in steps = each frame_of steps

abbrev pub frames_by : Step → ℕ
frames_by (Sent to slot) = 1
frames_by (Acknowledged to slot) = 1
frames_by _ = 0

unfoldable pub frame_count : Steps → ℕ
frame_count [] = 0
frame_count (step ∷ steps) = frame_count steps + frames_by step

-- A message that a node holds, with the node that its first copy came from.
pub record Held : Type 0 where
  pub message : Message
  pub source : ℕ

abbrev pub copy_of : Held → FirstCopy
copy_of h = record { sender = h.message.sender; number = h.message.number; source = h.source }

abbrev pub held_by_body : List Held → ℕ → FrameBody → List Held
held_by_body before r (Carry slot message) =
    if has_pair (map copy_of before) message.sender message.number then []
    else record { message = message; source = r } ∷ []
held_by_body before r (Took slot) = []

-- what a step newly adds
abbrev pub held_by : List Held → ℕ → ℕ → Step → List Held
held_by before me ordered (Ordered item) =
    record { message = record { sender = me; number = ordered; item = item }; source = me } ∷ []
held_by before me ordered (Arrived frame) = held_by_body before frame.from frame.body
held_by before me ordered _ = []

-- what the node holds, in the order in which it first held it; another's item comes from the first Carry of its pair
unfoldable pub held : ℕ → Steps → List Held
held me [] = []
held me (step ∷ steps) =
    let before = held me steps in before ++ held_by before me (length (own_items steps)) step
