-- What a world keeps, and when it matches a history.
--     State                       the nodes, and a mark of each frame that they made
--     mark_of frame               the frame without its maker, its number and its message's item
--     frame_by world from seq mark      the frame of a mark, with the item from the stream of its message's sender
--     Stands config past world    each node matches its steps in the accepted history, and the marks are those of the
--                                 frames made in it
--     StandingFor world claim     the claim holds for each history that the world matches
--     FindsNode world p found     the node with this number, or None
--     Continues config past event reply world     what a world matches after a step from there
--     IsFar event                 its slot is greater than a mark can hold
--     IsRefusedForCause config past event reply   the reply is the cause of refusal that the definitions give
--     IsCrash event               it crashes a node
use Rattle.std.specs.Prelude.{◌≡◌, ℕ, ◌<◌, ◌≤◌, ◌^◌, Option, Some, None, List, [], ◌∷◌, length, map, ◌==◌, if◌then◌else◌, slice_index_or, Result, Ok, Err}
use Rattle.cast_message.specs.declared.config.Config.{Config}
use Rattle.cast_message.specs.declared.event.Event.{Event}
use Rattle.cast_message.specs.declared.event.Event.TheVariants.{Send, Ack, Crash}
use Rattle.cast_message.specs.declared.event.Answer.{Answer}
use Rattle.cast_message.specs.declared.event.StepFault.{StepFault}
use Rattle.cast_message.specs.declared.message.Item.{Item}
use Rattle.cast_message.specs.declared.message.Item.TheVariants.{Close}
use Rattle.cast_message.specs.declared.message.Frame.{Frame}
use Rattle.cast_message.specs.declared.message.FrameBody.{FrameBody}
use Rattle.cast_message.specs.declared.message.FrameBody.TheVariants.{Carry, Took}
use Rattle.cast_model.specs.History.{History, frames}
use Rattle.cast_model.specs.Replies.{IsAccepted, IsRefused, fault, reply}
use Rattle.cast_model.specs.Steps.{Steps, steps_of}
use Rattle.cast_node.specs.Kept.{Kept, nothing_kept}
use Rattle.cast_node.specs.Turns.{kept_after}
use Rattle.cast_node.specs.Stands.{Stands as NodeStands}
use Rattle.cast_world.specs.declared.frames.Mark.{Mark}

pub record State : Type 0 where
  pub config : Config
  pub nodes : List Kept
  pub marks : List (List Mark)

abbrev pub state_of : Config → List Kept → List (List Mark) → State
state_of config nodes marks = record { config = config; nodes = nodes; marks = marks }

-- for a number that no node has, a node that has done nothing
abbrev pub node_in : Config → List Kept → ℕ → Kept
node_in config nodes p = slice_index_or nodes p (nothing_kept config 0)

abbrev pub node_at : State → ℕ → Kept
node_at world p = node_in world.config world.nodes p

abbrev pub marks_at : State → ℕ → List Mark
marks_at world p = slice_index_or world.marks p []

-- an acknowledgement has a sender that is no node's
abbrev pub mark_by : ℕ → FrameBody → Mark
mark_by to (Carry slot message) =
    record { slot = slot; number = message.number; to = to; sender = message.sender }
mark_by to (Took slot) = record { slot = slot; number = 0; to = to; sender = 255 }

abbrev pub mark_of : Frame → Mark
mark_of frame = mark_by frame.to frame.body

-- the item with this number in a node's stream; a default if that is shorter, but no frame names such an item
abbrev pub item_in : Config → List Kept → ℕ → ℕ → Item
item_in config nodes p number = slice_index_or (node_in config nodes p).stream number Close

-- the message's item is the one with its number in its sender's stream
abbrev pub body_in : Config → List Kept → Mark → FrameBody
body_in config nodes mark =
    if mark.sender == 255
    then Took mark.slot
    else Carry mark.slot (record {
      sender = mark.sender;
      number = mark.number;
      item = item_in config nodes mark.sender mark.number;
    })

abbrev pub frame_in : Config → List Kept → ℕ → ℕ → Mark → Frame
frame_in config nodes from seq mark =
    record { from = from; seq = seq; to = mark.to; body = body_in config nodes mark }

abbrev pub frame_by : State → ℕ → ℕ → Mark → Frame
frame_by world from seq mark = frame_in world.config world.nodes from seq mark

-- what a node keeps after these steps
unfoldable pub kept_by : Config → ℕ → Steps → Kept
kept_by config me [] = nothing_kept config me
kept_by config me (step ∷ steps) = kept_after (kept_by config me steps) step

-- the world matches this accepted history
pub record Stands (config : Config) (past : History) (world : State) : Type 0 where
  pub accepted : IsAccepted config past
  pub same_config : world.config ≡ config
  pub size : length world.nodes ≡ config.nodes
  pub rows : length world.marks ≡ config.nodes
  pub nodes : (p : ℕ) → p < config.nodes → NodeStands config p (steps_of past p) (node_at world p)
  pub kept : (p : ℕ) → p < config.nodes → node_at world p ≡ kept_by config p (steps_of past p)
  pub made : (p : ℕ) → p < config.nodes → marks_at world p ≡ map mark_of (frames past p)

-- the claim holds for each configuration and history that the world matches
abbrev pub StandingFor : State → (Config → History → Type 0) → Type 0
StandingFor world claim =
    (config : Config) (past : History) → Stands config past world → claim config past

-- the node with this number, or None if there is no such node
abbrev pub FindsNode : State → ℕ → Option Kept → Type 0
FindsNode world p None = length world.nodes ≤ p
FindsNode world p (Some found) = (p < length world.nodes) × (found ≡ node_at world p)

-- what a world matches after a step
abbrev pub Continues : Config → History → Event → Result Answer StepFault → State → Type 0
Continues config past event (Ok answer) world =
    (reply config past event ≡ Ok answer) × Stands config (event ∷ past) world
Continues config past event (Err refusal) world =
    IsRefused (fault config past event) refusal × Stands config past world

abbrev pub IsFar : Event → Type 0
IsFar (Send from to slot) = 2 ^ 32 ≤ slot
IsFar (Ack from to slot) = 2 ^ 32 ≤ slot
IsFar _ = ⊥

abbrev pub IsRefusedForCause : Config → History → Event → Result Answer StepFault → Type 0
IsRefusedForCause config past event (Ok answer) = ⊥
IsRefusedForCause config past event (Err refusal) = fault config past event ≡ Some refusal

abbrev pub IsCrash : Event → Type 0
IsCrash (Crash node) = Unit {0}
IsCrash _ = ⊥
