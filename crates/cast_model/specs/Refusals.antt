-- Why a node refuses a step, given what it shows of itself.
--     NodeView                       what a node shows that decides whether a step is refused
--     step_causes config me view step    the causes of a refusal, in the order in which they are checked
--     first_fault causes             the refusal of the first cause that holds
-- A history, the steps of a node, and what a node keeps each give a view of a node: `view_of` of Replies, `own_view` of
-- OwnSteps, and `kept_view` of cast_node.
use Rattle.std.specs.Prelude.{ℕ, ◌-◌, ◌==◌, nat_lt, nat_le, Bool, false, not, ◌&&◌, if◌then◌else◌, List, [], ◌∷◌, length, Option, Some, None}
use Rattle.std.specs.List.{list_any}
use Rattle.cast_message.specs.Limits.{payload_limit, frame_limit}
use Rattle.cast_message.specs.declared.config.Config.{Config}
use Rattle.cast_message.specs.declared.event.StepFault.{StepFault}
use Rattle.cast_message.specs.declared.event.StepFault.TheVariants.{NoNode, SelfLink, Crashed, Closed, TooLong, AlreadyProposed, StreamFull, NoSlot, Acked, NotTaken, FramesFull}
use Rattle.cast_message.specs.declared.message.Item.{Item}
use Rattle.cast_message.specs.declared.message.Item.TheVariants.{Data, Propose}
use Rattle.cast_message.specs.Items.{is_close, proposes_in}
use Rattle.cast_model.specs.Steps.{Step, Ordered, Sent, Acknowledged, Arrived, Stopped}

abbrev pub is_too_long : Item → Bool
is_too_long (Data bytes) = nat_lt payload_limit (length bytes)
is_too_long _ = false

-- the item is a proposal in an instance where one of these is a proposal too
abbrev pub is_second_proposal : List Item → Item → Bool
is_second_proposal items (Propose instance value) = list_any (proposes_in instance) items
is_second_proposal items _ = false

-- Why a step may be refused: whether the cause holds, and the refusal.
pub record Cause : Type 0 where
  pub holds : Bool
  pub refusal : StepFault

unfoldable pub first_fault : List Cause → Option StepFault
first_fault [] = None
first_fault (cause ∷ causes) = if cause.holds then Some cause.refusal else first_fault causes

-- What a node shows of itself that decides whether a step is refused: whether it is live, its stream, and how many
-- frames it made. For each peer: how many slots it gave it, which of these are acknowledged, and which of the peer's
-- slots it took.
pub record NodeView : Type 0 where
  pub live : Bool
  pub stream : List Item
  pub slots : ℕ → ℕ
  pub has_acked : ℕ → ℕ → Bool
  pub has_taken : ℕ → ℕ → Bool
  pub frames : ℕ

abbrev pub no_node : Config → ℕ → Cause
no_node config p = record { holds = not (nat_lt p config.nodes); refusal = NoNode }

abbrev pub self_link : ℕ → ℕ → Cause
self_link me to = record { holds = me == to; refusal = SelfLink }

abbrev pub crashed : NodeView → Cause
crashed view = record { holds = not view.live; refusal = Crashed }

abbrev pub frames_full : NodeView → Cause
frames_full view = record { holds = nat_le frame_limit view.frames; refusal = FramesFull }

-- the causes for which node me, with this view, refuses a step, in the order in which they are checked
abbrev pub step_causes : Config → ℕ → NodeView → Step → List Cause
step_causes config me view (Ordered item) =
    crashed view
    ∷ record { holds = list_any is_close view.stream; refusal = Closed }
    ∷ record { holds = is_too_long item; refusal = TooLong }
    ∷ record { holds = is_second_proposal view.stream item; refusal = AlreadyProposed }
    ∷ record {
      holds = not (is_close item) && nat_le (config.item_limit - 1) (length view.stream);
      refusal = StreamFull;
    }
    ∷ []
step_causes config me view (Sent to slot) =
    no_node config to
    ∷ self_link me to
    ∷ crashed view
    ∷ record { holds = nat_le (view.slots to) slot; refusal = NoSlot }
    ∷ record { holds = view.has_acked to slot; refusal = Acked }
    ∷ frames_full view
    ∷ []
step_causes config me view (Acknowledged to slot) =
    no_node config to
    ∷ self_link me to
    ∷ crashed view
    ∷ record { holds = not (view.has_taken to slot); refusal = NotTaken }
    ∷ frames_full view
    ∷ []
step_causes config me view (Arrived frame) = crashed view ∷ []
step_causes config me view Stopped = crashed view ∷ []
