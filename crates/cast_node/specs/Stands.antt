-- When what a node keeps matches its steps: each part shows what the definitions say about them.
--     item_at hs s i                 the item of a held pair
--     owed_in me steps q slot        what is owed to q in a slot
--     is_known_in .. s i r           node r is known to hold a pair that the node holds
--     StandsOut                      what it gave a peer, and owes it
--     Stands config me steps kept    the node has taken these steps
--     Continues                      how a node goes on by a step
use Rattle.std.specs.Prelude.{◌≡◌, ◌≢◌, ℕ, ◌-◌, ◌<◌, nat_lt, Bool, not, ◌&&◌, if◌then◌else◌, List, [], ◌∷◌, length, map, slice_index_or, Option, Some, None, option_map, Result, Ok, Err}
use Rattle.std.specs.List.{filter}
use Rattle.std.specs.FinSet as set
use Rattle.std.specs.FinMap as finite
use Rattle.cast_message.specs.declared.config.Config.{Config}
use Rattle.cast_message.specs.declared.event.Answer.{Answer}
use Rattle.cast_message.specs.declared.event.StepFault.{StepFault}
use Rattle.cast_message.specs.declared.message.Item.{Item}
use Rattle.cast_message.specs.declared.message.Message.{Message}
use Rattle.cast_model.specs.History.{has_pair}
use Rattle.cast_model.specs.Shown.{item_of}
use Rattle.cast_model.specs.Headline.{is_from}
use Rattle.cast_model.specs.Replies.{IsRefused}
use Rattle.cast_model.specs.Steps.{Step, Steps, own_items, frame_count, Held, held}
use Rattle.cast_model.specs.OwnSteps.{own_live, own_copies, own_given, own_taken, own_acked, own_owed, own_knows, own_is_ready, message_at, message_in, own_log, own_fault, node_reply, node_after, IsOwnAccepted}
use Rattle.cast_link.specs.Links.{Link}
use Rattle.cast_fifo.specs.HeldBack.{held_of}
use Rattle.cast_fifo.specs.HoldsBack.{HoldsBack}
use Rattle.cast_agree.specs.Proposals.{counted_of}
use Rattle.cast_node.specs.Kept.{Kept, link_to, taken_from, knowers_of}

-- the item of a held pair
abbrev pub item_at : List Held → ℕ → ℕ → Option Item
item_at hs s i = option_map item_of (message_at hs s i)

-- what is owed after these steps, in a slot given to q
abbrev pub owed_in : ℕ → Steps → ℕ → ℕ → Option Message
owed_in me steps q slot =
    if nat_lt slot (length (own_given me steps q)) && not (own_acked steps q slot)
    then Some (message_in (own_given me steps q) slot)
    else None

-- node r is known to hold the pair, which is held
abbrev pub is_known_in : Config → ℕ → Steps → ℕ → ℕ → ℕ → Bool
is_known_in config me steps s i r =
    has_pair (own_copies me steps) s i && (nat_lt r config.nodes && own_knows me steps s i r)

-- how many slots were given to q, and the messages in those that q has not acknowledged
pub record StandsOut (me : ℕ) (steps : Steps) (q : ℕ) (link : Link Message) : Type 0 where
  pub given : link.given ≡ length (own_given me steps q)
  pub owed : (slot : ℕ) → finite.get link.owed slot ≡ owed_in me steps q slot
  pub count : finite.len link.owed ≡ length (own_owed me steps q)

-- the deliveries as agreement takes them, the newest first
unfoldable pub newest_first : List (ℕ × Item) → List Message → List (ℕ × Item)
newest_first before [] = before
newest_first before (message ∷ messages) =
    newest_first ((message.sender, message.item) ∷ before) messages

pub record Stands (config : Config) (me : ℕ) (steps : Steps) (kept : Kept) : Type 0 where
  pub accepted : IsOwnAccepted config me steps
  pub place : me < config.nodes
  pub same_config : kept.config ≡ config
  pub same_me : kept.me ≡ me
  pub live : kept.live ≡ own_live steps
  pub frames : kept.frames ≡ frame_count steps
  pub stream : kept.stream ≡ own_items steps
  pub peers_out : length kept.outgoing ≡ config.nodes
  pub out : (q : ℕ) → q < config.nodes → q ≢ me → StandsOut me steps q (link_to kept q)
  pub peers_in : length kept.incoming ≡ config.nodes
  pub taken : (r slot : ℕ) → r < config.nodes →
      set.contains (taken_from kept r) slot ≡ own_taken steps r slot
  pub senders_back : length kept.deliveries.hold_back ≡ config.nodes
  pub holds_back : (s : ℕ) → s < config.nodes →
      HoldsBack (item_at (held me steps) s) (own_is_ready config me steps s)
      (held_of kept.deliveries.hold_back s)
  pub senders_known : length kept.deliveries.knowers ≡ config.nodes
  pub knows : (s i r : ℕ) → s < config.nodes →
      set.contains (knowers_of kept s i) r ≡ is_known_in config me steps s i r
  pub senders_delivered : length kept.deliveries.delivered ≡ config.nodes
  pub delivers : (s : ℕ) → s < config.nodes →
      slice_index_or kept.deliveries.delivered s []
      ≡ map item_of (filter (is_from s) (own_log config me steps))
  pub agrees : kept.deliveries.agree
      ≡ counted_of (config.nodes - config.faults) (newest_first [] (own_log config me steps))

-- how a node goes on from these steps by one more: as the definitions say, or out of memory in place of an answer
abbrev pub Continues : Config → ℕ → Steps → Step → Result Answer StepFault → Kept → Type 0
Continues config me steps step (Ok answer) kept =
    (node_reply config me steps step ≡ Ok answer)
    × Stands config me (node_after config me steps step) kept
Continues config me steps step (Err refusal) kept =
    IsRefused (own_fault config me steps step) refusal × Stands config me steps kept
