-- Worked examples: what these events are answered, computed by the checker from the definitions.
use Rattle.std.proofs.Common.{◌≡◌, ℕ, refl, List, [], ◌∷◌, Ok, Err, lit<, lit≤, map}
use Rattle.std.specs.Prelude.{⊤}
use Rattle.cast_message.specs.declared.config.Config.{Config}
use Rattle.cast_message.specs.declared.config.Mode.TheVariants.{Basic, Uniform}
use Rattle.cast_message.specs.declared.event.Event.{Event}
use Rattle.cast_message.specs.declared.event.Event.TheVariants.{Order, Send, Ack, Arrive, Crash}
use Rattle.cast_message.specs.declared.event.Outcome.{Outcome}
use Rattle.cast_message.specs.declared.event.Answer.TheVariants.{Ordered, Sent, Arrived, Down}
use Rattle.cast_message.specs.declared.event.StepFault.TheVariants as refusal
use Rattle.cast_message.specs.declared.message.Item.{Item}
use Rattle.cast_message.specs.declared.message.Item.TheVariants.{Data, Propose, Close}
use Rattle.cast_message.specs.declared.message.Message.{Message}
use Rattle.cast_model.specs.History.{History, stream, is_live, numbered, broadcast, has_pair, given_of, copy_at, message_of, frame_arriving, copies_gained, frames_gained, first, frames, given, arrivals, taken, acked}
use Rattle.cast_model.specs.Delivery.{knows, known_by, is_known_enough, is_ready, next, delivered, concerned, turns, deliveries, delivery_log, votes, least, decisions_of, outcome}
use Rattle.cast_model.specs.Refusals.{first_fault}
use Rattle.cast_model.specs.Replies.{causes, fault, answer, reply, after, history_from, history, replies_from, replies}
use Rattle.cast_model.specs.Rounds.{Due, owed, due_between, live_nodes, due, frames_for, events_for, plan_from, plan, after_round}

-- what a row unfolds to compute the definitions on its events
unfoldable model_on_literals : ⊤
unfolding stream is_live numbered broadcast has_pair given_of copy_at message_of frame_arriving copies_gained frames_gained first frames given arrivals taken acked knows known_by is_known_enough is_ready next delivered concerned turns deliveries delivery_log votes least decisions_of outcome causes first_fault fault answer reply after history_from replies_from owed due_between live_nodes due frames_for events_for plan_from plan after_round
model_on_literals = tt

abbrev group_1_0_1 : Config
group_1_0_1 = record {
  nodes = 1;
  faults = 0;
  choices = 1;
  item_limit = 4096;
  log_limit = 65536;
  box_size = 64;
  first_stamp = 0;
  mode = Basic;
  some_node = lit≤ tt;
  nodes_in_range = lit≤ tt;
  faults_in_range = lit< tt;
  some_choice = lit≤ tt;
  choices_in_range = lit≤ tt;
  some_item = lit≤ tt;
  items_in_range = lit≤ tt;
  some_entry = lit≤ tt;
  log_in_range = lit≤ tt;
  some_place = lit≤ tt;
  box_in_range = lit≤ tt;
  mode_in_range = lit< tt;
}

abbrev group_3_1_2 : Config
group_3_1_2 = record group_1_0_1 { nodes = 3; faults = 1; choices = 2; some_node = lit≤ tt; nodes_in_range = lit≤ tt; faults_in_range = lit< tt; some_choice = lit≤ tt; choices_in_range = lit≤ tt; mode_in_range = lit< tt }

abbrev group_2_0_1 : Config
group_2_0_1 = record group_1_0_1 { nodes = 2; some_node = lit≤ tt; nodes_in_range = lit≤ tt; faults_in_range = lit< tt; choices_in_range = lit≤ tt; mode_in_range = lit< tt }

abbrev group_3_0_1 : Config
group_3_0_1 = record group_1_0_1 { nodes = 3; some_node = lit≤ tt; nodes_in_range = lit≤ tt; faults_in_range = lit< tt; choices_in_range = lit≤ tt; mode_in_range = lit< tt }

abbrev group_of_two_items : Config
group_of_two_items = record group_1_0_1 { item_limit = 2; some_item = lit≤ tt; items_in_range = lit≤ tt }

abbrev uniform_3_1_2 : Config
uniform_3_1_2 = record group_3_1_2 { mode = Uniform; mode_in_range = lit< tt }

abbrev uniform_5_2_3 : Config
uniform_5_2_3 = record uniform_3_1_2 { nodes = 5; faults = 2; choices = 3; some_node = lit≤ tt; nodes_in_range = lit≤ tt; faults_in_range = lit< tt; some_choice = lit≤ tt; choices_in_range = lit≤ tt; mode_in_range = lit< tt }

abbrev data_a : Item
data_a = Data (0x61 ∷ [])

abbrev data_b : Item
data_b = Data (0x62 ∷ [])

abbrev message : ℕ → ℕ → Item → Message
message s i item = record { sender = s; number = i; item = item }

abbrev nothing : Outcome
nothing = record { deliveries = []; decisions = [] }

abbrev delivers : List Message → Outcome
delivers messages = record { deliveries = messages; decisions = [] }

abbrev deciding : List Message → ℕ → ℕ → Outcome
deciding messages j v = record { deliveries = messages; decisions = record { instance = j; value = v } ∷ [] }

abbrev due_from : ℕ → ℕ → ℕ → Due
due_from p q slot = record { from = p; to = q; slot = slot }

abbrev propose_alone_events : List Event
propose_alone_events =
    Order 0 data_a ∷ Order 0 (Propose 7 5) ∷ []

-- one node decides alone
propose_alone : replies group_1_0_1 propose_alone_events ≡
    Ok (Ordered 0 (delivers (message 0 0 data_a ∷ [])))
    ∷ Ok (Ordered 1 (deciding (message 0 1 (Propose 7 5) ∷ []) 7 5))
    ∷ []
unfolding model_on_literals
propose_alone = refl

abbrev hold_back_events : List Event
hold_back_events =
    Order 0 data_a ∷ Order 0 data_b ∷ Send 0 1 1 ∷ Send 0 1 0 ∷ Arrive 0 0 ∷ Arrive 0 1 ∷ []

-- the second item overtakes the first
hold_back : replies group_3_1_2 hold_back_events ≡
    Ok (Ordered 0 (delivers (message 0 0 data_a ∷ [])))
    ∷ Ok (Ordered 1 (delivers (message 0 1 data_b ∷ [])))
    ∷ Ok (Sent 0)
    ∷ Ok (Sent 1)
    ∷ Ok (Arrived 1 nothing)
    ∷ Ok (Arrived 1 (delivers (message 0 0 data_a ∷ message 0 1 data_b ∷ [])))
    ∷ []
unfolding model_on_literals
hold_back = refl

abbrev acknowledged_twice_events : List Event
acknowledged_twice_events =
    Order 0 data_a ∷ Order 0 data_b ∷ Send 0 1 1 ∷ Send 0 1 0 ∷ Arrive 0 0 ∷ Arrive 0 1 ∷ Arrive 0 0 ∷ Ack 1 0 1 ∷ Ack 1 0 1 ∷ []

-- an arrival again, and two acknowledgements
acknowledged_twice : replies group_3_1_2 acknowledged_twice_events ≡
    Ok (Ordered 0 (delivers (message 0 0 data_a ∷ [])))
    ∷ Ok (Ordered 1 (delivers (message 0 1 data_b ∷ [])))
    ∷ Ok (Sent 0)
    ∷ Ok (Sent 1)
    ∷ Ok (Arrived 1 nothing)
    ∷ Ok (Arrived 1 (delivers (message 0 0 data_a ∷ message 0 1 data_b ∷ [])))
    ∷ Ok (Arrived 1 nothing)
    ∷ Ok (Sent 0)
    ∷ Ok (Sent 1)
    ∷ []
unfolding model_on_literals
acknowledged_twice = refl

acknowledged_twice_owed : owed (history group_3_1_2 acknowledged_twice_events) 0 1 ≡ 0 ∷ 1 ∷ []
unfolding model_on_literals
acknowledged_twice_owed = refl

acknowledged_twice_owed_after : owed (history_from group_3_1_2 (history group_3_1_2 acknowledged_twice_events) (Arrive 1 0 ∷ [])) 0 1 ≡ 0 ∷ []
unfolding model_on_literals
acknowledged_twice_owed_after = refl

acknowledged_twice_owed_again : owed (history_from group_3_1_2 (history group_3_1_2 acknowledged_twice_events) (Arrive 1 0 ∷ Arrive 1 1 ∷ [])) 0 1 ≡ 0 ∷ []
unfolding model_on_literals
acknowledged_twice_owed_again = refl

abbrev relay_after_crash_events : List Event
relay_after_crash_events =
    Order 0 data_a ∷ Send 0 1 0 ∷ Arrive 0 0 ∷ Crash 0 ∷ Send 1 2 0 ∷ Arrive 1 0 ∷ []

-- the sender crashes, and a peer relays
relay_after_crash : replies group_3_1_2 relay_after_crash_events ≡
    Ok (Ordered 0 (delivers (message 0 0 data_a ∷ [])))
    ∷ Ok (Sent 0)
    ∷ Ok (Arrived 1 (delivers (message 0 0 data_a ∷ [])))
    ∷ Ok Down
    ∷ Ok (Sent 0)
    ∷ Ok (Arrived 2 (delivers (message 0 0 data_a ∷ [])))
    ∷ []
unfolding model_on_literals
relay_after_crash = refl

abbrev closed_stream_events : List Event
closed_stream_events =
    Order 0 Close ∷ Order 0 data_a ∷ Order 0 Close ∷ []

-- nothing after the close
closed_stream : replies group_1_0_1 closed_stream_events ≡
    Ok (Ordered 0 (delivers (message 0 0 Close ∷ [])))
    ∷ Err refusal.Closed
    ∷ Err refusal.Closed
    ∷ []
unfolding model_on_literals
closed_stream = refl

abbrev two_values_decided_events : List Event
two_values_decided_events =
    Order 0 (Propose 7 3) ∷ Order 1 (Propose 7 1) ∷ Order 2 (Propose 7 2) ∷ Send 2 0 0 ∷ Arrive 2 0 ∷ Send 0 1 0 ∷ Arrive 0 0 ∷ Send 1 2 0 ∷ Arrive 1 0 ∷ []

-- two decided values among three nodes
two_values_decided : replies group_3_1_2 two_values_decided_events ≡
    Ok (Ordered 0 (delivers (message 0 0 (Propose 7 3) ∷ [])))
    ∷ Ok (Ordered 0 (delivers (message 1 0 (Propose 7 1) ∷ [])))
    ∷ Ok (Ordered 0 (delivers (message 2 0 (Propose 7 2) ∷ [])))
    ∷ Ok (Sent 0)
    ∷ Ok (Arrived 0 (deciding (message 2 0 (Propose 7 2) ∷ []) 7 2))
    ∷ Ok (Sent 0)
    ∷ Ok (Arrived 1 (deciding (message 0 0 (Propose 7 3) ∷ []) 7 1))
    ∷ Ok (Sent 0)
    ∷ Ok (Arrived 2 (deciding (message 1 0 (Propose 7 1) ∷ []) 7 1))
    ∷ []
unfolding model_on_literals
two_values_decided = refl

abbrev proposed_twice_events : List Event
proposed_twice_events =
    Order 0 (Propose 7 4) ∷ Order 0 (Propose 7 9) ∷ Order 1 (Propose 7 4) ∷ Send 1 0 0 ∷ Arrive 1 0 ∷ []

-- a second proposal is refused
proposed_twice : replies group_2_0_1 proposed_twice_events ≡
    Ok (Ordered 0 (delivers (message 0 0 (Propose 7 4) ∷ [])))
    ∷ Err refusal.AlreadyProposed
    ∷ Ok (Ordered 0 (delivers (message 1 0 (Propose 7 4) ∷ [])))
    ∷ Ok (Sent 0)
    ∷ Ok (Arrived 0 (deciding (message 1 0 (Propose 7 4) ∷ []) 7 4))
    ∷ []
unfolding model_on_literals
proposed_twice = refl

abbrev third_proposal_decides_events : List Event
third_proposal_decides_events =
    Order 0 (Propose 7 3) ∷ Order 1 (Propose 7 1) ∷ Order 2 (Propose 7 2) ∷ Send 1 0 0 ∷ Arrive 1 0 ∷ Send 2 0 0 ∷ Arrive 2 0 ∷ []

-- no decision before the last proposal
third_proposal_decides : replies group_3_0_1 third_proposal_decides_events ≡
    Ok (Ordered 0 (delivers (message 0 0 (Propose 7 3) ∷ [])))
    ∷ Ok (Ordered 0 (delivers (message 1 0 (Propose 7 1) ∷ [])))
    ∷ Ok (Ordered 0 (delivers (message 2 0 (Propose 7 2) ∷ [])))
    ∷ Ok (Sent 0)
    ∷ Ok (Arrived 0 (delivers (message 1 0 (Propose 7 1) ∷ [])))
    ∷ Ok (Sent 0)
    ∷ Ok (Arrived 0 (deciding (message 2 0 (Propose 7 2) ∷ []) 7 1))
    ∷ []
unfolding model_on_literals
third_proposal_decides = refl

abbrev refusals_events : List Event
refusals_events =
    Order 0 data_a ∷ Send 0 1 0 ∷ Ack 1 0 0 ∷ Arrive 0 0 ∷ Ack 1 0 0 ∷ Arrive 1 0 ∷ Send 0 1 0 ∷ Send 0 0 0 ∷ Send 0 3 0 ∷ Send 0 1 5 ∷ Arrive 0 9 ∷ Crash 2 ∷ Crash 2 ∷ Send 2 2 0 ∷ []

-- each refusal of a link
refusals : replies group_3_1_2 refusals_events ≡
    Ok (Ordered 0 (delivers (message 0 0 data_a ∷ [])))
    ∷ Ok (Sent 0)
    ∷ Err refusal.NotTaken
    ∷ Ok (Arrived 1 (delivers (message 0 0 data_a ∷ [])))
    ∷ Ok (Sent 0)
    ∷ Ok (Arrived 0 nothing)
    ∷ Err refusal.Acked
    ∷ Err refusal.SelfLink
    ∷ Err refusal.NoNode
    ∷ Err refusal.NoSlot
    ∷ Err refusal.NoFrame
    ∷ Ok Down
    ∷ Err refusal.Crashed
    ∷ Err refusal.SelfLink
    ∷ []
unfolding model_on_literals
refusals = refl

abbrev one_order : History
one_order = history group_3_1_2 (Order 0 data_a ∷ [])

settle_spreads_plan : plan group_3_1_2 one_order ≡
    Send 0 1 0 ∷ Arrive 0 0 ∷ Ack 1 0 0 ∷ Arrive 1 0 ∷ Send 0 2 0 ∷ Arrive 0 1 ∷ Ack 2 0 0 ∷ Arrive 2 0 ∷ []
unfolding model_on_literals
settle_spreads_plan = refl

settle_spreads_before : due group_3_1_2 one_order ≡ due_from 0 1 0 ∷ due_from 0 2 0 ∷ []
unfolding model_on_literals
settle_spreads_before = refl

settle_spreads_after_one : due group_3_1_2 (after_round group_3_1_2 one_order) ≡ due_from 1 2 0 ∷ due_from 2 1 0 ∷ []
unfolding model_on_literals
settle_spreads_after_one = refl

settle_spreads_after_two : due group_3_1_2 (after_round group_3_1_2 (after_round group_3_1_2 one_order)) ≡ []
unfolding model_on_literals
settle_spreads_after_two = refl

abbrev crashed_sender : History
crashed_sender = history group_3_1_2 (Order 0 data_a ∷ Send 0 1 0 ∷ Crash 0 ∷ [])

settle_after_crash_first : due group_3_1_2 crashed_sender ≡ []
unfolding model_on_literals
settle_after_crash_first = refl

abbrev arrived_late : History
arrived_late = history_from group_3_1_2 crashed_sender (Arrive 0 0 ∷ [])

settle_after_crash_arrival : due group_3_1_2 arrived_late ≡ due_from 1 2 0 ∷ []
unfolding model_on_literals
settle_after_crash_arrival = refl

settle_after_crash_plan : plan group_3_1_2 arrived_late ≡ Send 1 2 0 ∷ Arrive 1 0 ∷ Ack 2 1 0 ∷ Arrive 2 0 ∷ []
unfolding model_on_literals
settle_after_crash_plan = refl

settle_after_crash_second : due group_3_1_2 (after_round group_3_1_2 arrived_late) ≡ []
unfolding model_on_literals
settle_after_crash_second = refl

settle_after_crash_delivered : delivered group_3_1_2 (after_round group_3_1_2 arrived_late) 2 0 ≡ message 0 0 data_a ∷ []
unfolding model_on_literals
settle_after_crash_delivered = refl

abbrev place_kept_for_close_events : List Event
place_kept_for_close_events =
    Order 0 data_a ∷ Order 0 data_b ∷ Order 0 Close ∷ []

-- the last place is kept for the close
place_kept_for_close : replies group_of_two_items place_kept_for_close_events ≡
    Ok (Ordered 0 (delivers (message 0 0 data_a ∷ [])))
    ∷ Err refusal.StreamFull
    ∷ Ok (Ordered 1 (delivers (message 0 1 Close ∷ [])))
    ∷ []
unfolding model_on_literals
place_kept_for_close = refl

abbrev uniform_acknowledged_events : List Event
uniform_acknowledged_events =
    Order 0 data_a ∷ Send 0 1 0 ∷ Arrive 0 0 ∷ Ack 1 0 0 ∷ Arrive 1 0 ∷ []

-- in uniform mode the sender waits for an acknowledgement
uniform_acknowledged : replies uniform_3_1_2 uniform_acknowledged_events ≡
    Ok (Ordered 0 nothing)
    ∷ Ok (Sent 0)
    ∷ Ok (Arrived 1 (delivers (message 0 0 data_a ∷ [])))
    ∷ Ok (Sent 0)
    ∷ Ok (Arrived 0 (delivers (message 0 0 data_a ∷ [])))
    ∷ []
unfolding model_on_literals
uniform_acknowledged = refl

uniform_acknowledged_known : map (λ p. known_by uniform_3_1_2 (history uniform_3_1_2 uniform_acknowledged_events) p 0 0) (0 ∷ 1 ∷ 2 ∷ []) ≡ 2 ∷ 2 ∷ 0 ∷ []
unfolding model_on_literals
uniform_acknowledged_known = refl

abbrev uniform_second_holder_events : List Event
uniform_second_holder_events =
    Order 0 data_a ∷ Send 0 1 0 ∷ Arrive 0 0 ∷ Send 0 2 0 ∷ Arrive 0 1 ∷ Send 2 1 0 ∷ Arrive 2 0 ∷ []

-- a second holder's Carry of a held pair delivers it
uniform_second_holder : replies uniform_5_2_3 uniform_second_holder_events ≡
    Ok (Ordered 0 nothing)
    ∷ Ok (Sent 0)
    ∷ Ok (Arrived 1 nothing)
    ∷ Ok (Sent 1)
    ∷ Ok (Arrived 2 nothing)
    ∷ Ok (Sent 0)
    ∷ Ok (Arrived 1 (delivers (message 0 0 data_a ∷ [])))
    ∷ []
unfolding model_on_literals
uniform_second_holder = refl
