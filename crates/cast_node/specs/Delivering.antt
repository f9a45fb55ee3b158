-- What a node keeps about the pairs that it holds, besides its links.
--     Delivering                     who is known to hold each pair, what waits, and what was delivered and counted
--     nothing_delivered config       for a node that has done nothing
--     knowers_in knowers s i         the nodes known to hold the pair, none if it isn't held
--     first_members me s r           those of a new pair: the node, the sender, and where it came from
--     is_enough config members       enough nodes that what they hold may be delivered
--     noted ds s i members           these are known to hold the pair
--     heard_news, heard_by           messages whose turn comes by a mark of the pair, or by the item offered for it,
--                                    and what is then held back
--     let_go ds s i                  the messages whose turn comes by a mark of the pair are delivered
--     told_in config ds s i members  these are known to hold the pair; if they are enough, messages are let go
--     outcome_in config ds s i members   what is then delivered and decided
--     waiting_in ds message          a message is held back
--     waits_by known message         the call that keeps it, marked or not
use Rattle.std.specs.Prelude.{ℕ, suc, ◌-◌, ◌++◌, Bool, true, false, List, [], length, replicate, slice_index_or, slice_set, Option, None, if◌then◌else◌}
use Rattle.std.specs.Ordering.{nat_cmp}
use Rattle.std.specs.FinSet as set
use Rattle.std.specs.FinMap as map
use Rattle.cast_message.specs.declared.config.Config.{Config}
use Rattle.cast_message.specs.declared.event.Outcome.{Outcome}
use Rattle.cast_message.specs.declared.message.Item.{Item}
use Rattle.cast_message.specs.declared.message.Message.{Message}
use Rattle.cast_model.specs.Delivery.{are_enough}
use Rattle.cast_model.specs.History.{numbered}
use Rattle.cast_model.specs.OwnSteps.{nothing}
use Rattle.cast_fifo.specs.HeldBack.{HeldBack, nothing_held, held_of, heard_items, heard_after}
use Rattle.cast_fifo.specs.Calls.{Call, Hold, Offer, held_after}
use Rattle.cast_agree.specs.Counted.{Counted}
use Rattle.cast_agree.specs.Journal.{counted_all, decisions_all}

pub record Delivering : Type 0 where
  pub knowers : List (List (set.FinSet nat_cmp))  -- by sender and number
  pub hold_back : List HeldBack  -- by sender
  pub delivered : List (List Item)  -- by sender
  pub agree : Counted

abbrev pub nothing_delivered : Config → Delivering
nothing_delivered config = record {
  knowers = replicate config.nodes [];
  hold_back = replicate config.nodes nothing_held;
  delivered = replicate config.nodes [];
  agree = record { quorum = config.nodes - config.faults; tallies = map.empty };
}

abbrev pub knowers_in : List (List (set.FinSet nat_cmp)) → ℕ → ℕ → set.FinSet nat_cmp
knowers_in all s i = slice_index_or (slice_index_or all s []) i set.empty

abbrev pub first_members : ℕ → ℕ → ℕ → set.FinSet nat_cmp
first_members me sender source = set.insert (set.insert (set.insert set.empty me) sender) source

abbrev pub is_enough : Config → set.FinSet nat_cmp → Bool
is_enough config members = are_enough config.mode config.faults (set.len members)

-- a row whose place has these members; places before it that weren't there are empty
abbrev pub known_row : List (set.FinSet nat_cmp) → ℕ → set.FinSet nat_cmp →
    List (set.FinSet nat_cmp)
known_row row i members = slice_set (row ++ replicate (suc i - length row) set.empty) i members

abbrev pub noted : Delivering → ℕ → ℕ → set.FinSet nat_cmp → Delivering
noted ds s i members =
    let row = known_row (slice_index_or ds.knowers s []) i members in
    record ds { knowers = slice_set ds.knowers s row }

abbrev pub heard_news : List HeldBack → ℕ → ℕ → Option Item → List Message
heard_news all s i offered = numbered s (held_of all s).next (heard_items (held_of all s) i offered)

abbrev pub heard_by : List HeldBack → ℕ → ℕ → Option Item → List HeldBack
heard_by all s i offered = slice_set all s (heard_after (held_of all s) i offered)

abbrev pub news_in : Delivering → ℕ → ℕ → List Message
news_in ds s i = heard_news ds.hold_back s i None

abbrev pub news_outcome : Counted → List Message → Outcome
news_outcome agree news = record { deliveries = news; decisions = decisions_all agree news }

abbrev pub let_go : Delivering → ℕ → ℕ → Delivering
let_go ds s i = record ds {
  hold_back = heard_by ds.hold_back s i None;
  delivered = slice_set ds.delivered s
      (slice_index_or ds.delivered s [] ++ heard_items (held_of ds.hold_back s) i None);
  agree = counted_all ds.agree (news_in ds s i);
}

abbrev pub told_in : Config → Delivering → ℕ → ℕ → set.FinSet nat_cmp → Delivering
told_in config ds s i members =
    if is_enough config members
    then let_go (noted ds s i members) s i
    else noted ds s i members

abbrev pub outcome_in : Config → Delivering → ℕ → ℕ → set.FinSet nat_cmp → Outcome
outcome_in config ds s i members =
    if is_enough config members then news_outcome ds.agree (news_in ds s i) else nothing

abbrev pub waiting_in : Delivering → Message → Delivering
waiting_in ds message = record ds { hold_back = held_after ds.hold_back (Hold message) }

abbrev pub waits_by : Bool → Message → Call
waits_by true message = Offer message
waits_by false message = Hold message
