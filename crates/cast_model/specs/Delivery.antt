-- What a node delivers and decides, given the accepted events.
--     known_by config past p s i     how many nodes p knows to hold the pair
--     is_ready config past q s i     q may deliver the pair when its turn comes
--     next config past q s           the least number of s that q may not deliver yet
--     delivered config past q s      what q has delivered from s
--     deliveries config past event   the messages that an event after past delivers
--     delivery_log config past q     all that q delivered, in order
--     decisions_of config log news   the decisions due to these deliveries, if log was delivered before
--     outcome config past event      both
--     decision config past q j       what q decided in instance j
use Rattle.std.specs.Prelude.{ℕ, ◌-◌, ◌==◌, nat_lt, nat_le, min, take, Bool, true, false, ◌&&◌, ◌||◌, if◌then◌else◌, List, [], ◌∷◌, ◌++◌, length, slice_get, slice_range}
use Rattle.std.specs.Prelude.{Option, Some, None}
use Rattle.std.specs.List.{list_any, filter_map, count_by, prefix_len, take_while, range_with_len, fold}
use Rattle.cast_message.specs.declared.config.Config.{Config}
use Rattle.cast_message.specs.declared.config.Mode.{Mode}
use Rattle.cast_message.specs.declared.config.Mode.TheVariants.{Basic, Uniform}
use Rattle.cast_message.specs.declared.event.Event.{Event}
use Rattle.cast_message.specs.declared.event.Event.TheVariants.{Order, Arrive}
use Rattle.cast_message.specs.declared.event.Outcome.{Outcome}
use Rattle.cast_message.specs.declared.message.Item.{Item}
use Rattle.cast_message.specs.declared.message.Item.TheVariants.{Propose}
use Rattle.cast_message.specs.declared.message.Message.{Message}
use Rattle.cast_message.specs.declared.message.Decision.{Decision}
use Rattle.cast_message.specs.declared.message.Frame.{Frame}
use Rattle.cast_message.specs.declared.message.FrameBody.{FrameBody}
use Rattle.cast_message.specs.declared.message.FrameBody.TheVariants.{Carry, Took}
use Rattle.cast_model.specs.History.{History, FirstCopy, has_pair, copy_at, broadcast, first, given, frames, arrivals}

-- the numbers of the nodes
abbrev pub nodes_of : Config → List ℕ
nodes_of config = range_with_len 0 config.nodes

abbrev pub is_pair : FirstCopy → ℕ → ℕ → Bool
is_pair copy s i = copy.sender == s && copy.number == i

-- a frame with this body shows p that its maker holds the pair, if p gave the maker these copies
abbrev pub tells_of : List FirstCopy → ℕ → ℕ → FrameBody → Bool
tells_of copies s i (Carry slot message) = message.sender == s && message.number == i
tells_of copies s i (Took slot) = is_pair (copy_at copies slot) s i

-- How p, which holds the pair, knows that r holds it: r is p or the sender, or a frame from r that arrived at p shows
-- it. p gave r these copies.
abbrev pub is_told : List FirstCopy → List Frame → ℕ → ℕ → ℕ → ℕ → Bool
is_told copies arrived p s i r =
    r == p || r == s || list_any (λ frame. frame.from == r && tells_of copies s i frame.body) arrived

unfoldable pub knows : History → ℕ → ℕ → ℕ → ℕ → Bool
knows past p s i r = is_told (given past p r) (arrivals past p) p s i r

-- how many nodes p knows to hold the pair: none if p does not hold it
abbrev pub holders : Config → List FirstCopy → (ℕ → Bool) → ℕ → ℕ → ℕ
holders config copies knows s i = if has_pair copies s i then count_by knows (nodes_of config) else 0

unfoldable pub known_by : Config → History → ℕ → ℕ → ℕ → ℕ
known_by config past p s i = holders config (first past p) (knows past p s i) s i

-- In basic mode any number of known holders is enough, so a node's own copy is. In uniform mode there must be more than
-- may crash. Only here do the modes differ.
abbrev pub are_enough : Mode → ℕ → ℕ → Bool
are_enough Basic faults holders = true
are_enough Uniform faults holders = nat_lt faults holders

unfoldable pub is_known_enough : Mode → Config → History → ℕ → ℕ → ℕ → Bool
is_known_enough mode config past p s i = are_enough mode config.faults (known_by config past p s i)

-- q may deliver the pair when its turn comes
unfoldable pub is_ready : Config → History → ℕ → ℕ → ℕ → Bool
is_ready config past q s i = has_pair (first past q) s i && is_known_enough config.mode config past q s i

-- how many messages of s, from the first on, q may deliver; so it is the least number that q may not deliver yet
unfoldable pub next : Config → History → ℕ → ℕ → ℕ
next config past q s = prefix_len (λ message. is_ready config past q s message.number) (broadcast past s)

-- what q has delivered from s: the longest prefix of what s broadcast that q may deliver
unfoldable pub delivered : Config → History → ℕ → ℕ → List Message
delivered config past q s = take_while (λ message. is_ready config past q s message.number) (broadcast past s)

-- the sender of the pair that a frame is about
abbrev pub sender_in : List FirstCopy → FrameBody → ℕ
sender_in copies (Carry slot message) = message.sender
sender_in copies (Took slot) = (copy_at copies slot).sender

-- a node that may deliver at an event, and the sender of the pair ordered, carried or acknowledged
pub record Concerned : Type 0 where
  pub node : ℕ
  pub sender : ℕ

abbrev pub concerned_by : History → Option Frame → Option Concerned
concerned_by past None = None
concerned_by past (Some frame) =
    Some (record { node = frame.to; sender = sender_in (given past frame.to frame.from) frame.body })

unfoldable pub concerned : History → Event → Option Concerned
concerned past (Order node item) = Some (record { node = node; sender = node })
concerned past (Arrive from seq) = concerned_by past (slice_get (frames past from) seq)
concerned past _ = None

-- the messages of s whose turn comes at q with an event
unfoldable pub turns : Config → History → Event → ℕ → ℕ → List Message
turns config past event q s =
    slice_range (broadcast (event ∷ past) s) (next config past q s) (next config (event ∷ past) q s)

abbrev pub turns_of : Config → History → Event → Option Concerned → List Message
turns_of config past event None = []
turns_of config past event (Some c) = turns config past event c.node c.sender

-- the messages that an event after past delivers
unfoldable pub deliveries : Config → History → Event → List Message
deliveries config past event = turns_of config past event (concerned past event)

-- q is the node of an order or an arrival
abbrev pub is_node : Option Concerned → ℕ → Bool
is_node None q = false
is_node (Some c) q = c.node == q

-- all that q delivered, in order
unfoldable pub delivery_log : Config → History → ℕ → List Message
delivery_log config [] q = []
delivery_log config (event ∷ past) q =
    delivery_log config past q ++ (if is_node (concerned past event) q
    then deliveries config past event else [])

-- the value that an item proposes in an instance
abbrev pub value_in : ℕ → Item → Option ℕ
value_in j (Propose instance value) = if instance == j then Some value else None
value_in j _ = None

-- the values proposed in instance j by these messages, in order
unfoldable pub votes : ℕ → List Message → List ℕ
votes j messages = filter_map (λ message. value_in j message.item) messages

-- the least of some numbers
unfoldable pub least : List ℕ → ℕ
least [] = 0
least (x ∷ xs) = fold min x xs

-- the decision of instance j, if the last of its votes was just delivered
abbrev pub decision_by : Config → ℕ → List ℕ → List Decision
decision_by config j values =
    if length values == config.nodes - config.faults
    then record { instance = j; value = least values } ∷ [] else []

abbrev pub decision_on : Config → List Message → Item → List Decision
decision_on config log (Propose instance value) = decision_by config instance (votes instance log)
decision_on config log _ = []

-- the decisions due to these deliveries, one after another, if log was delivered before
unfoldable pub decisions_of : Config → List Message → List Message → List Decision
decisions_of config log [] = []
decisions_of config log (message ∷ messages) =
    decision_on config (log ++ message ∷ []) message.item ++ decisions_of config (log ++ message ∷ []) messages

abbrev pub log_of : Config → History → Option Concerned → List Message
log_of config past None = []
log_of config past (Some c) = delivery_log config past c.node

-- what an event after past delivers and decides
unfoldable pub outcome : Config → History → Event → Outcome
outcome config past event =
    let news = deliveries config past event in
    record {
      deliveries = news;
      decisions = decisions_of config (log_of config past (concerned past event)) news;
    }

-- what q decided in instance j: the least of the votes that completed it, after they were delivered
unfoldable pub decision : Config → History → ℕ → ℕ → Option ℕ
decision config past q j =
    let values = votes j (delivery_log config past q) in
    if nat_le (config.nodes - config.faults) (length values)
    then Some (least (take (config.nodes - config.faults) values)) else None
