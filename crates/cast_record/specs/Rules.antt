-- Which rule a line breaks, given all lines before it. The newest line comes first: `line ∷ past` is `past` and then
-- `line`.
--     broken past line     the least rule that the line breaks after those lines, if it breaks one
use Rattle.std.specs.Prelude.{ℕ, ◌+◌, ◌==◌, ◌&&◌, ◌||◌, not, nat_lt, if◌then◌else◌, Bool, true, false, List, [], ◌∷◌, length, Option, Some, None}
use Rattle.std.specs.List.{filter, list_any, filter_map}
use Rattle.std.specs.Str.{bytes_eq}
use Rattle.cast_message.specs.declared.message.Item.{Item}
use Rattle.cast_message.specs.declared.message.Item.TheVariants.{Data, Propose, Close}
use Rattle.cast_message.specs.declared.message.Message.{Message}
use Rattle.cast_message.specs.Items.{is_close, proposes_in}
use Rattle.cast_record.specs.declared.line.Line.{Line}
use Rattle.cast_record.specs.declared.line.Line.TheVariants.{Head, Head2, Broadcast, Delivered, Decided, Crashed, End}

-- ---- what a line says

-- the item proposes the value w in instance j
abbrev pub proposes : ℕ → ℕ → Item → Bool
proposes j w (Propose instance value) = instance == j && value == w
proposes j w _ = false

abbrev pub is_item : Item → Item → Bool
is_item (Data xs) (Data ys) = bytes_eq xs ys
is_item (Propose j v) (Propose k w) = j == k && v == w
is_item Close Close = true
is_item _ _ = false

abbrev pub is_message : Message → Message → Bool
is_message m n = m.sender == n.sender && m.number == n.number && is_item m.item n.item

-- a broadcast that passes the test
abbrev pub is_broadcast : (Message → Bool) → Line → Bool
is_broadcast test (Broadcast message) = test message
is_broadcast test _ = false

-- node q delivered an item of s
abbrev pub is_delivery : ℕ → ℕ → Line → Bool
is_delivery q s (Delivered node message) = node == q && message.sender == s
is_delivery q s _ = false

-- node p crashed
abbrev pub is_crash : ℕ → Line → Bool
is_crash p (Crashed node) = node == p
is_crash p _ = false

-- the value that the line decides in instance j, if it does
abbrev pub value_in : ℕ → Line → Option ℕ
value_in j (Decided node decision) = if decision.instance == j then Some decision.value else None
value_in j _ = None

abbrev pub is_head : Line → Bool
is_head (Head nodes faults choices) = true
is_head (Head2 nodes faults choices mode) = true
is_head _ = false

abbrev pub is_end : Line → Bool
is_end End = true
is_end _ = false

-- the line names only nodes below n
abbrev pub names_below : ℕ → Line → Bool
names_below n (Broadcast message) = nat_lt message.sender n
names_below n (Delivered node message) = nat_lt node n && nat_lt message.sender n
names_below n (Decided node decision) = nat_lt node n
names_below n (Crashed node) = nat_lt node n
names_below n _ = true

-- ---- what the lines before say

-- the numbers of the head
pub record Group : Type 0 where
  pub nodes : ℕ
  pub faults : ℕ
  pub choices : ℕ

abbrev pub group_at : Line → Group → Group
group_at (Head nodes faults choices) rest = record { nodes = nodes; faults = faults; choices = choices }
group_at (Head2 nodes faults choices mode) rest = record { nodes = nodes; faults = faults; choices = choices }
group_at _ rest = rest

-- the numbers of the head among the lines
unfoldable pub group_of : List Line → Group
group_of [] = record { nodes = 0; faults = 0; choices = 0 }
group_of (line ∷ past) = group_at line (group_of past)

unfoldable pub broadcasts_of : List Line → ℕ → ℕ
broadcasts_of past p = length (filter (is_broadcast (λ m. m.sender == p)) past)

unfoldable pub deliveries_of : List Line → ℕ → ℕ → ℕ
deliveries_of past q s = length (filter (is_delivery q s) past)

unfoldable pub has_broadcast : List Line → Message → Bool
has_broadcast past message = list_any (is_broadcast (λ m. is_message m message)) past

unfoldable pub has_closed : List Line → ℕ → Bool
has_closed past p = list_any (is_broadcast (λ m. m.sender == p && is_close m.item)) past

unfoldable pub has_proposed : List Line → ℕ → ℕ → Bool
has_proposed past p j = list_any (is_broadcast (λ m. m.sender == p && proposes_in j m.item)) past

unfoldable pub is_proposed : List Line → ℕ → ℕ → Bool
is_proposed past j w = list_any (is_broadcast (λ m. proposes j w m.item)) past

unfoldable pub has_crashed : List Line → ℕ → Bool
has_crashed past p = list_any (is_crash p) past

-- the values that are decided in instance j
unfoldable pub values_in : List Line → ℕ → List ℕ
values_in past j = filter_map (value_in j) past

-- each value once
abbrev pub different : List ℕ → List ℕ
different [] = []
different (x ∷ xs) = if list_any (λ y. y == x) xs then different xs else x ∷ different xs

-- ---- the rules

abbrev pub is_ended : List Line → Bool
is_ended [] = false
is_ended (line ∷ past) = is_end line

-- The first line is a head, and no other line is. Nothing follows the end. Each node belongs to the group.
abbrev pub is_out_of_place : List Line → Line → Bool
is_out_of_place [] line = not (is_head line)
is_out_of_place (last ∷ past) line =
    is_end last || is_head line || not (names_below (group_of (last ∷ past)).nodes line)

-- A broadcast's number is the number of earlier broadcasts of its node. A delivery's number is the number of earlier
-- deliveries from that sender there, and its message was broadcast earlier.
abbrev pub breaks_prefix : List Line → Line → Bool
breaks_prefix past (Broadcast message) = not (message.number == broadcasts_of past message.sender)
breaks_prefix past (Delivered node message) =
    not (message.number == deliveries_of past node message.sender) || not (has_broadcast past message)
breaks_prefix past _ = false

-- a broadcast of a node that closed earlier
abbrev pub is_after_close : List Line → Line → Bool
is_after_close past (Broadcast message) = has_closed past message.sender
is_after_close past _ = false

-- a decision for a value that was not proposed earlier
abbrev pub is_not_proposed : List Line → Line → Bool
is_not_proposed past (Decided node decision) = not (is_proposed past decision.instance decision.value)
is_not_proposed past _ = false

-- a decision that makes more than k values decided in its instance, if fewer than k nodes may crash
abbrev pub is_of_too_many : List Line → Line → Bool
is_of_too_many past (Decided node decision) =
    let group = group_of past in
    nat_lt group.faults group.choices && nat_lt group.choices
    (length (different (decision.value ∷ values_in past decision.instance)))
is_of_too_many past _ = false

-- something of a node that crashed earlier
abbrev pub is_after_crash : List Line → Line → Bool
is_after_crash past (Broadcast message) = has_crashed past message.sender
is_after_crash past (Delivered node message) = has_crashed past node
is_after_crash past (Decided node decision) = has_crashed past node
is_after_crash past (Crashed node) = has_crashed past node
is_after_crash past _ = false

abbrev pub is_second_proposal : List Line → ℕ → Item → Bool
is_second_proposal past p (Propose instance value) = has_proposed past p instance
is_second_proposal past p _ = false

-- a second proposal of a node in an instance
abbrev pub is_proposed_twice : List Line → Line → Bool
is_proposed_twice past (Broadcast message) = is_second_proposal past message.sender message.item
is_proposed_twice past _ = false

-- whether each rule is broken, from rule 0 on
abbrev pub rules : List Line → Line → List Bool
rules past line =
    is_out_of_place past line ∷ breaks_prefix past line ∷ is_after_close past line ∷ is_not_proposed past line
    ∷ is_of_too_many past line ∷ is_after_crash past line ∷ is_proposed_twice past line ∷ []

-- the first broken rule, counted from `number`
abbrev pub first_broken : ℕ → List Bool → Option ℕ
first_broken number [] = None
first_broken number (is_broken ∷ rules) = if is_broken then Some number else first_broken (number + 1) rules

-- the least rule that the line breaks
unfoldable pub broken : List Line → Line → Option ℕ
broken past line = first_broken 0 (rules past line)
