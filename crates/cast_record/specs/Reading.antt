-- The line that bytes spell.
--     item_of word     the item that a word spells, if it spells one
--     line_of bytes    the line that the bytes spell without a line feed, if they spell one
--     IsReadOf bytes o     o is the line within its ranges whose text the bytes are, or None if there is no such line
--     HasData item     there is an item, and it is data; `LineHasData` says the same of a line with an item
use Rattle.std.specs.Prelude.{◌≡◌, ℕ, ◌-◌, ◌==◌, ◌||◌, nat_lt, nat_le, if◌then◌else◌, IsSomeAnd, List, [], ◌∷◌, length, take, drop, codes, Bool, true, false, Option, Some, None, option_map, option_and_then}
use Rattle.std.specs.Str.{bytes_eq}
use Rattle.std.specs.List.{slice_split}
use Rattle.cast_message.specs.declared.config.Mode.{Mode}
use Rattle.cast_message.specs.declared.config.Mode.TheVariants.{Basic, Uniform}
use Rattle.cast_message.specs.declared.message.Item.{Item}
use Rattle.cast_message.specs.declared.message.Item.TheVariants.{Data, Propose, Close}
use Rattle.cast_message.specs.declared.message.Message.{Message}
use Rattle.cast_record.specs.declared.line.Line.{Line}
use Rattle.cast_record.specs.declared.line.Line.TheVariants.{Head, Head2, Broadcast, Delivered, Decided, Crashed, Refused, End}
use Rattle.cast_record.specs.Nodes.{node_of}
use Rattle.cast_record.specs.Numbers.{number_of}
use Rattle.cast_record.specs.Modes.{mode_named}
use Rattle.cast_record.specs.Options.{◌>>=◌}
use Rattle.cast_record.specs.Unhex.{unhex}
use Rattle.cast_record.specs.Ranges.{IsWithin}
use Rattle.cast_record.specs.Text.{line_text}

-- ---- exactly this many words

abbrev pub Words : Type 0
Words = List (List ℕ)

abbrev pub one_of : Words → Option (List ℕ)
one_of (a ∷ []) = Some a
one_of _ = None

abbrev pub two_of : Words → Option (List ℕ × List ℕ)
two_of (a ∷ b ∷ []) = Some (a, b)
two_of _ = None

abbrev pub three_of : Words → Option (List ℕ × List ℕ × List ℕ)
three_of (a ∷ b ∷ c ∷ []) = Some (a, b, c)
three_of _ = None

abbrev pub four_of : Words → Option (List ℕ × List ℕ × List ℕ × List ℕ)
four_of (a ∷ b ∷ c ∷ d ∷ []) = Some (a, b, c, d)
four_of _ = None

-- ---- items

-- at most 1,024 bytes
abbrev pub data_of : List ℕ → Option Item
data_of digits = if nat_lt 2048 (length digits) then None else option_map Data (unhex digits)

abbrev pub proposal_by : List ℕ × List ℕ → Option Item
proposal_by words = do
  instance ← number_of words.0
  value ← number_of words.1
  Some (Propose instance value)

-- two numbers with a colon between them
abbrev pub proposal_of : List ℕ → Option Item
proposal_of word = option_and_then proposal_by (two_of (slice_split (λ b. b == 58) word))

abbrev pub item_named : List ℕ → List ℕ → Option Item
item_named name rest =
    if bytes_eq name (codes "data:") then data_of rest else (
    if bytes_eq name (codes "prop:") then proposal_of rest else None)

abbrev pub item_of : List ℕ → Option Item
item_of word =
    if bytes_eq word (codes "close") then Some Close else (
    if nat_lt (length word) 5 then None else item_named (take 5 word) (drop 5 word))

-- ---- lines

abbrev pub pair_of : List ℕ → List ℕ → Option (ℕ × ℕ)
pair_of p i = do
  sender ← node_of p
  number ← number_of i
  Some (sender, number)

abbrev pub message_of : List ℕ → List ℕ → List ℕ → Option Message
message_of p i word = do
  pair ← pair_of p i
  item ← item_of word
  Some (record { sender = pair.0; number = pair.1; item = item })

abbrev pub broadcast_by : List ℕ × List ℕ × List ℕ → Option Line
broadcast_by words = option_map Broadcast (message_of words.0 words.1 words.2)

abbrev pub delivered_by : List ℕ × List ℕ × List ℕ × List ℕ → Option Line
delivered_by words = do
  node ← node_of words.0
  message ← message_of words.1 words.2 words.3
  Some (Delivered node message)

abbrev pub decided_by : List ℕ × List ℕ × List ℕ → Option Line
decided_by words = do
  node ← node_of words.0
  instance ← number_of words.1
  value ← number_of words.2
  Some (Decided node (record { instance = instance; value = value }))

abbrev pub crashed_by : List ℕ → Option Line
crashed_by word = option_map Crashed (node_of word)

abbrev pub refusal_within : ℕ → ℕ → Option Line
refusal_within index code = if nat_lt code 1 || nat_lt 12 code then None else Some (Refused index code)

abbrev pub refused_by : List ℕ × List ℕ → Option Line
refused_by words = do
  index ← number_of words.0
  code ← number_of words.1
  refusal_within index code

-- the numbers of a head are outside their ranges
abbrev pub is_outside : ℕ → ℕ → ℕ → ℕ → Bool
is_outside most nodes faults choices =
    nat_lt nodes 1 || nat_lt most nodes || nat_le nodes faults || nat_lt choices 1 || nat_lt nodes choices

abbrev pub head_within : ℕ → ℕ → ℕ → Option Line
head_within nodes faults choices =
    if is_outside 16 nodes faults choices then None else Some (Head nodes faults choices)

abbrev pub head_by : List ℕ × List ℕ × List ℕ → Option Line
head_by words = do
  nodes ← number_of words.0
  faults ← number_of words.1
  choices ← number_of words.2
  head_within nodes faults choices

-- uniform mode is for groups where fewer than half may crash
abbrev pub is_mode_outside : Mode → ℕ → ℕ → Bool
is_mode_outside Basic nodes faults = false
is_mode_outside Uniform nodes faults = nat_le (nodes - faults) faults

abbrev pub head2_within : ℕ → ℕ → ℕ → Mode → Option Line
head2_within nodes faults choices mode =
    if is_outside 64 nodes faults choices || is_mode_outside mode nodes faults then None
    else Some (Head2 nodes faults choices mode)

abbrev pub head2_by : List ℕ × List ℕ × List ℕ × List ℕ → Option Line
head2_by words = do
  nodes ← number_of words.0
  faults ← number_of words.1
  choices ← number_of words.2
  mode ← mode_named words.3
  head2_within nodes faults choices mode

-- a line without an item
abbrev pub short_line_named : List ℕ → Words → Option Line
short_line_named name words =
    if bytes_eq name (codes "v") then option_and_then decided_by (three_of words) else (
    if bytes_eq name (codes "x") then option_and_then crashed_by (one_of words) else (
    if bytes_eq name (codes "r") then option_and_then refused_by (two_of words) else (
    if bytes_eq name (codes "cast/1") then option_and_then head_by (three_of words) else (
    if bytes_eq name (codes "cast/2") then option_and_then head2_by (four_of words) else None))))

-- the line with this name and these words after it
abbrev pub line_named : List ℕ → Words → Option Line
line_named name words =
    if bytes_eq name (codes "d") then option_and_then delivered_by (four_of words) else (
    if bytes_eq name (codes "b") then option_and_then broadcast_by (three_of words)
    else short_line_named name words)

-- the line of one word
abbrev pub end_named : List ℕ → Option Line
end_named name = if bytes_eq name (codes "end") then Some End else None

abbrev pub line_of_words : Words → Option Line
line_of_words [] = None
line_of_words (name ∷ []) = end_named name
line_of_words (name ∷ word ∷ words) = line_named name (word ∷ words)

-- one blank separates the words of a line
unfoldable pub line_of : List ℕ → Option Line
line_of bytes = line_of_words (slice_split (λ b. b == 32) bytes)

-- the bytes are the text of this line, which is within its ranges; or they are the text of no such line
abbrev pub IsReadOf : List ℕ → Option Line → Type 0
IsReadOf bytes (Some line) = IsWithin line × (line_text line ≡ bytes)
IsReadOf bytes None = (line : Line) → IsWithin line → line_text line ≡ bytes → ⊥

-- ---- data, the only item that takes memory

abbrev pub is_data : Item → Bool
is_data (Data payload) = true
is_data _ = false

abbrev pub HasData : Option Item → Type 0
HasData item = IsSomeAnd item (λ item. is_data item ≡ true)

abbrev pub brings_data : Line → Bool
brings_data (Broadcast message) = is_data message.item
brings_data (Delivered node message) = is_data message.item
brings_data _ = false

abbrev pub LineHasData : Option Line → Type 0
LineHasData line = IsSomeAnd line (λ line. brings_data line ≡ true)
