-- The text of a record. One blank separates the words of a line, and each line ends with a line feed.
--     line_text line       a line without its line feed
--     record_text lines    the lines, each with its line feed
use Rattle.std.specs.Prelude.{ℕ, List, [], ◌∷◌, ◌++◌, codes, decimal, flat_map}
use Rattle.std.specs.List.{join_with_byte}
use Rattle.cast_message.specs.declared.message.Item.{Item}
use Rattle.cast_message.specs.declared.message.Item.TheVariants.{Data, Propose, Close}
use Rattle.cast_message.specs.declared.message.Message.{Message}
use Rattle.cast_record.specs.declared.line.Line.{Line}
use Rattle.cast_record.specs.declared.line.Line.TheVariants.{Head, Head2, Broadcast, Delivered, Decided, Crashed, Refused, End}
use Rattle.cast_record.specs.Hex.{hex}
use Rattle.cast_record.specs.Modes.{mode_word}

-- the word of an item
abbrev pub item_word : Item → List ℕ
item_word (Data payload) = codes "data:" ++ hex payload
item_word (Propose instance value) = codes "prop:" ++ decimal instance ++ codes ":" ++ decimal value
item_word Close = codes "close"

abbrev pub message_words : Message → List (List ℕ)
message_words m = decimal m.sender ∷ decimal m.number ∷ item_word m.item ∷ []

abbrev pub line_words : Line → List (List ℕ)
line_words (Head nodes faults choices) = codes "cast/1" ∷ decimal nodes ∷ decimal faults ∷ decimal choices ∷ []
line_words (Head2 nodes faults choices mode) =
    codes "cast/2" ∷ decimal nodes ∷ decimal faults ∷ decimal choices ∷ mode_word mode ∷ []
line_words (Broadcast message) = codes "b" ∷ message_words message
line_words (Delivered node message) = codes "d" ∷ decimal node ∷ message_words message
line_words (Decided node decision) =
    codes "v" ∷ decimal node ∷ decimal decision.instance ∷ decimal decision.value ∷ []
line_words (Crashed node) = codes "x" ∷ decimal node ∷ []
line_words (Refused index code) = codes "r" ∷ decimal index ∷ decimal code ∷ []
line_words End = codes "end" ∷ []

-- the line without its line feed
abbrev pub line_text : Line → List ℕ
line_text line = join_with_byte 32 (line_words line)

-- the lines, each with a line feed
abbrev pub record_text : List Line → List ℕ
record_text lines = flat_map (λ line. line_text line ++ 10 ∷ []) lines
