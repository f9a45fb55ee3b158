-- What a line says, if its item is given as its word.
--     line_said line     the line
use Rattle.cast_record.specs.declared.line.Line.{Line}
use Rattle.cast_record.specs.declared.line.Line.TheVariants.{Head, Head2, Broadcast, Delivered, Decided, Crashed, Refused, End}
use Rattle.cast_record.specs.declared.word_line.WordLine.{WordLine}
use Rattle.cast_record.specs.declared.word_line.WordLine.TheVariants as words

abbrev pub line_said : WordLine → Line
line_said (words.Head nodes faults choices) = Head nodes faults choices
line_said (words.Head2 nodes faults choices mode) = Head2 nodes faults choices mode
line_said (words.Broadcast sender number item) =
    Broadcast (record { sender = sender; number = number; item = item })
line_said (words.Delivered node sender number item) =
    Delivered node (record { sender = sender; number = number; item = item })
line_said (words.Decided node decision) = Decided node decision
line_said (words.Crashed node) = Crashed node
line_said (words.Refused index code) = Refused index code
line_said words.End = End
