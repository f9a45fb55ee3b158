-- The record of a script: its head, the lines of what is taken as it is played, and its end.
use Rattle.std.specs.Prelude.{List, [], ◌∷◌, ◌++◌}
use Rattle.cast_record.specs.declared.line.Line.{Line}
use Rattle.cast_record.specs.declared.line.Line.TheVariants.{End}
use Rattle.cast_record.specs.Lines.{head_of, lines_for}
use Rattle.cast_script.specs.declared.script.Script.{Script}
use Rattle.cast_text.specs.Played.{Played, Taken, played}

-- no line says where a settle begins and ends
abbrev pub lines_at : Played → List Line
lines_at (Taken index event reply) = lines_for index event reply
lines_at _ = []

unfoldable pub lines_of : List Played → List Line
lines_of [] = []
lines_of (one ∷ rest) = lines_at one ++ lines_of rest

-- all lines but the last
abbrev pub unended_of : Script → List Line
unended_of script = head_of script.config ∷ lines_of (played script)

abbrev pub record_of : Script → List Line
record_of script = head_of script.config ∷ (lines_of (played script) ++ End ∷ [])
