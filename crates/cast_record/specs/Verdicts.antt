-- The verdict on a text.
--     verdict text     Good, or the first line that breaks a rule, counted from 1, and the least rule that it breaks
use Rattle.std.specs.Prelude.{ℕ, ◌+◌, ◌==◌, ◌&&◌, if◌then◌else◌, List, [], ◌∷◌, length, Option, Some, None, Result, Ok, Err}
use Rattle.std.specs.List.{slice_split}
use Rattle.cast_record.specs.declared.line.Line.{Line}
use Rattle.cast_record.specs.declared.verdict.Verdict.{Verdict}
use Rattle.cast_record.specs.declared.verdict.Verdict.TheVariants.{Good, Bad}
use Rattle.cast_record.specs.Reading.{line_of}
use Rattle.cast_record.specs.Rules.{broken, is_ended}

abbrev pub kept_by : List Line → Line → Option ℕ → Result (List Line) ℕ
kept_by past line None = Ok (line ∷ past)
kept_by past line (Some rule) = Err rule

-- the lines so far and this one, or the least rule that it breaks
abbrev pub with_line : List Line → Option Line → Result (List Line) ℕ
with_line past None = Err 0
with_line past (Some line) = kept_by past line (broken past line)

-- Good if nothing follows the last line feed, and the line before it is the end.
abbrev pub verdict_at_end : List Line → List ℕ → Verdict
verdict_at_end past rest = if is_ended past && length rest == 0 then Good else Bad (length past + 1) 0

-- the verdict on these parts of a text that come after those lines, the newest first
unfoldable pub verdict_after : List Line → List (List ℕ) → Verdict
verdict_after past [] = verdict_at_end past []
verdict_after past (rest ∷ []) = verdict_at_end past rest
verdict_after past (bytes ∷ next ∷ parts) = elim (with_line past (line_of bytes)) [
  | Ok lines ↦ verdict_after lines (next ∷ parts)
  | Err rule ↦ Bad (length past + 1) rule
]

-- the text is cut at its line feeds
unfoldable pub verdict : List ℕ → Verdict
verdict text = verdict_after [] (slice_split (λ b. b == 10) text)
