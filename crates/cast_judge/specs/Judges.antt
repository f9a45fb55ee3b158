-- What happens to one line.
--     Takes bytes old new o        the bytes begin with a line that breaks no rule and is kept, and o is what follows its
--                                  line feed; or nothing changed
--     Judges past bytes o kept     after those lines, the line that the bytes spell breaks rule o and is not kept, or
--                                  breaks none and is kept
use Rattle.std.specs.Prelude.{◌≡◌, ℕ, List, ◌∷◌, ◌++◌, Option, Some, None, Ok, Err}
use Rattle.cast_record.specs.declared.line.Line.{Line}
use Rattle.cast_record.specs.Reading.{line_of}
use Rattle.cast_record.specs.Verdicts.{with_line}
use Rattle.cast_judge.specs.declared.kept.Kept.{Kept}
use Rattle.cast_judge.specs.Kept.{rule_by, Keeps}
use Rattle.cast_judge.specs.Stands.{StandsFor}

pub record IsKept (past : List Line) (bytes : List ℕ) (kept : Kept) : Type 0 where
  pub line : Line
  pub goes : with_line past (line_of bytes) ≡ Ok (line ∷ past)
  pub stands : StandsFor (line ∷ past) kept

pub record IsRefused (past : List Line) (bytes : List ℕ) (rule : ℕ) (kept : Kept) : Type 0 where
  pub breaks : with_line past (line_of bytes) ≡ Err rule
  pub stands : StandsFor past kept

abbrev pub Judges : List Line → List ℕ → Option ℕ → Kept → Type 0
Judges past bytes None kept = IsKept past bytes kept
Judges past bytes (Some rule) kept = IsRefused past bytes rule kept

-- the bytes are a line that breaks no rule and is kept, its line feed, and the rest
pub record IsTakenOff (bytes after : List ℕ) (old new : Kept) : Type 0 where
  pub line : Line
  pub front : List ℕ
  pub cut : bytes ≡ front ++ 10 ∷ after
  pub read : line_of front ≡ Some line
  pub sound : rule_by old line ≡ None
  pub keeps : Keeps old new line

abbrev pub Takes : List ℕ → Kept → Kept → Option (List ℕ) → Type 0
Takes bytes old new (Some after) = IsTakenOff bytes after old new
Takes bytes old new None = new ≡ old
