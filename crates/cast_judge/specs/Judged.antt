-- A judging and the text that was fed to it.
--     Stands text judging           the judging matches that text
--     verdict_of past text          the verdict on a text that comes after these lines
--     IsSkipped old new             nothing was kept of a piece
--     WantedMemory text old new     memory ran out for a line in the text's last piece; no line before it breaks a rule
use Rattle.std.specs.Prelude.{◌≡◌, ◌⊎◌, ℕ, ◌+◌, ◌<◌, ◌≤◌, ◌==◌, Bool, true, false, List, [], ◌∷◌, ◌++◌, length, Option, Some, None}
use Rattle.std.specs.List.{slice_split}
use Rattle.cast_record.specs.declared.line.Line.{Line}
use Rattle.cast_record.specs.declared.verdict.Verdict.{Verdict}
use Rattle.cast_record.specs.declared.verdict.Verdict.TheVariants.{Bad}
use Rattle.cast_record.specs.Verdicts.{verdict, verdict_after}
use Rattle.cast_judge.specs.declared.judging.State.{State}
use Rattle.cast_judge.specs.declared.judging.State.TheVariants.{Reading, Offended, Refused}
use Rattle.cast_judge.specs.declared.judging.Judging.{Judging}
use Rattle.cast_judge.specs.declared.kept.Kept.{Kept}
use Rattle.cast_judge.specs.Stands.{StandsFor}
use Rattle.cast_judge.specs.FitLines.{HasNone, IsCutAfter, BeginsWell}

abbrev pub is_reading_state : State → Bool
is_reading_state Reading = true
is_reading_state _ = false

abbrev pub is_offended_state : State → Bool
is_offended_state (Offended rule) = true
is_offended_state _ = false

abbrev pub is_refused_state : State → Bool
is_refused_state Refused = true
is_refused_state _ = false

-- no line broke a rule so far, and memory did not run out
abbrev pub is_reading : Judging → Bool
is_reading judging = is_reading_state judging.state

abbrev pub is_offended : Judging → Bool
is_offended judging = is_offended_state judging.state

abbrev pub is_refused : Judging → Bool
is_refused judging = is_refused_state judging.state

-- a line that broke no rule is counted; otherwise the state has the rule
abbrev pub lines_with : Option ℕ → ℕ → ℕ
lines_with None lines = lines + 1
lines_with (Some rule) lines = lines

abbrev pub state_with : Option ℕ → State → State
state_with None state = state
state_with (Some rule) state = Offended rule

-- the verdict on a text that comes after these lines
abbrev pub verdict_of : List Line → List ℕ → Verdict
verdict_of past text = verdict_after past (slice_split (λ b. b == 10) text)

-- The text is lines that break no rule, followed by the unfinished line. What is kept matches those lines.
pub record IsReading (text : List ℕ) (kept : Kept) (tail : List ℕ) (lines : ℕ) : Type 0 where
  pub past : List Line
  pub stands : StandsFor past kept
  pub count : length past ≡ lines
  pub clean : HasNone 10 tail
  pub cut : IsCutAfter text past tail

-- whatever comes next, the text breaks this rule in the line after the first `lines` lines
abbrev pub Offends : List ℕ → ℕ → ℕ → Type 0
Offends text lines rule = (more : List ℕ) → verdict (text ++ more) ≡ Bad (lines + 1) rule

-- The text breaks a rule there. What is kept matches the lines before, with nothing of that line or what follows it.
pub record HasOffended (text : List ℕ) (kept : Kept) (tail : List ℕ) (lines rule : ℕ) : Type 0 where
  pub past : List Line
  pub stands : StandsFor past kept
  pub count : length past ≡ lines
  pub empty : tail ≡ []
  pub offends : Offends text lines rule

abbrev pub StandsAs : State → List ℕ → Kept → List ℕ → ℕ → Type 0
StandsAs Reading text kept tail lines = IsReading text kept tail lines
StandsAs (Offended rule) text kept tail lines = HasOffended text kept tail lines rule
StandsAs Refused text kept tail lines = Unit {0}

abbrev pub Stands : List ℕ → Judging → Type 0
Stands text judging = StandsAs judging.state text judging.kept judging.tail.items judging.lines

-- The bytes are a line, its line feed, and the rest; the judging now includes that line.
pub record IsLineTaken (bytes after : List ℕ) (old new : Judging) : Type 0 where
  pub line : List ℕ
  pub cut : bytes ≡ line ++ 10 ∷ after
  pub lines : new.lines ≤ old.lines + 1
  pub going : is_refused new ≡ false
  pub emptied : new.tail.items ≡ []
  pub stands : (text : List ℕ) → Stands text old → Stands (text ++ (line ++ 10 ∷ [])) new

-- a line was taken off the front of the bytes, and this is the rest; or nothing changed
abbrev pub TakesDelivery : List ℕ → Judging → Judging → Option (List ℕ) → Type 0
TakesDelivery bytes old new (Some after) = IsLineTaken bytes after old new
TakesDelivery bytes old new None = new ≡ old

-- the same, and nothing changed only if the bytes have no line feed
abbrev pub TakesLine : List ℕ → Judging → Judging → Option (List ℕ) → Type 0
TakesLine bytes old new (Some after) = IsLineTaken bytes after old new
TakesLine bytes old new None = (new ≡ old) × HasNone 10 bytes

-- nothing changed but the number of bytes fed
pub record IsSkipped (old new : Judging) : Type 0 where
  pub state : new.state ≡ old.state
  pub kept : new.kept ≡ old.kept
  pub lines : new.lines ≡ old.lines
  pub tail : new.tail ≡ old.tail

-- a line began in an earlier piece, and none was taken since
abbrev pub HadBegun : Judging → Judging → Type 0
HadBegun old new = (0 < length old.tail.items) × (new.lines ≡ old.lines)

-- the bytes begin with the rest of that line and its line feed, and it is not too long to be judged
pub record EndsBegun (bytes : List ℕ) (old new : Judging) : Type 0 where
  pub begun : HadBegun old new
  pub line : List ℕ
  pub after : List ℕ
  pub cut : bytes ≡ line ++ 10 ∷ after
  pub short : length line ≤ 4096

-- The text is the counted lines, which break no rule, and then the line for which memory ran out. That one breaks no
-- rule either, unless it began in an earlier piece: its parts are joined before it is judged.
pub record WantedMemory (text : List ℕ) (old new : Judging) : Type 0 where
  pub past : List Line
  pub rest : List ℕ
  pub count : length past ≡ new.lines
  pub cut : IsCutAfter text past rest
  pub well : BeginsWell past rest ⊎ EndsBegun rest old new
