-- Lines that break no rule, as bytes.
--     IsCutAfter text past rest     the text is those lines, none of which breaks a rule, followed by the rest
--     BeginsWell past bytes         after those lines, the bytes begin with a line that breaks no rule, or an unfinished one
use Rattle.std.specs.Prelude.{◌≡◌, ◌⊎◌, ℕ, ◌<◌, ◌≤◌, ◌==◌, false, List, [], ◌∷◌, ◌++◌, length, Ok}
use Rattle.std.specs.List.{All}
use Rattle.cast_record.specs.declared.line.Line.{Line}
use Rattle.cast_record.specs.Reading.{line_of}
use Rattle.cast_record.specs.Rules.{is_ended}
use Rattle.cast_record.specs.Verdicts.{with_line}

-- the bytes do not have this byte
abbrev pub HasNone : ℕ → List ℕ → Type 0
HasNone byte bytes = All (λ b. (b == byte) ≡ false) bytes

-- the bytes spell a line that breaks no rule after those lines
abbrev pub IsFit : List Line → List ℕ → Type 0
IsFit past bytes = (line : Line) × (with_line past (line_of bytes) ≡ Ok (line ∷ past))

-- the bytes are those before, followed by this line and its line feed; the line breaks no rule after those lines
pub record EndsFit (past : List Line) (line : Line) (before bytes : List ℕ) : Type 0 where
  pub last : List ℕ
  pub cut : bytes ≡ before ++ (last ++ 10 ∷ [])
  pub fit : with_line past (line_of last) ≡ Ok (line ∷ past)

-- the bytes are these lines, and none breaks a rule after those before it
abbrev pub AreFit : List Line → List ℕ → Type 0
AreFit [] bytes = bytes ≡ []
AreFit (line ∷ past) bytes = (before : List ℕ) × (AreFit past before × EndsFit past line before bytes)

-- the text is those lines, none of which breaks a rule, followed by the rest
pub record IsCutAfter (text : List ℕ) (past : List Line) (rest : List ℕ) : Type 0 where
  pub front : List ℕ
  pub cut : text ≡ front ++ rest
  pub fit : AreFit past front

-- the bytes begin with a line that breaks no rule after those lines, and its line feed
pub record BeginsFit (past : List Line) (bytes : List ℕ) : Type 0 where
  pub line : List ℕ
  pub after : List ℕ
  pub cut : bytes ≡ line ++ 10 ∷ after
  pub fit : IsFit past line

-- the bytes are an unfinished line, which is not too long yet, and does not follow the end line
pub record IsUnfinished (past : List Line) (bytes : List ℕ) : Type 0 where
  pub some : 0 < length bytes
  pub clean : HasNone 10 bytes
  pub short : length bytes ≤ 4096
  pub going : is_ended past ≡ false

-- the bytes begin with a line that breaks no rule after those lines, or is unfinished
abbrev pub BeginsWell : List Line → List ℕ → Type 0
BeginsWell past bytes = BeginsFit past bytes ⊎ IsUnfinished past bytes
