-- What the exports of a judge say.
--     IsFed old piece status new      the clauses of the call that takes a piece
--     IsDone old status told          the clauses of the call that returns the verdict
--     IsSoFar held status lines told  the clauses of the call that says what was found so far
use Rattle.std.specs.Prelude.{◌≡◌, ◌≢◌, ◌⊎◌, ℕ, ◌+◌, ◌^◌, ◌<◌, ◌≤◌, ◌++◌, true, false, List, length}
use Rattle.cast_record.specs.declared.verdict.Verdict.TheVariants.{Good, Bad}
use Rattle.cast_record.specs.Verdicts.{verdict}
use Rattle.cast_judge.specs.Judged.{Stands, IsSkipped, WantedMemory, is_reading, is_offended, is_refused}
use Rattle.cast_judge.specs.declared.judging.Judging.{Judging}
use Rattle.cast_c.specs.declared.numbers.VerdictNumbers.{VerdictNumbers}

-- the piece was read
abbrev pub IsTaken : ℕ → Type 0
IsTaken status = (status ≡ 0) ⊎ (status ≡ 5)

pub record IsFed (old : Judging) (piece : List ℕ) (status : ℕ) (new : Judging) : Type 0 where
  pub known : (status ≡ 2) ⊎ IsTaken status
  pub long : status ≡ 2 → (2 ^ 63 ≤ old.fed + length piece) × (new ≡ old)
  pub fed : IsTaken status → new.fed ≡ old.fed + length piece
  pub stands : (text : List ℕ) → Stands text old → status ≡ 0 → Stands (text ++ piece) new
  pub refused : is_refused old ≡ true → status ≢ 0
  pub skipped : is_offended old ≡ true → status ≢ 5
  pub unchanged : is_reading old ≡ false → IsTaken status → IsSkipped old new
  pub some : is_reading old ≡ true → status ≡ 5 → 0 < length piece
  pub wants : (text : List ℕ) → Stands text old → is_reading old ≡ true →
      status ≡ 5 → WantedMemory (text ++ piece) old new
  pub err : status ≡ 5 → is_refused new ≡ true
  pub ok : status ≡ 0 → is_refused new ≡ false

pub record IsDone (old : Judging) (status : ℕ) (told : VerdictNumbers) : Type 0 where
  pub known : (status ≡ 0) ⊎ (status ≡ 3) ⊎ (status ≡ 5)
  pub good : (text : List ℕ) → Stands text old → status ≡ 0 → verdict text ≡ Good
  pub bad : (text : List ℕ) → Stands text old →
      status ≡ 3 → verdict text ≡ Bad told.line told.rule
  pub refused : is_refused old ≡ true → status ≡ 5
  pub ok : is_refused old ≡ false → status ≢ 5

-- what was found so far, whatever follows
pub record IsSoFar (held : Judging) (status lines : ℕ) (told : VerdictNumbers) : Type 0 where
  pub lines_are : lines ≡ held.lines
  pub known : (status ≡ 0) ⊎ (status ≡ 3) ⊎ (status ≡ 5)
  pub good : status ≡ 0 → is_reading held ≡ true
  pub bad : (text more : List ℕ) → Stands text held →
      status ≡ 3 → verdict (text ++ more) ≡ Bad told.line told.rule
  pub memory : status ≡ 5 → is_refused held ≡ true
