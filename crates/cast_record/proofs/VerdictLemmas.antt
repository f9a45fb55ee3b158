-- What the rules and the next line make of a verdict.
use Rattle.std.proofs.Common.{◌≡◌, ℕ, ◌+◌, Bool, cond, List, ◌∷◌, length, Option, Some, None, Ok, Err, refl}
use Rattle.cast_record.specs.declared.line.Line.{Line}
use Rattle.cast_record.specs.declared.verdict.Verdict.TheVariants.{Bad}
use Rattle.cast_record.specs.Reading.{line_of}
use Rattle.cast_record.specs.Verdicts.{with_line, verdict_after}

-- the least of seven rules
abbrev pub least_of : Bool → Bool → Bool → Bool → Bool → Bool → Bool → Option ℕ
least_of a b c d e f g = cond a (Some 0) (cond b (Some 1) (cond c (Some 2) (cond d (Some 3) (cond e (Some 4) (cond f (Some 5) (cond g (Some 6) None))))))

-- a whole line that breaks no rule is kept, and the verdict goes on
pub goes_by : (past lines : List Line) (line next : List ℕ) (parts : List (List ℕ)) → with_line past (line_of line) ≡ Ok lines → verdict_after past (line ∷ next ∷ parts) ≡ verdict_after lines (next ∷ parts)
unfolding verdict_after
goes_by past lines line next parts e = rw (e, verdict_after) refl

-- a whole line that breaks a rule is the verdict
pub offends_by : (past : List Line) (rule : ℕ) (line next : List ℕ) (parts : List (List ℕ)) → with_line past (line_of line) ≡ Err rule → verdict_after past (line ∷ next ∷ parts) ≡ Bad (length past + 1) rule
unfolding verdict_after
offends_by past rule line next parts e = rw (e, verdict_after) refl
