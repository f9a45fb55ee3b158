-- Lines that break no rule, as bytes.
use Rattle.std.proofs.Common.{◌≡◌, ℕ, List, [], ◌∷◌, ◌++◌, append_assoc, Option, Some, None, inl, refl, sym, ap, subst, ◌∙◌}
use Rattle.std.specs.Prelude.{Ok}
use Rattle.cast_record.specs.declared.line.Line.{Line}
use Rattle.cast_record.specs.Reading.{line_of}
use Rattle.cast_record.specs.Verdicts.{with_line, verdict}
use Rattle.cast_record.proofs.ReadLemmas.{line_takes_text}
use Rattle.cast_record.proofs.WordLemmas.{line_without_feed}
use Rattle.cast_judge.specs.FitLines.{HasNone, AreFit, IsCutAfter, BeginsFit, BeginsWell}
use Rattle.cast_judge.specs.Judged.{verdict_of}
use Rattle.cast_judge.proofs.TextLemmas.{line_goes}

-- bytes that spell a line have no line feed
pub line_clean : (bytes : List ℕ) (line : Line) → line_of bytes ≡ Some line → HasNone 10 bytes
line_clean bytes line read = let is = line_takes_text bytes line read in subst (HasNone 10) is.1 (line_without_feed line is.0)

fit_clean : (past lines : List Line) (bytes : List ℕ) (o : Option Line) → line_of bytes ≡ o → with_line past o ≡ Ok lines → HasNone 10 bytes
fit_clean past lines bytes None read e = absurd (cc)
fit_clean past lines bytes (Some line) read e = line_clean bytes line read

-- whatever follows those lines, the verdict is that on what follows
pub goes_past : (past : List Line) (front : List ℕ) → AreFit past front → (more : List ℕ) → verdict (front ++ more) ≡ verdict_of past more
unfolding verdict
goes_past [] front none more = ap (λ t. verdict (t ++ more)) none
goes_past (line ∷ past) front (before, (h, end)) more =
    ap (λ t. verdict (t ++ more)) end.cut ∙ ap verdict (append_assoc before (end.last ++ 10 ∷ []) more)
    ∙ goes_past past before h ((end.last ++ 10 ∷ []) ++ more)
    ∙ ap (verdict_of past) (append_assoc end.last (10 ∷ []) more)
    ∙ line_goes past (line ∷ past) end.last more (fit_clean past (line ∷ past) end.last (line_of end.last) refl end.fit) end.fit

-- the first of those lines stands at the front
first_fit : (past : List Line) (line : Line) (front rest : List ℕ) → AreFit (line ∷ past) front → BeginsFit [] (front ++ rest)
first_fit [] line front rest (before, (none, end)) = record {
  line = end.last;
  after = rest;
  cut = ap (λ t. t ++ rest) (end.cut ∙ ap (λ b. b ++ (end.last ++ 10 ∷ [])) none) ∙ append_assoc end.last (10 ∷ []) rest;
  fit = (line, end.fit);
}
first_fit (last ∷ past) line front rest (before, (h, end)) =
    subst (BeginsFit []) (sym (ap (λ t. t ++ rest) end.cut ∙ append_assoc before (end.last ++ 10 ∷ []) rest))
    (first_fit past last before ((end.last ++ 10 ∷ []) ++ rest) h)

-- a text that was cut before a line that does not offend begins with such a line
pub begins_well : (text rest : List ℕ) (past : List Line) → IsCutAfter text past rest → BeginsWell past rest → BeginsWell [] text
begins_well text rest [] cut well = subst (BeginsWell []) (sym (cut.cut ∙ ap (λ t. t ++ rest) cut.fit)) well
begins_well text rest (line ∷ past) cut well = inl (subst (BeginsFit []) (sym cut.cut) (first_fit past line cut.front rest cut.fit))
