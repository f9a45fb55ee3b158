-- The text of a verdict.
use Rattle.std.specs.Prelude.{ℕ, List, [], ◌∷◌, codes, decimal}
use Rattle.std.specs.List.{join_with_byte}
use Rattle.cast_record.specs.declared.verdict.Verdict.{Verdict}
use Rattle.cast_record.specs.declared.verdict.Verdict.TheVariants.{Good, Bad}

abbrev pub verdict_words : Verdict → List (List ℕ)
verdict_words Good = codes "good" ∷ []
verdict_words (Bad line rule) = codes "bad" ∷ decimal line ∷ decimal rule ∷ []

-- without its line feed
abbrev pub verdict_text : Verdict → List ℕ
verdict_text verdict = join_with_byte 32 (verdict_words verdict)
