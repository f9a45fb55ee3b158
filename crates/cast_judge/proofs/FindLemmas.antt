-- The first place whose byte passes a test.
use Rattle.std.proofs.Common.{◌≡◌, ℕ, Bool, List, Option, Some, None, position, refl, sym, ap, ◌∙◌, arith, inl, inr}
use Rattle.std.proofs.lemmas.Bool.{false≢true}
use Rattle.std.proofs.lemmas.Bool.Decides.{leb_tells}
use Rattle.std.proofs.lemmas.List.Quantifiers.{position-Some}
use Rattle.memchr.specs.Find.{IsFirstByte}
use Rattle.cast_record.proofs.PartLemmas.{none_passes}

pub first_is_position : (test : ℕ → Bool) (hay : List ℕ) (r : Option ℕ) → IsFirstByte test hay r → r ≡ position test hay
first_is_position test hay r h = go r (position test hay) refl h
  where
    go : (r o : Option ℕ) → position test hay ≡ o → IsFirstByte test hay r → r ≡ position test hay
    go None None e h = sym e
    go None (Some k) e h = let found = position-Some test hay k 0 e in absurd (h k (omega arith) found.0 found.1)
    go (Some k) None e h = absurd (false≢true (sym (none_passes test hay e k 0 h.0.high) ∙ h.1))
    go (Some k) (Some j) e h =
        let found = position-Some test hay j 0 e in
        elim (leb_tells j k) [
          | inl l ↦ elim (leb_tells k j) [
            | inl m ↦ (let same : k ≡ j = grind arith in ap Some same ∙ sym e)
            | inr m ↦ absurd (h.0.before j (omega arith) m.1 found.1)
          ]
          | inr l ↦ absurd (false≢true (sym (found.2 k l.1) ∙ h.1))
        ]
