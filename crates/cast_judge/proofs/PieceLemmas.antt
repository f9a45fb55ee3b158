-- How much of a piece was read.
use Rattle.std.proofs.Common.{◌≡◌, ℕ, ◌+◌, false, nat_eq, List, [], ◌∷◌, ◌++◌, append_assoc, get_or, take, drop, position, Some, sym, ap, subst, ◌∙◌}
use Rattle.std.proofs.lemmas.List.Quantifiers.{position-Some}
use Rattle.cast_record.proofs.PartLemmas.{at_place}
use Rattle.cast_judge.specs.declared.judging.Judging.{Judging}
use Rattle.cast_judge.specs.Judged.{Stands, is_reading, IsLineTaken}
use Rattle.cast_judge.proofs.TestLemmas.{same_number}
use Rattle.cast_judge.proofs.JudgedLemmas.{done_on}

-- the piece is what was read of it and the rest
pub record Reads (text piece rest : List ℕ) (judging : Judging) : Type 0 where
  pub front : List ℕ
  pub parts : piece ≡ front ++ rest
  pub stands : Stands (text ++ front) judging

-- a line and its line feed were read
pub reads_line : (text piece rest after : List ℕ) (old new : Judging) → IsLineTaken rest after old new → Reads text piece rest old → Reads text piece after new
reads_line text piece rest after old new taken r = record {
  front = r.front ++ (taken.line ++ 10 ∷ []);
  parts = r.parts ∙ ap (λ bytes. r.front ++ bytes) (taken.cut ∙ sym (append_assoc taken.line (10 ∷ []) after)) ∙ sym (append_assoc r.front (taken.line ++ 10 ∷ []) after);
  stands = subst (λ t. Stands t new) (append_assoc text r.front (taken.line ++ 10 ∷ [])) (taken.stands (text ++ r.front) r.stands);
}

-- the rest begins with a line and its line feed
pub line_at : (rest : List ℕ) (at : ℕ) → position (λ b. nat_eq b 10) rest ≡ Some at → rest ≡ take at rest ++ 10 ∷ drop (at + 1) rest
line_at rest at e =
    let feed = same_number (get_or rest at 0) 10 (position-Some (λ b. nat_eq b 10) rest at 0 e).1 in
    at_place (λ b. nat_eq b 10) rest at e ∙ ap (λ b. take at rest ++ b ∷ drop (at + 1) rest) feed

-- nothing more of the piece is read
pub reads_done : (text piece rest after : List ℕ) (old new : Judging) → IsLineTaken rest after old new → Reads text piece rest old → is_reading new ≡ false → Stands (text ++ piece) new
reads_done text piece rest after old new taken r ended =
    let next = reads_line text piece rest after old new taken r in
    subst (λ t. Stands t new) (append_assoc text next.front after ∙ ap (λ bytes. text ++ bytes) (sym next.parts))
    (done_on new.state (text ++ next.front) after new.kept new.tail.items new.lines ended taken.going next.stands)
