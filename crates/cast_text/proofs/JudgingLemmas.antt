-- What was read so far, and what the judging of it stands for.
use Rattle.std.proofs.Common.{◌≡◌, ℕ, ◌+◌, ◌-◌, ◌≤◌, List, ◌++◌, length, Bool, Option, refl, arith, length-append}
use Rattle.std.specs.Io.KnownBytes.{Consumes}
use Rattle.cast_judge.specs.declared.judging.Judging.{Judging}
use Rattle.cast_judge.specs.Judged.{Stands}
use Rattle.cast_text.specs.Text.{TakesInput}
use Rattle.cast_text.proofs.InputLemmas.{HasGiven, given_more, given_with}

-- these bytes were read, and fed
pub record IsJudging (old new : Option (List ℕ)) (failed : Bool) (total : ℕ) (judging : Judging) : Type 0 where
  pub text : List ℕ
  pub given : HasGiven old new failed text
  pub count : length text ≡ total
  pub fed : judging.fed ≡ total
  pub stands : Stands text judging

pub judging_more : (old mid new : Option (List ℕ)) (f h : Bool) (total n : ℕ) (piece : List ℕ) (before after : Judging) → (j : IsJudging old mid f total before) → Consumes mid new piece → h ≡ f → length piece ≡ n
    → after.fed ≡ before.fed + length piece → Stands (j.text ++ piece) after → IsJudging old new h (total + n) after
judging_more old mid new f h total n piece before after j next sound size fed stands = record {
  text = j.text ++ piece;
  given = given_more piece (j.text ++ piece) j.given next sound refl;
  count = omega (arith, length-append j.text piece, j.count, size);
  fed = omega (arith, fed, j.fed, size);
  stands = stands;
}

-- with the last read no more was taken than tells that there is too much
pub judging_taken : {old mid : Option (List ℕ)} (new : Option (List ℕ)) {f : Bool} (total n : ℕ) (piece : List ℕ) {judging : Judging} → IsJudging old mid f total judging → Consumes mid new piece → length piece ≡ n
    → n ≤ 67108865 - total → total ≤ 67108864 → TakesInput old new
judging_taken new total n piece j next size asked short = given_with new piece j.given (omega (arith, length-append j.text piece, j.count, size, asked, short)) next
