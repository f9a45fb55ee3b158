-- How a text that is written in parts comes together.
use Rattle.std.proofs.Common.{◌≡◌, ℕ, List, [], ◌++◌, append-nil, subst, Ok, Err, append_assoc, ap, sym, ◌∙◌, refl, Bool, false, Option, Result, IsErrAnd, take, drop}
use Rattle.std.specs.Io.KnownBytes.{Appends}
use Rattle.std.proofs.KnownBytes.{Appends-nil, Appends-trans}
use Rattle.std.proofs.lemmas.List.{take-append-drop}
use Rattle.cast_record.specs.Written.{WroteAll, WrotePrefix, Writes}

-- the text is what has been written and what is left, and the writer is sound
pub record IsGoing (old new : Option (List ℕ)) (failed : Bool) (text rest : List ℕ) : Type 0 where
  pub front : List ℕ
  pub parts : text ≡ front ++ rest
  pub appends : Appends old new front
  pub sound : failed ≡ false

pub going_start : {old : Option (List ℕ)} {failed : Bool} {text : List ℕ} → failed ≡ false → IsGoing old old failed text text
going_start {old = old} e = record { front = []; parts = refl; appends = Appends-nil old; sound = e }

-- the rest of the text in other words
pub going_again : {old new : Option (List ℕ)} {f : Bool} {text rest other : List ℕ} → IsGoing old new f text rest → rest ≡ other → IsGoing old new f text other
going_again {old = old} {new = new} {f = f} {text = text} going e = subst (IsGoing old new f text) e going

-- the writer took some bytes of the rest
pub going_on : {old new more : Option (List ℕ)} {f g : Bool} {text rest after : List ℕ} (n : ℕ) → IsGoing old new f text rest → Appends new more (take n rest) → g ≡ f → after ≡ drop n rest → IsGoing old more g text after
going_on {old = old} {new = new} {more = more} {rest = rest} {after = after} n going next e cut = record {
  front = going.front ++ take n rest;
  parts = going.parts ∙ ap (λ r. going.front ++ r) (sym (take-append-drop n rest)) ∙ sym (append_assoc going.front (take n rest) (drop n rest)) ∙ ap (λ r. (going.front ++ take n rest) ++ r) (sym cut);
  appends = Appends-trans old new more going.front (take n rest) going.appends next;
  sound = e ∙ going.sound;
}

-- a piece of the rest was written
pub going_more : {old mid new : Option (List ℕ)} {f g : Bool} {text piece after : List ℕ} → IsGoing old mid f text (piece ++ after) → WroteAll mid new g piece → IsGoing old new g text after
going_more {old = old} {mid = mid} {new = new} {piece = piece} {after = after} going wrote = record {
  front = going.front ++ piece;
  parts = going.parts ∙ sym (append_assoc going.front piece after);
  appends = Appends-trans old mid new going.front piece going.appends wrote.appends;
  sound = wrote.sound;
}

-- the writer failed in a piece of the rest
pub going_fails : {old mid new : Option (List ℕ)} {f g : Bool} {text piece : List ℕ} (after : List ℕ) → IsGoing old mid f text (piece ++ after) → WrotePrefix mid new g piece → WrotePrefix old new g text
going_fails {old = old} {mid = mid} {new = new} {piece = piece} after going wrote = record {
  front = going.front ++ wrote.front;
  rest = wrote.rest ++ after;
  parts = going.parts ∙ ap (λ r. going.front ++ r) (ap (λ r. r ++ after) wrote.parts ∙ append_assoc wrote.front wrote.rest after) ∙ sym (append_assoc going.front wrote.front (wrote.rest ++ after));
  appends = Appends-trans old mid new going.front wrote.front going.appends wrote.appends;
  broken = wrote.broken;
}

-- the same, where that is what the call answers
pub going_breaks : {E : Type 0} {old mid new : Option (List ℕ)} {f g : Bool} {text piece : List ℕ} (Q : E → Type 0) (after : List ℕ) (r : Result (Unit {0}) E) → IsErrAnd r Q → IsGoing old mid f text (piece ++ after) → WrotePrefix mid new g piece → Writes old new g r text
going_breaks Q after (Ok done) is going wrote = absurd is
going_breaks Q after (Err fault) is going wrote = going_fails after going wrote

-- nothing is left to write
pub going_done : {old new : Option (List ℕ)} {f : Bool} {text : List ℕ} → IsGoing old new f text [] → WroteAll old new f text
going_done {old = old} {new = new} going = record {
  appends = subst (λ t. Appends old new t) (sym (going.parts ∙ append-nil going.front)) going.appends;
  sound = going.sound;
}

-- the last piece, however it went
pub going_last : {E : Type 0} {old mid : Option (List ℕ)} {f : Bool} {text rest : List ℕ} (new : Option (List ℕ)) (g : Bool) (r : Result (Unit {0}) E) → IsGoing old mid f text rest → Writes mid new g r rest → Writes old new g r text
going_last new g (Ok done) going wrote = going_done (going_more (going_again going (sym (append-nil _))) wrote)
going_last new g (Err fault) going wrote = going_fails [] (going_again going (sym (append-nil _))) wrote
