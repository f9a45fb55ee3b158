-- A writer observes: the lines of what it sees are written one after another, until the writing breaks off.
use Rattle.std.proofs.Common.{◌≡◌, ℕ, List, [], ◌∷◌, ◌++◌, Bool, false, Option, Result, Ok, Err, sym, ap, ◌∙◌, subst, append_assoc, refl}
use Rattle.std.proofs.KnownBytes.{Appends-nil, Appends-trans}
use Rattle.cast_record.specs.Text.{record_text}
use Rattle.cast_record.proofs.WritingLemmas.{record_text-append}
use Rattle.cast_record.specs.declared.meter.Meter.{Meter}
use Rattle.cast_record.specs.Written.{WroteAll}
use Rattle.cast_text.specs.declared.fault.TextFault.{TextFault}
use Rattle.cast_text.specs.declared.fault.TextFault.TheVariants as faults
use Rattle.cast_text.specs.Played.{Played, Observes}
use Rattle.cast_text.specs.Recorded.{lines_at, lines_of}
use Rattle.cast_text.specs.Text.{WroteFront, BreaksOff, Writes, Puts}

-- ---- texts

-- before anything was written
pub wants_memory : {old : Option (List ℕ)} {failed : Bool} (text : List ℕ) → failed ≡ false → BreaksOff faults.Memory old old failed text
wants_memory {old = old} text sound = (sound, record { front = []; rest = text; parts = refl; appends = Appends-nil old })

front_after : (old mid new : Option (List ℕ)) (f : Bool) (first text : List ℕ) → WroteAll old mid f first → WroteFront mid new text → WroteFront old new (first ++ text)
front_after old mid new f first text wrote front = record {
  front = first ++ front.front;
  rest = front.rest;
  parts = ap (λ t. first ++ t) front.parts ∙ sym (append_assoc first front.front front.rest);
  appends = Appends-trans old mid new first front.front wrote.appends front.appends;
}

-- one text after another
pub writes_then : (old mid new : Option (List ℕ)) (f g : Bool) (result : Result (Unit {0}) TextFault) (first text : List ℕ) → WroteAll old mid f first → Writes mid new g result text → Writes old new g result (first ++ text)
writes_then old mid new f g (Ok done) first text wrote more = record { appends = Appends-trans old mid new first text wrote.appends more.appends; sound = more.sound }
writes_then old mid new f g (Err faults.Write) first text wrote more = (more.0, front_after old mid new f first text wrote more.1)
writes_then old mid new f g (Err faults.Memory) first text wrote more = (more.0, front_after old mid new f first text wrote more.1)
writes_then old mid new f g (Err faults.Read) first text wrote more = absurd more
writes_then old mid new f g (Err faults.TooLong) first text wrote more = absurd more
writes_then old mid new f g (Err (faults.Script why)) first text wrote more = absurd more
writes_then old mid new f g (Err faults.NotV1) first text wrote more = absurd more
writes_then old mid new f g (Err (faults.Live why)) first text wrote more = absurd more

front_longer : (old new : Option (List ℕ)) (text after : List ℕ) → WroteFront old new text → WroteFront old new (text ++ after)
front_longer old new text after wrote = record { front = wrote.front; rest = wrote.rest ++ after; parts = ap (λ t. t ++ after) wrote.parts ∙ append_assoc wrote.front wrote.rest after; appends = wrote.appends }

-- a longer text broke off there too
pub breaks_longer : (why : TextFault) (old new : Option (List ℕ)) (failed : Bool) (text after : List ℕ) → BreaksOff why old new failed text → BreaksOff why old new failed (text ++ after)
breaks_longer faults.Write old new failed text after breaks = (breaks.0, front_longer old new text after breaks.1)
breaks_longer faults.Memory old new failed text after breaks = (breaks.0, front_longer old new text after breaks.1)
breaks_longer faults.Read old new failed text after breaks = absurd breaks
breaks_longer faults.TooLong old new failed text after breaks = absurd breaks
breaks_longer (faults.Script why) old new failed text after breaks = absurd breaks
breaks_longer faults.NotV1 old new failed text after breaks = absurd breaks
breaks_longer (faults.Live why) old new failed text after breaks = absurd breaks

-- ---- lines

pub lines_of-append : (first rest : List Played) → lines_of (first ++ rest) ≡ lines_of first ++ lines_of rest
unfolding lines_of
lines_of-append [] rest = refl
lines_of-append (one ∷ first) rest = ap (λ ls. lines_at one ++ ls) (lines_of-append first rest) ∙ sym (append_assoc (lines_at one) (lines_of first) (lines_of rest))

text_of : List Played → List ℕ
text_of seen = record_text (lines_of seen)

parts_of : (first rest : List Played) → text_of (first ++ rest) ≡ text_of first ++ text_of rest
unfolding text_of
parts_of first rest = ap record_text (lines_of-append first rest) ∙ record_text-append (lines_of first) (lines_of rest)

writes_none : (old : Option (List ℕ)) (failed : Bool) → failed ≡ false → WroteAll old old failed (record_text (lines_of []))
unfolding lines_of
writes_none old failed sound = record { appends = Appends-nil old; sound = sound }

-- what a writer keeps to as it observes
pub observes : {W : Type 0} (contents : W → Option (List ℕ)) → Observes (λ (old new : Meter W) result seen. Puts contents old new result (record_text (lines_of seen))) (λ meter. meter.failed ≡ false)
unfolding text_of
observes contents = record {
  none = λ o ready. writes_none (contents o.inner) o.failed ready;
  more = λ o p q result first rest one two.
      subst (Writes (contents o.inner) (contents q.inner) q.failed result) (sym (parts_of first rest))
      (writes_then (contents o.inner) (contents p.inner) (contents q.inner) p.failed q.failed result (record_text (lines_of first)) (record_text (lines_of rest)) one two);
  broken = λ o p why first rest breaks.
      subst (BreaksOff why (contents o.inner) (contents p.inner) p.failed) (sym (parts_of first rest))
      (breaks_longer why (contents o.inner) (contents p.inner) p.failed (record_text (lines_of first)) (record_text (lines_of rest)) breaks);
  wants = λ o whole ready. wants_memory (record_text (lines_of whole)) ready;
}
