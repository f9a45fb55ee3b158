-- What a judging stands for, as it takes lines and parts of lines.
use Rattle.std.proofs.Common.{◌≡◌, ℕ, ◌+◌, ◌^◌, ◌<◌, ◌&&◌, Bool, true, false, cond, nat_eq, List, [], ◌∷◌, ◌++◌, append_assoc, append-nil, length, length-append, Option, Some, None, refl, sym, ap, subst, ◌∙◌, arith}
use Rattle.std.specs.Prelude.{if◌then◌else◌, Result, Ok, Err, OnOk, is_ok}
use Rattle.std.proofs.lemmas.List.Elements.{All-nil}
use Rattle.cast_record.specs.declared.line.Line.{Line}
use Rattle.cast_record.specs.declared.verdict.Verdict.TheVariants.{Good, Bad}
use Rattle.cast_record.specs.Reading.{line_of}
use Rattle.cast_record.specs.Rules.{is_end, is_ended}
use Rattle.cast_record.specs.Verdicts.{with_line, kept_by, verdict}
use Rattle.cast_record.proofs.ReadLemmas.{line_takes_text}
use Rattle.cast_judge.specs.declared.judging.State.{State}
use Rattle.cast_judge.specs.declared.judging.State.TheVariants.{Reading, Offended}
use Rattle.cast_judge.specs.declared.kept.Kept.{Kept}
use Rattle.cast_judge.specs.declared.kept.Stage.TheVariants.{Body, Ended}
use Rattle.cast_judge.specs.Kept.{is_ended_at, rule_by, Keeps, IsNew}
use Rattle.cast_judge.specs.Stands.{StandsFor, stage_of}
use Rattle.cast_judge.specs.FitLines.{HasNone, IsFit, IsCutAfter}
use Rattle.cast_judge.specs.Judges.{IsKept, IsRefused, Judges, IsTakenOff}
use Rattle.cast_judge.specs.Judged.{verdict_of, IsReading, Offends, HasOffended, StandsAs, is_reading_state, is_refused_state, state_with, lines_with}
use Rattle.cast_judge.proofs.RuleLemmas.{rule_same}
use Rattle.cast_judge.proofs.StandingLemmas.{stands_on, stands_for_none}
use Rattle.cast_judge.proofs.FitLemmas.{line_clean, goes_past}
use Rattle.cast_judge.proofs.TextLemmas.{line_offends, at_end, ended_offends, long_offends, clean_both}

-- ---- one line

pub judges_broken : (past : List Line) (bytes : List ℕ) (line : Line) (rule : ℕ) (kept : Kept) → StandsFor past kept → line_of bytes ≡ Some line → rule_by kept line ≡ Some rule → IsRefused past bytes rule kept
judges_broken past bytes line rule kept s read e = record { breaks = ap (with_line past) read ∙ ap (kept_by past line) (sym (rule_same past kept line s) ∙ e); stands = s }

pub line_fits : (past : List Line) (bytes : List ℕ) (line : Line) (kept : Kept) → StandsFor past kept → line_of bytes ≡ Some line → rule_by kept line ≡ None → IsFit past bytes
line_fits past bytes line kept s read e = (line, ap (with_line past) read ∙ ap (kept_by past line) (sym (rule_same past kept line s) ∙ e))

pub judges_kept : (past : List Line) (bytes : List ℕ) (line : Line) (old new : Kept) → StandsFor past old → length past < 2 ^ 63 → line_of bytes ≡ Some line → rule_by old line ≡ None → Keeps old new line → IsKept past bytes new
judges_kept past bytes line old new s short read e w =
    let sound = sym (rule_same past old line s) ∙ e in
    record {
      line = line;
      goes = ap (with_line past) read ∙ ap (kept_by past line) sound;
      stands = stands_on past line old new s short (line_takes_text bytes line read).0 sound w;
    }

-- ---- the state

pub reading_state : (state : State) → is_reading_state state ≡ true → state ≡ Reading
reading_state Reading e = refl
reading_state state e = absurd (cc)

-- the same facts of equal parts
pub moved : (state state' : State) (text : List ℕ) (kept kept' : Kept) (tail tail' : List ℕ) (lines lines' : ℕ) → state' ≡ state → kept' ≡ kept → tail' ≡ tail → lines' ≡ lines → StandsAs state text kept tail lines → StandsAs state' text kept' tail' lines'
moved state state' text kept kept' tail tail' lines lines' a b c d h =
    subst (λ s. StandsAs s text kept' tail' lines') (sym a)
    (subst (λ k. StandsAs state text k tail' lines') (sym b)
    (subst (λ t. StandsAs state text kept t lines') (sym c)
    (subst (λ n. StandsAs state text kept tail n) (sym d) h)))

pub was_reading : (state : State) (text : List ℕ) (kept : Kept) (tail : List ℕ) (lines : ℕ) → is_reading_state state ≡ true → StandsAs state text kept tail lines → IsReading text kept tail lines
was_reading Reading text kept tail lines e h = h
was_reading state text kept tail lines e h = absurd (cc)

-- ---- a text with more of it

pub started : (kept : Kept) → IsNew kept → IsReading [] kept [] 0
started kept new = record { past = []; stands = stands_for_none kept new; count = refl; clean = All-nil (λ b. nat_eq b 10 ≡ false); cut = record { front = []; cut = refl; fit = refl } }

-- bytes that grew where the call answered
pub grown : {X E : Type 0} (r : Result X E) (new old more : List ℕ) → new ≡ (if is_ok r then old ++ more else old) → OnOk r (new ≡ old ++ more)
grown (Ok x) new old more e = e
grown (Err x) new old more e = tt

-- whatever follows the text, the verdict is that on the unfinished line and what follows
goes_from : (text tail : List ℕ) (kept : Kept) (lines : ℕ) → (h : IsReading text kept tail lines) → (more : List ℕ) → verdict (text ++ more) ≡ verdict_of h.past (tail ++ more)
goes_from text tail kept lines h more = ap (λ t. verdict (t ++ more)) h.cut.cut ∙ ap verdict (append_assoc h.cut.front tail more) ∙ goes_past h.past h.cut.front h.cut.fit (tail ++ more)

-- more of the text comes
pub cut_on : (text tail more : List ℕ) (past : List Line) → IsCutAfter text past tail → IsCutAfter (text ++ more) past (tail ++ more)
cut_on text tail more past cut = record { front = cut.front; cut = ap (λ t. t ++ more) cut.cut ∙ append_assoc cut.front tail more; fit = cut.fit }

-- more of the unfinished line comes
pub line_goes_on : (text tail part : List ℕ) (kept : Kept) (lines : ℕ) → IsReading text kept tail lines → HasNone 10 part → IsReading (text ++ part) kept (tail ++ part) lines
line_goes_on text tail part kept lines h clean = record {
  past = h.past;
  stands = h.stands;
  count = h.count;
  clean = clean_both tail part h.clean clean;
  cut = cut_on text tail part h.past h.cut;
}

-- a line feed comes, after the rest of a line
pub line_counted : (text tail part : List ℕ) (old new : Kept) (lines : ℕ) (o : Option ℕ) → IsReading text old tail lines → HasNone 10 part → lines < 2 ^ 63
    → ((past : List Line) → StandsFor past old → length past < 2 ^ 63 → Judges past (tail ++ part) o new)
    → StandsAs (state_with o Reading) (text ++ (part ++ 10 ∷ [])) new [] (lines_with o lines)
line_counted text tail part old new lines None h clean short judges =
    let kept = judges h.past h.stands (omega (arith, h.count)) in
    record {
      past = kept.line ∷ h.past;
      stands = kept.stands;
      count = omega (arith, h.count);
      clean = All-nil (λ b. nat_eq b 10 ≡ false);
      cut = record {
        front = text ++ (part ++ 10 ∷ []);
        cut = sym (append-nil (text ++ (part ++ 10 ∷ [])));
        fit = (h.cut.front, (h.cut.fit, record { last = tail ++ part; cut = whole h.cut.front h.cut.cut; fit = kept.goes }));
      };
    }
  where
    whole : (front : List ℕ) → text ≡ front ++ tail → text ++ (part ++ 10 ∷ []) ≡ front ++ ((tail ++ part) ++ 10 ∷ [])
    whole front cut = ap (λ t. t ++ (part ++ 10 ∷ [])) cut ∙ append_assoc front tail (part ++ 10 ∷ []) ∙ ap (λ r. front ++ r) (sym (append_assoc tail part (10 ∷ [])))
line_counted text tail part old new lines (Some rule) h clean short judges =
    let refused = judges h.past h.stands (omega (arith, h.count)) in
    record {
      past = h.past;
      stands = refused.stands;
      count = h.count;
      empty = refl;
      offends = λ more. ap verdict (append_assoc text (part ++ 10 ∷ []) more) ∙ goes_from text tail old lines h ((part ++ 10 ∷ []) ++ more)
          ∙ ap (verdict_of h.past) (ap (λ r. tail ++ r) (append_assoc part (10 ∷ []) more) ∙ sym (append_assoc tail part (10 ∷ more)))
          ∙ line_offends h.past rule (tail ++ part) more (clean_both tail part h.clean clean) refused.breaks
          ∙ ap (λ n. Bad (n + 1) rule) h.count;
    }

-- a line was taken off, where none is unfinished
pub taken_counted : (text bytes after : List ℕ) (old new : Kept) (lines : ℕ) → IsReading text old [] lines → lines < 2 ^ 63 → (taken : IsTakenOff bytes after old new)
    → StandsAs Reading (text ++ (taken.front ++ 10 ∷ [])) new [] (lines + 1)
taken_counted text bytes after old new lines h short taken =
    line_counted text [] taken.front old new lines None h (line_clean taken.front taken.line taken.read) short
    (λ past s few. judges_kept past taken.front taken.line old new s few taken.read taken.sound taken.keeps)

-- the unfinished line offends
pub let_go : (text more tail : List ℕ) (kept : Kept) (lines rule : ℕ) → IsReading text kept tail lines → Offends more lines rule → HasOffended more kept [] lines rule
let_go text more tail kept lines rule h offends = record { past = h.past; stands = h.stands; count = h.count; empty = refl; offends = offends }

-- an unfinished line is too long, whatever follows
pub too_long : (text tail part rest : List ℕ) (kept : Kept) (lines : ℕ) → IsReading text kept tail lines → HasNone 10 part → 4096 < length tail + length part → Offends (text ++ (part ++ rest)) lines 0
too_long text tail part rest kept lines h clean long = λ more.
    ap verdict (append_assoc text (part ++ rest) more) ∙ goes_from text tail kept lines h ((part ++ rest) ++ more)
    ∙ ap (verdict_of h.past) (ap (λ r. tail ++ r) (append_assoc part rest more) ∙ sym (append_assoc tail part (rest ++ more)))
    ∙ long_offends h.past (tail ++ part) (rest ++ more) (clean_both tail part h.clean clean) (omega (arith, length-append tail part))
    ∙ ap (λ n. Bad (n + 1) 0) h.count

pub ended_stage : (past : List Line) → is_ended_at (stage_of past) ≡ is_ended past
ended_stage [] = refl
ended_stage (last ∷ past) = go (is_end last)
  where
    go : (b : Bool) → is_ended_at (cond b Ended Body) ≡ b
    go true = refl
    go false = refl

-- a byte after the end
pub after_end : (text tail part : List ℕ) (kept : Kept) (lines : ℕ) → IsReading text kept tail lines → HasNone 10 part → 0 < length part → is_ended_at kept.stage ≡ true → Offends (text ++ part) lines 0
after_end text tail part kept lines h clean some ended = λ more.
    ap verdict (append_assoc text part more) ∙ goes_from text tail kept lines h (part ++ more)
    ∙ ap (verdict_of h.past) (sym (append_assoc tail part more))
    ∙ ended_offends h.past (tail ++ part) more (clean_both tail part h.clean clean) (omega (arith, length-append tail part)) (sym (ended_stage h.past) ∙ ap is_ended_at (sym h.stands.stage) ∙ ended)
    ∙ ap (λ n. Bad (n + 1) 0) h.count

-- the end of the text
pub finished : (text tail : List ℕ) (kept : Kept) (lines : ℕ) → IsReading text kept tail lines → verdict text ≡ cond (is_ended_at kept.stage && nat_eq (length tail) 0) Good (Bad (lines + 1) 0)
finished text tail kept lines h =
    ap verdict (sym (append-nil text)) ∙ goes_from text tail kept lines h [] ∙ ap (verdict_of h.past) (append-nil tail) ∙ at_end h.past tail h.clean
    ∙ ap (λ b. cond (b && nat_eq (length tail) 0) Good (Bad (length h.past + 1) 0)) (sym (ended_stage h.past) ∙ ap is_ended_at (sym h.stands.stage))
    ∙ ap (λ n. cond (is_ended_at kept.stage && nat_eq (length tail) 0) Good (Bad (n + 1) 0)) h.count

-- a line offended
pub offended_said : (state : State) (text : List ℕ) (kept : Kept) (tail : List ℕ) (lines rule : ℕ) → state ≡ Offended rule → StandsAs state text kept tail lines → verdict text ≡ Bad (lines + 1) rule
offended_said state text kept tail lines rule is h =
    let offended = subst (λ s. StandsAs s text kept tail lines) is h in
    ap verdict (sym (append-nil text)) ∙ offended.offends []

still_offended : (text more : List ℕ) (kept : Kept) (tail : List ℕ) (lines rule : ℕ) → HasOffended text kept tail lines rule → HasOffended (text ++ more) kept tail lines rule
still_offended text more kept tail lines rule h = record {
  past = h.past;
  stands = h.stands;
  count = h.count;
  empty = h.empty;
  offends = λ rest. ap verdict (append_assoc text more rest) ∙ h.offends (more ++ rest);
}

-- a state in which nothing more is read
pub done_on : (state : State) (text more : List ℕ) (kept : Kept) (tail : List ℕ) (lines : ℕ) → is_reading_state state ≡ false → is_refused_state state ≡ false → StandsAs state text kept tail lines → StandsAs state (text ++ more) kept tail lines
done_on (Offended rule) text more kept tail lines e f h = still_offended text more kept tail lines rule h
done_on state text more kept tail lines e f h = absurd (cc)
