-- What memory was wanted for, as the judge takes lines and parts of lines.
use Rattle.std.proofs.Common.{◌≡◌, ◌⊎◌, ℕ, ◌+◌, ◌<◌, ◌≤◌, true, false, List, [], ◌∷◌, ◌++◌, append_assoc, length, length-append, inl, inr, sym, ap, subst, ◌∙◌, arith}
use Rattle.std.specs.Prelude.{Result, Ok, Err, OnErr}
use Rattle.cast_judge.specs.declared.judging.Judging.{Judging}
use Rattle.cast_judge.specs.Kept.{is_ended_at}
use Rattle.cast_judge.specs.FitLines.{HasNone, IsFit, IsCutAfter, BeginsWell}
use Rattle.cast_judge.specs.Judged.{Stands, IsReading, is_reading, HadBegun, EndsBegun, WantedMemory}
use Rattle.cast_judge.proofs.FitLemmas.{begins_well}
use Rattle.cast_judge.proofs.JudgedLemmas.{was_reading, cut_on, ended_stage}
use Rattle.cast_judge.proofs.TextLemmas.{clean_both}
use Rattle.cast_judge.proofs.PieceLemmas.{Reads}

pub err_of : {X E P Q : Type 0} (r : Result X E) → OnErr r P → (P → Q) → OnErr r Q
err_of (Ok x) p f = p
err_of (Err e) p f = f p

-- the judging is that of this text, and no line offended
pub is_of : (text : List ℕ) (judging : Judging) → is_reading judging ≡ true → Stands text judging → IsReading text judging.kept judging.tail.items judging.lines
is_of text judging reading st = was_reading judging.state text judging.kept judging.tail.items judging.lines reading st

-- ---- the line at which memory was wanted

-- a whole line of one piece
pub wanted_whole : (text part after : List ℕ) (old new : Judging) → (h : IsReading text old.kept old.tail.items old.lines) → old.tail.items ≡ [] → IsFit h.past part → new.lines ≡ old.lines → WantedMemory (text ++ (part ++ 10 ∷ after)) old new
wanted_whole text part after old new h none fit same = record {
  past = h.past;
  rest = old.tail.items ++ (part ++ 10 ∷ after);
  count = h.count ∙ sym same;
  cut = cut_on text old.tail.items (part ++ 10 ∷ after) h.past h.cut;
  well = inl (inl (record { line = part; after = after; cut = ap (λ tail. tail ++ (part ++ 10 ∷ after)) none; fit = fit }));
}

-- a line that had begun
pub wanted_begun : (text part after : List ℕ) (old new : Judging) → IsReading text old.kept old.tail.items old.lines → 0 < length old.tail.items → length old.tail.items + length part ≤ 4096 → new.lines ≡ old.lines → WantedMemory (text ++ (part ++ 10 ∷ after)) old new
wanted_begun text part after old new h some short same = record {
  past = h.past;
  rest = old.tail.items ++ (part ++ 10 ∷ after);
  count = h.count ∙ sym same;
  cut = cut_on text old.tail.items (part ++ 10 ∷ after) h.past h.cut;
  well = inr (record {
    begun = (some, same);
    line = old.tail.items ++ part;
    after = after;
    cut = sym (append_assoc old.tail.items part (10 ∷ after));
    short = omega (arith, short, length-append old.tail.items part);
  });
}

-- a line that has not ended
pub wanted_unfinished : (text part : List ℕ) (old new : Judging) → IsReading text old.kept old.tail.items old.lines → HasNone 10 part → 0 < length part → length old.tail.items + length part ≤ 4096 → is_ended_at old.kept.stage ≡ false → new.lines ≡ old.lines → WantedMemory (text ++ part) old new
wanted_unfinished text part old new h clean some short going same = record {
  past = h.past;
  rest = old.tail.items ++ part;
  count = h.count ∙ sym same;
  cut = cut_on text old.tail.items part h.past h.cut;
  well = inl (inr (record {
    some = omega (arith, some, length-append old.tail.items part);
    clean = clean_both old.tail.items part h.clean clean;
    short = omega (arith, short, length-append old.tail.items part);
    going = sym (ended_stage h.past) ∙ ap is_ended_at (sym h.stands.stage) ∙ going;
  }));
}

-- ---- the piece

begun_before : {X : Type 0} (rest : List ℕ) (old mid new : Judging) → (0 < length mid.tail.items → HadBegun old mid) → X ⊎ EndsBegun rest mid new → X ⊎ EndsBegun rest old new
begun_before rest old mid new f (inl x) = inl x
begun_before rest old mid new f (inr h) = let b = f h.begun.0 in inr (record { begun = (b.0, h.begun.1 ∙ b.1); line = h.line; after = h.after; cut = h.cut; short = h.short })

-- memory was wanted in the rest of a piece
pub wanted_on : (text piece rest : List ℕ) (old mid new : Judging) → (0 < length mid.tail.items → HadBegun old mid) → (r : Reads text piece rest mid) → WantedMemory ((text ++ r.front) ++ rest) mid new → WantedMemory (text ++ piece) old new
wanted_on text piece rest old mid new f r w = record {
  past = w.past;
  rest = w.rest;
  count = w.count;
  cut = subst (λ t. IsCutAfter t w.past w.rest) (append_assoc text r.front rest ∙ ap (λ bytes. text ++ bytes) (sym r.parts)) w.cut;
  well = begun_before w.rest old mid new f w.well;
}

-- the judging differs in nothing that this speaks of
pub wanted_same : (text : List ℕ) (old old' new new' : Judging) → old'.tail ≡ old.tail → old'.lines ≡ old.lines → new'.lines ≡ new.lines → WantedMemory text old new → WantedMemory text old' new'
wanted_same text old old' new new' tail was now w = record {
  past = w.past;
  rest = w.rest;
  count = w.count ∙ sym now;
  cut = w.cut;
  well = go w.well;
}
  where
    go : {X : Type 0} → X ⊎ EndsBegun w.rest old new → X ⊎ EndsBegun w.rest old' new'
    go (inl x) = inl x
    go (inr h) = inr (record { begun = (omega (arith, h.begun.0, ap (λ t. length t.items) tail), now ∙ h.begun.1 ∙ sym was); line = h.line; after = h.after; cut = h.cut; short = h.short })

-- ---- a text in one piece

pub wanted_first : (text : List ℕ) (old new : Judging) → is_reading old ≡ true → Stands [] old → WantedMemory text old new → BeginsWell [] text
wanted_first text old new reading st w = begins_well text w.rest w.past w.cut (go w.well)
  where
    empty : length old.tail.items ≡ 0
    empty = let h = is_of [] old reading st in omega (arith, ap length h.cut.cut, length-append h.cut.front old.tail.items)

    go : {X : Type 0} → X ⊎ EndsBegun w.rest old new → X
    go (inl x) = x
    go (inr h) = absurd (omega (arith, h.begun.0, empty))
