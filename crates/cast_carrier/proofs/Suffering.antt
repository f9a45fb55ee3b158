-- What becomes of a frame, read fault by fault.
use Rattle.std.proofs.Common.{◌≡◌, ℕ, zero, suc, ◌+◌, ◌<◌, max, List, [], ◌∷◌, ◌++◌, take, length, slice_get, slice_set, Some, sym, refl, ap, ◌∙◌, arith, Bool, true, false, ◌||◌}
use Rattle.std.specs.Prelude.{slice_index_or}
use Rattle.std.specs.List.{list_any}
use Rattle.std.proofs.lemmas.List.Folds.{list_any-append}
use Rattle.cast_message.specs.declared.message.Frame.{Frame}
use Rattle.cast_message.specs.declared.message.FrameKind.{FrameKind}
use Rattle.cast_message.specs.declared.plan.Fault.{Fault}
use Rattle.cast_carrier.specs.declared.fate.Fate.{Fate}
use Rattle.cast_carrier.specs.declared.fate.NamedFrame.{NamedFrame}
use Rattle.cast_carrier.specs.declared.fate.Ordinals.{Ordinals}
use Rattle.cast_carrier.specs.Fates.{loses, repeats, delay_by, delay_of, fate_by, suffered, named, ordinal_of, one_more, fate_where, fate_in, counted_where, counted_in}
use Rattle.cast_message.specs.Items.{kind_of}

or_none : (a b : Bool) → (a || (b || false)) ≡ (a || b)
or_none true b = refl
or_none false true = refl
or_none false false = refl

any_snoc : {A : Type 0} (test : A → Bool) (xs : List A) (x : A) → list_any test (xs ++ x ∷ []) ≡ (list_any test xs || test x)
any_snoc test xs x = list_any-append test xs (x ∷ []) ∙ or_none (list_any test xs) (test x)

delay_snoc : (frame : NamedFrame) (xs : List Fault) (f : Fault) → delay_of frame (xs ++ f ∷ []) ≡ max (delay_of frame xs) (delay_by frame f)
unfolding delay_of
delay_snoc frame [] f = omega arith
delay_snoc frame (x ∷ xs) f = let it = delay_snoc frame xs f in omega (arith, it)

pub same_fate : (x y : Fate) → x.lost ≡ y.lost → x.delay ≡ y.delay → x.twice ≡ y.twice → x ≡ y
same_fate x y l d t = ap (λ (b : Bool). record { lost = b; delay = x.delay; twice = x.twice }) l ∙ ap (λ (n : ℕ). record { lost = y.lost; delay = n; twice = x.twice }) d ∙ ap (λ (b : Bool). record { lost = y.lost; delay = y.delay; twice = b }) t

fate_snoc : (frame : NamedFrame) (xs : List Fault) (f : Fault) → fate_by frame (xs ++ f ∷ []) ≡ suffered frame (fate_by frame xs) f
fate_snoc frame xs f = same_fate (fate_by frame (xs ++ f ∷ [])) (suffered frame (fate_by frame xs) f) (any_snoc (loses frame) xs f) (delay_snoc frame xs f) (any_snoc (repeats frame) xs f)

pub fate_none : (frame : NamedFrame) → record { lost = false; delay = 0; twice = false } ≡ fate_by frame []
unfolding delay_of
fate_none frame = refl

pub fate_more : (frame : NamedFrame) (place : ℕ) (fs : List Fault) (f : Fault) (fate new : Fate) → fate ≡ fate_by frame (take place fs) → take (place + 1) fs ≡ take place fs ++ f ∷ [] → new ≡ suffered frame fate f → new ≡ fate_by frame (take (place + 1) fs)
fate_more frame place fs f fate new is more by = by ∙ ap (λ s. suffered frame s f) is ∙ sym (fate_snoc frame (take place fs) f) ∙ ap (fate_by frame) (sym more)

pub got : {A : Type 0} (xs : List A) (i : ℕ) (d : A) → i < length xs → slice_get xs i ≡ Some (slice_index_or xs i d)
got [] i d h = absurd (omega (arith, h))
got (x ∷ xs) zero d h = refl
got (x ∷ xs) (suc i) d h = got xs i d (omega (arith, h))

named_so : (f : Frame) (counts : Ordinals) (kind : FrameKind) (ordinal : ℕ) → kind ≡ kind_of f.body → ordinal ≡ ordinal_of kind counts → record { kind = kind; from = f.from; to = f.to; ordinal = ordinal } ≡ named f counts
named_so f counts kind ordinal k o =
    ap (λ n. record { kind = kind; from = f.from; to = f.to; ordinal = n }) o ∙ ap (λ (m : FrameKind). record { kind = m; from = f.from; to = f.to; ordinal = ordinal_of m counts }) k

pub fate_there : (faults : List Fault) (ordinals : List Ordinals) (f : Frame) (place : ℕ) (counts : Ordinals) (kind : FrameKind) (ordinal : ℕ) (fate : Fate) → place ≡ f.to → slice_get ordinals place ≡ Some counts
    → kind ≡ kind_of f.body → ordinal ≡ ordinal_of kind counts → fate ≡ fate_by (record { kind = kind; from = f.from; to = f.to; ordinal = ordinal }) faults → fate ≡ fate_in faults ordinals f
fate_there faults ordinals f place counts kind ordinal fate is at k o by =
    by ∙ ap (λ m. fate_by m faults) (named_so f counts kind ordinal k o) ∙ sym (ap (fate_where faults f) (ap (slice_get ordinals) (sym is) ∙ at))

pub counted_there : (ordinals : List Ordinals) (f : Frame) (place : ℕ) (counts new : Ordinals) (kind : FrameKind) → place ≡ f.to → slice_get ordinals place ≡ Some counts → kind ≡ kind_of f.body → new ≡ one_more kind counts
    → slice_set ordinals place new ≡ counted_in ordinals f
counted_there ordinals f place counts new kind is at k more =
    ap (λ i. slice_set ordinals i new) is ∙ ap (slice_set ordinals f.to) (more ∙ ap (λ (m : FrameKind). one_more m counts) k) ∙ sym (ap (counted_where ordinals f) (ap (slice_get ordinals) (sym is) ∙ at))
