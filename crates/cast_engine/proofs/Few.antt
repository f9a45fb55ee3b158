-- How little is done, call after call.
use Rattle.std.proofs.Common.{◌≡◌, ◌≢◌, ℕ, zero, suc, ◌+◌, ◌≤◌, refl, sym, ap, ◌∙◌, arith, length, List, [], ◌∷◌, Some, inl, inr}
use Rattle.std.specs.Prelude.{slice_get, slice_set}
use Rattle.std.proofs.lemmas.Bool.{cases_eq}
use Rattle.cast_box.specs.Ends.{PutterEnd, TakerEnd, IsSamePutter}
use Rattle.cast_desk.specs.declared.notice.Notice.{Notice}
use Rattle.cast_journal.specs.declared.parcel.Parcel.{Parcel}
use Rattle.cast_engine.specs.Feeding.{put_into, TellEach}
use Rattle.cast_engine.specs.Engines.{EngineState, HasSameBoxes, DoesFew}

-- where nothing was done, no more was
pub few_same : (takes orders puts tells : ℕ) (a b : EngineState) → HasSameBoxes a b → DoesFew takes orders puts tells a b
few_same takes orders puts tells a b same = record {
  taken = omega (arith, ap (λ (e : TakerEnd Parcel). length e.taken) same.2);
  ordered = omega (arith, ap length same.3);
  put = omega (arith, ap (λ (e : PutterEnd Parcel). length e.put) same.0);
  told = λ c. omega (arith, ap (λ (trays : List (PutterEnd Notice)). length (put_into (slice_get trays c))) same.4);
}

pub few_again : (t o p n t' o' p' n' : ℕ) (a b c : EngineState) → DoesFew t o p n a b → DoesFew t' o' p' n' b c → DoesFew (t + t') (o + o') (p + p') (n + n') a c
few_again t o p n t' o' p' n' a b c f g = record {
  taken = omega (arith, f.taken, g.taken);
  ordered = omega (arith, f.ordered, g.ordered);
  put = omega (arith, f.put, g.put);
  told = λ k. omega (arith, f.told k, g.told k);
}

pub same_again : (a b c : EngineState) → HasSameBoxes a b → HasSameBoxes b c → HasSameBoxes a c
same_again a b c f g = (g.0 ∙ f.0, g.1 ∙ f.1, g.2 ∙ f.2, g.3 ∙ f.3, g.4 ∙ f.4)

-- a turn's work, and nothing before it
pub few_worked : (a b c d : EngineState) → HasSameBoxes a b → HasSameBoxes b c → DoesFew 1 1 3 1 c d → DoesFew 1 1 3 1 a d
few_worked a b c d f g work = few_again 0 0 0 0 1 1 3 1 a c d (few_same 0 0 0 0 a c (same_again a b c f g)) work

-- ---- one tray among others

pub set_elsewhere : {A : Type 0} (xs : List A) (i j : ℕ) (a : A) → j ≢ i → slice_get (slice_set xs i a) j ≡ slice_get xs j
set_elsewhere [] i j a other = refl
set_elsewhere (x ∷ xs) zero zero a other = absurd (other refl)
set_elsewhere (x ∷ xs) zero (suc j) a other = refl
set_elsewhere (x ∷ xs) (suc i) zero a other = refl
set_elsewhere (x ∷ xs) (suc i) (suc j) a other = set_elsewhere xs i j a (λ e. other (ap suc e))

set_again : {A : Type 0} (xs : List A) (i : ℕ) (was : A) → slice_get xs i ≡ Some was → slice_set xs i was ≡ xs
set_again [] i was e = refl
set_again (x ∷ xs) zero was e = let same : x ≡ was = cc in ap (λ y. y ∷ xs) (sym same)
set_again (x ∷ xs) (suc i) was e = ap (λ ys. x ∷ ys) (set_again xs i was e)

-- the tray was full
pub tells_nothing : (trays new : List (PutterEnd Notice)) (client : ℕ) (was now : PutterEnd Notice) → slice_get trays client ≡ Some was → new ≡ slice_set trays client now → IsSamePutter was now → now.put ≡ was.put → new ≡ trays
tells_nothing trays new client was now at set same put =
    let is : now ≡ was = (λ i. record { home = same.0 i; size = same.1 i; putters = same.2 i; number = same.3 i; put = put i }) in
    set ∙ ap (slice_set trays client) is ∙ set_again trays client was at

-- ---- client by client: those from here on were told nothing yet

pub tells_next : (old trays new : List (PutterEnd Notice)) (client : ℕ) (now : PutterEnd Notice) → TellEach 1 old trays → ((c : ℕ) → client ≤ c → slice_get trays c ≡ slice_get old c) → new ≡ slice_set trays client now → TellEach 1 trays new
    → TellEach 1 old new × ((c : ℕ) → client + 1 ≤ c → slice_get new c ≡ slice_get old c)
tells_next old trays new client now before rest set one = (
  λ c. elim (cases_eq c client) [
    | inl here ↦ omega (arith, one c, ap (λ o. length (put_into o)) (rest c (omega (arith, here))))
    | inr other ↦
        omega (arith, before c, ap (λ (l : List (PutterEnd Notice)). length (put_into (slice_get l c))) set, ap (λ o. length (put_into o)) (set_elsewhere trays client c now other))
  ],
  λ c later. ap (λ l. slice_get l c) set ∙ set_elsewhere trays client c now (λ e. omega (arith, later, e)) ∙ rest c (omega (arith, later)),
)
