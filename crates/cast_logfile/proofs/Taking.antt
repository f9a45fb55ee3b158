-- One step more is taken of a log.
use Rattle.std.proofs.Common.{◌≡◌, ◌≢◌, ℕ, zero, suc, ◌+◌, ◌<◌, ◌≤◌, ◌==◌, Bool, true, false, List, [], ◌∷◌, ◌++◌, length, take, sym, refl, ap, ◌∙◌, subst, arith, ⊎_elim, ◌⊎◌, inl, inr}
use Rattle.std.specs.Prelude.{slice_set, slice_index_or, if◌then◌else◌, flat_map, replicate, nat_lt}
use Rattle.std.proofs.lemmas.Bool.Decides.{nat_tests}
use Rattle.std.proofs.lemmas.List.{append-nil, take_more, length-set, length-replicate}
use Rattle.std.proofs.lemmas.Grind.{flat_map-append, common_steps}
use Rattle.cast_logfile.specs.declared.file_log.LoggedStep.{LoggedStep}
use Rattle.cast_logfile.specs.declared.merging.StepPlace.{StepPlace}
use Rattle.cast_logfile.specs.Merging.{Logs, log_of, no_step, step_at, step_of, row, IsWhole}
use Rattle.cast_logfile.specs.Fronts.{taken_of, Taken, HasStep}

set_here : (xs : List ℕ) (i a d : ℕ) → i < length xs → slice_index_or (slice_set xs i a) i d ≡ a
set_here [] i a d lt = absurd (omega arith)
set_here (x ∷ xs) zero a d lt = refl
set_here (x ∷ xs) (suc i) a d lt = set_here xs i a d (omega arith)

set_there : (xs : List ℕ) (i j a d : ℕ) → j ≢ i → slice_index_or (slice_set xs i a) j d ≡ slice_index_or xs j d
set_there [] i j a d ne = refl
set_there (x ∷ xs) zero zero a d ne = absurd (ne refl)
set_there (x ∷ xs) zero (suc j) a d ne = refl
set_there (x ∷ xs) (suc i) zero a d ne = refl
set_there (x ∷ xs) (suc i) (suc j) a d ne = set_there xs i j a d (λ e. ne (ap suc e))

zeros : (n p : ℕ) → ◌≡◌ {A = ℕ} (slice_index_or (replicate n 0) p 0) 0
zeros zero p = refl
zeros (suc n) zero = refl
zeros (suc n) (suc p) = zeros n p

-- nothing was taken
pub taken_none : (logs : Logs) (at : List ℕ) (order : List StepPlace) → at ≡ replicate (length logs) 0 → order ≡ [] → Taken logs at order
taken_none logs at order is none =
    let zero_at : (p : ℕ) → ◌≡◌ {A = ℕ} (taken_of at p) 0 = λ p. ap (λ a. taken_of a p) is ∙ zeros (length logs) p in
    record {
      size = ap length is ∙ length-replicate (length logs) 0;
      within = λ p. let z = zero_at p in omega arith;
      rows = λ p. ap (row logs p) none ∙ sym (ap (λ n. take n (log_of logs p)) (zero_at p));
    }

by_test : (a b : ℕ) (t : Bool) → (a == b) ≡ t → (((a == b) ≡ true) × (a ≡ b)) ⊎ (((a == b) ≡ false) × (b ≢ a))
by_test a b true e = inl (e, grind (arith, nat_tests, e))
by_test a b false e = inr (e, λ h. grind (arith, nat_tests, e, h))

eq_test : (a b : ℕ) → (((a == b) ≡ true) × (a ≡ b)) ⊎ (((a == b) ≡ false) × (b ≢ a))
eq_test a b = by_test a b (a == b) refl

-- the next step of a log was taken
pub taken_more : (logs : Logs) (at at' : List ℕ) (order order' : List StepPlace) (node place : ℕ) → Taken logs at order → HasStep logs at node → place ≡ taken_of at node
    → at' ≡ slice_set at node (place + 1) → order' ≡ order ++ record { node = node; place = place } ∷ [] → Taken logs at' order'
taken_more logs at at' order order' node place t has is set more =
    let x : StepPlace = record { node = node; place = place } in
    let lt : node < length at = omega (arith, t.size, has.0) in
    let here : taken_of at' node ≡ place + 1 = ap (λ a. taken_of a node) set ∙ set_here at node (place + 1) 0 lt in
    let there : (p : ℕ) → p ≢ node → taken_of at' p ≡ taken_of at p = λ p ne. ap (λ a. taken_of a p) set ∙ set_there at node p (place + 1) 0 ne in
    let grown : (p : ℕ) → row logs p order' ≡ row logs p order ++ (step_of logs p x ++ []) = λ p. ap (row logs p) more ∙ flat_map-append (step_of logs p) order (x ∷ []) in
    record {
      size = ap length set ∙ length-set at node (place + 1) ∙ t.size;
      within = λ p. ⊎_elim
          (λ (h : ((node == p) ≡ true) × (node ≡ p)).
          let P : ℕ → Type 0 = λ q. taken_of at' q ≤ length (log_of logs q) in
          let own : P node = let e = here in let l = has.1 in omega (arith, is) in subst P h.1 own)
          (λ (h : ((node == p) ≡ false) × (p ≢ node)). let e = there p h.1 in let w = t.within p in omega arith) (eq_test node p);
      rows = λ p. ⊎_elim
          (λ (h : ((node == p) ≡ true) × (node ≡ p)).
          let P : ℕ → Type 0 = λ q. row logs q order ++ (step_at logs x ∷ []) ≡ take (taken_of at' q) (log_of logs q) in
          let own : P node =
          ap (λ r. r ++ step_at logs x ∷ []) (t.rows node ∙ ap (λ n. take n (log_of logs node)) (sym is))
          ∙ sym (take_more (log_of logs node) place no_step (omega (arith, is, has.1)))
          ∙ ap (λ n. take n (log_of logs node)) (sym here) in
          grown p ∙ ap (λ (b : Bool). row logs p order ++ ((if b then step_at logs x ∷ [] else []) ++ [])) h.0 ∙ subst P h.1 own)
          (λ (h : ((node == p) ≡ false) × (p ≢ node)).
          grown p ∙ ap (λ (b : Bool). row logs p order ++ ((if b then step_at logs x ∷ [] else []) ++ [])) h.0 ∙ append-nil (row logs p order)
          ∙ t.rows p ∙ ap (λ n. take n (log_of logs p)) (sym (there p h.1))) (eq_test node p);
    }

past_end : (logs : Logs) (p : ℕ) → length logs ≤ p → log_of logs p ≡ []
past_end [] p le = refl
past_end (x ∷ xs) zero le = absurd (omega arith)
past_end (x ∷ xs) (suc p) le = past_end xs p (omega arith)

all_of : (xs : List LoggedStep) (n : ℕ) → length xs ≤ n → take n xs ≡ xs
all_of [] zero le = refl
all_of [] (suc n) le = refl
all_of (x ∷ xs) zero le = absurd (omega arith)
all_of (x ∷ xs) (suc n) le = ap (λ l. x ∷ l) (all_of xs n (omega arith))

module _ (logs : Logs) (at : List ℕ) (done : (p : ℕ) → p < length logs → length (log_of logs p) ≤ taken_of at p) where
  by_place : (p : ℕ) (b : Bool) → nat_lt p (length logs) ≡ b → length (log_of logs p) ≤ taken_of at p
  by_place p true e = done p (grind (arith, nat_tests, e))
  by_place p false e = let z = ap length (past_end logs p (grind (arith, nat_tests, e))) in omega (arith, z)

  -- all steps were taken
  pub taken_all : (order : List StepPlace) → Taken logs at order → IsWhole logs order
  taken_all order t p = t.rows p ∙ all_of (log_of logs p) (taken_of at p) (by_place p (nat_lt p (length logs)) refl)
