-- The log whose step comes next, among one log more.
use Rattle.std.proofs.Common.{◌≡◌, ℕ, ◌+◌, ◌<◌, ◌≤◌, List, length, Bool, true, false, Option, Some, None, sym, refl, subst, ◌⊎◌, inl, inr, ⊎_elim, arith}
use Rattle.std.specs.Prelude.{MatchOption, nat_lt}
use Rattle.std.proofs.lemmas.Bool.Decides.{nat_tests}
use Rattle.cast_logfile.specs.declared.merging.Front.{Front}
use Rattle.cast_logfile.specs.Merging.{Logs, log_of}
use Rattle.cast_logfile.specs.Fronts.{taken_of, HasStep, HasFront}

by_test : (p n : ℕ) (b : Bool) → nat_lt p n ≡ b → p < n + 1 → (p < n) ⊎ (n ≡ p)
by_test p n true e l = inl (grind (arith, nat_tests, e))
by_test p n false e l = inr (grind (arith, nat_tests, e, l))

last_or_before : (p n : ℕ) → p < n + 1 → (p < n) ⊎ (n ≡ p)
last_or_before p n l = by_test p n (nat_lt p n) refl l

module _ (logs : Logs) (at : List ℕ) (node : ℕ) (lt : node < length logs) where
  abbrev Here : Option Front → Type 0
  Here o = MatchOption o (length (log_of logs node) ≤ taken_of at node) (λ front. (front.node ≡ node) × (taken_of at node < length (log_of logs node)))

  own : (other : Option Front) (front : Front) → Here other → other ≡ Some front → HasStep logs at front.node
  own (Some x) front h e =
      let same : x ≡ front = cc in
      let P : ℕ → Type 0 = λ n. HasStep logs at n in
      subst (λ (f : Front). P f.node) same (subst P (sym h.0) (lt, h.1))
  own None front h e = absurd cc

  before : (first : Option Front) (front : Front) → HasFront logs at node first → first ≡ Some front → HasStep logs at front.node
  before (Some x) front h e = let same : x ≡ front = cc in subst (λ (f : Front). HasStep logs at f.node) same h
  before None front h e = absurd cc

  none_here : (other : Option Front) → Here other → other ≡ None → length (log_of logs node) ≤ taken_of at node
  none_here None h e = h
  none_here (Some x) h e = absurd cc

  none_before : (first : Option Front) → HasFront logs at node first → first ≡ None → (p : ℕ) → p < node → length (log_of logs p) ≤ taken_of at p
  none_before None h e = h
  none_before (Some x) h e = absurd cc

  none_more : (first other : Option Front) → HasFront logs at node first → Here other → first ≡ None → other ≡ None → (p : ℕ) → p < node + 1 → length (log_of logs p) ≤ taken_of at p
  none_more first other h o f n p l = ⊎_elim (λ (e : p < node). none_before first h f p e) (λ (e : node ≡ p). subst (λ q. length (log_of logs q) ≤ taken_of at q) e (none_here other o n)) (last_or_before p node l)

  pub front_more : (first other result : Option Front) → HasFront logs at node first → Here other → (result ≡ first) ⊎ (result ≡ other) → (result ≡ None → (first ≡ None) × (other ≡ None)) → HasFront logs at (node + 1) result
  front_more first other (Some front) h o one none = ⊎_elim (λ (e : Some front ≡ first). before first front h (sym e)) (λ (e : Some front ≡ other). own other front o (sym e)) one
  front_more first other None h o one none = none_more first other h o (none refl).0 (none refl).1
