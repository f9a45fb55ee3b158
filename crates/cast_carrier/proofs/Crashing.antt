-- The crash that a plan names, read fault by fault.
use Rattle.std.proofs.Common.{◌≡◌, ◌≢◌, ◌≤◌, ◌∙◌, ◌==◌, ◌⊎◌, inl, inr, ⊎_elim, ℕ, zero, suc, ◌+◌, nat_lt, Bool, true, false, if◌then◌else◌, List, [], ◌∷◌, ◌++◌, Option, None, Some, slice_get, take, sym, ap, refl, arith, subst, eqb-true, eq-eqb, ltb-true}
use Rattle.std.proofs.lemmas.Bool.Decides.{nat_tests}
use Rattle.cast_message.specs.declared.plan.Fault.{Fault}
use Rattle.cast_message.specs.declared.plan.Fault.TheVariants.{Lose, Repeat, Delay, Crash}
use Rattle.cast_journal.specs.Lists.{Has}
use Rattle.cast_carrier.specs.Plans.{crash_by, crash_from, least, IsLeastCrash}
use Rattle.cast_journal.proofs.Lists.{has_none}

pub crash_snoc : (p : ℕ) (so : Option ℕ) (xs : List Fault) (f : Fault) → crash_from p so (xs ++ f ∷ []) ≡ crash_by p (crash_from p so xs) f
unfolding crash_from
crash_snoc p so [] f = refl
crash_snoc p so (x ∷ xs) f = crash_snoc p (crash_by p so x) xs f

pub crash_none : (p : ℕ) → None ≡ crash_from p None []
unfolding crash_from
crash_none p = refl

pub crash_more : (p place : ℕ) (fs : List Fault) (f : Fault) (crash new : Option ℕ) → crash ≡ crash_from p None (take place fs) → take (place + 1) fs ≡ take place fs ++ f ∷ [] → new ≡ crash_by p crash f → new ≡ crash_from p None (take (place + 1) fs)
crash_more p place fs f crash new is more by = by ∙ ap (λ s. crash_by p s f) is ∙ sym (crash_snoc p None (take place fs) f) ∙ ap (crash_from p None) (sym more)

module _ (p : ℕ) where
  -- a count that stood before, or that of this fault
  abbrev IsOneOf : Option ℕ → Fault → ℕ → Type 0
  IsOneOf so fault n = (so ≡ Some n) ⊎ (fault ≡ Crash p n)

  -- the least of these
  abbrev IsLeastOf : Option ℕ → Fault → Option ℕ → Type 0
  IsLeastOf so fault None = (so ≡ None) × ((n : ℕ) → fault ≢ Crash p n)
  IsLeastOf so fault (Some n) = IsOneOf so fault n × ((m : ℕ) → IsOneOf so fault m → n ≤ m)

  -- a fault that is no crash of the node
  other : (so : Option ℕ) (fault : Fault) → ((n : ℕ) → fault ≢ Crash p n) → IsLeastOf so fault so
  other None fault none = (refl, none)
  other (Some n) fault none = (inl refl, λ m h. ⊎_elim (λ (e : Some n ≡ Some m). let same : n ≡ m = cc in omega arith) (λ (e : fault ≡ Crash p m). absurd (none m e)) h)

  of_two : (so : Option ℕ) (n : ℕ) → IsLeastOf so (Crash p n) (least so n)
  of_two None n = (inr refl, λ m h. ⊎_elim (λ (e : None ≡ Some m). absurd cc) (λ (e : Crash p n ≡ Crash p m). let same : n ≡ m = cc in omega arith) h)
  of_two (Some k) n = by (nat_lt n k) refl
    where
      both : (x : ℕ) → x ≤ k → x ≤ n → (m : ℕ) → IsOneOf (Some k) (Crash p n) m → x ≤ m
      both x a b m h = ⊎_elim (λ (e : Some k ≡ Some m). let same : k ≡ m = cc in omega arith) (λ (e : Crash p n ≡ Crash p m). let same : n ≡ m = cc in omega arith) h

      by : (b : Bool) → nat_lt n k ≡ b → IsLeastOf (Some k) (Crash p n) (if b then Some n else Some k)
      by true e = let less = ltb-true n k e in (inr refl, both n (omega arith) (omega arith))
      by false e = let more : k ≤ n = grind (arith, nat_tests) in (inl refl, both k (omega arith) (omega arith))

  one : (so : Option ℕ) (fault : Fault) → IsLeastOf so fault (crash_by p so fault)
  one so (Lose frames) = other so (Lose frames) (λ n e. absurd cc)
  one so (Repeat frames) = other so (Repeat frames) (λ n e. absurd cc)
  one so (Delay frames count) = other so (Delay frames count) (λ n e. absurd cc)
  one so (Crash node entries) = by (node == p) refl
    where
      by : (b : Bool) → (node == p) ≡ b → IsLeastOf so (Crash node entries) (if b then least so entries else so)
      by true e = let same = eqb-true node p e in subst (λ q. IsLeastOf so (Crash q entries) (least so entries)) (sym same) (of_two so entries)
      by false e = other so (Crash node entries) (λ n is. let same : node ≡ p = cc in let yes = eq-eqb node p same in absurd cc)

  -- a count that stood before, or one of these faults
  abbrev IsAnyOf : Option ℕ → List Fault → ℕ → Type 0
  IsAnyOf so faults n = (so ≡ Some n) ⊎ Has faults (Crash p n)

  abbrev IsLeastFrom : Option ℕ → List Fault → Option ℕ → Type 0
  IsLeastFrom so faults None = (so ≡ None) × ((n : ℕ) → ¬ Has faults (Crash p n))
  IsLeastFrom so faults (Some n) = IsAnyOf so faults n × ((m : ℕ) → IsAnyOf so faults m → n ≤ m)

  module _ (so : Option ℕ) (f : Fault) (fs : List Fault) where
    split : (n : ℕ) → Has (f ∷ fs) (Crash p n) → (f ≡ Crash p n) ⊎ Has fs (Crash p n)
    split n (zero, e) = inl cc
    split n (suc i, e) = inr (i, e)

    joined : (mid out : Option ℕ) → IsLeastOf so f mid → IsLeastFrom mid fs out → IsLeastFrom so (f ∷ fs) out
    joined None None s r = (s.0, λ n h. ⊎_elim (λ (e : f ≡ Crash p n). s.1 n e) (λ (e : Has fs (Crash p n)). r.1 n e) (split n h))
    joined None (Some n) s r = (
      ⊎_elim (λ (e : None ≡ Some n). absurd cc) (λ (h : Has fs (Crash p n)). inr (suc h.0, h.1)) r.0,
      λ m h. ⊎_elim (λ (e : so ≡ Some m). absurd (let none = s.0 in cc))
          (λ (t : Has (f ∷ fs) (Crash p m)). ⊎_elim (λ (e : f ≡ Crash p m). absurd (s.1 m e)) (λ (e : Has fs (Crash p m)). r.1 m (inr e)) (split m t)) h,
    )
    joined (Some k) None s r = absurd (let none = r.0 in cc)
    joined (Some k) (Some n) s r =
        let within : n ≤ k = r.1 k (inl refl) in (
          ⊎_elim
              (λ (e : Some k ≡ Some n). let same : k ≡ n = cc in
              ⊎_elim (λ (t : so ≡ Some k). inl (subst (λ x. so ≡ Some x) same t)) (λ (t : f ≡ Crash p k). inr (zero, subst (λ x. Some f ≡ Some (Crash p x)) same (ap (λ (g : Fault). Some g) t))) s.0)
              (λ (h : Has fs (Crash p n)). inr (suc h.0, h.1)) r.0,
          λ m h. ⊎_elim (λ (e : so ≡ Some m). let low = s.1 m (inl e) in omega arith)
              (λ (t : Has (f ∷ fs) (Crash p m)). ⊎_elim (λ (e : f ≡ Crash p m). let low = s.1 m (inr e) in omega arith) (λ (e : Has fs (Crash p m)). r.1 m (inr e)) (split m t)) h,
        )

  from : (so : Option ℕ) (faults : List Fault) → IsLeastFrom so faults (crash_from p so faults)
  unfolding crash_from
  from None [] = (refl, λ n h. has_none (Crash p n) h)
  from (Some n) [] = (inl refl, λ m h. ⊎_elim (λ (e : Some n ≡ Some m). let same : n ≡ m = cc in omega arith) (λ (t : Has [] (Crash p m)). absurd (has_none (Crash p m) t)) h)
  from so (f ∷ fs) = joined so f fs (crash_by p so f) (crash_from p (crash_by p so f) fs) (one so f) (from (crash_by p so f) fs)

  -- of the counts with which a plan names the node
  pub least_crash : (faults : List Fault) (out : Option ℕ) → out ≡ crash_from p None faults → IsLeastCrash p faults out
  least_crash faults out is = by out (subst (IsLeastFrom None faults) (sym is) (from None faults))
    where
      by : (out : Option ℕ) → IsLeastFrom None faults out → IsLeastCrash p faults out
      by None h = h.1
      by (Some n) h = (
        ⊎_elim (λ (e : None ≡ Some n). absurd cc) (λ (t : Has faults (Crash p n)). t) h.0,
        λ m t. h.1 m (inr t),
      )
