-- Ends that were used are still the ends of their box.
use Rattle.std.proofs.Common.{◌≡◌, ◌≢◌, ℕ, zero, suc, List, [], ◌∷◌, slice_get, slice_set, Some, sym, refl, ap, ◌∙◌, subst, ◌⊎◌, inl, inr, ⊎_elim, arith}
use Rattle.std.proofs.lemmas.List.{length-set}
use Rattle.cast_box.specs.Ends.{PutterEnd, TakerEnd, IsSamePutter, IsSameTaker, AreSamePutters, AreAllEnds}

-- what stands in a list after one place was written
pub get_set : {A : Type 0} (xs : List A) (i j : ℕ) (a x : A) → slice_get (slice_set xs i a) j ≡ Some x → ((j ≡ i) × (a ≡ x)) ⊎ ((j ≢ i) × (slice_get xs j ≡ Some x))
get_set [] i j a x e = absurd cc
get_set (y ∷ ys) zero zero a x e = inl (refl, cc)
get_set (y ∷ ys) zero (suc j) a x e = inr ((λ h. omega arith), e)
get_set (y ∷ ys) (suc i) zero a x e = inr ((λ h. omega arith), e)
get_set {A = A} (y ∷ ys) (suc i) (suc j) a x e =
    ⊎_elim (λ (t : (j ≡ i) × (a ≡ x)). inl (ap suc t.0, t.1)) (λ (t : (j ≢ i) × (slice_get ys j ≡ Some x)). let n = t.0 in inr ((λ h. n (omega arith)), t.1)) (get_set ys i j a x e)

module _ {T : Type 0} where
  pub taker_same : (t : TakerEnd T) → IsSameTaker t t
  taker_same t = (refl, refl, refl, refl)

  pub taker_again : (t u v : TakerEnd T) → IsSameTaker t u → IsSameTaker u v → IsSameTaker t v
  taker_again t u v p q = (q.0 ∙ p.0, q.1 ∙ p.1, q.2 ∙ p.2, q.3 ∙ p.3)

  pub putter_again : (t u v : PutterEnd T) → IsSamePutter t u → IsSamePutter u v → IsSamePutter t v
  putter_again t u v p q = (q.0 ∙ p.0, q.1 ∙ p.1, q.2 ∙ p.2, q.3 ∙ p.3)

  pub putters_same : (ps : List (PutterEnd T)) → AreSamePutters ps ps
  putters_same ps = (refl, λ a p at. (p, at, (refl, refl, refl, refl)))

  pub putters_again : (ps qs rs : List (PutterEnd T)) → AreSamePutters ps qs → AreSamePutters qs rs → AreSamePutters ps rs
  putters_again ps qs rs s t = (
    t.0 ∙ s.0,
    λ a p at. let one = t.1 a p at in let two = s.1 a one.0 one.1 in (two.0, two.1, putter_again two.0 one.0 p two.2 one.2),
  )

  -- writing an end back over itself leaves the same putters
  pub putters_set : (ps : List (PutterEnd T)) (i : ℕ) (old new : PutterEnd T) → slice_get ps i ≡ Some old → IsSamePutter old new → AreSamePutters ps (slice_set ps i new)
  putters_set ps i old new was same = (
    length-set ps i new,
    λ a p at. ⊎_elim
        (λ (t : (a ≡ i) × (new ≡ p)). let P : PutterEnd T → Type 0 = λ z. (o : PutterEnd T) × (slice_get ps a ≡ Some o) × IsSamePutter o z in
        subst P t.1 (old, ap (slice_get ps) t.0 ∙ was, same))
        (λ (t : (a ≢ i) × (slice_get ps a ≡ Some p)). (p, t.1, (refl, refl, refl, refl))) (get_set ps i a new p at),
  )

  pub ends_same : (ps qs : List (PutterEnd T)) (t u : TakerEnd T) → AreSamePutters ps qs → IsSameTaker t u → AreAllEnds ps t → AreAllEnds qs u
  ends_same ps qs t u s k ends = (
    s.0 ∙ ends.0 ∙ sym k.2,
    (λ a p at. let was = s.1 a p at in let e = ends.1 a was.0 was.1 in (was.2.0 ∙ e.0 ∙ sym k.0, was.2.3 ∙ e.1)),
    k.3 ∙ ends.2,
  )
