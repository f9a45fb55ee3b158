-- Places in lists, and what the last steps on a box tell.
use Rattle.std.proofs.Common.{◌≡◌, ℕ, zero, suc, List, [], ◌∷◌, ◌++◌, ◌<◌, ◌≤◌, length, map, slice_get, Some, None, Option, option_map, OnSome, MatchOption, sym, refl, ap, ◌∙◌, subst, ◌⊎◌, inl, inr, ⊎_elim, arith}
use Rattle.std.proofs.lemmas.List.{append-nil, length-append}
use Rattle.std.proofs.lemmas.Option.{slice_get-map, slice_get_within}
use Rattle.crossbeam_queue.specs.Fifo.{Held}
use Rattle.cast_box.specs.declared.rule.Known.{Known}
use Rattle.cast_box.specs.Lists.{of, put_by, IsFair, HasOwn, HasTakenOfEnded}
use Rattle.cast_box.specs.Rule.{Closes, ShowsAll, ShowsEnded, ShowsPutter}
use Rattle.cast_box.specs.Ends.{PutterEnd, TakerEnd, AreAllEnds, left_from}
use Rattle.cast_box.proofs.Lists.{own_length}

module _ {A : Type 0} where
  pub get_snoc : (xs : List A) (x p : A) (a : ℕ) → slice_get (xs ++ x ∷ []) a ≡ Some p → (slice_get xs a ≡ Some p) ⊎ ((a ≡ length xs) × (x ≡ p))
  get_snoc [] x p zero e = inr (refl, cc)
  get_snoc [] x p (suc a) e = absurd cc
  get_snoc (y ∷ xs) x p zero e = inl e
  get_snoc (y ∷ xs) x p (suc a) e = ⊎_elim (λ t. inl t) (λ (t : (a ≡ length xs) × (x ≡ p)). inr (ap suc t.0, t.1)) (get_snoc xs x p a e)

  pub get_middle : (xs : List A) (x : A) (ys : List A) → slice_get (xs ++ x ∷ ys) (length xs) ≡ Some x
  get_middle [] x ys = refl
  get_middle (y ∷ xs) x ys = get_middle xs x ys

  pub found : (xs : List A) (a : ℕ) → a < length xs → (x : A) × (slice_get xs a ≡ Some x)
  found [] a h = absurd (omega arith)
  found (x ∷ xs) zero h = (x, refl)
  found (x ∷ xs) (suc a) h = found xs a (omega arith)

  pub map_at : {B : Type 0} (f : A → B) (xs : List A) (i : ℕ) (x : A) → slice_get xs i ≡ Some x → slice_get (map f xs) i ≡ Some (f x)
  map_at f xs i x e = slice_get-map f xs i ∙ ap (option_map f) e

  -- what holds of each element holds with one element more
  pub each_more : (P : ℕ → A → Type 0) (xs : List A) (x : A) → ((i : ℕ) (a : A) → slice_get xs i ≡ Some a → P i a) → P (length xs) x
      → (i : ℕ) (a : A) → slice_get (xs ++ x ∷ []) i ≡ Some a → P i a
  each_more P xs x each last i a at =
      ⊎_elim (λ (t : slice_get xs i ≡ Some a). each i a t)
      (λ (t : (i ≡ length xs) × (x ≡ a)). subst (λ z. P i z) t.1 (subst (λ n. P n x) (sym t.0) last))
      (get_snoc xs x a i at)

  pub no_length : (xs : List A) → length xs ≡ 0 → xs ≡ []
  no_length [] e = refl
  no_length (x ∷ xs) e = absurd (omega arith)

  pub on_some : (o : Option A) (x : A) (P : Type 0) → o ≡ Some x → OnSome o P → P
  on_some (Some y) x P e h = h
  on_some None x P e h = absurd cc

pub both_more : {A B : Type 0} (P : ℕ → A → B → Type 0) (xs : List A) (ys : List B) (x : A) (y : B) → length xs ≡ length ys
    → ((i : ℕ) (a : A) (b : B) → slice_get xs i ≡ Some a → slice_get ys i ≡ Some b → P i a b) → P (length xs) x y
    → (i : ℕ) (a : A) (b : B) → slice_get (xs ++ x ∷ []) i ≡ Some a → slice_get (ys ++ y ∷ []) i ≡ Some b → P i a b
both_more P xs ys x y same each last i a b at bt =
    ⊎_elim
    (λ (t : slice_get xs i ≡ Some a). ⊎_elim (λ (u : slice_get ys i ≡ Some b). each i a b t u)
    (λ (u : (i ≡ length ys) × (y ≡ b)). absurd (let k = slice_get_within xs i a t in let w = u.0 in omega arith)) (get_snoc ys y b i bt))
    (λ (t : (i ≡ length xs) × (x ≡ a)). ⊎_elim (λ (u : slice_get ys i ≡ Some b). absurd (let k = slice_get_within ys i b u in let w = t.0 in omega arith))
    (λ (u : (i ≡ length ys) × (y ≡ b)). subst (λ z. P i a z) u.1 (subst (λ z. P i z y) t.1 (subst (λ n. P n x y) (sym t.0) last)))
    (get_snoc ys y b i bt))
    (get_snoc xs x a i at)

module _ {T : Type 0} where
  -- what the closing pop tells, with none and with an item
  pub fair_left : (r : Option (ℕ × T)) (v w : Known T)
      → MatchOption r ((w ≡ v) × Held 0 (ShowsAll v)) (λ m. Closes v m w) → IsFair w.ended w.taken (left_from r w.left)
  fair_left None v w h a =
      let P : Known T → List (ℕ × T) → Type 0 = λ u l. of a (u.taken ++ l) ≡ put_by u.ended a in
      subst (λ u. P u []) (sym h.0) (subst (P v) (no_length h.1.0 h.1.1) (h.1.2 a))
  fair_left (Some m) v w h a =
      ap (λ l. of a (l ++ m ∷ w.left)) (ap (λ u. u.taken) h.0) ∙ h.1 a ∙ sym (ap (λ u. put_by u.ended a) h.0)

  -- the end that comes after those seen
  pub next_end : (all : List (PutterEnd T)) (t : TakerEnd T) (seen : List (PutterEnd T)) (p : PutterEnd T) (rest : List (PutterEnd T))
      → AreAllEnds all t → all ≡ seen ++ p ∷ rest → (p.home ≡ t.home) × (p.number ≡ length seen)
  next_end all t seen p rest ends e = ends.1 (length seen) p (ap (λ l. slice_get l (length seen)) e ∙ get_middle seen p rest)

  -- where the box holds nothing, all was taken of the putters that have ended
  pub taken_of_ended : (v : Known T) → Held 0 (ShowsEnded v) → HasTakenOfEnded v.ended v.taken
  taken_of_ended v h a lt =
      ap (of a) (sym (append-nil v.taken)) ∙ ap (λ l. of a (v.taken ++ l)) (sym (no_length h.0 h.1)) ∙ h.2 a lt

  -- the only putter of a full box has put as many items as it has places
  pub sole_full : (v : Known T) (n : ℕ) → v.number < v.putters → Held n (ShowsPutter v) → v.putters ≡ 1 → n ≤ length v.put
  sole_full v n below full one =
      let zero_is : v.number ≡ 0 = omega arith in
      let P : ℕ → ℕ → Type 0 = λ all a. HasOwn all a v.put full.0 in
      let own : HasOwn 1 0 v.put full.0 = subst (λ all. P all 0) one (subst (P v.putters) zero_is full.2) in
      let many = own_length full.0 own.0 in
      let whole = ap length own.1.1 ∙ length-append own.1.0 (of 0 full.0) in
      let size_is = full.1 in
      omega arith
