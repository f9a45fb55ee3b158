-- The longest front of a list that passes a test, as the test and the list grow; and the messages of a stream.
use Rattle.std.proofs.Common.{◌≡◌, ℕ, zero, suc, ◌+◌, ◌-◌, ◌≤◌, refl, sym, ◌∙◌, ap, Bool, true, false, cond, List, [], ◌∷◌, ◌++◌, length, map, take, drop, arith}
use Rattle.std.specs.Prelude.{slice_range}
use Rattle.std.specs.List.{filter, prefix_len, take_while}
use Rattle.std.proofs.lemmas.List.{take-append-le}
use Rattle.std.proofs.lemmas.List.Sums.{prefix_len-le-length}
use Rattle.std.proofs.lemmas.Bool.{cond-true, cond-false}
use Rattle.cast_message.specs.declared.message.Item.{Item}
use Rattle.cast_message.specs.declared.message.Message.{Message}
use Rattle.cast_model.specs.History.{numbered}
use Rattle.cast_model.specs.Shown.{item_of}
use Rattle.cast_model.proofs.Members.{Member, here, there}

module _ {A : Type 0} where
  -- a weaker test, on a longer list, passes a longer front
  pub prefix_len-mono : (p q : A → Bool) → ((x : A) → p x ≡ true → q x ≡ true) → (xs ys : List A) → prefix_len p xs ≤ prefix_len q (xs ++ ys)
  prefix_len-mono p q weaker [] ys = omega arith
  prefix_len-mono p q weaker (x ∷ xs) ys = by_test (p x) refl (prefix_len-mono p q weaker xs ys)
    where
      by_test : (b : Bool) → p x ≡ b → prefix_len p xs ≤ prefix_len q (xs ++ ys) → cond b (1 + prefix_len p xs) 0 ≤ cond (q x) (1 + prefix_len q (xs ++ ys)) 0
      by_test false e ih = omega arith
      by_test true e ih = rw (weaker x e) (omega arith)

  -- the same test, on a list whose new elements fail it, passes the same front
  pub prefix_len-same : (p q : A → Bool) → ((x : A) → q x ≡ p x) → (xs ys : List A) → ((y : A) → Member y ys → q y ≡ false) → prefix_len q (xs ++ ys) ≡ prefix_len p xs
  prefix_len-same p q same [] [] fails = refl
  prefix_len-same p q same [] (y ∷ ys) fails = cond-false (q y) _ _ (fails y here)
  prefix_len-same p q same (x ∷ xs) ys fails =
      ap (λ b. cond b (1 + prefix_len q (xs ++ ys)) 0) (same x) ∙ ap (λ n. cond (p x) (1 + n) 0) (prefix_len-same p q same xs ys fails)

  pub take_while-same : (p q : A → Bool) → ((x : A) → q x ≡ p x) → (xs ys : List A) → ((y : A) → Member y ys → q y ≡ false) → take_while q (xs ++ ys) ≡ take_while p xs
  take_while-same p q same xs ys fails =
      ap (λ n. take n (xs ++ ys)) (prefix_len-same p q same xs ys fails) ∙ take-append-le (prefix_len p xs) xs ys (prefix_len-le-length p xs)

  take-nil : (n : ℕ) → take {A = A} n [] ≡ []
  take-nil zero = refl
  take-nil (suc n) = refl

  -- one part after another
  pub take-then : (m n : ℕ) (xs : List A) → take (m + n) xs ≡ take m xs ++ take n (drop m xs)
  take-then zero n xs = ap (λ k. take k xs) (let e : 0 + n ≡ n = omega arith in e)
  take-then (suc m) n [] = take-nil (suc m + n) ∙ sym (take-nil n)
  take-then (suc m) n (x ∷ xs) = ap (λ k. take k (x ∷ xs)) (let e : suc m + n ≡ suc (m + n) = omega arith in e) ∙ ap (λ r. x ∷ r) (take-then m n xs)

  -- the longer front is the shorter one and the part up to it
  pub take_while-more : (p q : A → Bool) → ((x : A) → p x ≡ true → q x ≡ true) → (xs ys : List A) →
      take_while q (xs ++ ys) ≡ take_while p xs ++ slice_range (xs ++ ys) (prefix_len p xs) (prefix_len q (xs ++ ys))
  take_while-more p q weaker xs ys =
      let m = prefix_len p xs in
      let n = prefix_len q (xs ++ ys) in
      let low : m ≤ n = prefix_len-mono p q weaker xs ys in
      let total : n ≡ m + (n - m) = omega arith in
      ap (λ k. take k (xs ++ ys)) total
      ∙ take-then m (n - m) (xs ++ ys)
      ∙ ap (λ front. front ++ take (n - m) (drop m (xs ++ ys))) (take-append-le m xs ys (prefix_len-le-length p xs))

  pub filter_all : (p : A → Bool) (xs : List A) → ((x : A) → Member x xs → p x ≡ true) → filter p xs ≡ xs
  filter_all p [] all = refl
  filter_all p (x ∷ xs) all = cond-true (p x) _ _ (all x here) ∙ ap (λ r. x ∷ r) (filter_all p xs (λ y m. all y (there m)))

  pub filter_none : (p : A → Bool) (xs : List A) → ((x : A) → Member x xs → p x ≡ false) → filter p xs ≡ []
  filter_none p [] none = refl
  filter_none p (x ∷ xs) none = cond-false (p x) _ _ (none x here) ∙ filter_none p xs (λ y m. none y (there m))

  pub Member-take : (n : ℕ) (xs : List A) (x : A) → Member x (take n xs) → Member x xs
  Member-take zero xs x m = elim m [ ]
  Member-take (suc n) [] x m = elim m [ ]
  Member-take (suc n) (y ∷ xs) x here = here
  Member-take (suc n) (y ∷ xs) x (there m) = there (Member-take n xs x m)

  pub Member-drop : (n : ℕ) (xs : List A) (x : A) → Member x (drop n xs) → Member x xs
  Member-drop zero xs x m = m
  Member-drop (suc n) [] x m = m
  Member-drop (suc n) (y ∷ xs) x m = there (Member-drop n xs x m)

  pub Member-range : (a b : ℕ) (xs : List A) (x : A) → Member x (slice_range xs a b) → Member x xs
  Member-range a b xs x m = Member-drop a xs x (Member-take (b - a) (drop a xs) x m)

-- messages numbered on
pub numbered-append : (s i : ℕ) (xs ys : List Item) → numbered s i (xs ++ ys) ≡ numbered s i xs ++ numbered s (i + length xs) ys
unfolding numbered
numbered-append s i [] ys = ap (λ k. numbered s k ys) (let e : i ≡ i + 0 = omega arith in e)
numbered-append s i (x ∷ xs) ys =
    let here_on : suc i + length xs ≡ i + suc (length xs) = omega arith in
    ap (λ r. record { sender = s; number = i; item = x } ∷ r) (numbered-append s (suc i) xs ys ∙ ap (λ k. numbered s (suc i) xs ++ numbered s k ys) here_on)

pub numbered_sender : (s i : ℕ) (items : List Item) (message : Message) → Member message (numbered s i items) → message.sender ≡ s
unfolding numbered
numbered_sender s i [] message m = elim m [ ]
numbered_sender s i (item ∷ items) message here = refl
numbered_sender s i (item ∷ items) message (there m) = numbered_sender s (suc i) items message m

pub numbered_from : (s i : ℕ) (items : List Item) (message : Message) → Member message (numbered s i items) → i ≤ message.number
unfolding numbered
numbered_from s i [] message m = elim m [ ]
numbered_from s i (item ∷ items) message here = omega arith
numbered_from s i (item ∷ items) message (there m) = let later = numbered_from s (suc i) items message m in omega (arith, later)

pub length-numbered : (s i : ℕ) (items : List Item) → length (numbered s i items) ≡ length items
unfolding numbered
length-numbered s i [] = refl
length-numbered s i (item ∷ items) = ap suc (length-numbered s (suc i) items)

pub items_numbered : (s i : ℕ) (items : List Item) → map item_of (numbered s i items) ≡ items
unfolding numbered
items_numbered s i [] = refl
items_numbered s i (item ∷ items) = ap (λ rest. item ∷ rest) (items_numbered s (suc i) items)
