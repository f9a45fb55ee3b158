-- What the values of an instance say after a proposal or a decision.
use Rattle.std.proofs.Common.{◌≡◌, ℕ, ◌+◌, ◌<◌, ◌≤◌, ◌||◌, not, Bool, true, false, cond, nat_eq, nat_lt, List, [], ◌∷◌, ◌++◌, length, position, Option, Some, None, option_map, suc, refl, sym, ap, ◌∙◌, arith}
use Rattle.std.specs.List.{list_any, filter, position_or_len}
use Rattle.std.proofs.lemmas.List.Sums.{length-filter, count_by-le-length}
use Rattle.std.proofs.lemmas.Bool.Decides.{nat_tests}
use Rattle.cast_judge.specs.declared.candidates.Candidate.{Candidate}
use Rattle.cast_judge.specs.Candidates.{is_for, proposed_as, decided_as, decided_at, is_decided, count_decided, with_candidate, decision_at, with_decision}
use Rattle.cast_judge.specs.Kept.{count_with}
use Rattle.cast_judge.proofs.TestLemmas.{same_number}

-- ---- the first that passes, one by one

next_below : (m n : ℕ) → nat_lt (1 + m) (suc n) ≡ nat_lt m n
next_below m n = grind (arith, nat_tests)

none_below : (n : ℕ) → nat_lt 0 (suc n) ≡ true
none_below n = grind (arith, nat_tests)

one_more : (m : ℕ) → 1 + m ≡ suc m
one_more m = omega arith

first_of : (p : Candidate → Bool) (c : Candidate) (cs : List Candidate) → position p (c ∷ cs) ≡ cond (p c) (Some 0) (option_map suc (position p cs))
first_of p c cs = go (p c) (nat_lt (position_or_len p cs) (length cs)) refl
  where
    go : (a b : Bool) → nat_lt (position_or_len p cs) (length cs) ≡ b
        → cond (nat_lt (cond (not a) (1 + position_or_len p cs) 0) (length (c ∷ cs))) (Some (cond (not a) (1 + position_or_len p cs) 0)) None
        ≡ cond a (Some 0) (option_map suc (cond b (Some (position_or_len p cs)) None))
    go true b e = ap (λ b. cond b (Some 0) None) (none_below (length cs))
    go false true e = ap (λ b. cond b (Some (1 + position_or_len p cs)) None) (next_below (position_or_len p cs) (length cs) ∙ e) ∙ ap Some (one_more (position_or_len p cs))
    go false false e = ap (λ b. cond b (Some (1 + position_or_len p cs)) None) (next_below (position_or_len p cs) (length cs) ∙ e)

decided_next : (c : Candidate) (cs : List Candidate) (o : Option ℕ) → decided_at (c ∷ cs) (option_map suc o) ≡ decided_at cs o
decided_next c cs None = refl
decided_next c cs (Some place) = refl

decision_next : (c : Candidate) (cs : List Candidate) (value : ℕ) (o : Option ℕ) → decision_at (c ∷ cs) value (option_map suc o) ≡ c ∷ decision_at cs value o
decision_next c cs value None = refl
decision_next c cs value (Some place) = refl

decided_of : (c : Candidate) (cs : List Candidate) (w : ℕ) → is_decided (c ∷ cs) w ≡ cond (is_for w c) c.decided (is_decided cs w)
decided_of c cs w = ap (decided_at (c ∷ cs)) (first_of (is_for w) c cs) ∙ go (is_for w c)
  where
    go : (b : Bool) → decided_at (c ∷ cs) (cond b (Some 0) (option_map suc (position (is_for w) cs))) ≡ cond b c.decided (is_decided cs w)
    go true = refl
    go false = decided_next c cs (position (is_for w) cs)

decision_of : (c : Candidate) (cs : List Candidate) (v : ℕ) → with_decision (c ∷ cs) v ≡ cond (is_for v c) (decided_as v ∷ cs) (c ∷ with_decision cs v)
decision_of c cs v = ap (decision_at (c ∷ cs) v) (first_of (is_for v) c cs) ∙ go (is_for v c)
  where
    go : (b : Bool) → decision_at (c ∷ cs) v (cond b (Some 0) (option_map suc (position (is_for v) cs))) ≡ cond b (decided_as v ∷ cs) (c ∷ with_decision cs v)
    go true = refl
    go false = decision_next c cs v (position (is_for v) cs)

-- ---- a proposal

pub list_any-push : {A : Type 0} (f : A → Bool) (xs : List A) (x : A) → list_any f (xs ++ x ∷ []) ≡ (f x || list_any f xs)
list_any-push f [] x = refl
list_any-push f (y ∷ ys) x = ap (λ b. f y || b) (list_any-push f ys x) ∙ swap (f y) (f x) (list_any f ys)
  where
    swap : (a b c : Bool) → (a || (b || c)) ≡ (b || (a || c))
    swap true true c = refl
    swap true false c = refl
    swap false b c = refl

has_pushed : (v w : ℕ) (cs : List Candidate) → list_any (is_for w) (cs ++ proposed_as v ∷ []) ≡ (nat_eq v w || list_any (is_for w) cs)
has_pushed v w cs = list_any-push (is_for w) cs (proposed_as v)

pub proposed_has : (cs : List Candidate) (v w : ℕ) → list_any (is_for w) (with_candidate cs v) ≡ (nat_eq v w || list_any (is_for w) cs)
proposed_has cs v w = go (list_any (is_for v) cs) refl
  where
    known : (b : Bool) → nat_eq v w ≡ b → list_any (is_for v) cs ≡ true → list_any (is_for w) cs ≡ (b || list_any (is_for w) cs)
    known true e found = ap (λ v. list_any (is_for v) cs) (sym (same_number v w e)) ∙ found
    known false e found = refl

    go : (b : Bool) → list_any (is_for v) cs ≡ b → list_any (is_for w) (cond b cs (cs ++ proposed_as v ∷ [])) ≡ (nat_eq v w || list_any (is_for w) cs)
    go true e = known (nat_eq v w) refl e
    go false e = has_pushed v w cs

-- one that is not decided decides nothing
decided_pushed : (v w : ℕ) (cs : List Candidate) → is_decided (cs ++ proposed_as v ∷ []) w ≡ is_decided cs w
decided_pushed v w [] = decided_of (proposed_as v) [] w ∙ go (nat_eq v w)
  where
    go : (b : Bool) → cond b false false ≡ false
    go true = refl
    go false = refl
decided_pushed v w (c ∷ cs) = decided_of c (cs ++ proposed_as v ∷ []) w ∙ ap (cond (is_for w c) c.decided) (decided_pushed v w cs) ∙ sym (decided_of c cs w)

pub proposed_decided : (cs : List Candidate) (v w : ℕ) → is_decided (with_candidate cs v) w ≡ is_decided cs w
proposed_decided cs v w = go (list_any (is_for v) cs)
  where
    go : (b : Bool) → is_decided (cond b cs (cs ++ proposed_as v ∷ [])) w ≡ is_decided cs w
    go true = refl
    go false = decided_pushed v w cs

count_next : (a : Bool) (c : Candidate) (cs ds : List Candidate) → length cs ≡ length ds → length (cond a (c ∷ cs) cs) ≡ length (cond a (c ∷ ds) ds)
count_next true c cs ds e = omega (arith, e)
count_next false c cs ds e = e

count_pushed : (v : ℕ) (cs : List Candidate) → count_decided (cs ++ proposed_as v ∷ []) ≡ count_decided cs
count_pushed v [] = refl
count_pushed v (c ∷ cs) = count_next c.decided c (filter (λ c. c.decided) (cs ++ proposed_as v ∷ [])) (filter (λ c. c.decided) cs) (count_pushed v cs)

pub proposed_count : (cs : List Candidate) (v : ℕ) → count_decided (with_candidate cs v) ≡ count_decided cs
proposed_count cs v = go (list_any (is_for v) cs)
  where
    go : (b : Bool) → count_decided (cond b cs (cs ++ proposed_as v ∷ [])) ≡ count_decided cs
    go true = refl
    go false = count_pushed v cs

-- ---- a decision

pub decision_has : (cs : List Candidate) (v w : ℕ) → list_any (is_for w) (with_decision cs v) ≡ list_any (is_for w) cs
decision_has [] v w = refl
decision_has (c ∷ cs) v w = ap (list_any (is_for w)) (decision_of c cs v) ∙ go (decision_has cs v w) (is_for v c) refl
  where
    go : list_any (is_for w) (with_decision cs v) ≡ list_any (is_for w) cs → (b : Bool) → is_for v c ≡ b → list_any (is_for w) (cond b (decided_as v ∷ cs) (c ∷ with_decision cs v)) ≡ (is_for w c || list_any (is_for w) cs)
    go h true e = ap (λ n. nat_eq n w || list_any (is_for w) cs) (sym (same_number c.value v e))
    go h false e = ap (λ b. is_for w c || b) h

pub decision_decided : (cs : List Candidate) (v w : ℕ) → list_any (is_for v) cs ≡ true → is_decided (with_decision cs v) w ≡ (nat_eq v w || is_decided cs w)
decision_decided [] v w e = absurd (cc)
decision_decided (c ∷ cs) v w e = ap (λ ds. is_decided ds w) (decision_of c cs v) ∙ go (decision_decided cs v w) (is_for v c) refl e
  where
    here : (b : Bool) (x y : Bool) → cond b true y ≡ (b || cond b x y)
    here true x y = refl
    here false x y = refl

    there : (a : Bool) → is_for w c ≡ a → is_for v c ≡ false → cond a c.decided (nat_eq v w || is_decided cs w) ≡ (nat_eq v w || cond a c.decided (is_decided cs w))
    there true f g = ap (λ b. b || c.decided) (sym apart)
      where
        apart : nat_eq v w ≡ false
        apart = grind (arith, nat_tests)
    there false f g = refl

    go : (list_any (is_for v) cs ≡ true → is_decided (with_decision cs v) w ≡ (nat_eq v w || is_decided cs w))
        → (b : Bool) → is_for v c ≡ b → (b || list_any (is_for v) cs) ≡ true
        → is_decided (cond b (decided_as v ∷ cs) (c ∷ with_decision cs v)) w ≡ (nat_eq v w || is_decided (c ∷ cs) w)
    go h true f g =
        decided_of (decided_as v) cs w ∙ here (nat_eq v w) c.decided (is_decided cs w)
        ∙ ap (λ b. nat_eq v w || cond b c.decided (is_decided cs w)) (sym (ap (λ n. nat_eq n w) (same_number c.value v f)))
        ∙ ap (λ b. nat_eq v w || b) (sym (decided_of c cs w))
    go h false f g =
        decided_of c (with_decision cs v) w ∙ ap (cond (is_for w c) c.decided) (h g)
        ∙ there (is_for w c) refl f ∙ ap (λ b. nat_eq v w || b) (sym (decided_of c cs w))

pub decision_count : (cs : List Candidate) (v : ℕ) → list_any (is_for v) cs ≡ true → count_decided (with_decision cs v) ≡ cond (is_decided cs v) (count_decided cs) (count_decided cs + 1)
decision_count [] v e = absurd (cc)
decision_count (c ∷ cs) v e = ap count_decided (decision_of c cs v) ∙ go (decision_count cs v) (is_for v c) refl e ∙ sym (ap (λ b. cond b (count_decided (c ∷ cs)) (count_decided (c ∷ cs) + 1)) (decided_of c cs v))
  where
    here : (a : Bool) → length (filter (λ c. c.decided) cs) + 1 ≡ cond a (length (cond a (c ∷ filter (λ c. c.decided) cs) (filter (λ c. c.decided) cs))) (length (cond a (c ∷ filter (λ c. c.decided) cs) (filter (λ c. c.decided) cs)) + 1)
    here true = omega arith
    here false = refl

    there : (a b : Bool) (xs ys : List Candidate) → length xs ≡ cond b (length ys) (length ys + 1)
        → length (cond a (c ∷ xs) xs) ≡ cond b (length (cond a (c ∷ ys) ys)) (length (cond a (c ∷ ys) ys) + 1)
    there true true xs ys e = omega (arith, e)
    there true false xs ys e = omega (arith, e)
    there false b xs ys e = e

    first : length (decided_as v ∷ filter (λ c. c.decided) cs) ≡ length (filter (λ c. c.decided) cs) + 1
    first = omega arith

    go : (list_any (is_for v) cs ≡ true → count_decided (with_decision cs v) ≡ cond (is_decided cs v) (count_decided cs) (count_decided cs + 1))
        → (b : Bool) → is_for v c ≡ b → (b || list_any (is_for v) cs) ≡ true
        → count_decided (cond b (decided_as v ∷ cs) (c ∷ with_decision cs v)) ≡ cond (cond b c.decided (is_decided cs v)) (count_decided (c ∷ cs)) (count_decided (c ∷ cs) + 1)
    go h true f g = first ∙ here c.decided
    go h false f g = there c.decided (is_decided cs v) (filter (λ c. c.decided) (with_decision cs v)) (filter (λ c. c.decided) cs) (h g)

-- where there are fewer values than choices no decision is one too many
count_few : (b : Bool) (choices n count : ℕ) → n < choices → count ≤ n → nat_lt choices (cond b count (count + 1)) ≡ false
count_few true choices n count h l = grind (arith, nat_tests)
count_few false choices n count h l = grind (arith, nat_tests)

pub few_decided : (cs : List Candidate) (choices v : ℕ) → length cs < choices → nat_lt choices (count_with cs v) ≡ false
few_decided cs choices v h =
    let count = length-filter (λ c. c.decided) cs in
    let few = count_by-le-length (λ c. c.decided) cs in
    count_few (is_decided cs v) choices (length cs) (count_decided cs) h (omega (arith, count, few))
