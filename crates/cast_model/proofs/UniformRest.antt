-- In uniform mode, at rest with no more crashes than the tolerated faults, each live node has delivered what any node delivered.
use Rattle.std.proofs.Common.{◌≡◌, ℕ, zero, suc, ◌+◌, ◌*◌, ◌<◌, ◌≤◌, refl, sym, ◌∙◌, ap, subst, Bool, true, false, not, ◌&&◌, cond, List, [], ◌∷◌, length, take, drop, ◌++◌, inl, inr, arith}
use Rattle.std.specs.Prelude.{IsTrue, nat_lt}
use Rattle.std.specs.List.{filter, list_any, count_by, range_with_len}
use Rattle.std.proofs.lemmas.List.{append-nil, take-take, take-append-drop}
use Rattle.std.proofs.lemmas.List.Sums.{length-filter}
use Rattle.std.proofs.lemmas.Bool.{and_parts, and_from, ltb-true, lt-ltb, cases_eq, false≢true}
use Rattle.std.proofs.lemmas.List.FromFn.{length-range_with_len}
use Rattle.cast_message.specs.declared.config.Config.{Config}
use Rattle.cast_message.specs.declared.config.Mode.TheVariants.{Uniform}
use Rattle.cast_message.specs.declared.message.Message.{Message}
use Rattle.cast_message.specs.Limits.{fault_factor}
use Rattle.cast_model.specs.History.{History, is_live, has_pair, first, broadcast}
use Rattle.cast_model.specs.Delivery.{nodes_of, knows, known_by, is_known_enough, is_ready, next, delivered}
use Rattle.cast_model.specs.Headline.{IsPrefixOf}
use Rattle.cast_model.specs.Replies.{IsAccepted}
use Rattle.cast_model.specs.Rounds.{Rest, HaveFewCrashed}
use Rattle.cast_model.proofs.Members.{Member, some-Member, there, here, Member-uncons, Member-list_any, list_any-Member, filter-Member}
use Rattle.cast_model.proofs.Fronts.{prefix_len-mono}
use Rattle.cast_model.proofs.AtRest.{same_pairs, Member-range_with_len}
use Rattle.cast_model.proofs.Uniform.{knows_held, knows_all, self_known}

length-filter_mono : (p q : ℕ → Bool) (xs : List ℕ) → ((x : ℕ) → Member x xs → p x ≡ true → q x ≡ true) → length (filter p xs) ≤ length (filter q xs)
length-filter_mono p q [] weaker = omega arith
length-filter_mono p q (x ∷ xs) weaker = by_tests (p x) (q x) (weaker x here) (length-filter_mono p q xs (λ y m. weaker y (there m)))
  where
    by_tests : (a b : Bool) → (a ≡ true → b ≡ true) → length (filter p xs) ≤ length (filter q xs) → length (cond a (x ∷ filter p xs) (filter p xs)) ≤ length (cond b (x ∷ filter q xs) (filter q xs))
    by_tests true true f ih = omega arith
    by_tests true false f ih = absurd (false≢true (f refl))
    by_tests false true f ih = omega arith
    by_tests false false f ih = omega arith

length-filter_split : (q : ℕ → Bool) (xs : List ℕ) → length (filter q xs) + length (filter (λ x. not (q x)) xs) ≡ length xs
length-filter_split q [] = omega arith
length-filter_split q (x ∷ xs) = by_test (q x) (length-filter_split q xs)
  where
    by_test : (b : Bool) → length (filter q xs) + length (filter (λ y. not (q y)) xs) ≡ length xs → length (cond b (x ∷ filter q xs) (filter q xs)) + length (cond (not b) (x ∷ filter (λ y. not (q y)) xs) (filter (λ y. not (q y)) xs)) ≡ suc (length xs)
    by_test true ih = omega arith
    by_test false ih = omega arith

none_both : (p q : ℕ → Bool) (xs : List ℕ) → list_any (λ x. p x && q x) xs ≡ false → (x : ℕ) → Member x xs → p x ≡ true → not (q x) ≡ true
none_both p q xs none x m e = by_test (q x) refl
  where
    by_test : (b : Bool) → q x ≡ b → not b ≡ true
    by_test false f = refl
    by_test true f = absurd (false≢true (sym none ∙ list_any-Member (λ y. p y && q y) x xs m (and_from _ _ e f)))

range-below : (n a x : ℕ) → Member x (range_with_len a n) → x < a + n
range-below zero a x m = elim m [ ]
range-below (suc n) a x m = elim (Member-uncons x a (range_with_len (a + 1) n) m) [ inl same ↦ omega arith | inr later ↦ (let h = range-below n (a + 1) x later in omega (arith, h)) ]

-- where no fault is tolerated, one node that knows is enough
enough_know : (faults crashed live known nodes : ℕ) → (0 < faults → crashed ≤ faults) → 2 * faults < nodes → live + crashed ≡ nodes → 0 < live → live ≤ known → faults < known
enough_know zero crashed live known nodes few majority split one all = omega (arith, one, all)
enough_know (suc n) crashed live known nodes few majority split one all = let h = few (omega arith) in omega (arith, h, majority, split, all)

known_enough : (config : Config) (past : History) → config.mode ≡ Uniform → (x s i : ℕ) → is_known_enough config.mode config past x s i ≡ nat_lt config.faults (known_by config past x s i)
unfolding is_known_enough
known_enough config past uniform x s i = ap (λ mode. is_known_enough mode config past x s i) uniform

module _ (config : Config) (past : History) (accepted : IsAccepted config past) (rest : Rest config past) (uniform : config.mode ≡ Uniform) (few : 0 < config.faults → HaveFewCrashed config past) (p : ℕ) (p_in : p < config.nodes) (p_live : IsTrue (is_live past p)) where
  majority : 2 * config.faults < config.nodes
  majority = subst (λ mode. fault_factor mode * config.faults < config.nodes) uniform config.mode_in_range

  -- what a live node holds, it may deliver
  pub held_ready : (s i : ℕ) → has_pair (first past p) s i ≡ true → is_ready config past p s i ≡ true
  unfolding is_ready known_by
  held_ready s i held =
      let all = length-filter_mono (is_live past) (knows past p s i) (nodes_of config) (λ r m live. elim (cases_eq p r) [
        | inl same ↦ subst (λ x. knows past p s i x ≡ true) same (self_known past p s i)
        | inr apart ↦ knows_all config past accepted p r s i (rest.settled p r p_in (let h = range-below config.nodes 0 r m in omega (arith, h)) p_live live apart) held
      ]) in
      let split = length-filter_split (is_live past) (nodes_of config) ∙ length-range_with_len 0 config.nodes in
      let one = some-Member p (filter (is_live past) (nodes_of config)) (filter-Member (is_live past) p (nodes_of config) (Member-range_with_len config.nodes 0 p (omega arith) (omega (arith, p_in))) p_live) in
      let enough : config.faults < count_by (knows past p s i) (nodes_of config) =
      enough_know config.faults _ _ _ config.nodes few majority split one (subst (λ n. length (filter (is_live past) (nodes_of config)) ≤ n) (length-filter (knows past p s i) (nodes_of config)) all) in
      and_from _ _ held (known_enough config past uniform p s i ∙ rw held (lt-ltb _ _ enough))

  -- what may be delivered at one live node may be delivered at another
  pub ready_as_well : (q s i : ℕ) → q < config.nodes → IsTrue (is_live past q) → is_ready config past q s i ≡ true → is_ready config past p s i ≡ true
  unfolding is_ready
  ready_as_well q s i q_in q_live e =
      held_ready s i (sym (same_pairs config past accepted rest q p q_in p_in q_live p_live s i) ∙ (and_parts (has_pair (first past q) s i) (is_known_enough config.mode config past q s i) e).0)

module _ (config : Config) (past : History) (accepted : IsAccepted config past) (rest : Rest config past) (uniform : config.mode ≡ Uniform) (few : HaveFewCrashed config past) (p : ℕ) (p_in : p < config.nodes) (p_live : IsTrue (is_live past p)) where
  -- what may be delivered at any node may be delivered at a live one
  pub ready_everywhere : (q s i : ℕ) → is_ready config past q s i ≡ true → is_ready config past p s i ≡ true
  unfolding is_ready known_by
  ready_everywhere q s i e =
      let parts = and_parts (has_pair (first past q) s i) (is_known_enough config.mode config past q s i) e in
      let many : config.faults < count_by (knows past q s i) (nodes_of config) = ltb-true _ _ (rw parts.0 at (sym (known_enough config past uniform q s i) ∙ parts.1)) in
      by_search (list_any (λ r. knows past q s i r && is_live past r) (nodes_of config)) refl parts.0 many
    where
      by_search : (b : Bool) → list_any (λ r. knows past q s i r && is_live past r) (nodes_of config) ≡ b → has_pair (first past q) s i ≡ true → config.faults < count_by (knows past q s i) (nodes_of config) → is_ready config past p s i ≡ true
      by_search true found held many =
          let f = Member-list_any _ (nodes_of config) found in
          let r = f.0 in
          let t = and_parts (knows past q s i r) (is_live past r) f.2 in
          let at_r = knows_held config past accepted q s i r held t.0 in
          held_ready config past accepted rest uniform (λ _. few) p p_in p_live s i (sym (same_pairs config past accepted rest r p (let h = range-below config.nodes 0 r f.1 in omega (arith, h)) p_in t.1 p_live s i) ∙ at_r)
      by_search false none held many =
          let fewer = length-filter_mono (knows past q s i) (λ r. not (is_live past r)) (nodes_of config) (none_both (knows past q s i) (is_live past) (nodes_of config) none) in
          let count = length-filter (knows past q s i) (nodes_of config) in
          absurd (omega (arith, fewer, count, few, many))

  -- so what any node delivered from s stands in front of what a live node delivered from s
  pub next_everywhere : (q s : ℕ) → next config past q s ≤ next config past p s
  unfolding next
  next_everywhere q s =
      let h = prefix_len-mono (λ (m : Message). is_ready config past q s m.number) (λ (m : Message). is_ready config past p s m.number) (λ m e. ready_everywhere q s m.number e) (broadcast past s) [] in
      rw append-nil at h

  pub delivered_everywhere : (q s : ℕ) → delivered config past q s ≡ take (next config past q s) (delivered config past p s)
  unfolding delivered next
  delivered_everywhere q s = sym (take-take _ _ (broadcast past s) (next_everywhere q s))

  pub all_have_it : (q s : ℕ) → IsPrefixOf (delivered config past q s) (delivered config past p s)
  all_have_it q s =
      let rest = drop (next config past q s) (delivered config past p s) in
      (rest, ap (λ xs. xs ++ rest) (delivered_everywhere q s) ∙ take-append-drop (next config past q s) (delivered config past p s))
