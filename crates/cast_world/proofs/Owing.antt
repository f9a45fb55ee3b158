-- The slots owed, found one after another.
use Rattle.std.proofs.Common.{◌≡◌, ◌≢◌, ℕ, zero, suc, ◌+◌, ◌-◌, ◌<◌, ◌≤◌, refl, sym, ◌∙◌, ap, subst, Bool, true, false, cond, List, [], ◌∷◌, ◌++◌, length, map, Some, None, inl, inr, arith}
use Rattle.std.specs.Prelude.{◌==◌, ◌^◌, nat_lt, is_some, not, ◌&&◌, if◌then◌else◌}
use Rattle.std.specs.List.{filter, flat_map, range_with_len}
use Rattle.std.specs.FinMap as finite
use Rattle.std.proofs.lemmas.Bool.{cases_lt, cases_eq, eq-eqb, lt-ltb, le-ltb, false≢true}
use Rattle.std.proofs.Math.Nat.{mul-le-mul_left, mul-le-mul_right}
use Rattle.std.proofs.lemmas.List.{append-nil, append_assoc, map-append}
use Rattle.cast_message.proofs.Lists.{length-filter_le}
use Rattle.cast_message.specs.declared.config.Config.{Config}
use Rattle.cast_message.specs.declared.message.Message.{Message}
use Rattle.cast_model.specs.History.{History, is_live, first, given, given_of}
use Rattle.cast_model.specs.Delivery.{nodes_of}
use Rattle.cast_model.specs.Replies.{IsAccepted}
use Rattle.cast_model.specs.Rounds.{Due, owed, due_between, live_nodes, due}
use Rattle.cast_model.specs.Steps.{steps_of, copy_of}
use Rattle.cast_model.specs.OwnSteps.{own_given, own_acked, own_owed, message_in}
use Rattle.cast_model.proofs.Members.{Member, here, there, Member-filter}
use Rattle.cast_model.proofs.Dues.{range_bounds}
use Rattle.cast_model.proofs.OwnHeld.{own_live-steps_of, own_given-steps_of}
use Rattle.cast_model.proofs.OwnTurns.{length-map}
use Rattle.cast_model.proofs.OwnReplies.{own_owed-steps_of}
use Rattle.cast_model.proofs.Possible.{held_bounded}
use Rattle.cast_node.specs.Kept.{link_to}
use Rattle.cast_node.proofs.Links.{range-more}
use Rattle.cast_node.specs.Stands.{StandsOut}
use Rattle.cast_link.specs.Links.{Link, IsOwedUntil}
use Rattle.cast_world.proofs.Planning.{filter_more}
use Rattle.cast_world.specs.Group.{State, node_at, Stands}
use Rattle.cast_world.specs.Plans.{due_of, owed_below, owed_slots, live_at, due_between_at, due_at, IsBounded}

filter_gap : (p : ℕ → Bool) (n k : ℕ) → ((i : ℕ) → n ≤ i → i < n + k → p i ≡ false) → filter p (range_with_len 0 (n + k)) ≡ filter p (range_with_len 0 n)
filter_gap p n zero none = ap (λ m. filter p (range_with_len 0 m)) (let z : n + 0 ≡ n = omega arith in z)
filter_gap p n (suc k) none =
    ap (λ m. filter p (range_with_len 0 m)) (let z : n + suc k ≡ (n + k) + 1 = omega arith in z)
    ∙ filter_more p (n + k) false (none (n + k) (omega arith) (omega arith))
    ∙ append-nil (filter p (range_with_len 0 (n + k)))
    ∙ filter_gap p n k (λ i l m. none i l (omega (arith, m)))

filter_same : (p : ℕ → Bool) (n m : ℕ) → n ≤ m → ((i : ℕ) → n ≤ i → i < m → p i ≡ false) → filter p (range_with_len 0 m) ≡ filter p (range_with_len 0 n)
filter_same p n m l none =
    ap (λ k. filter p (range_with_len 0 k)) (let z : m ≡ n + (m - n) = omega (arith, l) in z)
    ∙ filter_gap p n (m - n) (λ i a b. none i a (omega (arith, b, l)))

-- all of these hold
filter_run : (p : ℕ → Bool) (first n : ℕ) → ((k : ℕ) → first ≤ k → k < first + n → p k ≡ true) → filter p (range_with_len 0 (first + n)) ≡ filter p (range_with_len 0 first) ++ range_with_len first n
filter_run p first zero all = ap (λ m. filter p (range_with_len 0 m)) (let e : first + 0 ≡ first = omega arith in e) ∙ sym (append-nil (filter p (range_with_len 0 first)))
filter_run p first (suc n) all =
    ap (λ m. filter p (range_with_len 0 m)) (let e : first + suc n ≡ (first + n) + 1 = omega arith in e)
    ∙ filter_more p (first + n) true (all (first + n) (omega arith) (omega arith))
    ∙ ap (λ xs. xs ++ (first + n) ∷ []) (filter_run p first n (λ k a b. all k a (omega (arith, b))))
    ∙ append_assoc (filter p (range_with_len 0 first)) (range_with_len first n) ((first + n) ∷ [])
    ∙ ap (λ xs. filter p (range_with_len 0 first) ++ xs) (sym (range-more n first) ∙ ap (range_with_len first) (let e : n + 1 ≡ suc n = omega arith in e))

module _ (link : Link Message) (f : ℕ → Due) where
  -- the next slots owed, in succession
  pub owed_next : (before after old : List Due) (from first end : ℕ) → from ≤ first → ((other : ℕ) → from ≤ other → other < first → finite.get link.owed other ≡ None) → IsOwedUntil link.owed first end →
      before ≡ old ++ map f (owed_below from link) → after ≡ before ++ map f (range_with_len first (end - first)) → after ≡ old ++ map f (owed_below end link)
  owed_next before after old from first end l none until so_far one =
      one
      ∙ ap (λ ds. ds ++ map f (range_with_len first (end - first))) so_far
      ∙ append_assoc old (map f (owed_below from link)) (map f (range_with_len first (end - first)))
      ∙ ap (λ ds. old ++ ds) (sym (map-append f (owed_below from link) (range_with_len first (end - first))))
      ∙ ap (λ slots. old ++ map f slots) (sym (
      ap (λ n. owed_below n link) (let order = until.order in let e : end ≡ first + (end - first) = omega (arith, order) in e)
      ∙ filter_run (finite.contains_key link.owed) first (end - first) (λ k a b. until.each k a (let order = until.order in omega (arith, b, order)))
      ∙ ap (λ xs. xs ++ range_with_len first (end - first)) (filter_same (finite.contains_key link.owed) from first l (λ i a b. ap is_some (none i a b)))))

  -- no more is owed
  pub owed_all : (now old : List Due) (from bound : ℕ) → ((other : ℕ) → from ≤ other → finite.get link.owed other ≡ None) → ((slot : ℕ) → bound ≤ slot → finite.contains_key link.owed slot ≡ false) →
      now ≡ old ++ map f (owed_below from link) → now ≡ old ++ map f (owed_below bound link)
  owed_all now old from bound none beyond so_far = so_far ∙ ap (λ slots. old ++ map f slots) (elim (cases_lt from bound) [
    | inl l ↦ sym (filter_same (finite.contains_key link.owed) from bound (omega (arith, l)) (λ i a b. ap is_some (none i a)))
    | inr l ↦ filter_same (finite.contains_key link.owed) bound from l (λ i a b. beyond i a)
  ])

-- ---- what the definitions say is due

filter_alike : (p t : ℕ → Bool) (xs : List ℕ) → ((x : ℕ) → Member x xs → p x ≡ t x) → filter p xs ≡ filter t xs
filter_alike p t [] h = refl
filter_alike p t (x ∷ xs) h = λ i. cond (h x here i) (x ∷ filter_alike p t xs (λ y m. h y (there m)) i) (filter_alike p t xs (λ y m. h y (there m)) i)

flat_alike : (f g : ℕ → List Due) (xs : List ℕ) → ((x : ℕ) → Member x xs → f x ≡ g x) → flat_map f xs ≡ flat_map g xs
flat_alike f g [] h = refl
flat_alike f g (x ∷ xs) h = λ i. h x here i ++ flat_alike f g xs (λ y m. h y (there m)) i

-- of each of at most 64 nodes at most 4096 items are given
pub gives_few : (config : Config) (past : History) → IsAccepted config past → (p q : ℕ) → length (given past p q) < 2 ^ 32
unfolding given given_of
gives_few config past accepted p q =
    let within = length-filter_le (λ copy. not (copy.sender == q) && not (copy.source == q)) (first past p) in
    let bound = held_bounded config past accepted p in
    let nodes = mul-le-mul_right config.item_limit config.nodes_in_range in
    let items = mul-le-mul_left 64 config.items_in_range in
    omega (arith, within, bound, nodes, items)

node_in : (config : Config) (p : ℕ) → Member p (nodes_of config) → p < config.nodes
node_in config p m = let l = (range_bounds config.nodes 0 p m).1 in omega (arith, l)

pub live_in : (config : Config) (past : History) (q : ℕ) → Member q (live_nodes config past) → (q < config.nodes) × (is_live past q ≡ true)
unfolding live_nodes
live_in config past q m = let r = Member-filter (is_live past) q (nodes_of config) m in (node_in config q r.0, r.1)

module _ (config : Config) (past : History) (world : State) (st : Stands config past world) where
  out : (p q : ℕ) → p < config.nodes → q < config.nodes → q ≢ p → StandsOut p (steps_of past p) q (link_to (node_at world p) q)
  out p q l m e = (st.nodes p l).out q m e

  not_given : (p q slot : ℕ) → p < config.nodes → q < config.nodes → q ≢ p → (link_to (node_at world p) q).given ≤ slot → finite.contains_key (link_to (node_at world p) q).owed slot ≡ false
  not_given p q slot l m e h =
      ap is_some ((out p q l m e).owed slot)
      ∙ ap (λ b. is_some (if b && not (own_acked (steps_of past p) q slot) then Some (message_in (own_given p (steps_of past p) q) slot) else None))
      (let given = (out p q l m e).given in le-ltb slot (length (own_given p (steps_of past p) q)) (omega (arith, h, given)))

  few_given : (p q : ℕ) → p < config.nodes → q < config.nodes → q ≢ p → (link_to (node_at world p) q).given < 2 ^ 64
  few_given p q l m e =
      let given = (out p q l m e).given in
      let copies = sym (length-map copy_of (own_given p (steps_of past p) q)) ∙ ap length (own_given-steps_of past p q) in
      let few = gives_few config past st.accepted p q in
      omega (arith, given, copies, few)

  pub is_bounded : IsBounded world
  is_bounded = record {
    few = λ p q l m e. few_given p q (subst (λ n. p < n) st.size l) (subst (λ n. q < n) st.size m) (λ z. e (sym z));
    given = λ p q l m e slot h. not_given p q slot (subst (λ n. p < n) st.size l) (subst (λ n. q < n) st.size m) (λ z. e (sym z)) h;
  }

  owed_are : (p q : ℕ) → p < config.nodes → q < config.nodes → q ≢ p → owed_slots (link_to (node_at world p) q) ≡ owed past p q
  unfolding own_owed
  owed_are p q l m e =
      ap (λ n. filter (finite.contains_key (link_to (node_at world p) q).owed) (range_with_len 0 n)) (out p q l m e).given
      ∙ filter_alike (finite.contains_key (link_to (node_at world p) q).owed) (λ slot. not (own_acked (steps_of past p) q slot)) (range_with_len 0 (length (own_given p (steps_of past p) q))) (λ slot n.
      let inside = (range_bounds (length (own_given p (steps_of past p) q)) 0 slot n).1 in
      ap is_some ((out p q l m e).owed slot) ∙ here_only (nat_lt slot (length (own_given p (steps_of past p) q))) (lt-ltb slot (length (own_given p (steps_of past p) q)) (omega (arith, inside))) (own_acked (steps_of past p) q slot) (message_in (own_given p (steps_of past p) q) slot))
      ∙ own_owed-steps_of past p q
    where
      here_only : (b : Bool) → b ≡ true → (c : Bool) (x : Message) → is_some (if b && not c then Some x else None) ≡ not c
      here_only true t true x = refl
      here_only true t false x = refl
      here_only false t c x = absurd (false≢true t)

  between_are : (p q : ℕ) → p < config.nodes → q < config.nodes → due_between_at world p q ≡ due_between past p q
  unfolding due_between
  between_are p q l m = elim (cases_eq p q) [
    | inl e ↦ ap (λ b. cond b [] (map (due_of p q) (owed_slots (link_to (node_at world p) q)))) (eq-eqb p q e) ∙ sym (ap (λ b. cond b [] (map (λ slot. record { from = p; to = q; slot = slot }) (owed past p q))) (eq-eqb p q e))
    | inr e ↦ ap (λ slots. cond (p == q) [] (map (due_of p q) slots)) (owed_are p q l m (λ z. e (sym z)))
  ]

  live_are : live_at world ≡ live_nodes config past
  unfolding live_nodes
  live_are =
      ap (λ c. filter (λ p. (node_at world p).live) (nodes_of c)) st.same_config
      ∙ filter_alike (λ p. (node_at world p).live) (is_live past) (nodes_of config) (λ p m. (st.nodes p (node_in config p m)).live ∙ own_live-steps_of past p)

  pub due_is : due_at world ≡ due config past
  unfolding due
  due_is =
      ap (λ live. flat_map (λ p. flat_map (due_between_at world p) live) live) live_are
      ∙ flat_alike _ _ (live_nodes config past) (λ p m. flat_alike (due_between_at world p) (due_between past p) (live_nodes config past) (λ q n. between_are p q (live_in config past p m).0 (live_in config past q n).0))
