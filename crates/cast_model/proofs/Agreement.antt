-- Each decided value was proposed, and an instance has at most one decided value more than there are tolerated faults.
use Rattle.std.proofs.Common.{◌≡◌, ℕ, suc, ◌+◌, ◌<◌, ◌≤◌, refl, sym, ◌∙◌, ap, subst, Bool, true, false, cond, List, [], ◌∷◌, ◌++◌, length, min, Option, Some, None, inl, inr, arith, length-append}
use Rattle.std.specs.Prelude.{◌==◌, nat_eq, nat_le, nat_lt}
use Rattle.std.specs.List.{filter, filter_map, cons_option, list_any, flat_map, IsDistinct, fold}
use Rattle.std.specs.Cmp.{nat_eq_equiv}
use Rattle.std.proofs.lemmas.Map.Made.{length-le_from_is_member}
use Rattle.std.proofs.lemmas.Bool.{eq-eqb, eqb-true, cases_lt, leb-true, ltb-true, le-leb, lt-ltb}
use Rattle.std.proofs.lemmas.List.FromFn.{length-range_with_len}
use Rattle.cast_message.specs.declared.config.Config.{Config}
use Rattle.cast_message.specs.declared.event.Event.{Event}
use Rattle.cast_message.specs.declared.event.Event.TheVariants.{Order, Send, Ack, Arrive, Crash}
use Rattle.cast_message.specs.declared.message.Item.{Item}
use Rattle.cast_message.specs.declared.message.Item.TheVariants.{Data, Propose, Close}
use Rattle.cast_message.specs.declared.message.Message.{Message}
use Rattle.cast_model.specs.History.{History, items_ordered, stream}
use Rattle.cast_model.specs.Delivery.{nodes_of, value_in, votes, least, delivery_log, decision}
use Rattle.cast_model.specs.RunLaws.{decisions_shown}
use Rattle.cast_model.specs.Headline.{decided, is_from, AtMost}
use Rattle.cast_model.specs.Replies.{fault, history, replies, IsAccepted}
use Rattle.cast_model.proofs.Members.{Member, here, there, Member-one, Member-uncons, Member-append_left, Member-append_right, list_any-Member, Member-list_any, filter-Member, Member-get_or, place_of_Member}
use Rattle.cast_model.proofs.Accepted.{Order-node}
use Rattle.cast_model.proofs.Answered.{IsAccepted-history_from}
use Rattle.cast_model.proofs.AtRest.{Member-range_with_len}
use Rattle.cast_model.proofs.Votes.{proposals, proposes_once, votes_from, voters, voter_in, length-voters, voters_distinct}
use Rattle.cast_model.proofs.Decisions.{DecidedBy, decided_from, shown_by_votes, Member-filter_map}

-- numbers without repetition that stand in a list are no more than it has
pub pigeonhole : (xs ys : List ℕ) → IsDistinct nat_eq xs → ((x : ℕ) → Member x xs → Member x ys) → length xs ≤ length ys
pigeonhole xs ys distinct within = length-le_from_is_member nat_eq_equiv xs ys distinct (λ x e.
    let found = Member-list_any (nat_eq x) xs e in
    let same : x ≡ found.0 = eqb-true x found.0 found.2 in
    list_any-Member (nat_eq x) found.0 ys (within found.0 found.1) found.2)

-- the least of some numbers
fold-min : (x : ℕ) (xs : List ℕ) → (fold min x xs ≤ x) × ((y : ℕ) → Member y xs → fold min x xs ≤ y) × Member (fold min x xs) (x ∷ xs)
fold-min x [] = (omega arith, λ y m. elim m [ ], here)
fold-min x (y ∷ ys) =
    let r = fold-min (min x y) ys in
    let low = r.0 in (
      omega (arith, low),
      (λ z m. elim (Member-uncons z y ys m) [ inl same ↦ omega (arith, low, same) | inr later ↦ r.1 z later ]),
      (elim (Member-uncons (fold min (min x y) ys) (min x y) ys r.2) [
        | inl same ↦ (elim (cases_lt x y) [
          | inl below ↦ (let e : fold min (min x y) ys ≡ x = omega (arith, same, below) in subst (λ z. Member z (x ∷ y ∷ ys)) (sym e) here)
          | inr above ↦ (let e : fold min (min x y) ys ≡ y = omega (arith, same, above) in subst (λ z. Member z (x ∷ y ∷ ys)) (sym e) (there here))
        ])
        | inr later ↦ there (there later)
      ]),
    )

pub least_le : (xs : List ℕ) (x : ℕ) → Member x xs → least xs ≤ x
unfolding least
least_le [] x m = elim m [ ]
least_le (y ∷ xs) x m = let r = fold-min y xs in elim (Member-uncons x y xs m) [ inl same ↦ (let low = r.0 in omega (arith, low, same)) | inr later ↦ r.1 x later ]

pub Member-least : (xs : List ℕ) → 0 < length xs → Member (least xs) xs
unfolding least
Member-least [] h = absurd (omega arith)
Member-least (y ∷ xs) h = (fold-min y xs).2

-- a node with an item is a node of the group
pub node_in : (config : Config) (past : History) → IsAccepted config past → (s : ℕ) → 0 < length (stream past s) → s < config.nodes
unfolding IsAccepted stream
node_in config [] accepted s h = absurd (omega arith)
node_in config (event ∷ past) accepted s h = elim (cases_lt 0 (length (stream past s))) [
  | inl before ↦ node_in config past accepted.0 s before
  | inr first ↦ by_event event accepted.1 (let total = length-append (stream past s) (items_ordered event s) in omega (arith, total, h, first))
]
  where
    by_event : (event : Event) → fault config past event ≡ None → 0 < length (items_ordered event s) → s < config.nodes
    by_event (Order node item) e h = by_test (node == s) refl h
      where
        by_test : (b : Bool) → (node == s) ≡ b → 0 < length (cond b (item ∷ []) []) → s < config.nodes
        by_test true same h = subst (λ p. p < config.nodes) (eqb-true node s same) (Order-node config past node item e)
        by_test false differs h = absurd (omega arith)
    by_event (Send from to slot) e h = absurd (omega arith)
    by_event (Ack from to slot) e h = absurd (omega arith)
    by_event (Arrive from seq) e h = absurd (omega arith)
    by_event (Crash node) e h = absurd (omega arith)

proposer_in : (config : Config) (past : History) → IsAccepted config past → (j s v : ℕ) → Member v (proposals past j s) → s < config.nodes
unfolding proposals
proposer_in config past accepted j s v m = node_in config past accepted s (by_items (stream past s) m)
  where
    by_items : (items : List Item) → Member v (filter_map (value_in j) items) → 0 < length items
    by_items [] m = elim m [ ]
    by_items (item ∷ items) m = omega arith

pub filter_map-Member : {X Y : Type 0} (h : X → Option Y) (x : X) (y : Y) (xs : List X) → Member x xs → h x ≡ Some y → Member y (filter_map h xs)
filter_map-Member h x y [] m e = elim m [ ]
filter_map-Member h x y (z ∷ xs) here e = subst (λ o. Member y (cons_option o (filter_map h xs))) (sym e) here
filter_map-Member {X} {Y} h x y (z ∷ xs) (there m) e = behind (h z) (filter_map-Member h x y xs m e)
  where
    behind : (o : Option Y) → Member y (filter_map h xs) → Member y (cons_option o (filter_map h xs))
    behind None m = m
    behind (Some w) m = there m

-- a voter's message
pub voter_message : (j s : ℕ) (messages : List Message) → Member s (voters j messages) → (message : Message) × (v : ℕ) × Member message messages × (message.sender ≡ s) × (value_in j message.item ≡ Some v)
unfolding voters
voter_message j s [] m = elim m [ ]
voter_message j s (message ∷ messages) m = by_value (value_in j message.item) refl m (voter_message j s messages)
  where
    by_value : (o : Option ℕ) → value_in j message.item ≡ o → Member s (cons_option (voter_in j message o) (voters j messages)) →
        (Member s (voters j messages) → (x : Message) × (v : ℕ) × Member x messages × (x.sender ≡ s) × (value_in j x.item ≡ Some v)) →
        (x : Message) × (v : ℕ) × Member x (message ∷ messages) × (x.sender ≡ s) × (value_in j x.item ≡ Some v)
    by_value None e m ih = let r = ih m in (r.0, r.1, there r.2, r.3, r.4)
    by_value (Some v) e m ih = elim (Member-uncons s message.sender (voters j messages) m) [
      | inl same ↦ (message, v, here, sym same, e)
      | inr later ↦ (let r = ih later in (r.0, r.1, there r.2, r.3, r.4))
    ]

-- a vote in a front of a log is its sender's proposal
module _ (config : Config) (past : History) (accepted : IsAccepted config past) (q j : ℕ) (front rest : List Message) (is : delivery_log config past q ≡ front ++ rest) where
  from_message : (message : Message) (v : ℕ) → Member message front → value_in j message.item ≡ Some v → Member v (proposals past j message.sender)
  unfolding votes
  from_message message v m e =
      let s = message.sender in
      let own = filter-Member (is_from s) message front m (eq-eqb s s refl) in
      let p = votes_from config past accepted q j s front rest is in
      subst (λ all. Member v all) p.1 (Member-append_left v (votes j (filter (is_from s) front)) p.0
      (filter_map-Member (λ (x : Message). value_in j x.item) message v (filter (is_from s) front) own e))

  pub vote_proposed : (v : ℕ) → Member v (votes j front) → (s : ℕ) × (s < config.nodes) × Member v (proposals past j s)
  unfolding votes
  vote_proposed v m =
      let found = Member-filter_map (λ (x : Message). value_in j x.item) v front m in
      let p = from_message found.0 v found.1 found.2 in
      (found.0.sender, proposer_in config past accepted j found.0.sender v p, p)

  pub voter_proposed : (s : ℕ) → Member s (voters j front) → (v : ℕ) × Member v (votes j front) × Member v (proposals past j s)
  unfolding votes
  voter_proposed s m =
      let found = voter_message j s front m in (
        found.1,
        filter_map-Member (λ (x : Message). value_in j x.item) found.0 found.1 front found.2 found.4,
        subst (λ p. Member found.1 (proposals past j p)) found.3 (from_message found.0 found.1 found.2 found.4),
      )

  -- no voter votes twice
  pub distinct : IsDistinct nat_eq (voters j front)
  distinct = voters_distinct j front (λ s.
      let p = votes_from config past accepted q j s front rest is in
      let once = proposes_once config past accepted j s in
      let whole : length (votes j (filter (is_from s) front)) + length p.0 ≡ length (proposals past j s) = sym (length-append (votes j (filter (is_from s) front)) p.0) ∙ ap length p.1 in
      omega (arith, once, whole))

-- a decided value is proposed by a node
proposed : (config : Config) (past : History) → IsAccepted config past → (j v : ℕ) → DecidedBy config past j v → (s : ℕ) × (s < config.nodes) × Member v (proposals past j s)
proposed config past accepted j v d =
    let some : 0 < length (votes j d.front) = (let f = config.faults_in_range in let c = d.complete in omega (arith, f, c)) in
    let r = vote_proposed config past accepted d.node j d.front d.rest d.log_is (least (votes j d.front)) (Member-least (votes j d.front) some) in
    (r.0, r.1, subst (λ w. Member w (proposals past j r.0)) (sym d.value_is) r.2)

-- two tests that no element passes both keep no more than the list has
two_filters : (p q : ℕ → Bool) → ((x : ℕ) → p x ≡ true → q x ≡ true → ⊥) → (xs : List ℕ) → length (filter p xs) + length (filter q xs) ≤ length xs
two_filters p q apart [] = omega arith
two_filters p q apart (x ∷ xs) = by_tests (p x) (q x) (apart x) (two_filters p q apart xs)
  where
    by_tests : (a b : Bool) → (a ≡ true → b ≡ true → ⊥) → length (filter p xs) + length (filter q xs) ≤ length xs → length (cond a (x ∷ filter p xs) (filter p xs)) + length (cond b (x ∷ filter q xs) (filter q xs)) ≤ suc (length xs)
    by_tests true true f ih = absurd (f refl refl)
    by_tests true false f ih = omega arith
    by_tests false true f ih = omega arith
    by_tests false false f ih = omega arith

-- the values of some nodes that have one each at most
length-flat_map : (f : ℕ → List ℕ) → ((x : ℕ) → length (f x) ≤ 1) → (xs : List ℕ) → length (flat_map f xs) ≤ length xs
length-flat_map f one [] = omega arith
length-flat_map f one (x ∷ xs) = let ih = length-flat_map f one xs in let o = one x in omega (arith, ih, o, length-append (f x) (flat_map f xs))

Member-flat_map : (f : ℕ → List ℕ) (x y : ℕ) (xs : List ℕ) → Member x xs → Member y (f x) → Member y (flat_map f xs)
Member-flat_map f x y [] m n = elim m [ ]
Member-flat_map f x y (z ∷ xs) here n = Member-append_left y (f x) (flat_map f xs) n
Member-flat_map f x y (z ∷ xs) (there m) n = Member-append_right y (f z) (flat_map f xs) (Member-flat_map f x y xs m n)

-- of some numbers one is the greatest
greatest : (x : ℕ) (xs : List ℕ) → (top : ℕ) × Member top (x ∷ xs) × ((y : ℕ) → Member y (x ∷ xs) → y ≤ top)
greatest x [] = (x, here, λ y m. elim (Member-uncons y x [] m) [ inl same ↦ omega arith | inr none ↦ absurd (absent y none) ])
  where
    absent : (y : ℕ) → Member y [] → ⊥
    absent y m = elim m [ ]
greatest x (z ∷ zs) =
    let r = greatest z zs in
    elim (cases_lt x r.0) [
      | inl below ↦ (r.0, there r.1, λ y m. elim (Member-uncons y x (z ∷ zs) m) [ inl same ↦ omega (arith, same, below) | inr later ↦ r.2 y later ])
      | inr above ↦ (x, here, λ y m. elim (Member-uncons y x (z ∷ zs) m) [ inl same ↦ omega (arith, same) | inr later ↦ (let h = r.2 y later in omega (arith, h, above)) ])
    ]

-- The nodes that proposed below a decided value are no more than the tolerated faults.
module _ (config : Config) (past : History) (accepted : IsAccepted config past) (j top : ℕ) where
  at_least : ℕ → Bool
  at_least s = list_any (λ v. nat_le top v) (proposals past j s)

  less : ℕ → Bool
  less s = list_any (λ v. nat_lt v top) (proposals past j s)

  not_both : (s : ℕ) → at_least s ≡ true → less s ≡ true → ⊥
  unfolding at_least less
  not_both s high low = by_list (proposals past j s) (proposes_once config past accepted j s) (Member-list_any _ (proposals past j s) high) (Member-list_any _ (proposals past j s) low)
    where
      by_list : (values : List ℕ) → length values ≤ 1 → ((v : ℕ) × Member v values × (nat_le top v ≡ true)) → ((w : ℕ) × Member w values × (nat_lt w top ≡ true)) → ⊥
      by_list [] one a b = elim a.1 [ ]
      by_list (v ∷ []) one a b =
          let e = Member-one a.0 v a.1 in
          let f = Member-one b.0 v b.1 in
          let h = leb-true top a.0 a.2 in
          let g = ltb-true b.0 top b.2 in
          omega (arith, e, f, h, g)
      by_list (v ∷ w ∷ values) one a b = omega arith

  few_below : DecidedBy config past j top → length (filter less (nodes_of config)) ≤ config.faults
  unfolding at_least
  few_below d =
      let voting = voters j d.front in
      let within : (s : ℕ) → Member s voting → Member s (filter at_least (nodes_of config)) =
      λ s m. (let r = voter_proposed config past accepted d.node j d.front d.rest d.log_is s m in
      let low : top ≤ r.0 = (let l = least_le (votes j d.front) r.0 r.1 in let e = d.value_is in omega (arith, l, e)) in
      filter-Member at_least s (nodes_of config)
      (Member-range_with_len config.nodes 0 s (omega arith) (let h = proposer_in config past accepted j s r.0 r.2 in omega (arith, h)))
      (list_any-Member (λ v. nat_le top v) r.0 (proposals past j s) r.2 (le-leb top r.0 low))) in
      let many = pigeonhole voting (filter at_least (nodes_of config)) (distinct config past accepted d.node j d.front d.rest d.log_is) within in
      let all = two_filters at_least less not_both (nodes_of config) in
      let count = d.complete in
      let faults = config.faults_in_range in
      omega (arith, many, all, count, faults, length-voters j d.front, length-range_with_len 0 config.nodes)

-- at most one more value is decided than there are tolerated faults
at_most : (config : Config) (past : History) → IsAccepted config past → (j : ℕ) (values : List ℕ) → ((v : ℕ) → Member v values → DecidedBy config past j v) → AtMost (config.faults + 1) values
unfolding less
at_most config past accepted j values by [] distinct_values all = omega arith
at_most config past accepted j values by (x ∷ xs) distinct_values all =
    let top = greatest x xs in
    let is_decided : (v : ℕ) → Member v (x ∷ xs) → Member v values = λ v m.
    (let at = place_of_Member v (x ∷ xs) 0 m in
    let in_values = all at.0 0 at.1 in
    subst (λ w. Member w values) (in_values.2 ∙ at.2) (Member-get_or values in_values.0 _ in_values.1)) in
    let evidence = by top.0 (is_decided top.0 top.1) in
    let lower = flat_map (λ s. proposals past j s) (filter (less config past accepted j top.0) (nodes_of config)) in
    let within : (v : ℕ) → Member v (x ∷ xs) → Member v (top.0 ∷ lower) = λ v m.
    elim (cases_lt v top.0) [
      | inr above ↦ (let h = top.2 v m in let e : v ≡ top.0 = omega (arith, h, above) in subst (λ w. Member w (top.0 ∷ lower)) (sym e) here)
      | inl below ↦
          (let r = proposed config past accepted j v (by v (is_decided v m)) in
          there (Member-flat_map (λ s. proposals past j s) r.0 v (filter (less config past accepted j top.0) (nodes_of config))
          (filter-Member (less config past accepted j top.0) r.0 (nodes_of config)
          (Member-range_with_len config.nodes 0 r.0 (omega arith) (let h = r.1 in omega (arith, h)))
          (list_any-Member (λ w. nat_lt w top.0) v (proposals past j r.0) r.2 (lt-ltb v top.0 below)))
          r.2))
    ] in
    let few = few_below config past accepted j top.0 evidence in
    let short = length-flat_map (λ s. proposals past j s) (λ s. proposes_once config past accepted j s) (filter (less config past accepted j top.0) (nodes_of config)) in
    let total = pigeonhole (x ∷ xs) (top.0 ∷ lower) distinct_values within in
    omega (arith, few, short, total)

-- so at most k, where the faults are fewer than k
at_most_choices : (config : Config) (past : History) → IsAccepted config past → config.faults < config.choices → (j : ℕ) (values : List ℕ) → ((v : ℕ) → Member v values → DecidedBy config past j v) → AtMost config.choices values
at_most_choices config past accepted fewer j values by chosen distinct_values all =
    let bound = at_most config past accepted j values by chosen distinct_values all in
    omega (arith, bound)

-- both of the values in replies, and the second also of those that nodes show
pub decided_at_most_one_more : (config : Config) (events : List Event) (j : ℕ) → AtMost (config.faults + 1) (decided (replies config events) j)
unfolding IsAccepted
decided_at_most_one_more config events j =
    at_most config (history config events) (IsAccepted-history_from config [] events tt) j (decided (replies config events) j) (decided_from config [] events j)

pub decided_at_most_choices : (config : Config) → config.faults < config.choices → (events : List Event) (j : ℕ) → AtMost config.choices (decided (replies config events) j)
unfolding IsAccepted
decided_at_most_choices config fewer events j =
    at_most_choices config (history config events) (IsAccepted-history_from config [] events tt) fewer j (decided (replies config events) j) (decided_from config [] events j)

pub shown_at_most_choices : (config : Config) (past : History) → IsAccepted config past → config.faults < config.choices → (j : ℕ) → AtMost config.choices (decisions_shown config past j)
shown_at_most_choices config past accepted fewer j = at_most_choices config past accepted fewer j (decisions_shown config past j) (λ v m.
    let found = Member-filter_map (λ q. decision config past q j) v (nodes_of config) m in
    shown_by_votes config past found.0 j v found.2)

-- an item whose value in instance j is v proposes it there
value_in-Propose : (j v : ℕ) (item : Item) → value_in j item ≡ Some v → item ≡ Propose j v
value_in-Propose j v (Data bytes) e = absurd (cc)
value_in-Propose j v Close e = absurd (cc)
value_in-Propose j v (Propose instance value) e = by_test (instance == j) refl e
  where
    by_test : (b : Bool) → (instance == j) ≡ b → cond b (Some value) None ≡ Some v → Propose instance value ≡ Propose j v
    by_test true same e = let i : instance ≡ j = eqb-true instance j same in let w : value ≡ v = cc in cc
    by_test false differs e = absurd (cc)

-- a decided value stands as a proposal in a node's stream: one in a reply, and one that a node shows
in_stream : (config : Config) (past : History) → IsAccepted config past → (j v : ℕ) → DecidedBy config past j v → (s : ℕ) × (s < config.nodes) × Member (Propose j v) (stream past s)
unfolding proposals
in_stream config past accepted j v d =
    let r = proposed config past accepted j v d in
    let found = Member-filter_map (value_in j) v (stream past r.0) r.2 in
    (r.0, r.1, subst (λ item. Member item (stream past r.0)) (value_in-Propose j v found.0 found.2) found.1)

pub decided_in_stream : (config : Config) (events : List Event) (j v : ℕ) → Member v (decided (replies config events) j) → (s : ℕ) × (s < config.nodes) × Member (Propose j v) (stream (history config events) s)
unfolding IsAccepted
decided_in_stream config events j v m = in_stream config (history config events) (IsAccepted-history_from config [] events tt) j v (decided_from config [] events j v m)

pub shown_in_stream : (config : Config) (past : History) → IsAccepted config past → (q j v : ℕ) → decision config past q j ≡ Some v → (s : ℕ) × (s < config.nodes) × Member (Propose j v) (stream past s)
shown_in_stream config past accepted q j v e = in_stream config past accepted j v (shown_by_votes config past q j v e)
