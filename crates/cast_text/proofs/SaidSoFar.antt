-- What the lines of a record say so far, and which line breaks no rule after them.
use Rattle.std.proofs.Common.{◌≡◌, ℕ, ◌<◌, ◌≤◌, ◌&&◌, ◌||◌, not, Bool, true, false, cond, nat_eq, nat_lt, List, [], ◌∷◌, ◌++◌, length, Option, Some, None, refl, sym, ap, subst, ◌∙◌, arith, inl, inr}
use Rattle.std.specs.Prelude.{slice_get}
use Rattle.std.specs.List.{list_any, IsDistinct, AllByRecursion, Contains}
use Rattle.std.proofs.lemmas.Slice.Eq.{bytes_eq-Decides}
use Rattle.std.proofs.lemmas.Bool.Decides.{nat_tests}
use Rattle.std.proofs.lemmas.List.Elements.{All-from_recursion}
use Rattle.std.proofs.lemmas.Bool.{lt-ltb}
use Rattle.cast_message.proofs.Booleans.{or_comm}
use Rattle.cast_message.specs.declared.config.Config.{Config}
use Rattle.cast_message.specs.declared.message.Item.{Item}
use Rattle.cast_message.specs.declared.message.Item.TheVariants.{Data, Propose, Close}
use Rattle.cast_message.specs.declared.message.Message.{Message}
use Rattle.cast_message.specs.declared.message.Decision.{Decision}
use Rattle.cast_message.specs.Items.{is_close, proposes_in}
use Rattle.cast_model.specs.Refusals as refused
use Rattle.cast_model.specs.Headline as headline
use Rattle.cast_model.proofs.Members.{Member, here, there, Member-uncons, Member-Contains, list_any-Member}
use Rattle.cast_record.specs.declared.line.Line.{Line}
use Rattle.cast_record.specs.declared.line.Line.TheVariants.{Head, Head2, Broadcast, Delivered, Decided, Crashed, Refused, End}
use Rattle.cast_record.specs.Rules as said
use Rattle.cast_judge.specs.Kept.{has_item, is_same}
use Rattle.cast_judge.specs.Stands.{items_in, items_of}
use Rattle.cast_judge.proofs.RuleLemmas.{items_counted}

-- ---- the items of the broadcasts tell what the lines tell

any-append : {A : Type 0} (f : A → Bool) (xs ys : List A) → list_any f (xs ++ ys) ≡ (list_any f xs || list_any f ys)
any-append f [] ys = refl
any-append f (x ∷ xs) ys = ap (λ b. f x || b) (any-append f xs ys) ∙ together (f x) (list_any f xs) (list_any f ys)
  where
    together : (a b c : Bool) → (a || (b || c)) ≡ (a || b || c)
    together true b c = refl
    together false b c = refl

one_any : (f : Item → Bool) (b : Bool) (item : Item) → (b && f item) ≡ list_any f (cond b (item ∷ []) [])
one_any f true item = sym (or_none (f item))
  where
    or_none : (c : Bool) → (c || false) ≡ c
    or_none true = refl
    or_none false = refl
one_any f false item = refl

line_any : (f : Item → Bool) (p : ℕ) (line : Line) → said.is_broadcast (λ m. nat_eq m.sender p && f m.item) line ≡ list_any f (items_in line p)
line_any f p (Head n k c) = refl
line_any f p (Head2 n k c mode) = refl
line_any f p (Broadcast m) = one_any f (nat_eq m.sender p) m.item
line_any f p (Delivered q m) = refl
line_any f p (Decided q d) = refl
line_any f p (Crashed q) = refl
line_any f p (Refused i c) = refl
line_any f p End = refl

-- whether one of p's items passes
items_any : (f : Item → Bool) (xs : List Line) (p : ℕ) → list_any (said.is_broadcast (λ m. nat_eq m.sender p && f m.item)) xs ≡ list_any f (items_of xs p)
unfolding items_of
items_any f [] p = refl
items_any f (line ∷ xs) p =
    (λ i. line_any f p line i || items_any f xs p i) ∙ or_comm (list_any f (items_in line p)) (list_any f (items_of xs p)) ∙ sym (any-append f (items_of xs p) (items_in line p))

weaker : (f : Item → Bool) (p : ℕ) (line : Line) → said.is_broadcast (λ m. nat_eq m.sender p && f m.item) line ≡ true → said.is_broadcast (λ m. f m.item) line ≡ true
weaker f p (Head n k c) e = e
weaker f p (Head2 n k c mode) e = e
weaker f p (Broadcast m) e = second (nat_eq m.sender p) (f m.item) e
  where
    second : (a b : Bool) → (a && b) ≡ true → b ≡ true
    second true b e = e
    second false b e = absurd (cc)
weaker f p (Delivered q m) e = e
weaker f p (Decided q d) e = e
weaker f p (Crashed q) e = e
weaker f p (Refused i c) e = e
weaker f p End e = e

any_weaker : (f g : Line → Bool) → ((line : Line) → f line ≡ true → g line ≡ true) → (xs : List Line) → list_any f xs ≡ true → list_any g xs ≡ true
any_weaker f g w [] e = e
any_weaker f g w (x ∷ xs) e = go (f x) refl e (any_weaker f g w xs)
  where
    right : (a b : Bool) → b ≡ true → (a || b) ≡ true
    right true b e = refl
    right false b e = e

    go : (b : Bool) → f x ≡ b → (b || list_any f xs) ≡ true → (list_any f xs ≡ true → list_any g xs ≡ true) → (g x || list_any g xs) ≡ true
    go true e h ih = ap (λ b. b || list_any g xs) (w x e)
    go false e h ih = right (g x) (list_any g xs) (ih h)

-- what an item of some node proposes is proposed
pub proposed_by : (xs : List Line) (s j w : ℕ) → Member (Propose j w) (items_of xs s) → said.is_proposed xs j w ≡ true
unfolding said.is_proposed
proposed_by xs s j w m =
    any_weaker (said.is_broadcast (λ m. nat_eq m.sender s && said.proposes j w m.item)) (said.is_broadcast (λ m. said.proposes j w m.item)) (weaker (said.proposes j w) s) xs
    (items_any (said.proposes j w) xs s ∙ list_any-Member (said.proposes j w) (Propose j w) (items_of xs s) m (same_test j w))
  where
    same_test : (j w : ℕ) → (nat_eq j j && nat_eq w w) ≡ true
    same_test j w = grind (arith, nat_tests)

closed_by : (xs : List Line) (p : ℕ) → said.has_closed xs p ≡ list_any is_close (items_of xs p)
unfolding said.has_closed
closed_by xs p = items_any is_close xs p

has_proposed_by : (xs : List Line) (p j : ℕ) → said.has_proposed xs p j ≡ list_any (proposes_in j) (items_of xs p)
unfolding said.has_proposed
has_proposed_by xs p j = items_any (proposes_in j) xs p

-- ---- what the lines say

pub record Says (config : Config) (streams : ℕ → List Item) (counts : ℕ → ℕ → ℕ) (live : ℕ → Bool) (values : ℕ → List ℕ) (xs : List Line) : Type 0 where
  pub goes_on : said.is_ended xs ≡ false
  pub some : 0 < length xs
  pub group : said.group_of xs ≡ record { nodes = config.nodes; faults = config.faults; choices = config.choices }
  pub items : (p : ℕ) → items_of xs p ≡ streams p
  pub numbered : (m : Message) → said.has_broadcast xs m ≡ has_item (items_of xs m.sender) m.number m.item
  pub delivered : (q s : ℕ) → said.deliveries_of xs q s ≡ counts q s
  pub crashed : (p : ℕ) → said.has_crashed xs p ≡ not (live p)
  pub decided : (j w : ℕ) → Member w (said.values_in xs j) → Member w (values j)

module _ (config : Config) (streams : ℕ → List Item) (counts : ℕ → ℕ → ℕ) (live : ℕ → Bool) (values : ℕ → List ℕ) (xs : List Line) (h : Says config streams counts live values xs) where
  placed : (line : Line) → said.is_head line ≡ false → said.names_below config.nodes line ≡ true → said.is_out_of_place xs line ≡ false
  placed line plain names = go xs h.goes_on h.some (ap (λ (g : said.Group). g.nodes) h.group)
    where
      go : (ys : List Line) → said.is_ended ys ≡ false → 0 < length ys → (said.group_of ys).nodes ≡ config.nodes → said.is_out_of_place ys line ≡ false
      go [] ended some nodes = absurd (omega arith)
      go (y ∷ ys) ended some nodes = λ i. ended i || plain i || not ((ap (λ n. said.names_below n line) nodes ∙ names) i)

  alive : (p : ℕ) → live p ≡ true → said.has_crashed xs p ≡ false
  alive p e = h.crashed p ∙ ap not e

abbrev least_of : Bool → Bool → Bool → Bool → Bool → Bool → Bool → Option ℕ
least_of a b c d e f g = cond a (Some 0) (cond b (Some 1) (cond c (Some 2) (cond d (Some 3) (cond e (Some 4) (cond f (Some 5) (cond g (Some 6) None))))))

none_broken : (xs : List Line) (line : Line) → said.is_out_of_place xs line ≡ false → said.breaks_prefix xs line ≡ false → said.is_after_close xs line ≡ false → said.is_not_proposed xs line ≡ false
    → said.is_of_too_many xs line ≡ false → said.is_after_crash xs line ≡ false → said.is_proposed_twice xs line ≡ false → said.broken xs line ≡ None
unfolding said.broken
none_broken xs line a b c d e f g = λ i. least_of (a i) (b i) (c i) (d i) (e i) (f i) (g i)

equal_numbers : (m n : ℕ) → m ≡ n → not (nat_eq m n) ≡ false
equal_numbers m n e = grind (arith, nat_tests)

same_item : (item : Item) → said.is_item item item ≡ true
same_item (Data payload) = (bytes_eq-Decides payload payload).1 refl
same_item (Propose j w) = same_numbers j w
  where
    same_numbers : (j w : ℕ) → (nat_eq j j && nat_eq w w) ≡ true
    same_numbers j w = grind (arith, nat_tests)
same_item Close = refl

module _ (config : Config) (streams : ℕ → List Item) (counts : ℕ → ℕ → ℕ) (live : ℕ → Bool) (values : ℕ → List ℕ) (xs : List Line) (h : Says config streams counts live values xs) where
  second_same : (p : ℕ) (item : Item) → said.is_second_proposal xs p item ≡ refused.is_second_proposal (streams p) item
  second_same p (Data payload) = refl
  second_same p (Propose j w) = has_proposed_by xs p j ∙ ap (list_any (proposes_in j)) (h.items p)
  second_same p Close = refl

  -- a broadcast
  pub broadcast_sound : (p : ℕ) (item : Item) → p < config.nodes → live p ≡ true → list_any is_close (streams p) ≡ false → refused.is_second_proposal (streams p) item ≡ false
      → said.broken xs (Broadcast (record { sender = p; number = length (streams p); item = item })) ≡ None
  broadcast_sound p item node up closed once =
      let line = Broadcast (record { sender = p; number = length (streams p); item = item }) in
      none_broken xs line (placed config streams counts live values xs h line refl (lt-ltb p config.nodes node))
      (equal_numbers (length (streams p)) (said.broadcasts_of xs p) (ap length (sym (h.items p)) ∙ items_counted xs p))
      (closed_by xs p ∙ ap (list_any is_close) (h.items p) ∙ closed)
      refl refl (alive config streams counts live values xs h p up) (second_same p item ∙ once)

  -- a delivery
  pub delivery_sound : (q s i : ℕ) (item : Item) → q < config.nodes → s < config.nodes → live q ≡ true → i ≡ counts q s → slice_get (streams s) i ≡ Some item
      → said.broken xs (Delivered q (record { sender = s; number = i; item = item })) ≡ None
  delivery_sound q s i item node sender up count at =
      let m : Message = record { sender = s; number = i; item = item } in
      let line = Delivered q m in
      let found : said.has_broadcast xs m ≡ true = h.numbered m ∙ ap (λ items. has_item items i item) (h.items s) ∙ ap (λ o. is_same o item) at ∙ same_item item in
      none_broken xs line (placed config streams counts live values xs h line refl (λ j. lt-ltb q config.nodes node j && lt-ltb s config.nodes sender j))
      (λ j. equal_numbers i (said.deliveries_of xs q s) (count ∙ sym (h.delivered q s)) j || not (found j))
      refl refl refl (alive config streams counts live values xs h q up) refl

  -- a crash
  pub crash_sound : (p : ℕ) → p < config.nodes → live p ≡ true → said.broken xs (Crashed p) ≡ None
  crash_sound p node up = none_broken xs (Crashed p) (placed config streams counts live values xs h (Crashed p) refl (lt-ltb p config.nodes node)) refl refl refl refl (alive config streams counts live values xs h p up) refl

  -- a refusal, and the end
  pub refusal_sound : (i c : ℕ) → said.broken xs (Refused i c) ≡ None
  refusal_sound i c = none_broken xs (Refused i c) (placed config streams counts live values xs h (Refused i c) refl refl) refl refl refl refl refl refl

  pub end_sound : said.broken xs End ≡ None
  end_sound = none_broken xs End (placed config streams counts live values xs h End refl refl) refl refl refl refl refl refl

-- ---- different values

not_there : (x : ℕ) (xs : List ℕ) → list_any (λ y. nat_eq y x) xs ≡ false → AllByRecursion (λ y. nat_eq x y ≡ false) (said.different xs)
not_there x [] e = tt
not_there x (y ∷ ys) e = go (list_any (λ z. nat_eq z y) ys) (not_there x ys (both (nat_eq y x) (list_any (λ z. nat_eq z x) ys) e).1)
  where
    both : (a b : Bool) → (a || b) ≡ false → (a ≡ false) × (b ≡ false)
    both true b e = absurd (cc)
    both false b e = (refl, e)

    swaps : (m n : ℕ) → nat_eq m n ≡ false → nat_eq n m ≡ false
    swaps m n e = grind (arith, nat_tests)

    go : (b : Bool) → AllByRecursion (λ z. nat_eq x z ≡ false) (said.different ys) → AllByRecursion (λ z. nat_eq x z ≡ false) (cond b (said.different ys) (y ∷ said.different ys))
    go true ih = ih
    go false ih = (swaps y x (both (nat_eq y x) (list_any (λ z. nat_eq z x) ys) e).0, ih)

different_distinct : (xs : List ℕ) → IsDistinct nat_eq (said.different xs)
unfolding IsDistinct
different_distinct [] = tt
different_distinct (x ∷ xs) = go (list_any (λ y. nat_eq y x) xs) refl (different_distinct xs)
  where
    go : (b : Bool) → list_any (λ y. nat_eq y x) xs ≡ b → IsDistinct nat_eq (said.different xs) → IsDistinct nat_eq (cond b (said.different xs) (x ∷ said.different xs))
    go true e ih = ih
    go false e ih = (not_there x xs e, ih)

different_Member : (w : ℕ) (xs : List ℕ) → Member w (said.different xs) → Member w xs
different_Member w [] m = m
different_Member w (x ∷ xs) m = go (list_any (λ y. nat_eq y x) xs) (different_Member w xs) m
  where
    go : (b : Bool) → (Member w (said.different xs) → Member w xs) → Member w (cond b (said.different xs) (x ∷ said.different xs)) → Member w (x ∷ xs)
    go true ih m = there (ih m)
    go false ih m = elim (Member-uncons w x (said.different xs) m) [ inl same ↦ subst (λ y. Member y (x ∷ xs)) (sym same) here | inr later ↦ there (ih later) ]

all_contained : (bound xs : List ℕ) → ((w : ℕ) → Member w xs → Member w bound) → AllByRecursion (Contains bound) xs
all_contained bound [] h = tt
all_contained bound (x ∷ xs) h = (Member-Contains x bound (h x here), all_contained bound xs (λ w m. h w (there m)))

pub few_different : (k : ℕ) (bound xs : List ℕ) → headline.AtMost k bound → ((w : ℕ) → Member w xs → Member w bound) → length (said.different xs) ≤ k
few_different k bound xs few within =
    few (said.different xs) (different_distinct xs) (All-from_recursion (Contains bound) (said.different xs) (all_contained bound (said.different xs) (λ w m. within w (different_Member w xs m))))

not_many : (f k n : ℕ) → (f < k → n ≤ k) → (nat_lt f k && nat_lt k n) ≡ false
not_many f k n few = go (nat_lt f k) refl
  where
    far : (k n : ℕ) → n ≤ k → nat_lt k n ≡ false
    far k n l = grind (arith, nat_tests)

    near : (f k : ℕ) → nat_lt f k ≡ true → f < k
    near f k e = grind (arith, nat_tests)

    go : (b : Bool) → nat_lt f k ≡ b → (b && nat_lt k n) ≡ false
    go true e = far k n (few (near f k e))
    go false e = refl

module _ (config : Config) (streams : ℕ → List Item) (counts : ℕ → ℕ → ℕ) (live : ℕ → Bool) (values : ℕ → List ℕ) (xs : List Line) (h : Says config streams counts live values xs) where
  -- a decision
  pub decision_sound : (q : ℕ) (d : Decision) (s : ℕ) → q < config.nodes → live q ≡ true → Member (Propose d.instance d.value) (streams s) → Member d.value (values d.instance)
      → (config.faults < config.choices → headline.AtMost config.choices (values d.instance)) → said.broken xs (Decided q d) ≡ None
  decision_sound q d s node up proposed decided few =
      let line = Decided q d in
      let bound : (w : ℕ) → Member w (d.value ∷ said.values_in xs d.instance) → Member w (values d.instance) =
      (λ w m. elim (Member-uncons w d.value (said.values_in xs d.instance) m) [ inl same ↦ subst (λ y. Member y (values d.instance)) (sym same) decided | inr later ↦ h.decided d.instance w later ]) in
      none_broken xs line (placed config streams counts live values xs h line refl (lt-ltb q config.nodes node)) refl refl
      (ap not (proposed_by xs s d.instance d.value (subst (Member (Propose d.instance d.value)) (sym (h.items s)) proposed)))
      (ap (λ (g : said.Group). nat_lt g.faults g.choices && nat_lt g.choices (length (said.different (d.value ∷ said.values_in xs d.instance)))) h.group
      ∙ not_many config.faults config.choices (length (said.different (d.value ∷ said.values_in xs d.instance))) (λ l. few_different config.choices (values d.instance) (d.value ∷ said.values_in xs d.instance) (few l) bound))
      (alive config streams counts live values xs h q up) refl
