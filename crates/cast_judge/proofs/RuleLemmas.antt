-- What is kept tells the rules as the lines before do.
use Rattle.std.proofs.Common.{◌≡◌, ℕ, ◌+◌, ◌<◌, ◌&&◌, ◌||◌, not, Bool, true, false, cond, nat_eq, nat_lt, List, [], ◌∷◌, length, refl, sym, ap, ◌∙◌, arith, length-append}
use Rattle.std.specs.List.{filter}
use Rattle.std.proofs.lemmas.Bool.Decides.{nat_tests}
use Rattle.cast_message.specs.declared.message.Item.{Item}
use Rattle.cast_message.specs.declared.message.Item.TheVariants.{Propose}
use Rattle.cast_message.specs.declared.message.Message.{Message}
use Rattle.cast_message.specs.declared.message.Decision.{Decision}
use Rattle.cast_record.specs.declared.line.Line.{Line}
use Rattle.cast_record.specs.declared.line.Line.TheVariants.{Head, Head2, Broadcast, Delivered, Decided, Crashed}
use Rattle.cast_record.specs.Rules as said
use Rattle.cast_record.proofs.ReadLemmas.{or_false}
use Rattle.cast_record.proofs.VerdictLemmas.{least_of}
use Rattle.cast_judge.specs.declared.kept.Stage.TheVariants.{Body, Ended}
use Rattle.cast_judge.specs.declared.kept.Kept.{Kept}
use Rattle.cast_judge.specs.Kept as kept
use Rattle.cast_judge.specs.Candidates.{is_decided, count_decided}
use Rattle.cast_judge.specs.Stands.{items_in, items_of, StandsFor, StandsForNode}
use Rattle.cast_judge.proofs.TestLemmas.{not_false, and_true}

-- ---- as many items as broadcasts

one_in : (p : ℕ) (line : Line) (lines : List Line) → length (cond (said.is_broadcast (λ m. nat_eq m.sender p) line) (line ∷ lines) lines) ≡ length lines + length (items_in line p)
one_in p (Broadcast m) lines = go (nat_eq m.sender p)
  where
    go : (b : Bool) → length (cond b (Broadcast m ∷ lines) lines) ≡ length lines + length (cond b (m.item ∷ []) [])
    go true = omega arith
    go false = omega arith
one_in p line lines = omega arith

pub items_counted : (past : List Line) (p : ℕ) → length (items_of past p) ≡ said.broadcasts_of past p
unfolding items_of said.broadcasts_of
items_counted [] p = refl
items_counted (line ∷ past) p =
    length-append (items_of past p) (items_in line p) ∙ ap (λ n. n + length (items_in line p)) (items_counted past p)
    ∙ sym (one_in p line (filter (said.is_broadcast (λ m. nat_eq m.sender p)) past))

-- ---- a line in its place names nodes of the group

head_names : (n : ℕ) (line : Line) → said.is_head line ≡ true → said.names_below n line ≡ true
head_names n (Head a b c) e = refl
head_names n (Head2 a b c d) e = refl
head_names n line e = absurd (cc)

pub in_range : (past : List Line) (line : Line) → said.is_out_of_place past line ≡ false → said.names_below (said.group_of past).nodes line ≡ true
in_range [] line e = head_names (said.group_of []).nodes line (not_false (said.is_head line) e)
in_range (last ∷ past) line e = not_false (said.names_below (said.group_of (last ∷ past)).nodes line) (or_false (said.is_end last || said.is_head line) (not (said.names_below (said.group_of (last ∷ past)).nodes line)) e).1

-- a head stands first
pub head_first : (past : List Line) (line : Line) → said.is_out_of_place past line ≡ false → said.is_head line ≡ true → past ≡ []
head_first [] line e h = refl
head_first (last ∷ past) line e h =
    let parts = or_false (said.is_end last || said.is_head line) (not (said.names_below (said.group_of (last ∷ past)).nodes line)) e in
    let none = or_false (said.is_end last) (said.is_head line) parts.0 in
    absurd (cc (none.1, h))

-- ---- rule 0

out_at : (b h : Bool) (n : ℕ) (line : Line) → kept.is_out_at (cond b Ended Body) n line ≡ (b || said.is_head line || not (said.names_below n line))
out_at true h n line = refl
out_at false h n line = refl

place_same : (past : List Line) (k : Kept) (line : Line) → StandsFor past k → kept.is_out_of_place k line ≡ said.is_out_of_place past line
place_same [] k line s = ap (λ stage. kept.is_out_at stage (length k.nodes.items) line) s.stage
place_same (last ∷ past) k line s =
    ap (λ stage. kept.is_out_at stage (length k.nodes.items) line) s.stage
    ∙ out_at (said.is_end last) (said.is_head line) (length k.nodes.items) line
    ∙ ap (λ n. said.is_end last || said.is_head line || not (said.names_below n line)) s.size

-- ---- the other rules

below : (p n : ℕ) → nat_lt p n ≡ true → p < n
below p n e = grind (arith, nat_tests)

-- one more value, where it may be known already
pub value_count : (a b : Bool) (n v : ℕ) (vs : List ℕ) → a ≡ b → n ≡ length vs → cond a n (n + 1) ≡ length (cond b vs (v ∷ vs))
value_count true true n v vs same count = count
value_count false false n v vs same count = omega (arith, count)
value_count a b n v vs same count = absurd (cc)

module _ (past : List Line) (k : Kept) (s : StandsFor past k) where
  node : (p : ℕ) → nat_lt p (length k.nodes.items) ≡ true → StandsForNode past p (kept.node_at k.nodes.items p)
  node p e = s.nodes p (below p (length k.nodes.items) e)

  crash_same : (p : ℕ) → nat_lt p (length k.nodes.items) ≡ true → (kept.node_at k.nodes.items p).crashed ≡ said.has_crashed past p
  crash_same p e = (node p e).crashed

  item_same : (m : Message) → nat_lt m.sender (length k.nodes.items) ≡ true → kept.has_item (kept.node_at k.nodes.items m.sender).items m.number m.item ≡ said.has_broadcast past m
  item_same m e = ap (λ items. kept.has_item items m.number m.item) (node m.sender e).items ∙ sym (s.numbered m)

  numbered_same : (m : Message) → nat_lt m.sender (length k.nodes.items) ≡ true → not (nat_eq m.number (length (kept.node_at k.nodes.items m.sender).items)) ≡ not (nat_eq m.number (said.broadcasts_of past m.sender))
  numbered_same m e = ap (λ n. not (nat_eq m.number n)) (ap length (node m.sender e).items ∙ items_counted past m.sender)

  delivery_same : (q : ℕ) (m : Message) → said.names_below (length k.nodes.items) (Delivered q m) ≡ true → kept.breaks_prefix k (Delivered q m) ≡ said.breaks_prefix past (Delivered q m)
  delivery_same q m e =
      let both = and_true (nat_lt q (length k.nodes.items)) (nat_lt m.sender (length k.nodes.items)) e in
      let small : m.sender < 64 = far m.sender (below m.sender (length k.nodes.items) both.1) in
      ap (λ n. not (nat_eq m.number n) || not (kept.has_item (kept.node_at k.nodes.items m.sender).items m.number m.item)) ((node q both.0).delivered m.sender small)
      ∙ ap (λ b. not (nat_eq m.number (said.deliveries_of past q m.sender)) || not b) (item_same m both.1)
    where
      far : (p : ℕ) → p < length k.nodes.items → p < 64
      far p h = omega (arith, s.few)

  many_same : (q : ℕ) (d : Decision) → kept.is_of_too_many k (Decided q d) ≡ said.is_of_too_many past (Decided q d)
  many_same q d =
      let instance = s.instances d.instance in
      let count = value_count (is_decided (kept.instance_at k.instances d.instance).candidates d.value) (kept.has_value (said.values_in past d.instance) d.value) (count_decided (kept.instance_at k.instances d.instance).candidates) d.value (said.different (said.values_in past d.instance)) (instance.decided d.value) instance.count in
      (λ i. nat_lt (s.faults i) (s.choices i) && nat_lt (s.choices i) (count i))

  second_same : (p : ℕ) (item : Item) → kept.is_second_proposal k p item ≡ said.is_second_proposal past p item
  second_same p (Propose j w) = (s.instances j).proposed p
  second_same p item = refl

  -- of a line that names nodes of the group, the least rule is the same, by its kind
  least_same : (line : Line) → said.names_below (length k.nodes.items) line ≡ true → kept.is_out_of_place k line ≡ said.is_out_of_place past line → kept.rule_by k line ≡ said.first_broken 0 (said.rules past line)
  least_same (Broadcast m) e place = λ i. least_of (place i) (numbered_same m e i) ((node m.sender e).closed i) false false (crash_same m.sender e i) (second_same m.sender m.item i)
  least_same (Delivered q m) e place =
      let crash = crash_same q (and_true (nat_lt q (length k.nodes.items)) (nat_lt m.sender (length k.nodes.items)) e).0 in
      (λ i. least_of (place i) (delivery_same q m e i) false false false (crash i) false)
  least_same (Decided q d) e place = λ i. least_of (place i) false false (not ((s.instances d.instance).values d.value i)) (many_same q d i) (crash_same q e i) false
  least_same (Crashed q) e place = λ i. least_of (place i) false false false false (crash_same q e i) false
  least_same line e place = λ i. least_of (place i) false false false false false false

-- what is kept tells the least rule that a line breaks
pub rule_same : (past : List Line) (k : Kept) (line : Line) → StandsFor past k → kept.rule_by k line ≡ said.broken past line
unfolding said.broken
rule_same past k line s = go (said.is_out_of_place past line) refl
  where
    go : (b : Bool) → said.is_out_of_place past line ≡ b → kept.rule_by k line ≡ said.first_broken 0 (said.rules past line)
    go true e = let both = place_same past k line s ∙ e in
        ap (λ b. least_of b (kept.breaks_prefix k line) (kept.is_after_close k line) (kept.is_not_proposed k line) (kept.is_of_too_many k line) (kept.is_after_crash k line) (kept.is_proposed_twice k line)) both
        ∙ sym (ap (λ b. least_of b (said.breaks_prefix past line) (said.is_after_close past line) (said.is_not_proposed past line) (said.is_of_too_many past line) (said.is_after_crash past line) (said.is_proposed_twice past line)) e)
    go false e =
        let range : said.names_below (length k.nodes.items) line ≡ true = ap (λ n. said.names_below n line) s.size ∙ in_range past line e in
        least_same past k s line range (place_same past k line s)
