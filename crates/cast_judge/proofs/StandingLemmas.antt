-- What is kept after a line stands for the lines with that line.
use Rattle.std.proofs.Common.{◌≡◌, ◌≢◌, ℕ, ◌+◌, ◌^◌, ◌<◌, ◌≤◌, ◌&&◌, ◌||◌, not, Bool, true, false, cond, nat_eq, List, [], ◌∷◌, ◌++◌, length, slice_set, slice_get, slice_index, replicate, Some, None, refl, sym, ap, subst, ◌∙◌, arith, append-nil, length-append, length-set, get_or-set_other, inl, inr}
use Rattle.std.specs.List.{list_any, filter}
use Rattle.std.proofs.lemmas.List.Sums.{length-filter, count_by-le-length}
use Rattle.std.proofs.lemmas.Bool.Decides.{nat_tests, leb_tells}
use Rattle.std.proofs.lemmas.Option.{slice_get_past, slice_get-get_or}
use Rattle.std.proofs.Math.Seq.{get_or-append_seam}
use Rattle.std.proofs.lemmas.List.{get_or_append_left, length-replicate}
use Rattle.std.proofs.lemmas.Grind.{common_steps}
use Rattle.cast_message.proofs.Lists.{none_counted}
use Rattle.cast_message.proofs.Booleans.{and_false, chosen, or_false}
use Rattle.cast_message.specs.declared.message.Item.{Item}
use Rattle.cast_message.specs.declared.message.Item.TheVariants.{Propose}
use Rattle.cast_message.specs.declared.message.Message.{Message}
use Rattle.cast_message.specs.declared.message.Decision.{Decision}
use Rattle.cast_message.specs.Items.{is_close, proposes_in}
use Rattle.cast_record.specs.declared.line.Line.{Line}
use Rattle.cast_record.specs.declared.line.Line.TheVariants.{Head, Head2, Broadcast, Delivered, Decided, Crashed, Refused, End}
use Rattle.cast_record.specs.Ranges.{IsWithin}
use Rattle.cast_record.specs.Rules as said
use Rattle.cast_judge.specs.Candidates.{is_for, is_decided, count_decided}
use Rattle.cast_judge.specs.declared.instances.Instance.{Instance}
use Rattle.cast_judge.specs.declared.instances.Addition.TheVariants as adds
use Rattle.cast_judge.specs.declared.kept_node.KeptNode.{KeptNode}
use Rattle.cast_judge.specs.declared.kept.Kept.{Kept}
use Rattle.cast_judge.specs.Kept as kept
use Rattle.cast_judge.specs.Stands.{items_in, items_of, StandsFor, StandsForNode, StandsForInstance}
use Rattle.cast_judge.proofs.TestLemmas.{same_number, other_number, test_swaps, not_false}
use Rattle.cast_judge.proofs.CandidateLemmas.{list_any-push, proposed_has, proposed_decided, proposed_count, decision_has, decision_decided, decision_count}
use Rattle.cast_judge.proofs.RuleLemmas.{items_counted, head_first, value_count}

-- ---- what a line adds to a node

abbrev counts_in : Line → ℕ → List ℕ → List ℕ
counts_in (Delivered q m) p counts = cond (nat_eq q p) (slice_set counts m.sender (kept.one_more (slice_index counts m.sender))) counts
counts_in line p counts = counts

abbrev added : Line → ℕ → KeptNode → KeptNode
added line p node = record {
  items = node.items ++ items_in line p;
  closed = said.is_broadcast (λ m. nat_eq m.sender p && is_close m.item) line || node.closed;
  crashed = said.is_crash p line || node.crashed;
  delivered = counts_in line p node.delivered;
}

set_here : (nodes : List KeptNode) (p : ℕ) (node : KeptNode) → p < length nodes → kept.node_at (slice_set nodes p node) p ≡ node
set_here nodes p node within = grind (arith, common_steps)

set_there : (nodes : List KeptNode) (q p : ℕ) (node : KeptNode) → nat_eq q p ≡ false → kept.node_at (slice_set nodes q node) p ≡ kept.node_at nodes p
set_there nodes q p node e = let other : p ≢ q = (λ h. other_number q p e (sym h)) in get_or-set_other nodes q p node kept.nobody other

-- the node at p, where the node at q was written
set_at : (nodes : List KeptNode) (q p : ℕ) (f : KeptNode → KeptNode) (g : Bool → KeptNode → KeptNode) → p < length nodes
    → ((node : KeptNode) → f node ≡ g true node) → ((node : KeptNode) → node ≡ g false node)
    → kept.node_at (slice_set nodes q (f (kept.node_at nodes q))) p ≡ g (nat_eq q p) (kept.node_at nodes p)
set_at nodes q p f g within here there = go (nat_eq q p) refl
  where
    go : (b : Bool) → nat_eq q p ≡ b → kept.node_at (slice_set nodes q (f (kept.node_at nodes q))) p ≡ g b (kept.node_at nodes p)
    go true e =
        let same = same_number q p e in
        ap (λ r. kept.node_at (slice_set nodes r (f (kept.node_at nodes r))) p) same ∙ set_here nodes p (f (kept.node_at nodes p)) within ∙ here (kept.node_at nodes p)
    go false e = set_there nodes q p (f (kept.node_at nodes q)) e ∙ there (kept.node_at nodes p)

with_nothing : (node : KeptNode) → node ≡ record node { items = node.items ++ [] }
with_nothing node = λ i. record node { items = sym (append-nil node.items) i }

pub node_added : (nodes : List KeptNode) (line : Line) (p : ℕ) → said.is_head line ≡ false → p < length nodes → kept.node_at (kept.nodes_after nodes line) p ≡ added line p (kept.node_at nodes p)
node_added nodes (Head n f k) p e within = absurd (cc)
node_added nodes (Head2 n f k mode) p e within = absurd (cc)
node_added nodes (Broadcast m) p e within =
    set_at nodes m.sender p (λ node. kept.with_item node m.item)
    (λ b node. record node { items = node.items ++ cond b (m.item ∷ []) []; closed = (b && is_close m.item) || node.closed })
    within (λ node. refl) with_nothing
node_added nodes (Delivered q m) p e within =
    set_at nodes q p (λ node. kept.with_delivery node m.sender)
    (λ b node. record node { items = node.items ++ []; delivered = cond b (slice_set node.delivered m.sender (kept.one_more (slice_index node.delivered m.sender))) node.delivered })
    within (λ node. with_nothing (kept.with_delivery node m.sender)) with_nothing
node_added nodes (Crashed q) p e within =
    set_at nodes q p kept.with_crash (λ b node. record node { items = node.items ++ []; crashed = b || node.crashed })
    within (λ node. with_nothing (kept.with_crash node)) with_nothing
node_added nodes line p e within = with_nothing (kept.node_at nodes p)

-- ---- how many were delivered

few_delivered : (past : List Line) (q s : ℕ) → said.deliveries_of past q s ≤ length past
unfolding said.deliveries_of
few_delivered past q s = let e = length-filter (said.is_delivery q s) past in let l = count_by-le-length (said.is_delivery q s) past in omega (arith, e, l)

counted_here : (counts : List ℕ) (t s c : ℕ) → t ≡ s → s < length counts → slice_index counts s ≡ c → c < 2 ^ 63 → slice_index (slice_set counts t (kept.one_more (slice_index counts t))) s ≡ c + 1
counted_here counts t s c same within is small =
    let written : slice_index (slice_set counts s (kept.one_more (slice_index counts s))) s ≡ kept.one_more (slice_index counts s) = grind (arith, common_steps) in
    let room : kept.one_more c ≡ c + 1 = grind arith in
    ap (λ r. slice_index (slice_set counts r (kept.one_more (slice_index counts r))) s) same ∙ written ∙ ap kept.one_more is ∙ room

counted_there : (counts : List ℕ) (t s v : ℕ) → nat_eq t s ≡ false → slice_index (slice_set counts t v) s ≡ slice_index counts s
counted_there counts t s v e = let other : s ≢ t = (λ h. other_number t s e (sym h)) in get_or-set_other counts t s v 0 other

count_on : (a b : Bool) (line : Line) (lines : List Line) → length (cond (a && b) (line ∷ lines) lines) ≡ cond a (cond b (length lines + 1) (length lines)) (length lines)
count_on true true line lines = omega arith
count_on a b line lines = refl

delivered_added : (past : List Line) (line : Line) (p : ℕ) (counts : List ℕ) → length past < 2 ^ 63 → length counts ≡ 64 → ((s : ℕ) → s < 64 → slice_index counts s ≡ said.deliveries_of past p s)
    → (s : ℕ) → s < 64 → slice_index (counts_in line p counts) s ≡ said.deliveries_of (line ∷ past) p s
unfolding said.deliveries_of
delivered_added past (Delivered q m) p counts short room h s within =
    go (nat_eq q p) (nat_eq m.sender s) refl ∙ sym (count_on (nat_eq q p) (nat_eq m.sender s) (Delivered q m) (filter (said.is_delivery p s) past))
  where
    few : said.deliveries_of past p s < 2 ^ 63
    few = omega (arith, few_delivered past p s)

    go : (a b : Bool) → nat_eq m.sender s ≡ b → slice_index (cond a (slice_set counts m.sender (kept.one_more (slice_index counts m.sender))) counts) s ≡ cond a (cond b (said.deliveries_of past p s + 1) (said.deliveries_of past p s)) (said.deliveries_of past p s)
    go true true e = counted_here counts m.sender s (said.deliveries_of past p s) (same_number m.sender s e) (omega arith) (h s within) few
    go true false e = counted_there counts m.sender s (kept.one_more (slice_index counts m.sender)) e ∙ h s within
    go false b e = h s within
delivered_added past line p counts short room h s within = h s within

room_added : (line : Line) (p : ℕ) (counts : List ℕ) → length counts ≡ 64 → length (counts_in line p counts) ≡ 64
room_added (Delivered q m) p counts room = go (nat_eq q p)
  where
    go : (b : Bool) → length (cond b (slice_set counts m.sender (kept.one_more (slice_index counts m.sender))) counts) ≡ 64
    go true = length-set counts m.sender (kept.one_more (slice_index counts m.sender)) ∙ room
    go false = room
room_added line p counts room = room

pub node_on : (past : List Line) (line : Line) (p : ℕ) (node : KeptNode) → length past < 2 ^ 63 → StandsForNode past p node → StandsForNode (line ∷ past) p (added line p node)
unfolding items_of said.has_closed said.has_crashed
node_on past line p node short h = record {
  items = ap (λ items. items ++ items_in line p) h.items;
  closed = ap (λ b. said.is_broadcast (λ m. nat_eq m.sender p && is_close m.item) line || b) h.closed;
  crashed = ap (λ b. said.is_crash p line || b) h.crashed;
  room = room_added line p node.delivered h.room;
  delivered = delivered_added past line p node.delivered short h.room h.delivered;
}

-- ---- instances

proposal_on : (past : List Line) (m : Message) (j w q : ℕ) (instance : Instance) → m.item ≡ Propose j w → StandsForInstance past q instance → StandsForInstance (Broadcast m ∷ past) q (kept.item_changes m.sender (Propose j w) q instance)
unfolding said.has_proposed said.is_proposed said.values_in
proposal_on past m j w q instance is h = go (nat_eq q j) refl
  where
    by : (p : ℕ) (b : Bool) → nat_eq q j ≡ b → said.is_broadcast (λ m. nat_eq m.sender p && proposes_in q m.item) (Broadcast m) ≡ (nat_eq m.sender p && b)
    by p b e = ap (λ item. nat_eq m.sender p && proposes_in q item) is ∙ ap (λ b. nat_eq m.sender p && b) (test_swaps j q ∙ e)

    for : (v : ℕ) (b : Bool) → nat_eq q j ≡ b → said.is_broadcast (λ m. said.proposes q v m.item) (Broadcast m) ≡ (b && nat_eq w v)
    for v b e = ap (λ item. said.proposes q v item) is ∙ ap (λ b. b && nat_eq w v) (test_swaps j q ∙ e)

    and_true : (b : Bool) → (b && true) ≡ b
    and_true true = refl
    and_true false = refl

    go : (b : Bool) → nat_eq q j ≡ b → StandsForInstance (Broadcast m ∷ past) q (cond b (kept.changed instance (adds.Proposed (record { node = m.sender; value = w }))) instance)
    go true e = record {
      proposed = λ p. list_any-push (λ other. nat_eq other p) instance.proposers m.sender
          ∙ ap (λ b. nat_eq m.sender p || b) (h.proposed p)
          ∙ sym (ap (λ b. b || said.has_proposed past p q) (by p true e ∙ and_true (nat_eq m.sender p)));
      values = λ v. proposed_has instance.candidates w v
          ∙ ap (λ b. nat_eq w v || b) (h.values v)
          ∙ sym (ap (λ b. b || said.is_proposed past q v) (for v true e));
      decided = λ v. proposed_decided instance.candidates w v ∙ h.decided v;
      count = proposed_count instance.candidates w ∙ h.count;
    }
    go false e = record {
      proposed = λ p. h.proposed p ∙ sym (ap (λ b. b || said.has_proposed past p q) (by p false e ∙ and_false (nat_eq m.sender p)));
      values = λ v. h.values v ∙ sym (ap (λ b. b || said.is_proposed past q v) (for v false e));
      decided = h.decided;
      count = h.count;
    }

-- an item that proposes nothing
silent_on : (past : List Line) (m : Message) (q : ℕ) (instance : Instance) → ((j : ℕ) → proposes_in j m.item ≡ false) → ((j v : ℕ) → said.proposes j v m.item ≡ false) → StandsForInstance past q instance → StandsForInstance (Broadcast m ∷ past) q instance
unfolding said.has_proposed said.is_proposed said.values_in
silent_on past m q instance none never h = record {
  proposed = λ p. h.proposed p ∙ sym (ap (λ b. b || said.has_proposed past p q) (ap (λ b. nat_eq m.sender p && b) (none q) ∙ and_false (nat_eq m.sender p)));
  values = λ v. h.values v ∙ sym (ap (λ b. b || said.is_proposed past q v) (never q v));
  decided = h.decided;
  count = h.count;
}

broadcast_on : (past : List Line) (m : Message) (item : Item) (q : ℕ) (instance : Instance) → m.item ≡ item → StandsForInstance past q instance → StandsForInstance (Broadcast m ∷ past) q (kept.item_changes m.sender item q instance)
broadcast_on past m (Propose j w) q instance is h = proposal_on past m j w q instance is h
broadcast_on past m item q instance is h = silent_on past m q instance (λ j. ap (proposes_in j) is) (λ j v. ap (said.proposes j v) is) h

decision_on : (past : List Line) (p : ℕ) (d : Decision) (q : ℕ) (instance : Instance) → said.is_proposed past d.instance d.value ≡ true → StandsForInstance past q instance → StandsForInstance (Decided p d ∷ past) q (kept.changed_at d.instance (adds.Decided d.value) q instance)
unfolding said.has_proposed said.is_proposed said.values_in
decision_on past p d q instance was h = go (nat_eq q d.instance) (nat_eq d.instance q) refl (test_swaps q d.instance)
  where
    go : (a b : Bool) → nat_eq d.instance q ≡ b → a ≡ nat_eq d.instance q → StandsForInstance (Decided p d ∷ past) q (cond a (kept.changed instance (adds.Decided d.value)) instance)
    go true true e f = record {
      proposed = h.proposed;
      values = λ w. decision_has instance.candidates d.value w ∙ h.values w;
      decided = λ w. decision_decided instance.candidates d.value w known ∙ ap (λ b. nat_eq d.value w || b) (h.decided w) ∙ sym (ap (λ vs. kept.has_value vs w) taken);
      count = decision_count instance.candidates d.value known
          ∙ value_count (is_decided instance.candidates d.value) (kept.has_value (said.values_in past q) d.value) (count_decided instance.candidates) d.value (said.different (said.values_in past q)) (h.decided d.value) h.count
          ∙ sym (ap (λ vs. length (said.different vs)) taken);
    }
      where
        known : list_any (is_for d.value) instance.candidates ≡ true
        known = h.values d.value ∙ ap (λ j. said.is_proposed past j d.value) (sym (same_number d.instance q e)) ∙ was

        taken : said.values_in (Decided p d ∷ past) q ≡ d.value ∷ said.values_in past q
        taken = rw e refl
    go false false e f = record {
      proposed = h.proposed;
      values = h.values;
      decided = λ w. h.decided w ∙ sym (ap (λ vs. kept.has_value vs w) (left e));
      count = h.count ∙ sym (ap (λ vs. length (said.different vs)) (left e));
    }
      where
        left : nat_eq d.instance q ≡ false → said.values_in (Decided p d ∷ past) q ≡ said.values_in past q
        left e = rw e refl
    go a b e f = absurd (cc)

pub instance_on : (past : List Line) (line : Line) (q : ℕ) (instance : Instance) → said.is_not_proposed past line ≡ false → StandsForInstance past q instance → StandsForInstance (line ∷ past) q (kept.instance_after line q instance)
unfolding said.has_proposed said.is_proposed said.values_in
instance_on past (Broadcast m) q instance sound h = broadcast_on past m m.item q instance refl h
instance_on past (Decided p d) q instance sound h = decision_on past p d q instance (not_false (said.is_proposed past d.instance d.value) sound) h
instance_on past line q instance sound h = record { proposed = h.proposed; values = h.values; decided = h.decided; count = h.count }

-- ---- the item of each number

got_here : (items : List Item) (item : Item) → slice_get (items ++ item ∷ []) (length items) ≡ Some item
got_here items item =
    slice_get-get_or (items ++ item ∷ []) (length items) item (omega (arith, length-append items (item ∷ []))) ∙ ap Some (get_or-append_seam items item [] item)

got_there : (items : List Item) (item : Item) (i : ℕ) → i ≢ length items → slice_get (items ++ item ∷ []) i ≡ slice_get items i
got_there items item i other = elim (leb_tells (length items) i) [ inl l ↦ past l.1 | inr l ↦ within l.1 ]
  where
    within : i < length items → slice_get (items ++ item ∷ []) i ≡ slice_get items i
    within l =
        slice_get-get_or (items ++ item ∷ []) i item (omega (arith, length-append items (item ∷ [])))
        ∙ ap Some (get_or_append_left items (item ∷ []) item i l) ∙ sym (slice_get-get_or items i item l)

    past : length items ≤ i → slice_get (items ++ item ∷ []) i ≡ slice_get items i
    past l =
        let beyond : length items + 1 ≤ i = apart (length items) i l other in
        slice_get_past (items ++ item ∷ []) i (omega (arith, length-append items (item ∷ []))) ∙ sym (slice_get_past items i l)
      where
        apart : (m n : ℕ) → m ≤ n → n ≢ m → m + 1 ≤ n
        apart m n l other = grind arith

got_none : (items : List Item) → slice_get items (length items) ≡ None
got_none items = slice_get_past items (length items) (omega arith)

broadcast_numbered : (past : List Line) (b m : Message) → b.number ≡ length (items_of past b.sender) → said.has_broadcast past m ≡ kept.has_item (items_of past m.sender) m.number m.item
    → (said.is_message b m || said.has_broadcast past m) ≡ kept.has_item (items_of past m.sender ++ items_in (Broadcast b) m.sender) m.number m.item
broadcast_numbered past b m number h = go (nat_eq b.sender m.sender) refl (nat_eq b.number m.number) refl
  where
    items : List Item
    items = items_of past m.sender

    go : (c : Bool) → nat_eq b.sender m.sender ≡ c → (d : Bool) → nat_eq b.number m.number ≡ d
        → (c && d && said.is_item b.item m.item || said.has_broadcast past m) ≡ kept.has_item (items_of past m.sender ++ cond c (b.item ∷ []) []) m.number m.item
    go false e d f = h ∙ sym (ap (λ items. kept.has_item items m.number m.item) (append-nil (items_of past m.sender)))
    go true e true f =
        let place : m.number ≡ length (items_of past m.sender) = sym (same_number b.number m.number f) ∙ number ∙ ap (λ p. length (items_of past p)) (same_number b.sender m.sender e) in
        let none : said.has_broadcast past m ≡ false = h ∙ ap (λ i. kept.has_item (items_of past m.sender) i m.item) place ∙ ap (λ o. kept.is_same o m.item) (got_none (items_of past m.sender)) in
        let here : kept.has_item (items_of past m.sender ++ b.item ∷ []) m.number m.item ≡ said.is_item b.item m.item = ap (λ i. kept.has_item (items_of past m.sender ++ b.item ∷ []) i m.item) place ∙ ap (λ o. kept.is_same o m.item) (got_here (items_of past m.sender) b.item) in
        ap (λ c. said.is_item b.item m.item || c) none ∙ or_false (said.is_item b.item m.item) ∙ sym here
    go true e false f =
        let place : b.number ≡ length (items_of past m.sender) = number ∙ ap (λ p. length (items_of past p)) (same_number b.sender m.sender e) in
        let other : m.number ≢ length (items_of past m.sender) = (λ g. other_number b.number m.number f (place ∙ sym g)) in
        h ∙ sym (ap (λ o. kept.is_same o m.item) (got_there (items_of past m.sender) b.item m.number other))

number_sound : (m n : ℕ) → not (nat_eq m n) ≡ false → m ≡ n
number_sound m n e = grind (arith, nat_tests)

pub numbered_on : (past : List Line) (line : Line) → said.breaks_prefix past line ≡ false → ((m : Message) → said.has_broadcast past m ≡ kept.has_item (items_of past m.sender) m.number m.item)
    → (m : Message) → said.has_broadcast (line ∷ past) m ≡ kept.has_item (items_of (line ∷ past) m.sender) m.number m.item
unfolding said.has_broadcast items_of
numbered_on past (Broadcast b) sound h m = broadcast_numbered past b m (number_sound b.number (said.broadcasts_of past b.sender) sound ∙ sym (items_counted past b.sender)) (h m)
numbered_on past line sound h m = h m ∙ sym (ap (λ items. kept.has_item items m.number m.item) (append-nil (items_of past m.sender)))

-- ---- all that is kept

-- what holds of each kind of line but a head
for_body : (P : Line → Type 0) → ((m : Message) → P (Broadcast m)) → ((q : ℕ) (m : Message) → P (Delivered q m)) → ((q : ℕ) (d : Decision) → P (Decided q d)) → ((q : ℕ) → P (Crashed q)) → ((i c : ℕ) → P (Refused i c)) → P End
    → (line : Line) → said.is_head line ≡ false → P line
for_body P b d v x r end (Broadcast m) e = b m
for_body P b d v x r end (Delivered q m) e = d q m
for_body P b d v x r end (Decided q c) e = v q c
for_body P b d v x r end (Crashed q) e = x q
for_body P b d v x r end (Refused i c) e = r i c
for_body P b d v x r end End e = end
for_body P b d v x r end line e = absurd (cc)

group_on : (past : List Line) (line : Line) → said.is_head line ≡ false → said.group_of (line ∷ past) ≡ said.group_of past
unfolding said.group_of
group_on past = for_body (λ line. said.group_of (line ∷ past) ≡ said.group_of past) (λ m. refl) (λ q m. refl) (λ q d. refl) (λ q. refl) (λ i c. refl) refl

faults_on : (faults : ℕ) (line : Line) → said.is_head line ≡ false → kept.faults_after faults line ≡ faults
faults_on faults = for_body (λ line. kept.faults_after faults line ≡ faults) (λ m. refl) (λ q m. refl) (λ q d. refl) (λ q. refl) (λ i c. refl) refl

choices_on : (choices : ℕ) (line : Line) → said.is_head line ≡ false → kept.choices_after choices line ≡ choices
choices_on choices = for_body (λ line. kept.choices_after choices line ≡ choices) (λ m. refl) (λ q m. refl) (λ q d. refl) (λ q. refl) (λ i c. refl) refl

size_on : (nodes : List KeptNode) (line : Line) → said.is_head line ≡ false → length (kept.nodes_after nodes line) ≡ length nodes
size_on nodes = for_body (λ line. length (kept.nodes_after nodes line) ≡ length nodes)
    (λ m. length-set nodes m.sender (kept.with_item (kept.node_at nodes m.sender) m.item))
    (λ q m. length-set nodes q (kept.with_delivery (kept.node_at nodes q) m.sender))
    (λ q d. refl)
    (λ q. length-set nodes q (kept.with_crash (kept.node_at nodes q)))
    (λ i c. refl)
    refl

-- a line that is no head
pub body_on : (past : List Line) (line : Line) (old new : Kept) → said.is_head line ≡ false → length past < 2 ^ 63 → said.breaks_prefix past line ≡ false → said.is_not_proposed past line ≡ false → StandsFor past old → kept.Keeps old new line → StandsFor (line ∷ past) new
body_on past line old new plain short sound proposed h k = record {
  stage = k.stage;
  faults = k.faults ∙ faults_on old.faults line plain ∙ h.faults ∙ ap (λ (g : said.Group). g.faults) (sym (group_on past line plain));
  choices = k.choices ∙ choices_on old.choices line plain ∙ h.choices ∙ ap (λ (g : said.Group). g.choices) (sym (group_on past line plain));
  size = same_size ∙ h.size ∙ ap (λ (g : said.Group). g.nodes) (sym (group_on past line plain));
  few = omega (arith, same_size, h.few);
  nodes = λ p within. one p (omega (arith, same_size));
  numbered = numbered_on past line sound h.numbered;
  instances = λ j. subst (StandsForInstance (line ∷ past) j) (sym (k.instances j)) (instance_on past line j (kept.instance_at old.instances j) proposed (h.instances j));
}
  where
    same_size : length new.nodes.items ≡ length old.nodes.items
    same_size = ap length k.nodes ∙ size_on old.nodes.items line plain

    one : (p : ℕ) → p < length old.nodes.items → StandsForNode (line ∷ past) p (kept.node_at new.nodes.items p)
    one p within =
        let is = ap (λ nodes. kept.node_at nodes p) k.nodes ∙ node_added old.nodes.items line p plain within in
        subst (StandsForNode (line ∷ past) p) (sym is) (node_on past line p (kept.node_at old.nodes.items p) short (h.nodes p within))

-- ---- a head

-- what is kept of a node of which nothing was said
fresh_node : (head : Line) (p : ℕ) → said.is_head head ≡ true → StandsForNode (head ∷ []) p kept.nobody
unfolding items_of said.has_closed said.has_crashed said.deliveries_of
fresh_node (Head n f k) p e = record { items = refl; closed = refl; crashed = refl; room = refl; delivered = λ s within. none_counted 64 s }
fresh_node (Head2 n f k mode) p e = record { items = refl; closed = refl; crashed = refl; room = refl; delivered = λ s within. none_counted 64 s }
fresh_node line p e = absurd (cc)

fresh_at : (n p : ℕ) → p < n → kept.node_at (replicate n kept.nobody) p ≡ kept.nobody
fresh_at n p within = grind (arith, common_steps)

-- the head's numbers
pub record IsHeadOf (head : Line) (n f k : ℕ) : Type 0 where
  pub is : said.is_head head ≡ true
  pub plain : said.breaks_prefix [] head ≡ false
  pub proposed : said.is_not_proposed [] head ≡ false
  pub group : said.group_of (head ∷ []) ≡ record { nodes = n; faults = f; choices = k }
  pub few : n ≤ 64
  pub nodes : (nodes : List KeptNode) → kept.nodes_after nodes head ≡ replicate n kept.nobody
  pub faults : (faults : ℕ) → kept.faults_after faults head ≡ f
  pub choices : (choices : ℕ) → kept.choices_after choices head ≡ k

opened : (head : Line) (n f k : ℕ) (old new : Kept) → IsHeadOf head n f k → StandsFor [] old → kept.Keeps old new head → StandsFor (head ∷ []) new
opened head n f k old new h s w = record {
  stage = w.stage;
  faults = w.faults ∙ h.faults old.faults ∙ ap (λ (g : said.Group). g.faults) (sym h.group);
  choices = w.choices ∙ h.choices old.choices ∙ ap (λ (g : said.Group). g.choices) (sym h.group);
  size = size ∙ ap (λ (g : said.Group). g.nodes) (sym h.group);
  few = omega (arith, size, h.few);
  nodes = λ p within. one p (omega (arith, size));
  numbered = numbered_on [] head h.plain s.numbered;
  instances = λ j. subst (StandsForInstance (head ∷ []) j) (sym (w.instances j)) (instance_on [] head j (kept.instance_at old.instances j) h.proposed (s.instances j));
}
  where
    all : new.nodes.items ≡ replicate n kept.nobody
    all = w.nodes ∙ h.nodes old.nodes.items

    size : length new.nodes.items ≡ n
    size = ap length all ∙ length-replicate n kept.nobody

    one : (p : ℕ) → p < n → StandsForNode (head ∷ []) p (kept.node_at new.nodes.items p)
    one p within = subst (StandsForNode (head ∷ []) p) (sym (ap (λ nodes. kept.node_at nodes p) all ∙ fresh_at n p within)) (fresh_node head p h.is)

head_on : (line : Line) (old new : Kept) → said.is_head line ≡ true → IsWithin line → StandsFor [] old → kept.Keeps old new line → StandsFor (line ∷ []) new
unfolding said.group_of
head_on (Head n f k) old new e h s w = opened (Head n f k) n f k old new (record { is = refl; plain = refl; proposed = refl; group = refl; few = omega (arith, h.1); nodes = λ nodes. refl; faults = λ faults. refl; choices = λ choices. refl }) s w
head_on (Head2 n f k mode) old new e h s w = opened (Head2 n f k mode) n f k old new (record { is = refl; plain = refl; proposed = refl; group = refl; few = h.0.1; nodes = λ nodes. refl; faults = λ faults. refl; choices = λ choices. refl }) s w
head_on line old new e h s w = absurd (cc)

-- ---- a line that breaks no rule

-- rules 0, 1 and 3
record IsSound (past : List Line) (line : Line) : Type 0 where
  placed : said.is_out_of_place past line ≡ false
  prefix : said.breaks_prefix past line ≡ false
  proposed : said.is_not_proposed past line ≡ false

sound_line : (past : List Line) (line : Line) → said.broken past line ≡ None → IsSound past line
unfolding said.broken
sound_line past line e =
    let fourth = said.is_of_too_many past line ∷ said.is_after_crash past line ∷ said.is_proposed_twice past line ∷ [] in
    let third = said.is_not_proposed past line ∷ fourth in
    let second = said.is_after_close past line ∷ third in
    let a = chosen (said.is_out_of_place past line) 0 (said.first_broken 1 (said.breaks_prefix past line ∷ second)) e in
    let b = chosen (said.breaks_prefix past line) 1 (said.first_broken 2 second) a.1 in
    let c = chosen (said.is_after_close past line) 2 (said.first_broken 3 third) b.1 in
    let d = chosen (said.is_not_proposed past line) 3 (said.first_broken 4 fourth) c.1 in
    record { placed = a.0; prefix = b.0; proposed = d.0 }

pub stands_on : (past : List Line) (line : Line) (old new : Kept) → StandsFor past old → length past < 2 ^ 63 → IsWithin line → said.broken past line ≡ None → kept.Keeps old new line → StandsFor (line ∷ past) new
stands_on past line old new s short within sound w = go (said.is_head line) refl (sound_line past line sound)
  where
    go : (b : Bool) → said.is_head line ≡ b → IsSound past line → StandsFor (line ∷ past) new
    go true e parts =
        let none = head_first past line parts.placed e in
        subst (λ past. StandsFor (line ∷ past) new) (sym none) (head_on line old new e within (subst (λ past. StandsFor past old) none s) w)
    go false e parts = body_on past line old new e short parts.prefix parts.proposed s w

-- nothing was read
pub stands_for_none : (k : Kept) → kept.IsNew k → StandsFor [] k
unfolding said.group_of said.has_broadcast items_of said.has_proposed said.is_proposed said.values_in
stands_for_none k h = record {
  stage = h.stage;
  faults = h.faults;
  choices = h.choices;
  size = ap length h.nodes;
  few = omega (arith, ap length h.nodes);
  nodes = λ p within. absurd (omega (arith, ap length h.nodes));
  numbered = λ m. refl;
  instances = λ j. subst (StandsForInstance [] j) (sym (h.instances j)) (record { proposed = λ p. refl; values = λ w. refl; decided = λ w. refl; count = refl });
}
