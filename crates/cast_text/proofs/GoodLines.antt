-- How lines that break no rule follow one another, and what they say then.
use Rattle.std.proofs.Common.{◌≡◌, ℕ, zero, suc, ◌+◌, ◌-◌, ◌^◌, ◌<◌, ◌≤◌, ◌&&◌, ◌||◌, not, Bool, true, false, cond, nat_eq, List, [], ◌∷◌, ◌++◌, append_assoc, append-nil, length, map, take, drop, Some, None, refl, sym, ap, subst, ◌∙◌, arith, inl, inr}
use Rattle.std.specs.Prelude.{slice_get, slice_range}
use Rattle.std.specs.List.{filter, cons_option}
use Rattle.std.proofs.lemmas.Option.{slice_get_within}
use Rattle.cast_message.proofs.Tests.{eq_same}
use Rattle.cast_message.proofs.Booleans.{chosen}
use Rattle.cast_message.specs.declared.config.Config.{Config}
use Rattle.cast_message.specs.declared.message.Item.{Item}
use Rattle.cast_message.specs.declared.message.Item.TheVariants.{Propose}
use Rattle.cast_message.specs.declared.message.Message.{Message}
use Rattle.cast_message.specs.declared.message.Decision.{Decision}
use Rattle.cast_model.specs.History.{numbered}
use Rattle.cast_model.specs.Headline as headline
use Rattle.cast_model.proofs.Members.{Member, here, there, Member-uncons, Member-slice_get}
use Rattle.cast_record.specs.declared.line.Line.{Line}
use Rattle.cast_record.specs.declared.line.Line.TheVariants.{Broadcast, Delivered, Decided, Crashed, Refused}
use Rattle.cast_record.specs.Ranges.{IsItemWithin, IsWithin}
use Rattle.cast_record.specs.Rules as said
use Rattle.cast_record.specs.Text.{line_text, record_text}
use Rattle.cast_record.proofs.ReadLemmas.{line_again}
use Rattle.cast_record.proofs.WordLemmas.{line_without_feed}
use Rattle.cast_record.specs.Verdicts.{with_line, kept_by}
use Rattle.cast_judge.specs.Judged.{verdict_of}
use Rattle.cast_judge.specs.Stands.{items_in, items_of}
use Rattle.cast_judge.proofs.StandingLemmas.{numbered_on}
use Rattle.cast_judge.proofs.TestLemmas.{same_number}
use Rattle.cast_judge.proofs.TextLemmas.{line_goes}
use Rattle.cast_record.proofs.WritingLemmas.{record_text-append}
use Rattle.cast_text.proofs.SaidSoFar.{Says, delivery_sound, decision_sound}

-- ---- lines that break no rule

pub record Goes (xs ls ys : List Line) : Type 0 where
  pub goes : (more : List ℕ) → verdict_of xs (record_text ls ++ more) ≡ verdict_of ys more

pub goes_none : (xs : List Line) → Goes xs [] xs
goes_none xs = record { goes = λ more. refl }

pub goes_one : (xs : List Line) (line : Line) → IsWithin line → said.broken xs line ≡ None → Goes xs (line ∷ []) (line ∷ xs)
goes_one xs line within sound = record {
  goes = λ more.
      ap (verdict_of xs) (ap (λ t. t ++ more) (append-nil (line_text line ++ 10 ∷ [])) ∙ append_assoc (line_text line) (10 ∷ []) more)
      ∙ line_goes xs (line ∷ xs) (line_text line) more (line_without_feed line within) (ap (with_line xs) (line_again line within) ∙ ap (kept_by xs line) sound);
}

pub goes_then : (xs ls ys ms zs : List Line) → Goes xs ls ys → Goes ys ms zs → Goes xs (ls ++ ms) zs
goes_then xs ls ys ms zs g h = record {
  goes = λ more.
      ap (λ t. verdict_of xs (t ++ more)) (record_text-append ls ms) ∙ ap (verdict_of xs) (append_assoc (record_text ls) (record_text ms) more)
      ∙ g.goes (record_text ms ++ more) ∙ h.goes more;
}

-- ---- what the lines say with one more

prefix_kept : (xs : List Line) (line : Line) → said.broken xs line ≡ None → said.breaks_prefix xs line ≡ false
unfolding said.broken
prefix_kept xs line e =
    let others = said.first_broken 2 (said.is_after_close xs line ∷ said.is_not_proposed xs line ∷ said.is_of_too_many xs line ∷ said.is_after_crash xs line ∷ said.is_proposed_twice xs line ∷ []) in
    (chosen (said.breaks_prefix xs line) 1 others (chosen (said.is_out_of_place xs line) 0 (cond (said.breaks_prefix xs line) (Some 1) others) e).1).0

-- the same facts in other words
pub says_as : (config : Config) (st st' : ℕ → List Item) (c c' : ℕ → ℕ → ℕ) (l l' : ℕ → Bool) (v v' : ℕ → List ℕ) (xs : List Line)
    → ((p : ℕ) → st p ≡ st' p) → ((q s : ℕ) → c q s ≡ c' q s) → ((p : ℕ) → l p ≡ l' p) → ((j w : ℕ) → Member w (v j) → Member w (v' j)) → Says config st c l v xs → Says config st' c' l' v' xs
says_as config st st' c c' l l' v v' xs a b d e h = record {
  goes_on = h.goes_on;
  some = h.some;
  group = h.group;
  items = λ p. h.items p ∙ a p;
  numbered = h.numbered;
  delivered = λ q s. h.delivered q s ∙ b q s;
  crashed = λ p. h.crashed p ∙ ap not (d p);
  decided = λ j w m. e j w (h.decided j w m);
}

-- what holds with a line more that breaks no rule
says_more : {config : Config} {st st' : ℕ → List Item} {c c' : ℕ → ℕ → ℕ} {l l' : ℕ → Bool} {v v' : ℕ → List ℕ} (xs : List Line) (line : Line) → said.is_ended (line ∷ xs) ≡ false → said.group_of (line ∷ xs) ≡ said.group_of xs → said.broken xs line ≡ None → Says config st c l v xs
    → ((p : ℕ) → items_of (line ∷ xs) p ≡ st' p) → ((q s : ℕ) → said.deliveries_of (line ∷ xs) q s ≡ c' q s) → ((p : ℕ) → said.has_crashed (line ∷ xs) p ≡ not (l' p)) → ((j w : ℕ) → Member w (said.values_in (line ∷ xs) j) → Member w (v' j))
    → Says config st' c' l' v' (line ∷ xs)
says_more xs line open_yet same_group sound h items delivered crashed decided = record {
  goes_on = open_yet;
  some = omega arith;
  group = same_group ∙ h.group;
  items = items;
  numbered = numbered_on xs line (prefix_kept xs line sound) h.numbered;
  delivered = delivered;
  crashed = crashed;
  decided = decided;
}

pub says_broadcast : (config : Config) (st : ℕ → List Item) (c : ℕ → ℕ → ℕ) (l : ℕ → Bool) (v : ℕ → List ℕ) (xs : List Line) (m : Message) → said.broken xs (Broadcast m) ≡ None → Says config st c l v xs
    → Says config (λ p. st p ++ items_in (Broadcast m) p) c l v (Broadcast m ∷ xs)
unfolding said.group_of items_of said.deliveries_of said.has_crashed said.values_in
says_broadcast config st c l v xs m sound h =
    says_more xs (Broadcast m) refl refl sound h (λ p. ap (λ items. items ++ items_in (Broadcast m) p) (h.items p)) h.delivered h.crashed h.decided

abbrev pub one_if : Bool → ℕ → ℕ
one_if b n = cond b n 0

counted : (b : Bool) (line : Line) (lines : List Line) → length (cond b (line ∷ lines) lines) ≡ length lines + one_if b 1
counted true line lines = omega arith
counted false line lines = omega arith

pub says_delivery : (config : Config) (st : ℕ → List Item) (c : ℕ → ℕ → ℕ) (l : ℕ → Bool) (v : ℕ → List ℕ) (xs : List Line) (q : ℕ) (m : Message) → said.broken xs (Delivered q m) ≡ None → Says config st c l v xs
    → Says config st (λ q' s'. c q' s' + one_if (nat_eq q q' && nat_eq m.sender s') 1) l v (Delivered q m ∷ xs)
unfolding said.group_of items_of said.deliveries_of said.has_crashed said.values_in
says_delivery config st c l v xs q m sound h =
    says_more xs (Delivered q m) refl refl sound h (λ p. append-nil (items_of xs p) ∙ h.items p) (λ q' s'. counted (nat_eq q q' && nat_eq m.sender s') (Delivered q m) (filter (said.is_delivery q' s') xs) ∙ ap (λ n. n + one_if (nat_eq q q' && nat_eq m.sender s') 1) (h.delivered q' s')) h.crashed h.decided

pub says_decision : (config : Config) (st : ℕ → List Item) (c : ℕ → ℕ → ℕ) (l : ℕ → Bool) (v : ℕ → List ℕ) (xs : List Line) (q : ℕ) (d : Decision) → said.broken xs (Decided q d) ≡ None → Member d.value (v d.instance) → Says config st c l v xs
    → Says config st c l v (Decided q d ∷ xs)
unfolding said.group_of items_of said.deliveries_of said.has_crashed said.values_in
says_decision config st c l v xs q d sound among h =
    says_more xs (Decided q d) refl refl sound h (λ p. append-nil (items_of xs p) ∙ h.items p) h.delivered h.crashed (λ j w m. go j w (nat_eq d.instance j) refl m)
  where
    go : (j w : ℕ) (b : Bool) → nat_eq d.instance j ≡ b → Member w (cons_option (cond b (Some d.value) None) (said.values_in xs j)) → Member w (v j)
    go j w true e m = elim (Member-uncons w d.value (said.values_in xs j) m) [
      | inl same ↦ subst (λ k. Member w (v k)) (same_number d.instance j e) (subst (λ y. Member y (v d.instance)) (sym same) among)
      | inr later ↦ h.decided j w later
    ]
    go j w false e m = h.decided j w m

pub says_crash : (config : Config) (st : ℕ → List Item) (c : ℕ → ℕ → ℕ) (l : ℕ → Bool) (v : ℕ → List ℕ) (xs : List Line) (p : ℕ) → said.broken xs (Crashed p) ≡ None → Says config st c l v xs
    → Says config st c (λ p'. not (nat_eq p p' || not (l p'))) v (Crashed p ∷ xs)
unfolding said.group_of items_of said.deliveries_of said.has_crashed said.values_in
says_crash config st c l v xs p sound h =
    says_more xs (Crashed p) refl refl sound h (λ p. append-nil (items_of xs p) ∙ h.items p) h.delivered (λ p'. ap (λ b. nat_eq p p' || b) (h.crashed p') ∙ twice (nat_eq p p' || not (l p'))) h.decided
  where
    twice : (b : Bool) → b ≡ not (not b)
    twice true = refl
    twice false = refl

pub says_refusal : (config : Config) (st : ℕ → List Item) (c : ℕ → ℕ → ℕ) (l : ℕ → Bool) (v : ℕ → List ℕ) (xs : List Line) (i code : ℕ) → said.broken xs (Refused i code) ≡ None → Says config st c l v xs
    → Says config st c l v (Refused i code ∷ xs)
unfolding said.group_of items_of said.deliveries_of said.has_crashed said.values_in
says_refusal config st c l v xs i code sound h =
    says_more xs (Refused i code) refl refl sound h (λ p. append-nil (items_of xs p) ∙ h.items p) h.delivered h.crashed h.decided

-- ---- the ranges of what is written

-- the streams are within the limits
pub record AreWithin (st : ℕ → List Item) : Type 0 where
  pub short : (p : ℕ) → length (st p) ≤ 4096
  pub items : (p : ℕ) (item : Item) → Member item (st p) → IsItemWithin item

-- some lines follow, and what is said then
pub record Follows (config : Config) (st : ℕ → List Item) (c : ℕ → ℕ → ℕ) (l : ℕ → Bool) (v : ℕ → List ℕ) (xs ls : List Line) : Type 0 where
  pub lines : List Line
  pub goes : Goes xs ls lines
  pub says : Says config st c l v lines

-- ---- deliveries

-- the messages are those of s from number a on
abbrev pub AreNext : List Item → ℕ → ℕ → List Message → Type 0
AreNext items s a [] = Unit {0}
AreNext items s a (m ∷ ms) = (m.sender ≡ s) × (m.number ≡ a) × (slice_get items a ≡ Some m.item) × AreNext items s (suc a) ms

small_node : (config : Config) (p : ℕ) → p < config.nodes → p < 256
small_node config p node = omega (arith, config.nodes_in_range)

rebuilt : (m : Message) (s a : ℕ) → m.sender ≡ s → m.number ≡ a → m ≡ (let n : Message = record { sender = s; number = a; item = m.item } in n)
rebuilt m s a e f = λ i. record { sender = e i; number = f i; item = m.item }

more_counts : (b : Bool) (n : ℕ) (c : ℕ) → c + one_if b 1 + one_if b n ≡ c + one_if b (suc n)
more_counts true n c = omega arith
more_counts false n c = omega arith

no_counts : (b : Bool) (c : ℕ) → c ≡ c + one_if b 0
no_counts true c = omega arith
no_counts false c = omega arith

pub deliver_all : (config : Config) (st : ℕ → List Item) (c : ℕ → ℕ → ℕ) (l : ℕ → Bool) (v : ℕ → List ℕ) (xs : List Line) (q s a : ℕ) (news : List Message) → AreWithin st → q < config.nodes → s < config.nodes → l q ≡ true → a ≡ c q s → AreNext (st s) s a news
    → Says config st c l v xs → Follows config st (λ q' s'. c q' s' + one_if (nat_eq q q' && nat_eq s s') (length news)) l v xs (map (Delivered q) news)
deliver_all config st c l v xs q s a [] w node sender up count next h = record {
  lines = xs;
  goes = goes_none xs;
  says = says_as config st st c (λ q' s'. c q' s' + one_if (nat_eq q q' && nat_eq s s') 0) l l v v xs (λ p. refl) (λ q' s'. no_counts (nat_eq q q' && nat_eq s s') (c q' s')) (λ p. refl) (λ j w m. m) h;
}
deliver_all config st c l v xs q s a (m ∷ ms) w node sender up count next h =
    let is = rebuilt m s a next.0 next.1 in
    let sound = subst (λ (n : Message). said.broken xs (Delivered q n) ≡ None) (sym is) (delivery_sound config st c l v xs h q s a m.item node sender up count next.2) in
    let number : m.number < 2 ^ 64 = in_range m.number (length (st s)) (subst (λ n. n < length (st s)) (sym next.1) (slice_get_within (st s) a m.item next.2)) (w.short s) in
    let within : IsWithin (Delivered q m) = (small_node config q node, (subst (λ n. n < 256) (sym next.0) (small_node config s sender), number, w.items s m.item (Member-slice_get (st s) a m.item next.2))) in
    let c1 = λ (q' s' : ℕ). c q' s' + one_if (nat_eq q q' && nat_eq s s') 1 in
    let says = subst (λ t. Says config st (λ q' s'. c q' s' + one_if (nat_eq q q' && nat_eq t s') 1) l v (Delivered q m ∷ xs)) next.0 (says_delivery config st c l v xs q m sound h) in
    let here_now : suc a ≡ c q s + one_if (nat_eq q q && nat_eq s s) 1 = one_on a (c q s) (nat_eq q q && nat_eq s s) count (λ i. eq_same q i && eq_same s i) in
    let rest = deliver_all config st c1 l v (Delivered q m ∷ xs) q s (suc a) ms w node sender up here_now next.3 says in
    record {
      lines = rest.lines;
      goes = goes_then xs (Delivered q m ∷ []) (Delivered q m ∷ xs) (map (Delivered q) ms) rest.lines (goes_one xs (Delivered q m) within sound) rest.goes;
      says = says_as config st st (λ q' s'. c1 q' s' + one_if (nat_eq q q' && nat_eq s s') (length ms)) (λ q' s'. c q' s' + one_if (nat_eq q q' && nat_eq s s') (suc (length ms))) l l v v rest.lines (λ p. refl) (λ q' s'. more_counts (nat_eq q q' && nat_eq s s') (length ms) (c q' s')) (λ p. refl) (λ j w m. m) rest.says;
    }
  where
    in_range : (i n : ℕ) → i < n → n ≤ 4096 → i < 2 ^ 64
    in_range i n a b = omega arith

    one_on : (a n : ℕ) (b : Bool) → a ≡ n → b ≡ true → suc a ≡ n + one_if b 1
    one_on a n true e f = omega arith
    one_on a n false e f = absurd (cc)

-- the messages of a part of what s broadcast
next_of : (n i s : ℕ) (all rest : List Item) → ((k : ℕ) → slice_get all (i + k) ≡ slice_get rest k) → AreNext all s i (take n (numbered s i rest))
unfolding numbered
next_of zero i s all [] at = tt
next_of zero i s all (x ∷ rest) at = tt
next_of (suc n) i s all [] at = tt
next_of (suc n) i s all (x ∷ rest) at = (refl, refl, ap (slice_get all) (let e : i ≡ i + 0 = omega arith in e) ∙ at 0, next_of n (suc i) s all rest (λ k. ap (slice_get all) (let e : suc i + k ≡ i + suc k = omega arith in e) ∙ at (suc k)))

drop_numbered : (a i s : ℕ) (items : List Item) → drop a (numbered s i items) ≡ numbered s (i + a) (drop a items)
unfolding numbered
drop_numbered zero i s items = ap (λ k. numbered s k items) (let e : i ≡ i + 0 = omega arith in e)
drop_numbered (suc a) i s [] = refl
drop_numbered (suc a) i s (x ∷ items) = drop_numbered a (suc i) s items ∙ ap (λ k. numbered s k (drop a items)) (let e : suc i + a ≡ i + suc a = omega arith in e)

get_drop : (a k : ℕ) (items : List Item) → slice_get items (a + k) ≡ slice_get (drop a items) k
get_drop zero k items = ap (slice_get items) (let e : 0 + k ≡ k = omega arith in e)
get_drop (suc a) k [] = ap (slice_get []) (let e : suc a + k ≡ suc (a + k) = omega arith in e)
get_drop (suc a) k (x ∷ items) = ap (slice_get (x ∷ items)) (let e : suc a + k ≡ suc (a + k) = omega arith in e) ∙ get_drop a k items

pub range_is_next : (items : List Item) (s a b : ℕ) → AreNext items s a (slice_range (numbered s 0 items) a b)
range_is_next items s a b =
    subst (λ ms. AreNext items s a (take (b - a) ms)) (sym (drop_numbered a 0 s items ∙ ap (λ k. numbered s k (drop a items)) (let e : 0 + a ≡ a = omega arith in e)))
    (next_of (b - a) a s items (drop a items) (λ k. get_drop a k items))

-- those of another sender are none of them
pub filter_next : (items : List Item) (s a s' : ℕ) (news : List Message) → AreNext items s a news → length (filter (headline.is_from s') news) ≡ one_if (nat_eq s s') (length news)
filter_next items s a s' [] next = go (nat_eq s s')
  where
    go : (b : Bool) → 0 ≡ one_if b 0
    go true = refl
    go false = refl
filter_next items s a s' (m ∷ ms) next = go (nat_eq m.sender s') (nat_eq s s') (ap (λ t. nat_eq t s') next.0) (filter_next items s (suc a) s' ms next.3)
  where
    go : (b d : Bool) → b ≡ d → length (filter (headline.is_from s') ms) ≡ one_if d (length ms) → length (cond b (m ∷ filter (headline.is_from s') ms) (filter (headline.is_from s') ms)) ≡ one_if d (suc (length ms))
    go true true e ih = omega (arith, ih)
    go true false e ih = absurd (cc)
    go false true e ih = absurd (cc)
    go false false e ih = ih

-- ---- decisions

-- a value that was proposed and is decided
pub record IsDue (st : ℕ → List Item) (v : ℕ → List ℕ) (d : Decision) : Type 0 where
  pub node : ℕ
  pub proposed : Member (Propose d.instance d.value) (st node)
  pub decided : Member d.value (v d.instance)

pub decide_all : (config : Config) (st : ℕ → List Item) (c : ℕ → ℕ → ℕ) (l : ℕ → Bool) (v : ℕ → List ℕ) (xs : List Line) (q : ℕ) (ds : List Decision) → AreWithin st → q < config.nodes → l q ≡ true
    → ((j : ℕ) → config.faults < config.choices → headline.AtMost config.choices (v j)) → ((d : Decision) → Member d ds → IsDue st v d) → Says config st c l v xs → Follows config st c l v xs (map (Decided q) ds)
decide_all config st c l v xs q [] w node up few due h = record { lines = xs; goes = goes_none xs; says = h }
decide_all config st c l v xs q (d ∷ ds) w node up few due h =
    let one = due d here in
    let sound = decision_sound config st c l v xs h q d one.node node up one.proposed one.decided (few d.instance) in
    let ranges = w.items one.node (Propose d.instance d.value) one.proposed in
    let within : IsWithin (Decided q d) = (small_node config q node, ranges.0, ranges.1) in
    let rest = decide_all config st c l v (Decided q d ∷ xs) q ds w node up few (λ e m. due e (there m)) (says_decision config st c l v xs q d sound one.decided h) in
    record {
      lines = rest.lines;
      goes = goes_then xs (Decided q d ∷ []) (Decided q d ∷ xs) (map (Decided q) ds) rest.lines (goes_one xs (Decided q d) within sound) rest.goes;
      says = rest.says;
    }
