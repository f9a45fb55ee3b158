-- What is held of a sender, said by the item of each number and whether it is ready.
use Rattle.std.specs.Prelude.{◌≡◌, ◌≢◌, ℕ, zero, suc, ◌+◌, ◌-◌, ◌≤◌, ◌<◌, ◌==◌, Bool, true, false, ◌&&◌, ◌||◌, cond, if◌then◌else◌, List, [], ◌∷◌, map, length, Option, Some, None, is_some, unwrap_or, refl}
use Rattle.std.specs.List.{list_any, range_with_len}
use Rattle.std.specs.Map.{set_value}
use Rattle.std.specs.Ordering.{nat_cmp}
use Rattle.std.specs.BTreeMap.{insert_entry, is_at}
use Rattle.std.proofs.Common.{sym, ap, ◌∙◌, subst, arith, inl, inr, true≢false}
use Rattle.std.proofs.lemmas.Bool.Decides.{nat_tests, leb_tells, eqb_tells}
use Rattle.std.proofs.lemmas.Bool.{eq-eqb, lt-ltb, ne_eqb}
use Rattle.cast_message.proofs.Booleans.{or_assoc, or_false}
use Rattle.cast_message.specs.declared.message.Item.{Item}
use Rattle.cast_message.specs.declared.message.Item.TheVariants.{Close}
use Rattle.cast_message.specs.declared.message.Message.{Message}
use Rattle.cast_model.specs.History.{numbered}
use Rattle.cast_fifo.specs.declared.waiting.Waiting.{Waiting}
use Rattle.cast_fifo.specs.HeldBack.{HeldBack, waiting_at, came, marked, with_mark, with_item, run_from, rest_from, advanced, known_items, known_after}
use Rattle.cast_message.specs.Items.{is_close}
use Rattle.cast_fifo.specs.Calls.{first_of}
use Rattle.cast_fifo.specs.HoldsBack.{Ascends, waiting_of, close_at, HoldsBack}
use Rattle.cast_fifo.proofs.Entries.{Entries, at_false}
use Rattle.cast_fifo.proofs.Turns.{numbered-cons, numbered-none}

pub none_below : (n q : ℕ) (es : Entries) → Ascends n es → q < n → waiting_at es q ≡ None
none_below n q [] h l = refl
none_below n q (e ∷ es) h l =
    ap (λ b. cond b (Some e.1) (waiting_at es q)) (at_false q e.0 (omega (arith, l, h.0))) ∙ none_below (e.0 + 1) q es h.1 (omega (arith, l, h.0))

Ascends-insert : (n k : ℕ) (w : Waiting) (es : Entries) → Ascends n es → n ≤ k → Ascends n (insert_entry nat_cmp es k w)
Ascends-insert n k w [] h l = (l, tt)
Ascends-insert n k w (e ∷ es) h l = grind (arith, nat_tests, Ascends-insert (e.0 + 1) k w es)

pub Ascends-set : (n : ℕ) (test : ℕ → Bool) (w : Waiting) (es : Entries) → Ascends n es → Ascends n (set_value test es w)
Ascends-set n test w [] h = tt
Ascends-set n test w (e ∷ es) h = grind (arith, nat_tests, Ascends-set (e.0 + 1) test w es)

same_at : (q k : ℕ) → is_at (nat_cmp q) k ≡ (q == k)
same_at q k = grind (arith, nat_tests)

pub look_inserted : (k q : ℕ) (w : Waiting) (es : Entries) → waiting_at (insert_entry nat_cmp es k w) q ≡ cond (q == k) (Some w) (waiting_at es q)
look_inserted k q w [] = ap (λ b. cond b (Some w) None) (same_at q k)
look_inserted k q w (e ∷ es) = grind (arith, nat_tests, look_inserted k q w es)

pub look_changed : (k q : ℕ) (w v : Waiting) (es : Entries) → waiting_at es k ≡ Some v → waiting_at (set_value (is_at (nat_cmp k)) es w) q ≡ cond (q == k) (Some w) (waiting_at es q)
look_changed k q w v [] h = cc
look_changed k q w v (e ∷ es) h = grind (arith, nat_tests, look_changed k q w v es)

-- the item that waits, and whether it is known
abbrev pub item_in : Option Waiting → Item
item_in None = Close
item_in (Some w) = w.item

abbrev pub known_in : Option Waiting → Bool
known_in None = false
known_in (Some w) = w.known

-- what has its turn from a number on
pub record Released (n : ℕ) (es : Entries) : Type 0 where
  pub known : (i : ℕ) → n ≤ i → i < n + length (run_from n es) → known_in (waiting_at es i) ≡ true
  pub items : run_from n es ≡ map (λ i. item_in (waiting_at es i)) (range_with_len n (length (run_from n es)))
  pub stops : known_in (waiting_at es (n + length (run_from n es))) ≡ false
  pub ascends : Ascends (n + length (run_from n es)) (rest_from n es)
  pub rest : (q : ℕ) → n + length (run_from n es) ≤ q → waiting_at (rest_from n es) q ≡ waiting_at es q

same_map : (f g : ℕ → Item) (a n : ℕ) → ((i : ℕ) → a ≤ i → f i ≡ g i) → map f (range_with_len a n) ≡ map g (range_with_len a n)
same_map f g a zero h = refl
same_map f g a (suc n) h = λ k. h a (omega arith) k ∷ same_map f g (a + 1) n (λ i l. h i (omega (arith, l))) k

released_some : (n : ℕ) (e : ℕ × Waiting) (es : Entries) → e.0 ≡ n → e.1.known ≡ true → Ascends (e.0 + 1) es → Released (n + 1) es →
    (run : List Item) → run ≡ e.1.item ∷ run_from (n + 1) es →
    ((i : ℕ) → n ≤ i → i < n + length run → known_in (waiting_at (e ∷ es) i) ≡ true)
    × (run ≡ map (λ i. item_in (waiting_at (e ∷ es) i)) (range_with_len n (length run)))
    × (known_in (waiting_at (e ∷ es) (n + length run)) ≡ false)
    × Ascends (n + length run) (rest_from (n + 1) es)
    × ((q : ℕ) → n + length run ≤ q → waiting_at (rest_from (n + 1) es) q ≡ waiting_at (e ∷ es) q)
released_some n e es is known up h run run_is = (
  λ i l m. elim (eqb_tells i n) [ inl f ↦ ap known_in (here i f.1) ∙ known | inr f ↦ ap known_in (past i f.1) ∙ h.known i (omega (arith, l, f.1)) (omega (arith, m, count)) ],
  run_is ∙ (λ k. (sym (ap item_in (here n refl))) k ∷ (h.items ∙ sym (same_map (λ i. item_in (waiting_at (e ∷ es) i)) (λ i. item_in (waiting_at es i)) (n + 1) (length (run_from (n + 1) es)) (λ i l. ap item_in (past i (omega (arith, l)))))) k)
      ∙ sym (ap (λ (xs : List Item). map (λ i. item_in (waiting_at (e ∷ es) i)) (range_with_len n (length xs))) run_is),
  ap known_in (past (n + length run) (omega (arith, count)) ∙ ap (waiting_at es) next) ∙ h.stops,
  subst (λ m. Ascends m (rest_from (n + 1) es)) (sym next) h.ascends,
  λ q l. h.rest q (omega (arith, l, count)) ∙ sym (past q (omega (arith, l, count))),
)
  where
    count : length run ≡ suc (length (run_from (n + 1) es))
    count = ap length run_is

    next : n + length run ≡ n + 1 + length (run_from (n + 1) es)
    next = omega (arith, count)

    here : (i : ℕ) → i ≡ n → waiting_at (e ∷ es) i ≡ Some e.1
    here i f = grind (arith, nat_tests)

    past : (i : ℕ) → i ≢ n → waiting_at (e ∷ es) i ≡ waiting_at es i
    past i f = grind (arith, nat_tests)

test_some : (k n : ℕ) (b : Bool) → (k == n && b) ≡ true → (k ≡ n) × (b ≡ true)
test_some k n b e = grind (arith, nat_tests)

plus_none : (n : ℕ) → n + 0 ≡ n
plus_none n = omega arith

pub released : (n : ℕ) (es : Entries) → Ascends n es → Released n es
released n [] h = record { known = λ i l m. absurd (omega (arith, l, m)); items = refl; stops = refl; ascends = tt; rest = λ q l. refl }
released n (e ∷ es) h = go (e.0 == n && e.1.known) refl (λ f. released (n + 1) es (subst (λ m. Ascends (m + 1) es) f h.1))
  where
    go : (b : Bool) → (e.0 == n && e.1.known) ≡ b → (e.0 ≡ n → Released (n + 1) es) → Released n (e ∷ es)
    go true f rest =
        let is = test_some e.0 n e.1.known f in
        let run : run_from n (e ∷ es) ≡ e.1.item ∷ run_from (n + 1) es = ap (λ b. if b then e.1.item ∷ run_from (n + 1) es else []) f in
        let left : rest_from n (e ∷ es) ≡ rest_from (n + 1) es = ap (λ b. if b then rest_from (n + 1) es else e ∷ es) f in
        let all = released_some n e es is.0 is.1 h.1 (rest is.0) (run_from n (e ∷ es)) run in
        record {
          known = all.0;
          items = all.1;
          stops = all.2;
          ascends = subst (λ fs. Ascends (n + length (run_from n (e ∷ es))) fs) (sym left) all.3;
          rest = λ q l. ap (λ fs. waiting_at fs q) left ∙ all.4 q l;
        }
    go false f rest =
        let run : run_from n (e ∷ es) ≡ [] = ap (λ b. if b then e.1.item ∷ run_from (n + 1) es else []) f in
        let left : rest_from n (e ∷ es) ≡ e ∷ es = ap (λ b. if b then rest_from (n + 1) es else e ∷ es) f in
        let count : n + length (run_from n (e ∷ es)) ≡ n = ap (λ (xs : List Item). n + length xs) run ∙ plus_none n in
        record {
          known = λ i l m. absurd (omega (arith, l, m, count));
          items = run ∙ sym (ap (λ (xs : List Item). map (λ i. item_in (waiting_at (e ∷ es) i)) (range_with_len n (length xs))) run);
          stops = ap (λ m. known_in (waiting_at (e ∷ es) m)) count ∙ stopped f;
          ascends = subst (λ m. Ascends m (rest_from n (e ∷ es))) (sym count) (subst (λ fs. Ascends n fs) (sym left) h);
          rest = λ q l. ap (λ fs. waiting_at fs q) left;
        }
      where
        stopped : (e.0 == n && e.1.known) ≡ false → known_in (waiting_at (e ∷ es) n) ≡ false
        stopped f = let none = none_below (e.0 + 1) n es h.1 (omega (arith, h.0)) in grind (arith, nat_tests, none)

same_any : (f g : ℕ → Bool) (a n : ℕ) → ((i : ℕ) → a ≤ i → i < a + n → f i ≡ g i) → list_any f (range_with_len a n) ≡ list_any g (range_with_len a n)
same_any f g a zero h = refl
same_any f g a (suc n) h = λ k. h a (omega arith) (omega arith) k || same_any f g (a + 1) n (λ i l m. h i (omega (arith, l)) (omega (arith, m))) k

-- the same items and marks
pub same_stands : (items items' : ℕ → Option Item) (ready ready' : ℕ → Bool) (held : HeldBack) → ((i : ℕ) → items' i ≡ items i) → ((i : ℕ) → ready' i ≡ ready i) → HoldsBack items ready held → HoldsBack items' ready' held
same_stands items items' ready ready' held a b h = record {
  below = λ i l. b i ∙ h.below i l;
  stops = b held.next ∙ h.stops;
  waits = λ i l. h.waits i l ∙ sym (λ k. waiting_of (a i k) (b i k));
  ascends = h.ascends;
  closed = h.closed ∙ sym (same_any (close_at items') (close_at items) 0 held.next (λ i l m. ap (λ o. is_close (unwrap_or o Close)) (a i)));
}

module _ (items : ℕ → Option Item) (ready : ℕ → Bool) (held : HeldBack) (h : HoldsBack items ready held) (some : (i : ℕ) → ready i ≡ true → is_some (items i) ≡ true) where
  -- what came is what had its turn or waits
  pub came_is : (i : ℕ) → came held i ≡ is_some (items i)
  came_is i = let w = h.waits i in let b = h.below i in let t = some i in grind (arith, nat_tests, w, b, t)

pub first_none : (o : Option Item) → first_of o None ≡ o
first_none None = refl
first_none (Some x) = refl

first_some : (o p : Option Item) → is_some o ≡ true → first_of o p ≡ o
first_some o p e = grind (arith, nat_tests)

none_of : (o : Option Item) → is_some o ≡ false → o ≡ None
none_of o e = grind (arith, nat_tests)

-- the items with one more, of two of one number the first
abbrev pub with_one : (ℕ → Option Item) → ℕ → Item → ℕ → Option Item
with_one items k item i = first_of (items i) (if k == i then Some item else None)

not_ready : (o : Option Item) (b : Bool) → o ≡ None → (b ≡ true → is_some o ≡ true) → b ≡ false
not_ready o b e f = grind (arith, nat_tests)

-- a message is kept
pub holds : (items : ℕ → Option Item) (ready : ℕ → Bool) (held : HeldBack) (k : ℕ) (item : Item) → HoldsBack items ready held → ((i : ℕ) → ready i ≡ true → is_some (items i) ≡ true) → HoldsBack (with_one items k item) ready (with_item held k item)
holds items ready held k item h some = go (came held k) refl
  where
    there : ℕ → Bool
    there i = is_some (items i)

    kept : HeldBack
    kept = record held { waiting = insert_entry nat_cmp held.waiting k (record { item = item; known = false }) }

    old_item : (i : ℕ) → is_some (items i) ≡ true → with_one items k item i ≡ items i
    old_item i e = first_some (items i) (if k == i then Some item else None) e

    other_item : (i : ℕ) → i ≢ k → with_one items k item i ≡ items i
    other_item i e = ap (λ b. first_of (items i) (if b then Some item else None)) (ne_eqb k i (λ f. e (sym f))) ∙ first_none (items i)

    unchanged : is_some (items k) ≡ true → (i : ℕ) → with_one items k item i ≡ items i
    unchanged e i = elim (eqb_tells i k) [ inl f ↦ old_item i (ap (λ m. is_some (items m)) f.1 ∙ e) | inr f ↦ other_item i f.1 ]

    go : (b : Bool) → came held k ≡ b → HoldsBack (with_one items k item) ready (if b then held else kept)
    go true e = same_stands items (with_one items k item) ready ready held (unchanged (sym (came_is items ready held h some k) ∙ e)) (λ i. refl) h
    go false e = record {
      below = h.below;
      stops = h.stops;
      waits = λ i l. let a = look_inserted k i (record { item = item; known = false }) held.waiting in let b = h.waits i l in let o = absent i in let r = idle i in grind (arith, nat_tests, a, b, o, r);
      ascends = Ascends-insert held.next k (record { item = item; known = false }) held.waiting h.ascends (elim (leb_tells held.next k) [ inl l ↦ l.1 | inr l ↦ absurd (true≢false (sym (ap (λ b. b || is_some (waiting_at held.waiting k)) (lt-ltb k held.next l.1)) ∙ e)) ]);
      closed = h.closed ∙ sym (same_any (close_at (with_one items k item)) (close_at items) 0 held.next (λ i l m. ap (λ o. is_close (unwrap_or o Close)) (old_item i (some i (h.below i (omega (arith, m)))))));
    }
      where
        absent : (i : ℕ) → i ≡ k → items i ≡ None
        absent i f = none_of (items i) (ap (λ m. is_some (items m)) f ∙ sym (came_is items ready held h some k) ∙ e)

        new_item : (i : ℕ) → i ≡ k → with_one items k item i ≡ Some item
        new_item i f = (λ j. first_of (absent i f j) (if eq-eqb k i (sym f) j then Some item else None))

        idle : (i : ℕ) → i ≡ k → ready i ≡ false
        idle i f = not_ready (items i) (ready i) (absent i f) (some i)

-- a mark, before anything has its turn
pub record Marked (items : ℕ → Option Item) (ready : ℕ → Bool) (n : ℕ) (es : Entries) : Type 0 where
  pub waits : (i : ℕ) → n ≤ i → waiting_at es i ≡ waiting_of (items i) (ready i)
  pub ascends : Ascends n es

pub or_true : (b : Bool) → (b || true) ≡ true
or_true true = refl
or_true false = refl

there_is : (o : Option Item) (b : Bool) (es : Entries) (k : ℕ) → is_some o ≡ true → waiting_at es k ≡ waiting_of o b → (w : Waiting) × (waiting_at es k ≡ Some w) × (o ≡ Some w.item)
there_is None b es k e f = absurd (true≢false (sym e))
there_is (Some x) b es k e f = (record { item = x; known = b }, f, refl)

pub marks : (items : ℕ → Option Item) (ready ready' : ℕ → Bool) (held : HeldBack) (k : ℕ) → HoldsBack items ready held → is_some (items k) ≡ true → ((i : ℕ) → ready' i ≡ (ready i || i == k)) → Marked items ready' held.next (with_mark held k).waiting
marks items ready ready' held k h e is = elim (leb_tells held.next k) [ inl l ↦ later l.1 | inr l ↦ before l.1 ]
  where
    n : ℕ
    n = held.next

    before : k < n → Marked items ready' n (with_mark held k).waiting
    before l =
        let none : marked held.waiting k (waiting_at held.waiting k) ≡ held.waiting = ap (marked held.waiting k) (none_below n k held.waiting h.ascends l) in
        record {
          waits = λ i m. ap (λ es. waiting_at es i) none ∙ h.waits i m ∙ ap (waiting_of (items i)) (sym (is i ∙ ap (λ b. ready i || b) (ne_eqb i k (λ f. absurd (omega (arith, f, l, m)))) ∙ or_false (ready i)));
          ascends = subst (Ascends n) (sym none) h.ascends;
        }

    later : n ≤ k → Marked items ready' n (with_mark held k).waiting
    later l = with_found (there_is (items k) (ready k) held.waiting k e (h.waits k l))
      where
        with_found : (w : Waiting) × (waiting_at held.waiting k ≡ Some w) × (items k ≡ Some w.item) → Marked items ready' n (with_mark held k).waiting
        with_found found =
            let w = found.0 in
            let put : marked held.waiting k (waiting_at held.waiting k) ≡ set_value (is_at (nat_cmp k)) held.waiting (record { item = w.item; known = true }) = ap (marked held.waiting k) found.1 in
            record {
              waits = λ i m. ap (λ es. waiting_at es i) put ∙ (let a = look_changed k i (record { item = w.item; known = true }) w held.waiting found.1 in let b = h.waits i m in let r = is i in let o = found.2 in grind (arith, nat_tests, a, b, r, o));
              ascends = subst (Ascends n) (sym put) (Ascends-set n (is_at (nat_cmp k)) (record { item = w.item; known = true }) held.waiting h.ascends);
            }

split_range : (a m k : ℕ) (f : ℕ → Bool) → list_any f (range_with_len a (m + k)) ≡ (list_any f (range_with_len a m) || list_any f (range_with_len (a + m) k))
split_range a zero k f = ap (λ n. list_any f (range_with_len a n)) (let e : 0 + k ≡ k = omega arith in e) ∙ ap (λ b. list_any f (range_with_len b k)) (let e : a ≡ a + 0 = omega arith in e)
split_range a (suc m) k f =
    ap (λ n. list_any f (range_with_len a n)) (let e : suc m + k ≡ suc (m + k) = omega arith in e)
    ∙ ap (λ b. f a || b) (split_range (a + 1) m k f ∙ ap (λ b. list_any f (range_with_len (a + 1) m) || list_any f (range_with_len b k)) (let e : a + 1 + m ≡ a + suc m = omega arith in e))
    ∙ or_assoc (f a) (list_any f (range_with_len (a + 1) m)) (list_any f (range_with_len (a + suc m) k))

any_map : (f : ℕ → Item) (ns : List ℕ) → list_any is_close (map f ns) ≡ list_any (λ i. is_close (f i)) ns
any_map f [] = refl
any_map f (n ∷ ns) = ap (λ b. is_close (f n) || b) (any_map f ns)

item_in-waiting_of : (o : Option Item) (b : Bool) → item_in (waiting_of o b) ≡ unwrap_or o Close
item_in-waiting_of o b = grind (arith, nat_tests)

known_in-waiting_of : (o : Option Item) (b : Bool) → (b ≡ true → is_some o ≡ true) → known_in (waiting_of o b) ≡ b
known_in-waiting_of o b f = grind (arith, nat_tests)

-- the messages of s from n on
pub numbered-map : (s : ℕ) (f : ℕ → Item) (n k : ℕ) → numbered s n (map f (range_with_len n k)) ≡ map (λ i. let m : Message = record { sender = s; number = i; item = f i } in m) (range_with_len n k)
numbered-map s f n zero = numbered-none s n
numbered-map s f n (suc k) = numbered-cons s n (f n) (map f (range_with_len (n + 1) k)) ∙ ap (λ ms. record { sender = s; number = n; item = f n } ∷ ms) (numbered-map s f (n + 1) k)

-- what is marked has its turn
pub record Turned (items : ℕ → Option Item) (ready : ℕ → Bool) (n : ℕ) (run : List Item) (held : HeldBack) : Type 0 where
  pub stands : HoldsBack items ready held
  pub run_is : run ≡ map (λ i. unwrap_or (items i) Close) (range_with_len n (held.next - n))
  pub from : n ≤ held.next

pub turns : (items : ℕ → Option Item) (ready : ℕ → Bool) (n : ℕ) (closed : Bool) (es : Entries) → Marked items ready n es → ((i : ℕ) → i < n → ready i ≡ true) → closed ≡ list_any (close_at items) (range_with_len 0 n) → ((i : ℕ) → ready i ≡ true → is_some (items i) ≡ true) → Turned items ready n (run_from n es) (advanced (record { next = n; closed = closed; waiting = es }))
turns items ready n closed es m below shut some =
    let r = released n es m.ascends in
    let k = length (run_from n es) in
    let known : (i : ℕ) → n ≤ i → known_in (waiting_at es i) ≡ ready i = λ i l. ap known_in (m.waits i l) ∙ known_in-waiting_of (items i) (ready i) (some i) in
    let run_items : run_from n es ≡ map (λ i. unwrap_or (items i) Close) (range_with_len n k) = r.items ∙ same_map (λ i. item_in (waiting_at es i)) (λ i. unwrap_or (items i) Close) n k (λ i l. ap item_in (m.waits i l) ∙ item_in-waiting_of (items i) (ready i)) in
    record {
      stands = record {
        below = λ i l. elim (leb_tells n i) [ inl f ↦ sym (known i f.1) ∙ r.known i f.1 l | inr f ↦ below i f.1 ];
        stops = sym (known (n + k) (omega arith)) ∙ r.stops;
        waits = λ i l. r.rest i l ∙ m.waits i (omega (arith, l));
        ascends = r.ascends;
        closed =
            (λ j. shut j || (ap (list_any is_close) run_items ∙ any_map (λ i. unwrap_or (items i) Close) (range_with_len n k)) j)
            ∙ ap (λ a. list_any (close_at items) (range_with_len 0 n) || list_any (close_at items) (range_with_len a k)) (let e : n ≡ 0 + n = omega arith in e)
            ∙ sym (split_range 0 n k (close_at items));
      };
      run_is = run_items ∙ ap (λ a. map (λ i. unwrap_or (items i) Close) (range_with_len n a)) (let e : k ≡ (n + k) - n = omega arith in e);
      from = omega arith;
    }

-- a number that came is marked
pub knows : (items : ℕ → Option Item) (ready ready' : ℕ → Bool) (held : HeldBack) (k : ℕ) → HoldsBack items ready held → is_some (items k) ≡ true → ((i : ℕ) → ready' i ≡ (ready i || i == k)) → ((i : ℕ) → ready' i ≡ true → is_some (items i) ≡ true) → Turned items ready' held.next (known_items held k) (known_after held k)
knows items ready ready' held k h e is some =
    turns items ready' held.next held.closed (with_mark held k).waiting (marks items ready ready' held k h e is) (λ i l. is i ∙ ap (λ b. b || i == k) (h.below i l)) h.closed some
