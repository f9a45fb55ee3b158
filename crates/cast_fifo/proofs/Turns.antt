-- The turn of one number after another.
use Rattle.std.specs.Prelude.{◌≡◌, ◌≢◌, ℕ, zero, suc, ◌+◌, ◌<◌, ◌==◌, Bool, true, false, ◌&&◌, ◌||◌, cond, if◌then◌else◌, List, [], ◌∷◌, ◌++◌, length, replicate, drop, slice_get, Option, Some, None, IsSome, unwrap_or, refl}
use Rattle.std.specs.Option.{option_copied}
use Rattle.std.specs.List.{All, list_any}
use Rattle.std.specs.Map.{keys_of, set_value}
use Rattle.std.specs.Ordering.{nat_cmp}
use Rattle.std.specs.BTreeMap.{insert_entry, is_at}
use Rattle.std.proofs.Common.{append-nil, sym, ap, ◌∙◌, subst, arith, Bor, add-one, append_assoc}
use Rattle.std.proofs.lemmas.Bool.Decides.{nat_tests}
use Rattle.std.proofs.lemmas.List.Elements.{All-head, All-tail}
use Rattle.cast_message.proofs.Booleans.{or_assoc, or_false}
use Rattle.cast_message.specs.declared.message.Item.{Item}
use Rattle.cast_message.specs.declared.message.Message.{Message}
use Rattle.cast_model.specs.History.{numbered}
use Rattle.cast_fifo.specs.declared.waiting.Waiting.{Waiting}
use Rattle.cast_fifo.specs.HeldBack.{HeldBack, waiting_at, marked, with_mark, with_item, run_from, rest_from, advanced, heard_items, heard_after, item_due, item_first, known_items, known_after, offered_items, offered_after}
use Rattle.cast_message.specs.Items.{is_close}
use Rattle.cast_fifo.specs.Windows.{entries_from, entries_of, due_front, front_item, StartsUnmarked, IsWindow}
use Rattle.cast_fifo.proofs.Entries.{Places, Entries, seen, past, none_at, below_ring, insert_before, no_run, rest_none}

pub numbered-cons : (s n : ℕ) (x : Item) (xs : List Item) → numbered s n (x ∷ xs) ≡ record { sender = s; number = n; item = x } ∷ numbered s (n + 1) xs
unfolding numbered
numbered-cons s n x xs = ap (λ m. record { sender = s; number = n; item = x } ∷ numbered s m xs) (sym (add-one n))

pub numbered-none : (s n : ℕ) → numbered s n [] ≡ []
unfolding numbered
numbered-none s n = refl

-- a message more of a run
pub numbered-more : (s n : ℕ) (x : Item) (run rest : List Item) (before after : List Message) → run ≡ x ∷ rest → after ≡ before ++ record { sender = s; number = n; item = x } ∷ [] → after ++ numbered s (n + 1) rest ≡ before ++ numbered s n run
numbered-more s n x run rest before after e push =
    ap (λ ms. ms ++ numbered s (n + 1) rest) push
    ∙ append_assoc before (record { sender = s; number = n; item = x } ∷ []) (numbered s (n + 1) rest)
    ∙ ap (λ ms. before ++ ms) (sym (ap (numbered s n) e ∙ numbered-cons s n x rest))

-- no message more
pub numbered-end : (s n : ℕ) (run : List Item) (before : List Message) → run ≡ [] → before ++ numbered s n run ≡ before
numbered-end s n run before e = ap (λ run. before ++ numbered s n run) e ∙ ap (λ ms. before ++ ms) (numbered-none s n) ∙ append-nil before

pub length-numbered : (s n : ℕ) (xs : List Item) → length (numbered s n xs) ≡ length xs
length-numbered s n [] = ap length (numbered-none s n)
length-numbered s n (x ∷ xs) = ap length (numbered-cons s n x xs) ∙ ap suc (length-numbered s (n + 1) xs)

pub same_test : (n : ℕ) (b : Bool) → (n == n && b) ≡ b
same_test n b = grind (arith, nat_tests)

-- the first of what waits, marked
abbrev pub marked_item : Item → Waiting
marked_item x = record { item = x; known = true }

pub run_first : (n : ℕ) (x : Item) (es : Entries) → run_from n ((n, marked_item x) ∷ es) ≡ x ∷ run_from (n + 1) es
run_first n x es = ap (λ b. if b then x ∷ run_from (n + 1) es else []) (same_test n true)

rest_first : (n : ℕ) (x : Item) (es : Entries) → rest_from n ((n, marked_item x) ∷ es) ≡ rest_from (n + 1) es
rest_first n x es = ap (λ b. if b then rest_from (n + 1) es else (n, marked_item x) ∷ es) (same_test n true)

pub advanced_first : (n : ℕ) (closed : Bool) (x : Item) (es : Entries) → advanced (record { next = n; closed = closed; waiting = (n, marked_item x) ∷ es }) ≡ advanced (record { next = n + 1; closed = closed || is_close x; waiting = es })
advanced_first n closed x es =
    let run = run_from (n + 1) es in
    let count : n + length (run_from n ((n, marked_item x) ∷ es)) ≡ n + 1 + length run = ap (λ (xs : List Item). n + length xs) (run_first n x es) ∙ (let e : n + suc (length run) ≡ n + 1 + length run = omega arith in e) in
    λ i. record {
      next = count i;
      closed = (ap (λ xs. closed || list_any is_close xs) (run_first n x es) ∙ or_assoc closed (is_close x) (list_any is_close run)) i;
      waiting = rest_first n x es i;
    }

-- none has its turn
pub advanced_none : (n : ℕ) (closed : Bool) (es : Entries) → run_from n es ≡ [] → advanced (record { next = n; closed = closed; waiting = es }) ≡ record { next = n; closed = closed; waiting = es }
advanced_none n closed es e = λ i. record {
  next = (ap (λ (xs : List Item). n + length xs) e ∙ (let f : n + 0 ≡ n = omega arith in f)) i;
  closed = (ap (λ xs. closed || list_any is_close xs) e ∙ or_false closed) i;
  waiting = rest_none n es e i;
}

pub at_self : (n : ℕ) → is_at (nat_cmp n) n ≡ true
at_self n = grind (arith, nat_tests)

-- a mark at the first of what waits
mark_first : (n : ℕ) (closed : Bool) (w : Waiting) (es : Entries) → with_mark (record { next = n; closed = closed; waiting = (n, w) ∷ es }) n ≡ record { next = n; closed = closed; waiting = (n, marked_item w.item) ∷ es }
mark_first n closed w es = grind (arith, nat_tests)

keep_first : (n : ℕ) (closed : Bool) (w : Waiting) (es : Entries) (item : Item) → with_item (record { next = n; closed = closed; waiting = (n, w) ∷ es }) n item ≡ record { next = n; closed = closed; waiting = (n, w) ∷ es }
keep_first n closed w es item = grind (arith, nat_tests)

-- a message that is offered at its turn
offer_first : (n : ℕ) (closed : Bool) (es : Entries) (item : Item) → waiting_at es n ≡ None → insert_entry nat_cmp es n (record { item = item; known = false }) ≡ (n, record { item = item; known = false }) ∷ es → with_item (record { next = n; closed = closed; waiting = es }) n item ≡ record { next = n; closed = closed; waiting = (n, record { item = item; known = false }) ∷ es }
offer_first n closed es item e f = grind (arith, nat_tests, e, f)

-- what is kept doesn't change the next
pub next_kept : (held : HeldBack) (k : ℕ) (item : Item) → (with_item held k item).next ≡ held.next
next_kept held k item = grind (arith, nat_tests)

-- what a queue is marked to be at the turn of a number
abbrev turning : HeldBack → ℕ → Option Item → HeldBack
turning held n None = with_mark held n
turning held n (Some item) = with_mark (with_item held n item) n

turned_by : (held : HeldBack) (offered : Option Item) (n : ℕ) (x : Item) (closed : Bool) (es : Entries) → turning held n offered ≡ record { next = n; closed = closed; waiting = (n, marked_item x) ∷ es } → (heard_items held n offered ≡ x ∷ run_from (n + 1) es) × (heard_after held n offered ≡ advanced (record { next = n + 1; closed = closed || is_close x; waiting = es }))
turned_by held None n x closed es e = ((λ i. run_from (e i).next (e i).waiting) ∙ run_first n x es, ap advanced e ∙ advanced_first n closed x es)
turned_by held (Some item) n x closed es e = ((λ i. run_from (e i).next (e i).waiting) ∙ run_first n x es, ap advanced e ∙ advanced_first n closed x es)

some_same : (x y : Item) → ◌≡◌ {A = Option Item} (Some x) (Some y) → x ≡ y
some_same x y e = ap (λ o. unwrap_or o x) e

not_some : (x : Item) → ◌≡◌ {A = Option Item} None (Some x) → ⊥
not_some x e = cc

module _ (n : ℕ) (closed : Bool) (far : Entries) (late : All (λ number. n < number) (keys_of far)) where
  from_ring : (w : Waiting) (places : Places) (offered : Option Item) → turning (seen n closed (Some w ∷ places) far) n offered ≡ record { next = n; closed = closed; waiting = (n, marked_item w.item) ∷ entries_of (n + 1) places far }
  from_ring w places None = mark_first n closed w (entries_of (n + 1) places far)
  from_ring w places (Some item) = ap (λ h. with_mark h n) (keep_first n closed w (entries_of (n + 1) places far) item) ∙ mark_first n closed w (entries_of (n + 1) places far)

  from_caller : (places : Places) (item : Item) → turning (record { next = n; closed = closed; waiting = entries_of (n + 1) places far }) n (Some item) ≡ record { next = n; closed = closed; waiting = (n, marked_item item) ∷ entries_of (n + 1) places far }
  from_caller places item =
      let es = entries_of (n + 1) places far in
      let none : waiting_at es n ≡ None = below_ring (n + 1) places far n (omega arith) ∙ none_at far n late in
      ap (λ h. with_mark h n) (offer_first n closed es item none (insert_before (n + 1) places far n (record { item = item; known = false }) (omega arith) late))
      ∙ mark_first n closed (record { item = item; known = false }) es

  none_here : (places : Places) → waiting_at (entries_of (n + 1) places far) n ≡ None
  none_here places = below_ring (n + 1) places far n (omega arith) ∙ none_at far n late

  -- what a mark or an offer of the next number begins
  abbrev Begins : Places → Option Item → Item → Type 0
  Begins ring offered x =
      (heard_items (seen n closed ring far) n offered ≡ x ∷ run_from (n + 1) (entries_of (n + 1) (drop 1 ring) far))
      × (heard_after (seen n closed ring far) n offered ≡ advanced (seen (n + 1) (closed || is_close x) (drop 1 ring) far))

  pub turn_starts : (ring : Places) (offered : Option Item) (x : Item) → item_first (waiting_at (entries_of n ring far) n) offered ≡ Some x → Begins ring offered x
  turn_starts [] None x e = absurd (not_some x (sym (ap (λ o. item_first o None) (none_at far n late)) ∙ e))
  turn_starts [] (Some item) x e =
      subst (Begins [] (Some item)) (some_same item x (sym (ap (λ o. item_first o (Some item)) (none_at far n late)) ∙ e)) (turned_by (seen n closed [] far) (Some item) n item closed (entries_of (n + 1) [] far) (from_caller [] item))
  turn_starts (None ∷ places) None x e = absurd (not_some x (sym (ap (λ o. item_first o None) (none_here places)) ∙ e))
  turn_starts (None ∷ places) (Some item) x e =
      subst (Begins (None ∷ places) (Some item)) (some_same item x (sym (ap (λ o. item_first o (Some item)) (none_here places)) ∙ e)) (turned_by (seen n closed (None ∷ places) far) (Some item) n item closed (entries_of (n + 1) places far) (from_caller places item))
  turn_starts (Some w ∷ places) offered x e =
      subst (Begins (Some w ∷ places) offered) (some_same w.item x (sym (ap (λ o. item_first o offered) (ap (λ b. cond b (Some w) (waiting_at (entries_of (n + 1) places far) n)) (at_self n))) ∙ e))
      (turned_by (seen n closed (Some w ∷ places) far) offered n w.item closed (entries_of (n + 1) places far) (from_ring w places offered))

  -- the item of the first place, or else this one, is the one that is offered
  front_first : (ring : Places) (item : Item) → item_first (waiting_at (entries_of n ring far) n) (Some item) ≡ Some (front_item ring item)
  front_first [] item = ap (λ o. item_first o (Some item)) (none_at far n late)
  front_first (None ∷ places) item = ap (λ o. item_first o (Some item)) (none_here places)
  front_first (Some w ∷ places) item = ap (λ o. item_first o (Some item)) (ap (λ b. cond b (Some w) (waiting_at (entries_of (n + 1) places far) n)) (at_self n))

  -- the first place is marked: it has its turn
  pub due_some : (place : Option Waiting) (places : Places) (x : Item) → item_due place ≡ Some x → run_from n (entries_of n (place ∷ places) far) ≡ x ∷ run_from (n + 1) (entries_of (n + 1) places far)
  due_some None places x e = absurd (not_some x e)
  due_some (Some w) places x e = grind (arith, nat_tests)

  -- the first place isn't marked: none has its turn
  pub due_none : (ring : Places) → due_front ring ≡ None → (run_from n (entries_of n ring far) ≡ []) × StartsUnmarked ring
  due_none [] e = (no_run n (n + 1) [] far (omega arith) late, tt)
  due_none (None ∷ places) e = (no_run n (n + 1) places far (omega arith) late, tt)
  due_none (Some w ∷ places) e = let no = go w.known e in (ap (λ b. if b then w.item ∷ run_from (n + 1) (entries_of (n + 1) places far) else []) (same_test n w.known ∙ no), no)
    where
      go : (b : Bool) → (if b then Some w.item else None) ≡ None → b ≡ false
      go true f = absurd (not_some w.item (sym f))
      go false f = refl

-- a number that the ring reaches by now
pub moved : (n : ℕ) (ring : Places) (gap number : ℕ) (w : Waiting) → number ≡ n + length ring + gap → entries_from n ((ring ++ replicate gap None) ++ Some w ∷ []) ≡ entries_from n ring ++ (number, w) ∷ []
moved n [] zero number w e = ap (λ m. (m, w) ∷ []) (let f : n ≡ number = omega (arith, e) in f)
moved n [] (suc gap) number w e = moved (n + 1) [] gap number w (omega (arith, e))
moved n (None ∷ ring) gap number w e = moved (n + 1) ring gap number w (omega (arith, e))
moved n (Some x ∷ ring) gap number w e = ap (λ es. (n, x) ∷ es) (moved (n + 1) ring gap number w (omega (arith, e)))

pub head_of : (P : ℕ → Type 0) (es fs : Entries) (e : ℕ × Waiting) → es ≡ e ∷ fs → All P (keys_of es) → P e.0
head_of P es fs e f h = All-head P e.0 (keys_of fs) (subst (λ es. All P (keys_of es)) f h)

pub tail_of : (P : ℕ → Type 0) (es fs : Entries) (e : ℕ × Waiting) → es ≡ e ∷ fs → All P (keys_of es) → All P (keys_of fs)
tail_of P es fs e f h = All-tail P e.0 (keys_of fs) (subst (λ es. All P (keys_of es)) f h)

pub first_is : (es fs : Entries) (number : ℕ) (w : Waiting) (e : ℕ × Waiting) → slice_get es 0 ≡ Some (number, w) → es ≡ e ∷ fs → e.0 ≡ number
first_is es fs number w e f g = ap (λ o. number_in o) (sym (ap (λ es. slice_get es 0) g) ∙ f)
  where
    number_in : Option (ℕ × Waiting) → ℕ
    number_in None = 0
    number_in (Some p) = p.0

-- the front of a window is not marked: none has its turn
pub none_ready : (n : ℕ) (ring : Places) (far : Entries) (room : ℕ) → IsWindow n ring far room → StartsUnmarked ring → run_from n (entries_of n ring far) ≡ []
none_ready n ring far room h s = go ring s
  where
    late : All (λ number. n < number) (keys_of far)
    late = past n (n + 4096) (keys_of far) (omega arith) h.beyond

    go : (ring : Places) → StartsUnmarked ring → run_from n (entries_of n ring far) ≡ []
    go [] s = no_run n (n + 1) [] far (omega arith) late
    go (None ∷ places) s = no_run n (n + 1) places far (omega arith) late
    go (Some w ∷ places) s = ap (λ b. if b then w.item ∷ run_from (n + 1) (entries_of (n + 1) places far) else []) (same_test n w.known ∙ s)

-- a change at another number brings no turn
pub none_by_change : (n k : ℕ) (es : Entries) (w : Waiting) → k ≢ n → run_from n es ≡ [] → run_from n (set_value (is_at (nat_cmp k)) es w) ≡ []
none_by_change n k [] w e h = refl
none_by_change n k (x ∷ es) w e h = grind (arith, nat_tests)

pub none_by_mark : (n k : ℕ) (es : Entries) (o : Option Waiting) → k ≢ n → run_from n es ≡ [] → run_from n (marked es k o) ≡ []
none_by_mark n k es None e h = h
none_by_mark n k es (Some w) e h = none_by_change n k es (marked_item w.item) e h

-- a mark at another number than the next
pub marked_elsewhere : (n : ℕ) (closed : Bool) (ring : Places) (far : Entries) (held : HeldBack) (room k : ℕ) → IsWindow n ring far room → StartsUnmarked ring → seen n closed ring far ≡ held → k ≢ n → (known_items held k ≡ []) × (known_after held k ≡ with_mark held k)
marked_elsewhere n closed ring far held room k h s is e =
    let es = entries_of n ring far in
    let none : run_from n (marked es k (waiting_at es k)) ≡ [] = none_by_mark n k es (waiting_at es k) e (none_ready n ring far room h s) in (
      ap (λ h. known_items h k) (sym is) ∙ none,
      ap (λ h. known_after h k) (sym is) ∙ advanced_none n closed (marked es k (waiting_at es k)) none ∙ ap (λ h. with_mark h k) is,
    )

-- a number that had its turn isn't found
pub marked_before : (n : ℕ) (closed : Bool) (ring : Places) (far : Entries) (held : HeldBack) (room k : ℕ) → IsWindow n ring far room → seen n closed ring far ≡ held → k < n → with_mark held k ≡ held
marked_before n closed ring far held room k h is l =
    let es = entries_of n ring far in
    let none : waiting_at es k ≡ None = below_ring n ring far k l ∙ none_at far k (past k (n + 4096) (keys_of far) (omega (arith, l)) h.beyond) in
    ap (λ h. with_mark h k) (sym is) ∙ (λ i. record { next = n; closed = closed; waiting = marked es k (none i) }) ∙ is

-- a mark of a number at which nothing waits
pub marked_nothing : (n : ℕ) (closed : Bool) (ring : Places) (far : Entries) (held : HeldBack) (room k : ℕ) → IsWindow n ring far room → StartsUnmarked ring → seen n closed ring far ≡ held → waiting_at held.waiting k ≡ None → known_items held k ≡ []
marked_nothing n closed ring far held room k h starts is e =
    ap (λ (o : Option Waiting). run_from held.next (marked held.waiting k o)) e ∙ ap (λ (h : HeldBack). run_from h.next h.waiting) (sym is) ∙ none_ready n ring far room h starts

-- nor does one of a number that had its turn
pub marked_past : (n : ℕ) (closed : Bool) (ring : Places) (far : Entries) (held : HeldBack) (room k : ℕ) → IsWindow n ring far room → StartsUnmarked ring → seen n closed ring far ≡ held → k < n → (known_items held k ≡ []) × (known_after held k ≡ held)
marked_past n closed ring far held room k h starts is l =
    let none = marked_elsewhere n closed ring far held room k h starts is (λ e. absurd (omega (arith, l, e))) in
    (none.0, none.1 ∙ marked_before n closed ring far held room k h is l)

-- an offer of the next number begins with the item of the first place, or else with this one
pub front_starts : (n : ℕ) (closed : Bool) (ring : Places) (far : Entries) (held : HeldBack) (room : ℕ) (item : Item) → IsWindow n ring far room → seen n closed ring far ≡ held →
    (offered_items held held.next item ≡ front_item ring item ∷ run_from (n + 1) (entries_of (n + 1) (drop 1 ring) far))
    × (offered_after held held.next item ≡ advanced (seen (n + 1) (closed || is_close (front_item ring item)) (drop 1 ring) far))
front_starts n closed ring far held room item h is =
    let late = past n (n + 4096) (keys_of far) (omega arith) h.beyond in
    let begun = turn_starts n closed far late ring (Some item) (front_item ring item) (front_first n closed far late ring item) in
    (ap (λ (h : HeldBack). offered_items h h.next item) (sym is) ∙ begun.0, ap (λ (h : HeldBack). offered_after h h.next item) (sym is) ∙ begun.1)

-- ---- what is looked at before

module _ (next : ℕ) (closed : Bool) (ring : Places) (far : Entries) (held : HeldBack) (room : ℕ) (h : IsWindow next ring far room) (starts : StartsUnmarked ring) (is : seen next closed ring far ≡ held) where
  next_is : next ≡ held.next
  next_is = ap (λ (h : HeldBack). h.next) is

  -- a mark of another number, for which none is offered
  pub other_number : (number : ℕ) (offered : Option (Bor Item)) → (IsSome offered → number ≡ held.next) → number ≢ next → heard_items held number (option_copied offered) ≡ []
  other_number number None at other = (marked_elsewhere next closed ring far held room number h starts is other).0
  other_number number (Some x) at other = absurd (other (at refl ∙ sym next_is))

  -- where nothing waits at the next number and none is offered
  pub nothing_first : (offered : Option Item) → item_first (waiting_at held.waiting held.next) offered ≡ None → heard_items held held.next offered ≡ []
  nothing_first offered e = go (waiting_at held.waiting held.next) offered refl e
    where
      go : (o : Option Waiting) (offered : Option Item) → waiting_at held.waiting held.next ≡ o → item_first o offered ≡ None → heard_items held held.next offered ≡ []
      go None None f g = marked_nothing next closed ring far held room held.next h starts is f
      go None (Some x) f g = absurd (not_some x (sym g))
      go (Some w) offered f g = absurd (not_some w.item (sym g))

  pub something_first : (offered : Option Item) (x : Item) → item_first (waiting_at held.waiting held.next) offered ≡ Some x → heard_items held held.next offered ≡ x ∷ run_from (next + 1) (entries_of (next + 1) (drop 1 ring) far)
  something_first offered x first =
      (λ i. heard_items (sym is i) (sym next_is i) offered)
      ∙ (turn_starts next closed far (past next (next + 4096) (keys_of far) (omega arith) h.beyond) ring offered x (ap (λ (h : HeldBack). item_first (waiting_at h.waiting h.next) offered) is ∙ first)).0
