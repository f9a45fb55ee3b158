-- What waits, as a ring of places and the entries farther away: look-ups, changes, and the run of a number.
use Rattle.std.specs.Prelude.{◌≡◌, ◌≢◌, ℕ, zero, suc, ◌+◌, ◌-◌, ◌^◌, ◌≤◌, ◌<◌, ◌==◌, Bool, true, false, ◌&&◌, cond, if◌then◌else◌, List, [], ◌∷◌, ◌++◌, length, replicate, slice_index_or, slice_set, Option, Some, None, option_map, refl}
use Rattle.std.specs.List.{All}
use Rattle.std.specs.Map.{keys_of}
use Rattle.std.specs.Ordering.{nat_cmp}
use Rattle.std.specs.BTreeMap.{insert_entry, is_at}
use Rattle.std.proofs.Common.{sym, ap, ◌∙◌, arith, length-append}
use Rattle.std.proofs.Math.ListN.{length-set}
use Rattle.std.proofs.lemmas.List.{length-replicate}
use Rattle.std.proofs.lemmas.Map.Views.{All-keys-insert_entry}
use Rattle.std.proofs.lemmas.Bool.Decides.{nat_tests}
use Rattle.std.proofs.lemmas.Map.{keys-set_value, length-set_value}
use Rattle.std.proofs.lemmas.List.Elements.{All-head, All-tail, All-weaker, All-same}
use Rattle.cast_message.specs.declared.message.Item.{Item}
use Rattle.cast_fifo.specs.declared.waiting.Waiting.{Waiting}
use Rattle.cast_fifo.specs.HeldBack.{HeldBack, waiting_at, marked, run_from, rest_from}
use Rattle.cast_fifo.specs.Windows.{entries_from, entries_of, StartsUnmarked, IsWindow}

abbrev pub Places : Type 0
Places = List (Option Waiting)

abbrev pub Entries : Type 0
Entries = List (ℕ × Waiting)

-- a queue with these fields, as callers see it
abbrev pub seen : ℕ → Bool → Places → Entries → HeldBack
seen next closed ring far = record { next = next; closed = closed; waiting = entries_of next ring far }

-- numbers from m on are past a smaller one
pub past : (q m : ℕ) (keys : List ℕ) → q < m → All (λ number. m ≤ number) keys → All (λ number. q < number) keys
past q m keys l h = All-weaker (λ number. m ≤ number) (λ number. q < number) (λ number k. omega (arith, k, l)) keys h

pub at_true : (k n : ℕ) → k ≡ n → is_at (nat_cmp k) n ≡ true
at_true k n e = grind (arith, nat_tests)

pub at_false : (k n : ℕ) → k ≢ n → is_at (nat_cmp k) n ≡ false
at_false k n e = grind (arith, nat_tests)

-- no number below q waits that far
pub none_at : (far : Entries) (q : ℕ) → All (λ number. q < number) (keys_of far) → waiting_at far q ≡ None
none_at [] q h = refl
none_at (e ∷ far) q h =
    let apart : is_at (nat_cmp q) e.0 ≡ false = at_false q e.0 (let l : q < e.0 = All-head (λ number. q < number) e.0 (keys_of far) h in omega (arith, l)) in
    ap (λ b. cond b (Some e.1) (waiting_at far q)) apart ∙ none_at far q (All-tail (λ number. q < number) e.0 (keys_of far) h)

abbrev pub or_else : Option Waiting → Option Waiting → Option Waiting
or_else None b = b
or_else (Some w) b = Some w

pub below_ring : (n : ℕ) (ring : Places) (far : Entries) (q : ℕ) → q < n → waiting_at (entries_of n ring far) q ≡ waiting_at far q
below_ring n [] far q l = refl
below_ring n (None ∷ ring) far q l = below_ring (n + 1) ring far q (omega (arith, l))
below_ring n (Some w ∷ ring) far q l = grind (arith, nat_tests, below_ring (n + 1) ring far q)

-- what waits at a number: what the ring has there, or what is farther away
pub look_up : (n : ℕ) (ring : Places) (far : Entries) (q i : ℕ) → q ≡ n + i → waiting_at (entries_of n ring far) q ≡ or_else (slice_index_or ring i None) (waiting_at far q)
look_up n [] far q i e = refl
look_up n (None ∷ ring) far q zero e = below_ring (n + 1) ring far q (omega (arith, e))
look_up n (None ∷ ring) far q (suc i) e = look_up (n + 1) ring far q i (omega (arith, e))
look_up n (Some w ∷ ring) far q zero e = ap (λ b. cond b (Some w) (waiting_at (entries_of (n + 1) ring far) q)) (at_true q n (omega (arith, e)))
look_up n (Some w ∷ ring) far q (suc i) e = ap (λ b. cond b (Some w) (waiting_at (entries_of (n + 1) ring far) q)) (at_false q n (omega (arith, e))) ∙ look_up (n + 1) ring far q i (omega (arith, e))

pub past_ring : (ring : Places) (i : ℕ) → length ring ≤ i → slice_index_or ring i None ≡ None
past_ring [] i l = refl
past_ring (p ∷ ring) zero l = absurd (omega (arith, l))
past_ring (p ∷ ring) (suc i) l = past_ring ring i (omega (arith, l))

pub far_at : (n : ℕ) (ring : Places) (far : Entries) (q : ℕ) → n + length ring ≤ q → waiting_at (entries_of n ring far) q ≡ waiting_at far q
far_at n ring far q l = look_up n ring far q (q - n) (omega (arith, l)) ∙ ap (λ o. or_else o (waiting_at far q)) (past_ring ring (q - n) (omega (arith, l)))

or_none : (o : Option Waiting) → or_else o None ≡ o
or_none None = refl
or_none (Some w) = refl

pub near_at : (n : ℕ) (ring : Places) (far : Entries) (q i : ℕ) → q ≡ n + i → All (λ number. q < number) (keys_of far) → waiting_at (entries_of n ring far) q ≡ slice_index_or ring i None
near_at n ring far q i e h = look_up n ring far q i e ∙ ap (or_else (slice_index_or ring i None)) (none_at far q h) ∙ or_none _

-- places with nothing
pub padded : (n : ℕ) (ring : Places) (k : ℕ) → entries_from n (ring ++ replicate k None) ≡ entries_from n ring
padded n [] zero = refl
padded n [] (suc k) = padded (n + 1) [] k
padded n (None ∷ ring) k = padded (n + 1) ring k
padded n (Some w ∷ ring) k = ap (λ es. (n, w) ∷ es) (padded (n + 1) ring k)

-- a number below all that waits
pub insert_before : (n : ℕ) (ring : Places) (far : Entries) (k : ℕ) (w : Waiting) → k < n → All (λ number. k < number) (keys_of far) → insert_entry nat_cmp (entries_of n ring far) k w ≡ (k, w) ∷ entries_of n ring far
insert_before n [] [] k w l h = refl
insert_before n [] (e ∷ far) k w l h = let m : k < e.0 = All-head (λ number. k < number) e.0 (keys_of far) h in grind (arith, nat_tests, m)
insert_before n (None ∷ ring) far k w l h = insert_before (n + 1) ring far k w (omega (arith, l)) h
insert_before n (Some x ∷ ring) far k w l h = grind (arith, nat_tests)

pub insert_near : (n : ℕ) (ring : Places) (far : Entries) (k i : ℕ) (w : Waiting) → k ≡ n + i → i < length ring → All (λ number. k < number) (keys_of far) → insert_entry nat_cmp (entries_of n ring far) k w ≡ entries_of n (slice_set ring i (Some w)) far
insert_near n [] far k i w e l h = absurd (omega (arith, l))
insert_near n (None ∷ ring) far k zero w e l h =
    insert_before (n + 1) ring far k w (omega (arith, e)) h ∙ ap (λ m. (m, w) ∷ entries_of (n + 1) ring far) (let f : k ≡ n = omega (arith, e) in f)
insert_near n (None ∷ ring) far k (suc i) w e l h = insert_near (n + 1) ring far k i w (omega (arith, e)) (omega (arith, l)) h
insert_near n (Some x ∷ ring) far k zero w e l h = grind (arith, nat_tests)
insert_near n (Some x ∷ ring) far k (suc i) w e l h = let rest = insert_near (n + 1) ring far k i w (omega (arith, e)) (omega (arith, l)) h in grind (arith, nat_tests, rest)

pub insert_far : (n : ℕ) (ring : Places) (far : Entries) (k : ℕ) (w : Waiting) → n + length ring ≤ k → insert_entry nat_cmp (entries_of n ring far) k w ≡ entries_of n ring (insert_entry nat_cmp far k w)
insert_far n [] far k w l = refl
insert_far n (None ∷ ring) far k w l = insert_far (n + 1) ring far k w (omega (arith, l))
insert_far n (Some x ∷ ring) far k w l = grind (arith, nat_tests, insert_far (n + 1) ring far k w)

abbrev pub with_known : Option Waiting → Option Waiting
with_known o = option_map (λ (w : Waiting). let marked : Waiting = record { item = w.item; known = true } in marked) o

-- a mark at another number than the first of what waits
marked_cons : (k : ℕ) (e : ℕ × Waiting) (es : Entries) → is_at (nat_cmp k) e.0 ≡ false → marked (e ∷ es) k (waiting_at (e ∷ es) k) ≡ e ∷ marked es k (waiting_at es k)
marked_cons k e es f = grind (arith, nat_tests)

-- a mark in the ring
pub marked_near : (n : ℕ) (ring : Places) (far : Entries) (k i : ℕ) → k ≡ n + i → All (λ number. k < number) (keys_of far) → entries_of n (slice_set ring i (with_known (slice_index_or ring i None))) far ≡ marked (entries_of n ring far) k (waiting_at (entries_of n ring far) k)
marked_near n [] far k i e h = sym (ap (marked far k) (none_at far k h))
marked_near n (None ∷ ring) far k zero e h = sym (ap (marked (entries_of (n + 1) ring far) k) (below_ring (n + 1) ring far k (omega (arith, e)) ∙ none_at far k h))
marked_near n (None ∷ ring) far k (suc i) e h = marked_near (n + 1) ring far k i (omega (arith, e)) h
marked_near n (Some w ∷ ring) far k zero e h = grind (arith, nat_tests)
marked_near n (Some w ∷ ring) far k (suc i) e h =
    ap (λ es. (n, w) ∷ es) (marked_near (n + 1) ring far k i (omega (arith, e)) h) ∙ sym (marked_cons k (n, w) (entries_of (n + 1) ring far) (at_false k n (omega (arith, e))))

-- a mark farther away
pub marked_far : (n : ℕ) (ring : Places) (far : Entries) (k : ℕ) → n + length ring ≤ k → entries_of n ring (marked far k (waiting_at far k)) ≡ marked (entries_of n ring far) k (waiting_at (entries_of n ring far) k)
marked_far n [] far k l = refl
marked_far n (None ∷ ring) far k l = marked_far (n + 1) ring far k (omega (arith, l))
marked_far n (Some w ∷ ring) far k l =
    ap (λ es. (n, w) ∷ es) (marked_far (n + 1) ring far k (omega (arith, l))) ∙ sym (marked_cons k (n, w) (entries_of (n + 1) ring far) (at_false k n (omega (arith, l))))

pub eq_false : (k n : ℕ) (b : Bool) → k ≢ n → (k == n && b) ≡ false
eq_false k n b e = grind (arith, nat_tests)

-- the numbers that wait are all past this one: none has its turn
pub no_run : (n m : ℕ) (ring : Places) (far : Entries) → n < m → All (λ number. n < number) (keys_of far) → run_from n (entries_of m ring far) ≡ []
no_run n m [] [] l h = refl
no_run n m [] (e ∷ far) l h = ap (λ b. if b then e.1.item ∷ run_from (n + 1) far else []) (eq_false e.0 n e.1.known (let k : n < e.0 = All-head (λ number. n < number) e.0 (keys_of far) h in omega (arith, k)))
no_run n m (None ∷ ring) far l h = no_run n (m + 1) ring far (omega (arith, l)) h
no_run n m (Some w ∷ ring) far l h = ap (λ b. if b then w.item ∷ run_from (n + 1) (entries_of (m + 1) ring far) else []) (eq_false m n w.known (omega (arith, l)))

-- none has its turn: all stay
pub rest_none : (n : ℕ) (es : Entries) → run_from n es ≡ [] → rest_from n es ≡ es
rest_none n [] e = refl
rest_none n (x ∷ es) e = grind (arith, nat_tests, rest_none (n + 1) es)

pub length-padded : (ring : Places) (k : ℕ) → length (ring ++ replicate k None) ≡ length ring + k
length-padded ring k = length-append ring (replicate k None) ∙ ap (λ n. length ring + n) (length-replicate k None)

-- an item more in the ring
pub kept_near : (next : ℕ) (ring : Places) (far : Entries) (room more number place k : ℕ) (item : Item) → IsWindow next ring far room → StartsUnmarked ring → room ≤ more → number ≡ next + place → place < 4096 → k ≡ (place + 1) - length ring → number + 1 < 2 ^ 64 →
    IsWindow next (slice_set (ring ++ replicate k None) place (Some (record { item = item; known = false }))) far more × StartsUnmarked (slice_set (ring ++ replicate k None) place (Some (record { item = item; known = false })))
kept_near next ring far room more number place k item h s grown at within e fits =
    let w : Waiting = record { item = item; known = false } in
    let long : length (slice_set (ring ++ replicate k None) place (Some w)) ≡ length ring + k = length-set (ring ++ replicate k None) place (Some w) ∙ length-padded ring k in (
      record {
        short = omega (arith, long, e, within, h.short);
        fits = omega (arith, long, e, at, fits, h.fits);
        beyond = h.beyond;
        below = h.below;
        reach = λ some. let r = h.reach some in omega (arith, r, grown);
      },
      set (ring ++ replicate k None) place (padded ring k s),
    )
  where
    padded : (ring : Places) (k : ℕ) → StartsUnmarked ring → StartsUnmarked (ring ++ replicate k None)
    padded [] zero h = tt
    padded [] (suc k) h = tt
    padded (None ∷ ring) k h = tt
    padded (Some w ∷ ring) k h = h

    set : (ring : Places) (i : ℕ) → StartsUnmarked ring → StartsUnmarked (slice_set ring i (Some (record { item = item; known = false })))
    set [] i h = tt
    set (p ∷ ring) zero h = refl
    set (None ∷ ring) (suc i) h = tt
    set (Some x ∷ ring) (suc i) h = h

pub seen_near : (next : ℕ) (closed : Bool) (ring : Places) (far : Entries) (held : HeldBack) (room number place k : ℕ) (w : Waiting) → IsWindow next ring far room → seen next closed ring far ≡ held → number ≡ next + place → place < 4096 → k ≡ (place + 1) - length ring → seen next closed (slice_set (ring ++ replicate k None) place (Some w)) far ≡ record held { waiting = insert_entry nat_cmp held.waiting number w }
seen_near next closed ring far held room number place k w h is at within e =
    let long = length-padded ring k in
    let put : entries_of next (slice_set (ring ++ replicate k None) place (Some w)) far ≡ insert_entry nat_cmp (entries_of next ring far) number w =
    sym (insert_near next (ring ++ replicate k None) far number place w at (omega (arith, long, e)) (past number (next + 4096) (keys_of far) (omega (arith, at, within)) h.beyond))
    ∙ ap (λ es. insert_entry nat_cmp (es ++ far) number w) (padded next ring k) in
    (λ i. record { next = next; closed = closed; waiting = put i }) ∙ ap (λ (held : HeldBack). record held { waiting = insert_entry nat_cmp held.waiting number w }) is

-- an entry more farther away
pub kept_far : (next : ℕ) (ring : Places) (far changed : Entries) (room more number : ℕ) (w : Waiting) → IsWindow next ring far room → next + 4096 ≤ number → number + 1 < 2 ^ 64 → 4096 ≤ more → changed ≡ insert_entry nat_cmp far number w → IsWindow next ring changed more
kept_far next ring far changed room more number w h l fits reach e =
    let keys : keys_of changed ≡ keys_of (insert_entry nat_cmp far number w) = ap keys_of e in
    record {
      short = h.short;
      fits = h.fits;
      beyond = All-same (λ number. next + 4096 ≤ number) (keys_of changed) (keys_of (insert_entry nat_cmp far number w)) keys (All-keys-insert_entry nat_cmp number w (λ number. next + 4096 ≤ number) far h.beyond l);
      below = All-same (λ number. number + 1 < 2 ^ 64) (keys_of changed) (keys_of (insert_entry nat_cmp far number w)) keys (All-keys-insert_entry nat_cmp number w (λ number. number + 1 < 2 ^ 64) far h.below fits);
      reach = λ some. reach;
    }

pub seen_far : (next : ℕ) (closed : Bool) (ring : Places) (far more : Entries) (held : HeldBack) (room number : ℕ) (w : Waiting) → IsWindow next ring far room → seen next closed ring far ≡ held → next + 4096 ≤ number → more ≡ insert_entry nat_cmp far number w → seen next closed ring more ≡ record held { waiting = insert_entry nat_cmp held.waiting number w }
seen_far next closed ring far more held room number w h is l e =
    (λ i. record { next = next; closed = closed; waiting = (ap (entries_of next ring) e ∙ sym (insert_far next ring far number w (omega (arith, l, h.short)))) i })
    ∙ ap (λ (held : HeldBack). record held { waiting = insert_entry nat_cmp held.waiting number w }) is

-- a mark farther away
pub window_marked : (next : ℕ) (ring : Places) (far changed : Entries) (room number : ℕ) → IsWindow next ring far room → changed ≡ marked far number (waiting_at far number) → IsWindow next ring changed room
window_marked next ring far changed room number h e =
    let keys : keys_of changed ≡ keys_of far = ap keys_of e ∙ keys_marked (waiting_at far number) in
    record {
      short = h.short;
      fits = h.fits;
      beyond = All-same (λ number. next + 4096 ≤ number) (keys_of changed) (keys_of far) keys h.beyond;
      below = All-same (λ number. number + 1 < 2 ^ 64) (keys_of changed) (keys_of far) keys h.below;
      reach = λ some. h.reach (omega (arith, some, ap length e, length_marked (waiting_at far number)));
    }
  where
    keys_marked : (o : Option Waiting) → keys_of (marked far number o) ≡ keys_of far
    keys_marked None = refl
    keys_marked (Some w) = keys-set_value (is_at (nat_cmp number)) far (record { item = w.item; known = true })

    length_marked : (o : Option Waiting) → length (marked far number o) ≡ length far
    length_marked None = refl
    length_marked (Some w) = length-set_value (is_at (nat_cmp number)) far (record { item = w.item; known = true })
