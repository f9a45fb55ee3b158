-- What a hold-back does, by induction over its calls.
use Rattle.std.specs.Prelude.{◌≡◌, ◌≢◌, ℕ, zero, suc, ◌-◌, ◌<◌, ◌==◌, Bool, true, false, ◌&&◌, ◌||◌, if◌then◌else◌, List, [], ◌∷◌, map, length, replicate, slice_set, Option, Some, None, is_some, unwrap_or, refl}
use Rattle.std.specs.List.{list_any, range_with_len}
use Rattle.std.proofs.Common.{sym, ap, ◌∙◌, subst, arith, inl, inr, true≢false}
use Rattle.std.proofs.Math.ListN.{length-set}
use Rattle.std.proofs.lemmas.List.{get_or-set_same, get_or-set_other, length-replicate}
use Rattle.std.proofs.lemmas.Bool.Decides.{nat_tests, eqb_tells}
use Rattle.cast_message.proofs.Tests.{turned_about}
use Rattle.cast_message.proofs.Booleans.{or_assoc, or_comm, or_false}
use Rattle.cast_message.specs.declared.message.Item.{Item}
use Rattle.cast_message.specs.declared.message.Item.TheVariants.{Close}
use Rattle.cast_message.specs.declared.message.Message.{Message}
use Rattle.cast_model.specs.History.{numbered}
use Rattle.cast_fifo.specs.HeldBack.{HeldBack, nothing_held, held_of, with_item, known_items, known_after, offered_items, offered_after}
use Rattle.cast_fifo.specs.HoldsBack.{HoldsBack}
use Rattle.cast_fifo.specs.Calls.{Call, Hold, Known, Offer, is_pair, is_offer_of, is_hold_of, is_mark_of, is_ready, first_of, item_of, message_of, between, sender_of, held_after, held_by, answer, MayCall, MayBeCalled, GivesInOrder}
use Rattle.cast_fifo.proofs.Turns.{next_kept}
use Rattle.cast_fifo.proofs.Stands.{same_stands, came_is, holds, knows, with_one, numbered-map, first_none, or_true}

some_first : (a b : Option Item) → is_some (first_of a b) ≡ (is_some a || is_some b)
some_first None b = refl
some_first (Some x) b = refl

some_if : (b : Bool) (x : Item) → is_some (if b then Some x else None) ≡ b
some_if true x = refl
some_if false x = refl

hold_order : (o h p : Bool) → ((o || h) || p) ≡ (o || (p || h))
hold_order o h p = sym (or_assoc o h p) ∙ ap (λ b. o || b) (or_comm h p)

offer_order : (o h p : Bool) → ((o || h) || p) ≡ ((p || o) || h)
offer_order o h p = or_comm (o || h) p ∙ or_assoc p o h

-- a pair has an item where it was offered or held
came_by : (calls : List Call) (s i : ℕ) → is_some (item_of calls s i) ≡ (list_any (is_offer_of s i) calls || list_any (is_hold_of s i) calls)
came_by [] s i = refl
came_by (Hold m ∷ past) s i = some_first (item_of past s i) _ ∙ (λ k. came_by past s i k || some_if (is_pair m s i) m.item k) ∙ hold_order _ _ (is_pair m s i)
came_by (Known sender number ∷ past) s i = some_first (item_of past s i) None ∙ or_false _ ∙ came_by past s i
came_by (Offer m ∷ past) s i = some_first (item_of past s i) _ ∙ (λ k. came_by past s i k || some_if (is_pair m s i) m.item k) ∙ offer_order _ _ (is_pair m s i)

some_stays : (a b : Option Item) → is_some a ≡ true → is_some (first_of a b) ≡ true
some_stays None b e = absurd (true≢false (sym e))
some_stays (Some x) b e = refl

both_tests : (a b c d : ℕ) → (a == b && c == d) ≡ true → (a ≡ b) × (c ≡ d)
both_tests a b c d e = grind (arith, nat_tests)

-- a marked pair came
marked_came : (nodes : ℕ) (calls : List Call) (s i : ℕ) → MayBeCalled nodes calls → list_any (is_mark_of s i) calls ≡ true → is_some (item_of calls s i) ≡ true
marked_came nodes [] s i may e = absurd (true≢false (sym e))
marked_came nodes (Hold m ∷ past) s i may e = some_stays (item_of past s i) _ (marked_came nodes past s i may.0 e)
marked_came nodes (Offer m ∷ past) s i may e = some_stays (item_of past s i) _ (marked_came nodes past s i may.0 e)
marked_came nodes (Known sender number ∷ past) s i may e = some_stays (item_of past s i) None (go (sender == s && number == i) refl e (marked_came nodes past s i may.0))
  where
    go : (b : Bool) → (sender == s && number == i) ≡ b → (b || list_any (is_mark_of s i) past) ≡ true → (list_any (is_mark_of s i) past ≡ true → is_some (item_of past s i) ≡ true) → is_some (item_of past s i) ≡ true
    go true f e rest = let at = both_tests sender s number i f in sym (λ k. is_some (item_of past (at.0 k) (at.1 k))) ∙ may.1.1
    go false f e rest = rest e

ready_or : (o h m : Bool) → (o || (h && m)) ≡ true → (o || h) ≡ true
ready_or true h m e = refl
ready_or false true m e = refl
ready_or false false m e = e

-- a ready pair came
ready_came : (calls : List Call) (s i : ℕ) → is_ready calls s i ≡ true → is_some (item_of calls s i) ≡ true
ready_came calls s i e = came_by calls s i ∙ ready_or (list_any (is_offer_of s i) calls) (list_any (is_hold_of s i) calls) (list_any (is_mark_of s i) calls) e

pair_of_own : (s k i : ℕ) (b : Bool) → (s == s && k == i) ≡ (k == i)
pair_of_own s k i b = grind (arith, nat_tests)

pair_of_other : (t s k i : ℕ) → t ≢ s → (t == s && k == i) ≡ false
pair_of_other t s k i e = grind (arith, nat_tests)

by_hold : (o h m p : Bool) → (m ≡ true → (o || h) ≡ true) → (o || ((p || h) && m)) ≡ (o || (h && m))
by_hold o h m p f = grind (arith, nat_tests)

by_mark : (o h m t : Bool) → (t ≡ true → (o || h) ≡ true) → (o || (h && (t || m))) ≡ ((o || (h && m)) || t)
by_mark o h m t f = grind (arith, nat_tests)

-- the stand of one sender after a call of its own, and what the call answers
record Step (call : Call) (past : List Call) (before after : HeldBack) (given : List Message) : Type 0 where
  stands : HoldsBack (item_of (call ∷ past) (sender_of call)) (is_ready (call ∷ past) (sender_of call)) after
  answers : given ≡ between (call ∷ past) (sender_of call) before.next after.next

none_between : (calls : List Call) (s n m : ℕ) → m ≡ n → [] ≡ between calls s n m
none_between calls s n m e = ap (λ k. map (message_of calls s) (range_with_len n k)) (let z : 0 ≡ m - n = omega (arith, e) in z)

module _ (nodes : ℕ) (past : List Call) (may : MayBeCalled nodes past) where
  hold_step : (m : Message) (held : HeldBack) → HoldsBack (item_of past m.sender) (is_ready past m.sender) held → Step (Hold m) past held (with_item held m.number m.item) []
  hold_step m held h =
      let s = m.sender in
      let kept = holds (item_of past s) (is_ready past s) held m.number m.item h (ready_came past s) in
      record {
        stands = same_stands (with_one (item_of past s) m.number m.item) (item_of (Hold m ∷ past) s) (is_ready past s) (is_ready (Hold m ∷ past) s) (with_item held m.number m.item)
            (λ i. ap (λ b. first_of (item_of past s i) (if b then Some m.item else None)) (pair_of_own s m.number i true))
            (λ i. by_hold (list_any (is_offer_of s i) past) (list_any (is_hold_of s i) past) (list_any (is_mark_of s i) past) (is_pair m s i) (λ e. sym (came_by past s i) ∙ marked_came nodes past s i may e))
            kept;
        answers = none_between (Hold m ∷ past) s held.next (with_item held m.number m.item).next (next_kept held m.number m.item);
      }

  known_step : (s k : ℕ) (held : HeldBack) → is_some (item_of past s k) ≡ true → HoldsBack (item_of past s) (is_ready past s) held → Step (Known s k) past held (known_after held k) (numbered s held.next (known_items held k))
  known_step s k held e h =
      let calls = Known s k ∷ past in
      let kept = same_stands (item_of past s) (item_of calls s) (is_ready past s) (is_ready past s) held (λ i. first_none (item_of past s i)) (λ i. refl) h in
      let t = knows (item_of calls s) (is_ready past s) (is_ready calls s) held k kept (ap is_some (first_none (item_of past s k)) ∙ e)
      (λ i. by_mark (list_any (is_offer_of s i) past) (list_any (is_hold_of s i) past) (list_any (is_mark_of s i) past) (s == s && k == i) (λ f. sym (came_by past s i) ∙ ap (λ j. is_some (item_of past s j)) (sym (both_tests s s k i f).1) ∙ e) ∙ ap (λ b. is_ready past s i || b) (pair_of_own s k i true ∙ turned_about k i))
      (ready_came calls s) in
      record {
        stands = t.stands;
        answers = ap (numbered s held.next) t.run_is ∙ numbered-map s (λ i. unwrap_or (item_of calls s i) Close) held.next ((known_after held k).next - held.next);
      }

  offer_step : (m : Message) (held : HeldBack) → HoldsBack (item_of past m.sender) (is_ready past m.sender) held → Step (Offer m) past held (offered_after held m.number m.item) (numbered m.sender held.next (offered_items held m.number m.item))
  offer_step m held h =
      let s = m.sender in
      let k = m.number in
      let calls = Offer m ∷ past in
      let mid = with_item held k m.item in
      let same_item : (i : ℕ) → item_of calls s i ≡ with_one (item_of past s) k m.item i = λ i. ap (λ b. first_of (item_of past s i) (if b then Some m.item else None)) (pair_of_own s k i true) in
      let kept = same_stands (with_one (item_of past s) k m.item) (item_of calls s) (is_ready past s) (is_ready past s) mid same_item (λ i. refl) (holds (item_of past s) (is_ready past s) held k m.item h (ready_came past s)) in
      let t = knows (item_of calls s) (is_ready past s) (is_ready calls s) mid k kept (own_item s k m.item (item_of past s k))
      (λ i. sym (offer_order (list_any (is_offer_of s i) past) (list_any (is_hold_of s i) past && list_any (is_mark_of s i) past) (s == s && k == i)) ∙ ap (λ b. is_ready past s i || b) (pair_of_own s k i true ∙ turned_about k i))
      (ready_came calls s) in
      let next = next_kept held k m.item in
      record {
        stands = t.stands;
        answers =
            ap (λ n. numbered s n (known_items mid k)) (sym next)
            ∙ ap (numbered s mid.next) t.run_is
            ∙ numbered-map s (λ i. unwrap_or (item_of calls s i) Close) mid.next ((known_after mid k).next - mid.next)
            ∙ ap (λ n. between calls s n (known_after mid k).next) next;
      }
    where
      own_item : (s k : ℕ) (x : Item) (o : Option Item) → is_some (first_of o (if s == s && k == k then Some x else None)) ≡ true
      own_item s k x o = some_first o _ ∙ ap (λ b. is_some o || b) (some_if (s == s && k == k) x ∙ own s k) ∙ or_true (is_some o)
        where
          own : (s k : ℕ) → (s == s && k == k) ≡ true
          own s k = grind (arith, nat_tests)

length-held_by : (nodes : ℕ) (calls : List Call) → length (held_by nodes calls) ≡ nodes
length-held_by nodes [] = length-replicate nodes nothing_held
length-held_by nodes (Hold m ∷ past) = length-set (held_by nodes past) m.sender _ ∙ length-held_by nodes past
length-held_by nodes (Known s k ∷ past) = length-set (held_by nodes past) s _ ∙ length-held_by nodes past
length-held_by nodes (Offer m ∷ past) = length-set (held_by nodes past) m.sender _ ∙ length-held_by nodes past

nothing_of : (n s : ℕ) → held_of (replicate n nothing_held) s ≡ nothing_held
nothing_of zero s = refl
nothing_of (suc n) zero = refl
nothing_of (suc n) (suc s) = nothing_of n s

held_of-set : (all : List HeldBack) (s : ℕ) (v : HeldBack) → s < length all → held_of (slice_set all s v) s ≡ v
held_of-set all s v l = get_or-set_same all s v nothing_held l

set_elsewhere : (all : List HeldBack) (t s : ℕ) (v : HeldBack) → t ≢ s → held_of (slice_set all t v) s ≡ held_of all s
set_elsewhere all t s v e = get_or-set_other all t s v nothing_held (λ f. e (sym f))

-- a call of another sender
item_elsewhere : (call : Call) (past : List Call) (s i : ℕ) → sender_of call ≢ s → item_of (call ∷ past) s i ≡ item_of past s i
item_elsewhere (Hold m) past s i e = ap (λ b. first_of (item_of past s i) (if b then Some m.item else None)) (pair_of_other m.sender s m.number i e) ∙ first_none (item_of past s i)
item_elsewhere (Known t k) past s i e = first_none (item_of past s i)
item_elsewhere (Offer m) past s i e = ap (λ b. first_of (item_of past s i) (if b then Some m.item else None)) (pair_of_other m.sender s m.number i e) ∙ first_none (item_of past s i)

ready_elsewhere : (call : Call) (past : List Call) (s i : ℕ) → sender_of call ≢ s → is_ready (call ∷ past) s i ≡ is_ready past s i
ready_elsewhere (Hold m) past s i e = ap (λ b. list_any (is_offer_of s i) past || ((b || list_any (is_hold_of s i) past) && list_any (is_mark_of s i) past)) (pair_of_other m.sender s m.number i e)
ready_elsewhere (Known t k) past s i e = ap (λ b. list_any (is_offer_of s i) past || (list_any (is_hold_of s i) past && (b || list_any (is_mark_of s i) past))) (pair_of_other t s k i e)
ready_elsewhere (Offer m) past s i e = ap (λ b. (b || list_any (is_offer_of s i) past) || (list_any (is_hold_of s i) past && list_any (is_mark_of s i) past)) (pair_of_other m.sender s m.number i e)

held_elsewhere : (all : List HeldBack) (call : Call) (s : ℕ) → sender_of call ≢ s → held_of (held_after all call) s ≡ held_of all s
held_elsewhere all (Hold m) s e = set_elsewhere all m.sender s _ e
held_elsewhere all (Known t k) s e = set_elsewhere all t s _ e
held_elsewhere all (Offer m) s e = set_elsewhere all m.sender s _ e

sender_within : (nodes : ℕ) (past : List Call) (call : Call) → MayCall nodes past call → sender_of call < length (held_by nodes past)
sender_within nodes past (Hold m) may = omega (arith, may, length-held_by nodes past)
sender_within nodes past (Known t k) may = omega (arith, may.0, length-held_by nodes past)
sender_within nodes past (Offer m) may = omega (arith, may, length-held_by nodes past)

own_step : (nodes : ℕ) (past : List Call) (call : Call) → MayBeCalled nodes past → MayCall nodes past call → HoldsBack (item_of past (sender_of call)) (is_ready past (sender_of call)) (held_of (held_by nodes past) (sender_of call)) → Step call past (held_of (held_by nodes past) (sender_of call)) (held_of (held_by nodes (call ∷ past)) (sender_of call)) (answer (held_by nodes past) call)
own_step nodes past (Hold m) may call h = subst (λ after. Step (Hold m) past (held_of (held_by nodes past) m.sender) after []) (sym (held_of-set (held_by nodes past) m.sender _ (sender_within nodes past (Hold m) call))) (hold_step nodes past may m (held_of (held_by nodes past) m.sender) h)
own_step nodes past (Known s k) may call h = subst (λ after. Step (Known s k) past (held_of (held_by nodes past) s) after (answer (held_by nodes past) (Known s k))) (sym (held_of-set (held_by nodes past) s _ (sender_within nodes past (Known s k) call))) (known_step nodes past may s k (held_of (held_by nodes past) s) call.1 h)
own_step nodes past (Offer m) may call h = subst (λ after. Step (Offer m) past (held_of (held_by nodes past) m.sender) after (answer (held_by nodes past) (Offer m))) (sym (held_of-set (held_by nodes past) m.sender _ (sender_within nodes past (Offer m) call))) (offer_step nodes past may m (held_of (held_by nodes past) m.sender) h)

stands : (nodes : ℕ) (calls : List Call) → MayBeCalled nodes calls → (s : ℕ) → HoldsBack (item_of calls s) (is_ready calls s) (held_of (held_by nodes calls) s)
stands nodes [] may s =
    subst (HoldsBack (item_of [] s) (is_ready [] s)) (sym (nothing_of nodes s)) record { below = λ i l. absurd (omega (arith, l)); stops = refl; waits = λ i l. refl; ascends = tt; closed = refl }
stands nodes (call ∷ past) may s = elim (eqb_tells (sender_of call) s) [
  | inl e ↦ subst (λ t. HoldsBack (item_of (call ∷ past) t) (is_ready (call ∷ past) t) (held_of (held_by nodes (call ∷ past)) t)) e.1 (own_step nodes past call may.0 may.1 (stands nodes past may.0 (sender_of call))).stands
  | inr e ↦
      subst (HoldsBack (item_of (call ∷ past) s) (is_ready (call ∷ past) s)) (sym (held_elsewhere (held_by nodes past) call s e.1))
      (same_stands (item_of past s) (item_of (call ∷ past) s) (is_ready past s) (is_ready (call ∷ past) s) (held_of (held_by nodes past) s) (λ i. item_elsewhere call past s i e.1) (λ i. ready_elsewhere call past s i e.1) (stands nodes past may.0 s))
]

pub gives_in_order : GivesInOrder
gives_in_order nodes = (
  λ calls may s l.
      let h = stands nodes calls may s in
      record {
        next = record { all_below = h.below; not_itself = h.stops };
        closed = h.closed;
        came_is = came_is (item_of calls s) (is_ready calls s) (held_of (held_by nodes calls) s) h (ready_came calls s);
      },
  λ past call may. (own_step nodes past call may.0 may.1 (stands nodes past may.0 (sender_of call))).answers,
)
