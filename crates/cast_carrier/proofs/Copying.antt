-- What a carrier puts is no more than its plan lets through.
use Rattle.std.proofs.Common.{◌≡◌, ◌≢◌, ◌<◌, ◌≤◌, ◌+◌, ◌-◌, ◌==◌, nat_le, nat_lt, ℕ, zero, suc, Bool, true, false, cond, if◌then◌else◌, ◌&&◌, ◌||◌, List, [], ◌∷◌, ◌++◌, map, length, replicate, take, drop, fold, count_by, sum_by, slice_get, slice_set, Option, Some, None, sym, refl, ap, ◌∙◌, subst, ◌⊎◌, inl, inr, ⊎_elim, not, append-nil, length-set, take_at, arith}
use Rattle.std.specs.List.{filter}
use Rattle.std.proofs.lemmas.Bool.{eq-eqb, le-leb, lt-ltb, ltb-false, false_from_ne_true, false≢true}
use Rattle.std.proofs.lemmas.List.Sums.{fold-append, sum_by-cons, sum_by_push}
use Rattle.cast_box.specs.Ends.{PutterEnd, AreSamePutters}
use Rattle.cast_box.proofs.Same.{get_set}
use Rattle.cast_message.specs.declared.message.Frame.{Frame}
use Rattle.cast_message.specs.declared.plan.Fault.{Fault}
use Rattle.cast_journal.specs.declared.parcel.Parcel.{Parcel}
use Rattle.cast_carrier.specs.declared.carrier.Delayed.{Delayed}
use Rattle.cast_carrier.specs.declared.fate.Fate.{Fate}
use Rattle.cast_carrier.specs.declared.fate.Ordinals.{Ordinals}
use Rattle.cast_carrier.specs.Fates.{one_more, fate_in, counted_where, counted_in}
use Rattle.cast_message.specs.Items.{kind_of}
use Rattle.cast_carrier.specs.Copies.{none_taken, counted_all, ordinals_after, frames_for, is_for, copies, copies_after, due_from, due, IsByPlan}
use Rattle.cast_carrier.specs.Carriers.{counted_down, is_early, is_due, waiting_on, kept_for, CarrierPlans, IsKeptOrLost, WaitsBy, PutsOne, PutsCopy, HandsOn, HandsOnAll, HandsOnUnless, HandsOver}
use Rattle.cast_carrier.proofs.Carrying.{same_on, same_last, same_all, same_over}

-- ---- what is due, by one frame more

-- one, where the parcel is for the target
abbrev step_to : ℕ → Parcel → ℕ
step_to q x = cond (x.frame.to == q) 1 0

due_snoc : (faults : List Fault) (o : List Ordinals) (test : Parcel → Bool) (q more : ℕ) (ms : List (ℕ × Parcel)) (m : ℕ × Parcel)
    → due_from faults o test q more (ms ++ m ∷ [])
    ≡ due_from faults o test q (more + step_to q m.1) ms + cond (is_for test q m.1) (copies_after (fate_in faults (fold (λ s n. counted_in s n.1.frame) o ms) m.1.frame) more) 0
unfolding due_from
due_snoc faults o test q more [] m =
    let now : 0 + more ≡ more = omega arith in
    let all = ap (λ n. cond (is_for test q m.1) (copies_after (fate_in faults o m.1.frame) n) 0) now in
    omega (arith, all)
due_snoc faults o test q more (x ∷ ms) m =
    let one : frames_for q (ms ++ m ∷ []) ≡ frames_for q ms + step_to q m.1 = sum_by_push (λ (n : ℕ × Parcel). cond (n.1.frame.to == q) 1 0) ms m in
    let later : frames_for q (ms ++ m ∷ []) + more ≡ frames_for q ms + (more + step_to q m.1) = omega (arith, one) in
    let it = due_snoc faults (counted_in o x.1.frame) test q more ms m in
    ap (λ n. cond (is_for test q x.1) (copies_after (fate_in faults o x.1.frame) n) 0 + due_from faults (counted_in o x.1.frame) test q more (ms ++ m ∷ [])) later ∙ omega (arith, it)

-- ---- what is kept, by one frame more

down_one : (a to q l more c : ℕ) (t : Bool) → cond ((a == q && t) && nat_le (if a == to then l - 1 else l) more) c 0 ≤ cond ((a == q && t) && nat_le l (more + cond (to == q) 1 0)) c 0
down_one a to q l more c t = grind arith

kept_down : (test : Parcel → Bool) (to q more : ℕ) (d : List Delayed) → kept_for test q more (map (counted_down to) d) ≤ kept_for test q (more + cond (to == q) 1 0) d
kept_down test to q more [] = omega arith
kept_down test to q more (x ∷ d) =
    let f : Delayed → ℕ = λ z. cond (is_for test q z.parcel && nat_le z.left more) (copies z.twice) 0 in
    let g : Delayed → ℕ = λ z. cond (is_for test q z.parcel && nat_le z.left (more + cond (to == q) 1 0)) (copies z.twice) 0 in
    let one : f (counted_down to x) ≤ g x = down_one x.parcel.frame.to to q x.left more (copies x.twice) (test x.parcel) in
    omega (arith, one, kept_down test to q more d, sum_by-cons f (counted_down to x) (map (counted_down to) d), sum_by-cons g x d)

-- ---- what is put

count_more : (test : Parcel → Bool) (xs ys : List Parcel) (x : Parcel) → (ys ≡ xs ++ x ∷ []) ⊎ (ys ≡ xs) → count_by test ys ≤ count_by test xs + cond (test x) 1 0
count_more test xs ys x is =
    let f : Parcel → ℕ = λ z. cond (test z) 1 0 in
    ⊎_elim
    (λ (e : ys ≡ xs ++ x ∷ []). let more = ap (sum_by f) e ∙ sum_by_push f xs x in omega (arith, more))
    (λ (e : ys ≡ xs). let same = ap (sum_by f) e in omega (arith, same))
    is

pub same_read : {X : Type 0} (xs : List X) (i : ℕ) (a b : X) → slice_get xs i ≡ Some a → slice_get xs i ≡ Some b → a ≡ b
same_read [] i a b e f = absurd cc
same_read (x ∷ xs) zero a b e f = let here : x ≡ a = cc in let there : x ≡ b = cc in sym here ∙ there
same_read (x ∷ xs) (suc i) a b e f = same_read xs i a b e f

put_at_most : (test : Parcel → Bool) (q : ℕ) (x : Parcel) (old new : List Parcel) (n : ℕ) → x.frame.to ≡ q → count_by test new ≤ count_by test old + cond (test x) n 0 → count_by test new ≤ count_by test old + cond (is_for test q x) n 0
put_at_most test q x old new n is most =
    let yes : is_for test q x ≡ test x = ap (λ b. b && test x) (eq-eqb x.frame.to q is) in
    subst (λ b. count_by test new ≤ count_by test old + cond b n 0) (sym yes) most

-- into the inbox of its target go at most so many copies of the parcel, and nothing else into any
abbrev PutsUpTo : ℕ → List (PutterEnd Parcel) → Parcel → List (PutterEnd Parcel) → Type 0
PutsUpTo n inboxes x inboxes' =
    (test : Parcel → Bool) (q : ℕ) (old new : PutterEnd Parcel)
    → slice_get inboxes q ≡ Some old → slice_get inboxes' q ≡ Some new → count_by test new.put ≤ count_by test old.put + cond (is_for test q x) n 0

put_once : (inboxes : List (PutterEnd Parcel)) (x : Parcel) (old new : PutterEnd Parcel) → slice_get inboxes x.frame.to ≡ Some old → (new.put ≡ old.put ++ x ∷ []) ⊎ (new.put ≡ old.put)
    → PutsUpTo 1 inboxes x (slice_set inboxes x.frame.to new)
put_once inboxes x old new was put test q a b at now =
    ⊎_elim
    (λ (t : (q ≡ x.frame.to) × (new ≡ b)).
    let first : old ≡ a = same_read inboxes q old a (ap (slice_get inboxes) t.0 ∙ was) at in
    let P : PutterEnd Parcel → Type 0 = λ z. count_by test z.put ≤ count_by test old.put + cond (test x) 1 0 in
    let Q : PutterEnd Parcel → Type 0 = λ z. count_by test b.put ≤ count_by test z.put + cond (test x) 1 0 in
    put_at_most test q x a.put b.put 1 (sym t.0) (subst Q first (subst P t.1 (count_more test old.put new.put x put))))
    (λ (t : (q ≢ x.frame.to) × (slice_get inboxes q ≡ Some b)).
    let same = ap (λ (z : PutterEnd Parcel). count_by test z.put) (same_read inboxes q a b at t.1) in omega (arith, same))
    (get_set inboxes x.frame.to q new b now)

put_none : (inboxes : List (PutterEnd Parcel)) (x : Parcel) (n : ℕ) → PutsUpTo n inboxes x inboxes
put_none inboxes x n test q a b at now = let same = ap (λ (z : PutterEnd Parcel). count_by test z.put) (same_read inboxes q a b at now) in omega (arith, same)

split_for : (b : Bool) (m n all : ℕ) → m + n ≡ all → cond b m 0 + cond b n 0 ≡ cond b all 0
split_for true m n all e = e
split_for false m n all e = refl

second : (twice : Bool) → (if twice then 1 else 0) + 1 ≡ copies twice
second true = refl
second false = refl

most_one : (room : ℕ) (a b : List (PutterEnd Parcel)) (x : Parcel) → PutsOne room a x b → PutsUpTo 1 a x b
most_one room a b x h =
    ⊎_elim (λ t. subst (PutsUpTo 1 a x) (sym t.1) (put_none a x 1))
    (λ t. subst (PutsUpTo 1 a x) (sym t.3) (put_once a x t.0 t.1 t.2 (⊎_elim (λ e. inl e.0) (λ e. inr e.0) t.5)))
    h

most_copy : (room : ℕ) (twice : Bool) (a b : List (PutterEnd Parcel)) (x : Parcel) → PutsCopy room twice a x b → PutsUpTo (if twice then 1 else 0) a x b
most_copy room false a b x h = subst (PutsUpTo 0 a x) (sym h) (put_none a x 0)
most_copy room true a b x h = ⊎_elim (λ t. most_one room a b x t) (λ t. subst (PutsUpTo 1 a x) (sym t.1) (put_none a x 1)) h

most_on : (room : ℕ) (twice : Bool) (a b : List (PutterEnd Parcel)) (x : Parcel) → HandsOn room twice a x b → PutsUpTo (copies twice) a x b
most_on room twice a b x h test q old new at now =
    let mid = (same_last room twice a b x h).1 q new now in
    omega (arith, most_copy room twice a h.0 x h.1 test q old mid.0 at mid.1, most_one room h.0 b x h.2 test q mid.0 new mid.1 now, split_for (is_for test q x) _ 1 _ (second twice))

-- ---- what is handed on, kept or lost

-- no more are put or kept than were before, at any time
abbrev IsNoMore : List (PutterEnd Parcel) → List Delayed → List (PutterEnd Parcel) → List Delayed → Type 0
IsNoMore inboxes delayed inboxes' delayed' =
    (test : Parcel → Bool) (q more : ℕ) (old new : PutterEnd Parcel)
    → slice_get inboxes q ≡ Some old → slice_get inboxes' q ≡ Some new
    → count_by test new.put + kept_for test q more delayed' ≤ count_by test old.put + kept_for test q more delayed

-- no more than were before, and what is due of the parcel by its fate
abbrev IsByFate : Fate → List (PutterEnd Parcel) → List Delayed → Parcel → List (PutterEnd Parcel) → List Delayed → Type 0
IsByFate fate inboxes delayed x inboxes' delayed' =
    (test : Parcel → Bool) (q more : ℕ) (old new : PutterEnd Parcel)
    → slice_get inboxes q ≡ Some old → slice_get inboxes' q ≡ Some new
    → count_by test new.put + kept_for test q more delayed'
    ≤ count_by test old.put + kept_for test q more (map (counted_down x.frame.to) delayed) + cond (is_for test q x) (copies_after fate more) 0

counted_now : (b : Bool) (left more c : ℕ) → left ≡ 0 → cond b c 0 ≡ cond (b && nat_le left more) c 0
counted_now true left more c e = sym (ap (λ n. cond n c 0) (le-leb left more (omega (arith, e))))
counted_now false left more c e = refl

late : (n : ℕ) → not (nat_lt 0 n) ≡ true → n ≡ 0
late zero h = refl
late (suc n) h = absurd (false≢true (sym (ap not (lt-ltb 0 (suc n) (omega arith))) ∙ h))

-- what is due is put in the place of being kept
pub handed_no_more : (room : ℕ) (a b : List (PutterEnd Parcel)) (ds : List Delayed) → HandsOnAll room a (filter is_due ds) b → IsNoMore a ds b (filter is_early ds)
unfolding HandsOnAll
handed_no_more room a b [] h =
    λ test q more old new at now. let same = ap (λ (z : PutterEnd Parcel). count_by test z.put) (same_read a q old new at (ap (λ l. slice_get l q) (sym h) ∙ now)) in omega (arith, same)
handed_no_more room a b (d ∷ ds) h = by_test (is_early d) refl h (λ c on. handed_no_more room c b ds on)
  where
    by_test : (t : Bool) → is_early d ≡ t → HandsOnAll room a (if not t then d ∷ filter is_due ds else filter is_due ds) b
        → ((c : List (PutterEnd Parcel)) → HandsOnAll room c (filter is_due ds) b → IsNoMore c ds b (filter is_early ds)) → IsNoMore a (d ∷ ds) b (if t then d ∷ filter is_early ds else filter is_early ds)
    by_test true is on rest test q more old new at now =
        let f : Delayed → ℕ = λ z. cond (is_for test q z.parcel && nat_le z.left more) (copies z.twice) 0 in
        omega (arith, rest a on test q more old new at now, sum_by-cons f d ds, sum_by-cons f d (filter is_early ds))
    by_test false is on rest test q more old new at now =
        let f : Delayed → ℕ = λ z. cond (is_for test q z.parcel && nat_le z.left more) (copies z.twice) 0 in
        let mid = (same_all room on.0 b (filter is_due ds) on.2).1 q new now in
        let own = counted_now (is_for test q d.parcel) d.left more (copies d.twice) (late d.left (ap not is)) in
        omega (arith, most_on room d.twice a on.0 d.parcel on.1 test q old mid.0 at mid.1, rest on.0 on.2 test q more mid.0 new mid.1 now, own, sum_by-cons f d ds)

allowed : (fate : Fate) (b : Bool) (more : ℕ) → fate.lost ≡ false → cond (b && nat_le fate.delay more) (copies fate.twice) 0 ≤ cond b (copies_after fate more) 0
allowed fate false more spared = omega arith
allowed fate true more spared = grind arith

kept_more : (test : Parcel → Bool) (q more : ℕ) (e f : List Delayed) (d : Delayed) (kept : Bool) → f ≡ cond kept (e ++ d ∷ []) e
    → kept_for test q more f ≤ kept_for test q more e + cond (is_for test q d.parcel && nat_le d.left more) (copies d.twice) 0
kept_more test q more e f d true is =
    let g : Delayed → ℕ = λ z. cond (is_for test q z.parcel && nat_le z.left more) (copies z.twice) 0 in let all = ap (sum_by g) is in omega (arith, all, sum_by_push g e d)
kept_more test q more e f d false is = let all = ap (kept_for test q more) is in omega (arith, all)

lost_so : (fate : Fate) (a b : List (PutterEnd Parcel)) (d e : List Delayed) (x : Parcel) → IsNoMore a (map (counted_down x.frame.to) d) b e → IsByFate fate a d x b e
lost_so fate a b d e x m test q more old new at now = omega (arith, m test q more old new at now)

kept_so : (fate : Fate) (a b : List (PutterEnd Parcel)) (d e f : List Delayed) (x : Parcel) → fate.lost ≡ false → IsNoMore a (map (counted_down x.frame.to) d) b e
    → IsKeptOrLost e (record { left = fate.delay; twice = fate.twice; parcel = x }) f → IsByFate fate a d x b f
kept_so fate a b d e f x spared m k test q more old new at now =
    omega (arith, m test q more old new at now, kept_more test q more e f (record { left = fate.delay; twice = fate.twice; parcel = x }) k.0 k.1, allowed fate (is_for test q x) more spared)

handed_so : (fate : Fate) (a b c : List (PutterEnd Parcel)) (d e : List Delayed) (x : Parcel) → fate.lost ≡ false → fate.delay ≤ 0 → IsNoMore a (map (counted_down x.frame.to) d) b e
    → AreSamePutters b c → PutsUpTo (copies fate.twice) b x c → IsByFate fate a d x c e
handed_so fate a b c d e x spared none m same most test q more old new at now =
    let mid = same.1 q new now in
    let zero_is : fate.delay ≡ 0 = omega (arith, none) in
    omega (arith, m test q more old mid.0 at mid.1, most test q mid.0 new mid.1 now, counted_now (is_for test q x) fate.delay more (copies fate.twice) zero_is, allowed fate (is_for test q x) more spared)

or_parts : (x y : Bool) → x || y ≡ false → (x ≡ false) × (y ≡ false)
or_parts true y h = absurd cc
or_parts false y h = (refl, h)

by_fate : (room : ℕ) (stays : Bool) (fate : Fate) (a mid b : List (PutterEnd Parcel)) (d e : List Delayed) (x : Parcel) (kept : Bool) → fate.lost || nat_lt 0 fate.delay ≡ stays
    → IsNoMore a (map (counted_down x.frame.to) d) mid (waiting_on x.frame.to d) → (kept ≡ true → (fate.lost ≡ false) × (0 < fate.delay))
    → e ≡ waiting_on x.frame.to d ++ cond kept (record { left = fate.delay; twice = fate.twice; parcel = x } ∷ []) [] → HandsOnUnless room stays fate.twice mid x b → IsByFate fate a d x b e
by_fate room true fate a mid b d e x true stays no_more may is on =
    let from : IsByFate fate a d x mid e = kept_so fate a mid d (waiting_on x.frame.to d) e x (may refl).0 no_more (true, is) in
    subst (λ l. IsByFate fate a d x l e) (sym on) from
by_fate room true fate a mid b d e x false stays no_more may is on =
    let same : e ≡ waiting_on x.frame.to d = is ∙ append-nil (waiting_on x.frame.to d) in
    subst (λ l. IsByFate fate a d x l e) (sym on) (subst (IsByFate fate a d x mid) (sym same) (lost_so fate a mid d (waiting_on x.frame.to d) x no_more))
by_fate room false fate a mid b d e x kept stays no_more may is on =
    let goes = or_parts fate.lost (nat_lt 0 fate.delay) stays in
    let none : kept ≡ false = false_from_ne_true kept (λ yes. let some = (may yes).1 in let few = ltb-false 0 fate.delay goes.1 in omega (arith, some, few)) in
    let same : e ≡ waiting_on x.frame.to d = is ∙ (λ i. waiting_on x.frame.to d ++ cond (none i) (record { left = fate.delay; twice = fate.twice; parcel = x } ∷ []) []) ∙ append-nil (waiting_on x.frame.to d) in
    subst (IsByFate fate a d x b) (sym same) (handed_so fate a mid b d (waiting_on x.frame.to d) x goes.0 (ltb-false 0 fate.delay goes.1) no_more (same_on room fate.twice mid b x on) (most_on room fate.twice mid b x on))

over_by_fate : (room : ℕ) (fate : Fate) (a b : List (PutterEnd Parcel)) (d e : List Delayed) (x : Parcel) → WaitsBy fate d x e → HandsOver room fate a d x b → IsByFate fate a d x b e
over_by_fate room fate a b d e x waits hands =
    by_fate room (fate.lost || nat_lt 0 fate.delay) fate a hands.0 b d e x waits.0 refl (handed_no_more room a hands.0 (map (counted_down x.frame.to) d) hands.1) waits.1 waits.2 hands.2

-- ---- a carrier

counted_long : (ordinals : List Ordinals) (frame : Frame) (at : Option Ordinals) → length (counted_where ordinals frame at) ≡ length ordinals
counted_long ordinals frame None = refl
counted_long ordinals frame (Some counts) = length-set ordinals frame.to (one_more (kind_of frame.body) counts)

-- the whole row is written back
pub counted_back : (old new : List Ordinals) (frame : Frame) (len : ℕ) → len ≡ length old → new ≡ counted_in old frame → take len (new ++ drop (length new) old) ≡ counted_in old frame
counted_back old new frame len long is =
    let same = ap length is ∙ counted_long old frame (slice_get old frame.to) in take_at new (drop (length new) old) len (same ∙ sym long) ∙ is

pub planned_by : (room : ℕ) (faults : List Fault) (taken taken' : List (ℕ × Parcel)) (a b : List (PutterEnd Parcel)) (d e : List Delayed) (number : ℕ) (x : Parcel) (ordinals ordinals' : List Ordinals) (fate : Fate)
    → CarrierPlans faults ordinals taken a d → taken' ≡ taken ++ (number, x) ∷ [] → fate ≡ fate_in faults ordinals x.frame → ordinals' ≡ counted_in ordinals x.frame
    → WaitsBy fate d x e → HandsOver room fate a d x b → CarrierPlans faults ordinals' taken' b e
planned_by room faults taken taken' a b d e number x ordinals ordinals' fate k is by count waits hands =
    let same = same_over room fate a b d x hands in
    let m = over_by_fate room fate a b d e x waits hands in
    let add : List Ordinals → (ℕ × Parcel) → List Ordinals = λ s n. counted_in s n.1.frame in
    let more_so : ordinals' ≡ ordinals_after (length b) taken' =
    count ∙ ap (λ s. counted_in s x.frame) k.0 ∙ sym (fold-append add (replicate (length a) none_taken) taken ((number, x) ∷ [])) ∙ ap (λ n. ordinals_after n (taken ++ (number, x) ∷ [])) (sym same.0) ∙ ap (ordinals_after (length b)) (sym is) in (
      more_so,
      λ test q more inbox at.
          let was = same.1 q inbox at in
          let step = m test q more was.0 inbox was.1 at in
          let down = kept_down test x.frame.to q more d in
          let before = k.1 test q (more + step_to q x) was.0 was.1 in
          let so : fate ≡ fate_in faults (ordinals_after (length a) taken) x.frame = by ∙ ap (λ s. fate_in faults s x.frame) k.0 in
          let now = ap (λ z. cond (is_for test q x) (copies_after z more) 0) so in
          let next = due_snoc faults (replicate (length a) none_taken) test q more taken (number, x) in
          let all = ap (due faults (length a) test q more) is in
          let wide = ap (λ n. due faults n test q more taken') same.0 in
          omega (arith, step, down, before, now, next, all, wide),
    )

pub by_plan : (faults : List Fault) (ordinals : List Ordinals) (taken : List (ℕ × Parcel)) (inboxes : List (PutterEnd Parcel)) (delayed : List Delayed) → CarrierPlans faults ordinals taken inboxes delayed → IsByPlan faults taken inboxes
by_plan faults ordinals taken inboxes delayed k test q inbox at = omega (arith, k.1 test q 0 inbox at)

-- ---- what is due is let through

-- One of the taken parcels that are for target q and pass the test is not lost, and after it as many were taken for the
-- target as delay it.
pub record IsThrough (faults : List Fault) (ordinals : List Ordinals) (test : Parcel → Bool) (q : ℕ) (taken : List (ℕ × Parcel)) : Type 0 where
  pub before : List (ℕ × Parcel)
  pub m : ℕ × Parcel
  pub after : List (ℕ × Parcel)
  pub split : taken ≡ before ++ m ∷ after
  pub passes : is_for test q m.1 ≡ true
  pub spared : (fate_in faults (counted_all ordinals before) m.1.frame).lost ≡ false
  pub waited : (fate_in faults (counted_all ordinals before) m.1.frame).delay ≤ frames_for q after

let_through : (b : Bool) (fate : Fate) (n : ℕ) → 0 < cond b (copies_after fate n) 0 → (b ≡ true) × (fate.lost ≡ false) × (fate.delay ≤ n)
let_through false fate n some = absurd (omega (arith, some))
let_through true fate n some = by_both fate.lost (nat_lt n fate.delay) refl refl some
  where
    by_both : (l d : Bool) → fate.lost ≡ l → nat_lt n fate.delay ≡ d → 0 < (if l || d then 0 else copies fate.twice) → (true ≡ true) × (fate.lost ≡ false) × (fate.delay ≤ n)
    by_both true d lost late some = absurd (omega (arith, some))
    by_both false true lost late some = absurd (omega (arith, some))
    by_both false false lost late some = (refl, lost, ltb-false n fate.delay late)

pub due_is_through : (faults : List Fault) (o : List Ordinals) (test : Parcel → Bool) (q : ℕ) (taken : List (ℕ × Parcel)) → 0 < due_from faults o test q 0 taken → IsThrough faults o test q taken
unfolding due_from
due_is_through faults o test q [] some = absurd (omega (arith, some))
due_is_through faults o test q (m ∷ ms) some = by_first (cond (is_for test q m.1) (copies_after (fate_in faults o m.1.frame) (frames_for q ms + 0)) 0) refl (due_is_through faults (counted_in o m.1.frame) test q ms)
  where
    by_first : (n : ℕ) → cond (is_for test q m.1) (copies_after (fate_in faults o m.1.frame) (frames_for q ms + 0)) 0 ≡ n
        → (0 < due_from faults (counted_in o m.1.frame) test q 0 ms → IsThrough faults (counted_in o m.1.frame) test q ms) → IsThrough faults o test q (m ∷ ms)
    by_first zero is later =
        let it = later (omega (arith, some, is)) in
        record { before = m ∷ it.before; m = it.m; after = it.after; split = ap (λ l. m ∷ l) it.split; passes = it.passes; spared = it.spared; waited = it.waited }
    by_first (suc n) is later =
        let it = let_through (is_for test q m.1) (fate_in faults o m.1.frame) (frames_for q ms + 0) (omega (arith, is)) in
        record { before = []; m = m; after = ms; split = refl; passes = it.0; spared = it.1; waited = (let late = it.2 in omega (arith, late)) }

-- ---- what is due of one parcel alone

due_none : (faults : List Fault) (o : List Ordinals) (test : Parcel → Bool) (q more : ℕ) (ms : List (ℕ × Parcel)) → ((i : ℕ) (m : ℕ × Parcel) → slice_get ms i ≡ Some m → is_for test q m.1 ≡ true → ⊥)
    → due_from faults o test q more ms ≡ 0
unfolding due_from
due_none faults o test q more [] none = refl
due_none faults o test q more (m ∷ ms) none =
    let fails : is_for test q m.1 ≡ false = false_from_ne_true (is_for test q m.1) (none 0 m refl) in
    let first = ap (λ b. cond b (copies_after (fate_in faults o m.1.frame) (frames_for q ms + more)) 0) fails in
    omega (arith, first, due_none faults (counted_in o m.1.frame) test q more ms (λ i k at. none (suc i) k at))

few_copies : (fate : Fate) (b : Bool) (n : ℕ) → cond b (copies_after fate n) 0 ≤ copies fate.twice
few_copies fate false n = omega arith
few_copies fate true n = grind arith

-- once, or twice where it is repeated
pub due_once : (faults : List Fault) (o : List Ordinals) (test : Parcel → Bool) (q more : ℕ) (before : List (ℕ × Parcel)) (m : ℕ × Parcel) (after : List (ℕ × Parcel))
    → ((i : ℕ) (k : ℕ × Parcel) → slice_get (before ++ m ∷ after) i ≡ Some k → is_for test q k.1 ≡ true → i ≡ length before)
    → due_from faults o test q more (before ++ m ∷ after) ≤ copies (fate_in faults (counted_all o before) m.1.frame).twice
unfolding due_from
due_once faults o test q more [] m after once =
    let few = few_copies (fate_in faults o m.1.frame) (is_for test q m.1) (frames_for q after + more) in
    let rest = due_none faults (counted_in o m.1.frame) test q more after (λ i k at passes. let e = once (suc i) k at passes in cc) in
    omega (arith, few, rest)
due_once faults o test q more (b ∷ bs) m after once =
    let fails : is_for test q b.1 ≡ false = false_from_ne_true (is_for test q b.1) (λ passes. let e = once 0 b refl passes in cc) in
    let first = ap (λ t. cond t (copies_after (fate_in faults o b.1.frame) (frames_for q (bs ++ m ∷ after) + more)) 0) fails in
    let rest = due_once faults (counted_in o b.1.frame) test q more bs m after (λ i k at passes. let e = once (suc i) k at passes in omega (arith, e)) in
    omega (arith, first, rest)

-- ---- one frame more was taken

pub down_set : (to : ℕ) (old : List Delayed) (place : ℕ) (d d' : Delayed) → slice_get (map (counted_down to) (take place old) ++ drop place old) place ≡ Some d → d' ≡ counted_down to d
    → slice_set (map (counted_down to) (take place old) ++ drop place old) place d' ≡ map (counted_down to) (take (place + 1) old) ++ drop (place + 1) old
down_set to [] zero d d' at is = absurd cc
down_set to [] (suc place) d d' at is = absurd cc
down_set to (x ∷ old) zero d d' at is = let here : x ≡ d = cc in ap (λ z. z ∷ old) (is ∙ ap (counted_down to) (sym here))
down_set to (x ∷ old) (suc place) d d' at is =
    let next : suc (place + 1) ≡ suc place + 1 = omega arith in
    ap (λ l. counted_down to x ∷ l) (down_set to old place d d' at is) ∙ ap (λ n. map (counted_down to) (take n (x ∷ old)) ++ drop n (x ∷ old)) next

pub down_long : (to : ℕ) (old : List Delayed) (place : ℕ) → length (map (counted_down to) (take place old) ++ drop place old) ≡ length old
down_long to [] zero = refl
down_long to [] (suc place) = refl
down_long to (x ∷ old) zero = refl
down_long to (x ∷ old) (suc place) = ap suc (down_long to old place)
