-- Each actor of a run by a schedule is served.
use Rattle.std.proofs.Common.{◌≡◌, ◌≢◌, ◌<◌, ◌+◌, ◌-◌, ◌*◌, ◌⊎◌, ⊎_elim, inl, inr, ℕ, zero, suc, Bool, false, List, [], ◌∷◌, ◌++◌, length, slice_get, slice_set, get_or, swap_remove, take, Some, refl, sym, ap, ◌∙◌, subst, arith}
use Prim.{yes, no}
use Rattle.std.proofs.Math.Decide.{dec_lt}
use Rattle.std.proofs.lemmas.List.{length-set, length-append}
use Rattle.std.proofs.lemmas.Option.{slice_get_within, get_or_from_slice_get}
use Rattle.cast_box.proofs.Same.{get_set}
use Rattle.cast_box.proofs.Closing.{each_more}
use Rattle.cast_engine.proofs.Few.{set_elsewhere}
use Rattle.cast_carrier.proofs.Copying.{same_read}
use Rattle.cast_journal.specs.Lists.{Has}
use Rattle.cast_journal.proofs.Lists.{has_left, has_last}
use Rattle.cast_run.specs.declared.actors.Actors.{Actors}
use Rattle.cast_run.specs.declared.waits.LiveActor.{LiveActor}
use Rattle.cast_run.specs.declared.waits.Place.{Place}
use Rattle.cast_run.specs.declared.waits.Place.TheVariants.{Engine, Carrier, Job}
use Rattle.cast_run.specs.Fairly.{IsActorOf, Past, SteppedLately, IsServed, AreSameBut, ChangesOnly, TookSteps, RanFairly}
use Rattle.cast_run.specs.Waits.{WaitsState, OfEach, Names, AreNewActors, NoneWaitsTooLong, StepsNext, HasLeft}
use Rattle.cast_run.proofs.Waiting.{left_each}

-- ---- one actor changes

pub but_set : {A : Type 0} (xs : List A) (p : ℕ) (x : A) → AreSameBut p xs (slice_set xs p x)
but_set xs p x = (length-set xs p x, λ q other. set_elsewhere xs p q x other)

-- ---- all actors, when they are new

abbrev new_actor : Place → LiveActor
new_actor a = record { place = a; last = 0 }

names_more : (live : List LiveActor) (x : LiveActor) (a : Place) → Names live a → Names (live ++ x ∷ []) a
names_more live x a names = (names.0, has_left live (x ∷ []) names.0 names.1, names.2)

names_last : (live : List LiveActor) (a b : Place) → b ≡ a → Names (live ++ new_actor b ∷ []) a
names_last live a b is = (new_actor b, has_last live (new_actor b), is)

fresh_more : (live : List LiveActor) (b : Place) → OfEach (λ a. a.last ≡ 0) live → OfEach (λ a. a.last ≡ 0) (live ++ new_actor b ∷ [])
fresh_more live b fresh = each_more (λ p a. a.last ≡ 0) live (new_actor b) fresh refl

pub no_actors : (live : List LiveActor) → live ≡ [] → AreNewActors 0 0 live
no_actors live none = subst (AreNewActors 0 0) (sym none) (refl, (λ p a at. absurd cc), nobody)
  where
    nobody : (a : Place) → IsActorOf 0 0 a → Names [] a
    nobody (Engine n) is = absurd (omega (arith, is))
    nobody (Carrier n) is = absurd (omega (arith, is))
    nobody (Job i) is = absurd (omega (arith, is))

new_node : (n : ℕ) (all : List LiveActor) → AreNewActors n 0 all → AreNewActors (n + 1) 0 ((all ++ new_actor (Engine n) ∷ []) ++ new_actor (Carrier n) ∷ [])
new_node n all new = (
  (let one = length-append all (new_actor (Engine n) ∷ []) in let two = length-append (all ++ new_actor (Engine n) ∷ []) (new_actor (Carrier n) ∷ []) in let old = new.0 in omega (arith, one, two, old)),
  fresh_more (all ++ new_actor (Engine n) ∷ []) (Carrier n) (fresh_more all (Engine n) new.1),
  named,
)
  where
    before : (a : Place) → IsActorOf n 0 a → Names ((all ++ new_actor (Engine n) ∷ []) ++ new_actor (Carrier n) ∷ []) a
    before a is = names_more (all ++ new_actor (Engine n) ∷ []) (new_actor (Carrier n)) a (names_more all (new_actor (Engine n)) a (new.2 a is))

    named : (a : Place) → IsActorOf (n + 1) 0 a → Names ((all ++ new_actor (Engine n) ∷ []) ++ new_actor (Carrier n) ∷ []) a
    named (Engine k) is = elim (dec_lt k n) [
      | yes less ↦ before (Engine k) less
      | no more ↦ (let same : n ≡ k = omega (arith, is, more) in names_more (all ++ new_actor (Engine n) ∷ []) (new_actor (Carrier n)) (Engine k) (names_last all (Engine k) (Engine n) (ap (λ m. Engine m) same)))
    ]
    named (Carrier k) is = elim (dec_lt k n) [
      | yes less ↦ before (Carrier k) less
      | no more ↦ (let same : n ≡ k = omega (arith, is, more) in names_last (all ++ new_actor (Engine n) ∷ []) (Carrier k) (Carrier n) (ap (λ m. Carrier m) same))
    ]
    named (Job i) is = absurd (omega (arith, is))

pub nodes_more : (n : ℕ) (all one two : List LiveActor) (a b : LiveActor) → one ≡ all ++ a ∷ [] → a ≡ new_actor (Engine n) → two ≡ one ++ b ∷ [] → b ≡ new_actor (Carrier n) → AreNewActors n 0 all → AreNewActors (n + 1) 0 two
nodes_more n all one two a b first a_is second b_is new = subst (AreNewActors (n + 1) 0) (sym (second ∙ (λ i. (first ∙ ap (λ z. all ++ z ∷ []) a_is) i ++ b_is i ∷ []))) (new_node n all new)

pub new_job : (nodes n : ℕ) (all : List LiveActor) → AreNewActors nodes n all → AreNewActors nodes (n + 1) (all ++ new_actor (Job n) ∷ [])
new_job nodes n all new = (
  (let one = length-append all (new_actor (Job n) ∷ []) in let old = new.0 in omega (arith, one, old)),
  fresh_more all (Job n) new.1,
  named,
)
  where
    named : (a : Place) → IsActorOf nodes (n + 1) a → Names (all ++ new_actor (Job n) ∷ []) a
    named (Engine k) is = names_more all (new_actor (Job n)) (Engine k) (new.2 (Engine k) is)
    named (Carrier k) is = names_more all (new_actor (Job n)) (Carrier k) (new.2 (Carrier k) is)
    named (Job i) is = elim (dec_lt i n) [
      | yes less ↦ names_more all (new_actor (Job n)) (Job i) (new.2 (Job i) less)
      | no more ↦ (let same : n ≡ i = omega (arith, is, more) in names_last all (Job i) (Job n) (ap (λ m. Job m) same))
    ]

some_actor : (nodes jobs : ℕ) (a : Place) → IsActorOf nodes jobs a → 0 < 2 * nodes + jobs
some_actor nodes jobs (Engine n) is = omega (arith, is)
some_actor nodes jobs (Carrier n) is = omega (arith, is)
some_actor nodes jobs (Job i) is = omega (arith, is)

-- ---- names stay

names_set : (live : List LiveActor) (p steps : ℕ) (x : LiveActor) (a : Place) → slice_get live p ≡ Some x → Names live a → Names (slice_set live p (record { place = x.place; last = steps })) a
names_set [] p steps x a at names = absurd cc
names_set (y ∷ ys) zero steps x a at (b, (zero, here), is) =
    let e : y ≡ x = cc in
    let f : y ≡ b = cc in
    (record { place = x.place; last = steps }, (zero, refl), ap (λ (z : LiveActor). z.place) (sym e ∙ f) ∙ is)
names_set (y ∷ ys) zero steps x a at (b, (suc q, there), is) = (b, (suc q, there), is)
names_set (y ∷ ys) (suc p) steps x a at (b, (zero, here), is) = (b, (zero, here), is)
names_set (y ∷ ys) (suc p) steps x a at (b, (suc q, there), is) =
    let later = names_set ys p steps x a at (b, (q, there), is) in
    (later.0, (suc later.1.0, later.1.1), later.2)

taken_in : {X : Type 0} (n : ℕ) (xs : List X) (q : ℕ) (b : X) → q < n → slice_get xs q ≡ Some b → slice_get (take n xs) q ≡ Some b
taken_in zero xs q b less at = absurd (omega (arith, less))
taken_in (suc n) [] q b less at = absurd cc
taken_in (suc n) (x ∷ xs) zero b less at = at
taken_in (suc n) (x ∷ xs) (suc q) b less at = taken_in n xs q b (omega (arith, less)) at

set_here : {X : Type 0} (xs : List X) (p : ℕ) (y : X) → p < length xs → slice_get (slice_set xs p y) p ≡ Some y
set_here [] p y less = absurd (omega (arith, less))
set_here (x ∷ xs) zero y less = refl
set_here (x ∷ xs) (suc p) y less = set_here xs p y (omega (arith, less))

-- one at another place is still there
has_others : {X : Type 0} (xs : List X) (p q : ℕ) (d b : X) → p < length xs → q ≢ p → slice_get xs q ≡ Some b → Has (swap_remove xs p d) b
has_others xs p q d b within other at =
    let end = length xs - 1 in
    let y = get_or xs end d in
    let less = slice_get_within xs q b at in
    elim (dec_lt q end) [
      | yes early ↦ (q, taken_in end (slice_set xs p y) q b early (set_elsewhere xs p q y other ∙ at))
      | no late ↦
          let last : q ≡ end = omega (arith, less, late) in
          let is : y ≡ b = get_or_from_slice_get xs end b d (ap (slice_get xs) (sym last) ∙ at) in
          let apart : p ≢ end = λ same. other (last ∙ sym same) in
          (p, taken_in end (slice_set xs p y) p b (omega (arith, within, apart)) (set_here xs p y within ∙ ap Some is))
    ]

names_left : (live : List LiveActor) (p : ℕ) (d x : LiveActor) (a : Place) → slice_get live p ≡ Some x → Names live a → (x.place ≡ a) ⊎ Names (swap_remove live p d) a
names_left live p d x a at (b, (q, there), is) =
    let within = slice_get_within live p x at in
    elim (dec_lt q p) [
      | yes less ↦ inr (b, has_others live p q d b within (λ same. absurd (omega (arith, less, same))) there, is)
      | no more ↦ elim (dec_lt p q) [
        | yes less ↦ inr (b, has_others live p q d b within (λ same. absurd (omega (arith, less, same))) there, is)
        | no few ↦
            let same : q ≡ p = omega (arith, more, few) in
            inl (ap (λ (z : LiveActor). z.place) (same_read live p x b at (ap (slice_get live) (sym same) ∙ there)) ∙ is)
      ]
    ]

-- ---- a run so far

abbrev IsLast : Past → LiveActor → Type 0
IsLast past b = (b.last ≡ 0) ⊎ ((later earlier : Past) × (on : Bool) × (past ≡ later ++ (b.place, on) ∷ earlier) × (length earlier + 1 ≡ b.last))

pub record Goes {J G : Type 0} (old : Actors J G) (nodes jobs : ℕ) (now : Actors J G) (w : WaitsState) (past : Past) : Type 0 where
  pub took : TookSteps past old now
  pub long : length past ≡ w.steps
  pub most : w.most ≡ 2 * nodes + jobs
  pub lasts : OfEach (IsLast past) w.live
  pub there : (a : Place) → IsActorOf nodes jobs a → Names w.live a ⊎ Has past (a, false)
  pub served : (a : Place) → IsActorOf nodes jobs a → IsServed (w.longest + w.most) a past

took_none : {J G : Type 0} (old : Actors J G) → TookSteps [] old old
unfolding TookSteps
took_none old = refl

took_more : {J G : Type 0} (past : Past) (a : Place) (on : Bool) (old now new : Actors J G) → TookSteps past old now → ChangesOnly a now new → TookSteps ((a, on) ∷ past) old new
unfolding TookSteps
took_more past a on old now new took only = (now, took, only)

pub goes_first : {J G : Type 0} (old : Actors J G) (nodes jobs : ℕ) (w : WaitsState) → w.steps ≡ 0 → w.most ≡ 2 * nodes + jobs → AreNewActors nodes jobs w.live → Goes old nodes jobs old w []
goes_first old nodes jobs w none most new = record {
  took = took_none old;
  long = sym none;
  most = most;
  lasts = λ p a at. inl (new.1 p a at);
  there = λ a is. inl (new.2 a is);
  served = λ a is later earlier split.
      let some = some_actor nodes jobs a is in
      let all = ap length split ∙ length-append later earlier in
      inr (inl (omega (arith, all, some, most)));
}

module _ {J G : Type 0} (old : Actors J G) (nodes jobs : ℕ) (now : Actors J G) (w : WaitsState) (past : Past) (goes : Goes old nodes jobs now w past) where
  module _ (p : ℕ) (x : LiveActor) (at : slice_get w.live p ≡ Some x) (on : Bool) where
    abbrev step : Past
    step = (x.place, on) ∷ past

    abbrev after : WaitsState
    after = record w { steps = w.steps + 1; live = slice_set w.live p (record { place = x.place; last = w.steps + 1 }) }

    lasts_after : OfEach (IsLast step) after.live
    lasts_after q b here = ⊎_elim
        (λ (t : (q ≡ p) × (record { place = x.place; last = w.steps + 1 } ≡ b)).
        subst (IsLast step) t.1 (inr ([], past, on, refl, (let long = goes.long in omega (arith, long)))))
        (λ (t : (q ≢ p) × (slice_get w.live q ≡ Some b)).
        ⊎_elim (λ (none : b.last ≡ 0). inl none)
        (λ (s : (later earlier : Past) × (flag : Bool) × (past ≡ later ++ (b.place, flag) ∷ earlier) × (length earlier + 1 ≡ b.last)).
        inr ((x.place, on) ∷ s.0, s.1, s.2, ap (λ l. (x.place, on) ∷ l) s.3, s.4))
        (goes.lasts q b t.1))
        (get_set w.live p q (record { place = x.place; last = w.steps + 1 }) b here)

    there_after : (a : Place) → IsActorOf nodes jobs a → Names after.live a ⊎ Has step (a, false)
    there_after a is = ⊎_elim (λ names. inl (names_set w.live p (w.steps + 1) x a at names)) (λ (h : Has past (a, false)). inr (suc h.0, h.1)) (goes.there a is)

    -- who has not ended stepped lately
    lately : NoneWaitsTooLong after → (a : Place) → Names after.live a → SteppedLately (w.longest + w.most) a step
    lately none a (b, (q, here), is) =
        let less = none q b here in
        let long = goes.long in
        ⊎_elim
        (λ (never : b.last ≡ 0). inl (omega (arith, less, never, long)))
        (λ (s : (later earlier : Past) × (flag : Bool) × (step ≡ later ++ (b.place, flag) ∷ earlier) × (length earlier + 1 ≡ b.last)).
        let all = ap length s.3 ∙ length-append s.0 ((b.place, s.2) ∷ s.1) in
        let last = s.4 in
        inr (s.0, s.1, s.2, s.3 ∙ ap (λ z. s.0 ++ (z, s.2) ∷ s.1) is, omega (arith, less, long, all, last)))
        (lasts_after q b here)

    served_after : NoneWaitsTooLong after → (a : Place) → IsActorOf nodes jobs a → IsServed (w.longest + w.most) a step
    served_after none a is [] earlier split =
        let P : Past → Type 0 = λ l. Has l (a, false) ⊎ SteppedLately (w.longest + w.most) a l in
        subst P split (⊎_elim (λ names. inr (lately none a names)) (λ h. inl h) (there_after a is))
    served_after none a is (t ∷ later) earlier split = goes.served a is later earlier cc

    pub goes_step : (new : Actors J G) (w' : WaitsState) → w' ≡ after → NoneWaitsTooLong w' → ChangesOnly x.place now new → Goes old nodes jobs new w' step
    goes_step new w' same none only =
        let G' : WaitsState → Type 0 = λ s. Goes old nodes jobs new s step in
        subst G' (sym same) (record {
          took = took_more past x.place on old now new goes.took only;
          long = (let long = goes.long in omega (arith, long));
          most = goes.most;
          lasts = lasts_after;
          there = there_after;
          served = served_after (subst NoneWaitsTooLong same none);
        })

  -- the last one to step has ended
  pub goes_left : (p : ℕ) (x : LiveActor) (w' : WaitsState) → slice_get w.live p ≡ Some x → w' ≡ record w { live = swap_remove w.live p x } → Has past (x.place, false) → Goes old nodes jobs now w' past
  goes_left p x w' at same ended =
      let G' : WaitsState → Type 0 = λ s. Goes old nodes jobs now s past in
      subst G' (sym same) (record {
        took = goes.took;
        long = goes.long;
        most = goes.most;
        lasts = left_each (IsLast past) w.live p x (slice_get_within w.live p x at) goes.lasts;
        there = λ a is. ⊎_elim
            (λ names. ⊎_elim (λ (mine : x.place ≡ a). inr (subst (λ z. Has past (z, false)) mine ended)) (λ left. inl left) (names_left w.live p x x a at names))
            (λ h. inr h) (goes.there a is);
        served = goes.served;
      })

module _ {J G : Type 0} (old : Actors J G) (nodes jobs : ℕ) (now : Actors J G) (w : WaitsState) (past : Past) (goes : Goes old nodes jobs now w past)
    (p : ℕ) (w' : WaitsState) (next : StepsNext w p w') (none : NoneWaitsTooLong w') (who : Place) (named : (a : LiveActor) → slice_get w'.live p ≡ Some a → who ≡ a.place)
    (new : Actors J G) (only : ChangesOnly who now new) (on : Bool) where
  abbrev stepped : LiveActor
  stepped = record { place = next.0.place; last = w.steps + 1 }

  stepped_at : slice_get w'.live p ≡ Some stepped
  stepped_at = ap (λ (s : WaitsState). slice_get s.live p) next.2 ∙ set_here w.live p stepped (slice_get_within w.live p next.0 next.1.0)

  who_is : who ≡ next.0.place
  who_is = named stepped stepped_at

  -- an actor takes a step
  pub goes_on : Goes old nodes jobs new w' ((who, on) ∷ past)
  goes_on =
      let G' : Place → Type 0 = λ a. Goes old nodes jobs new w' ((a, on) ∷ past) in
      subst G' (sym who_is) (goes_step old nodes jobs now w past goes p next.0 next.1.0 on new w' next.2 none (subst (λ a. ChangesOnly a now new) who_is only))

  -- and ends
  pub goes_out : (w'' : WaitsState) → HasLeft w' p w'' → on ≡ false → Goes old nodes jobs new w'' ((who, on) ∷ past)
  goes_out w'' left off =
      let is : who ≡ left.0.place = named left.0 left.1 in
      goes_left old nodes jobs new w' ((who, on) ∷ past) goes_on p left.0 w'' left.1 left.2 (zero, (λ i. Some (is i, off i)))

pub ran_fairly : {J G : Type 0} (old now : Actors J G) (w : WaitsState) (longest : ℕ) → w.longest ≡ longest
    → (past : Past) × Goes old (length old.engines.items) (length old.jobs.items) now w past → RanFairly longest old now
ran_fairly old now w longest is (past, goes) = (
  past,
  goes.took,
  λ a who.
      let same : w.longest + w.most ≡ longest + (2 * length old.engines.items + length old.jobs.items) = (λ i. is i + goes.most i) in
      subst (λ n. IsServed n a past) same (goes.served a who),
)
