-- A carrier that carries one parcel has the same ends, and keeps what it keeps.
use Rattle.std.proofs.Common.{◌≡◌, ◌≢◌, Bool, true, false, cond, ℕ, zero, suc, List, [], ◌∷◌, ◌++◌, map, slice_get, slice_set, Some, refl, sym, ap, ◌∙◌, subst, ◌⊎◌, inl, inr, ⊎_elim}
use Rattle.cast_box.specs.Ends.{PutterEnd, IsSamePutter, AreSamePutters}
use Rattle.cast_box.proofs.Same.{get_set, putters_same, putters_again, putters_set}
use Rattle.cast_journal.specs.declared.parcel.Parcel.{Parcel}
use Rattle.cast_carrier.specs.declared.carrier.Delayed.{Delayed}
use Rattle.cast_carrier.specs.declared.fate.Fate.{Fate}
use Rattle.cast_journal.specs.Lists.{Has}
use Rattle.cast_carrier.specs.Carriers.{IsTaken, Brings, CarrierKeeps, WaitsBy, PutsInto, PutsOne, PutsCopy, HandsOn, HandsOnAll, HandsOnUnless, HandsOver, counted_down, waiting_on, due_by}
use Rattle.cast_journal.proofs.Lists.{has_left, has_last, has_snoc, has_none, has_either, has_filter}

pub put_one : (room : ℕ) (inboxes : List (PutterEnd Parcel)) (x : Parcel) (to : ℕ) (old new : PutterEnd Parcel) → to ≡ x.frame.to → slice_get inboxes to ≡ Some old → IsSamePutter old new → PutsInto room old x new
    → PutsOne room inboxes x (slice_set inboxes to new)
put_one room inboxes x to old new at was same put = inr (old, new, ap (slice_get inboxes) (sym at) ∙ was, ap (λ n. slice_set inboxes n new) at, same, put)

-- ---- the ends are the same

same_one : (room : ℕ) (a b : List (PutterEnd Parcel)) (x : Parcel) → PutsOne room a x b → AreSamePutters a b
same_one room a b x h =
    ⊎_elim (λ t. subst (AreSamePutters a) (sym t.1) (putters_same a))
    (λ t. subst (AreSamePutters a) (sym t.3) (putters_set a x.frame.to t.0 t.1 t.2 t.4))
    h

same_copy : (room : ℕ) (twice : Bool) (a b : List (PutterEnd Parcel)) (x : Parcel) → PutsCopy room twice a x b → AreSamePutters a b
same_copy room false a b x h = subst (AreSamePutters a) (sym h) (putters_same a)
same_copy room true a b x h = ⊎_elim (λ t. same_one room a b x t) (λ t. subst (AreSamePutters a) (sym t.1) (putters_same a)) h

pub same_on : (room : ℕ) (twice : Bool) (a b : List (PutterEnd Parcel)) (x : Parcel) → HandsOn room twice a x b → AreSamePutters a b
same_on room twice a b x h = putters_again a h.0 b (same_copy room twice a h.0 x h.1) (same_one room h.0 b x h.2)

pub same_last : (room : ℕ) (twice : Bool) (a b : List (PutterEnd Parcel)) (x : Parcel) (h : HandsOn room twice a x b) → AreSamePutters h.0 b
same_last room twice a b x h = same_one room h.0 b x h.2

pub same_all : (room : ℕ) (a b : List (PutterEnd Parcel)) (ds : List Delayed) → HandsOnAll room a ds b → AreSamePutters a b
unfolding HandsOnAll
same_all room a b [] h = subst (AreSamePutters a) (sym h) (putters_same a)
same_all room a b (d ∷ ds) h = putters_again a h.0 b (same_on room d.twice a h.0 d.parcel h.1) (same_all room h.0 b ds h.2)

same_unless : (room : ℕ) (stays twice : Bool) (a b : List (PutterEnd Parcel)) (x : Parcel) → HandsOnUnless room stays twice a x b → AreSamePutters a b
same_unless room true twice a b x h = subst (AreSamePutters a) (sym h) (putters_same a)
same_unless room false twice a b x h = same_on room twice a b x h

pub same_over : (room : ℕ) (fate : Fate) (a b : List (PutterEnd Parcel)) (d : List Delayed) (x : Parcel) → HandsOver room fate a d x b → AreSamePutters a b
same_over room fate a b d x h = putters_again a h.0 b (same_all room a h.0 (due_by x.frame.to d) h.1) (same_unless room _ fate.twice h.0 b x h.2)

-- ---- what was put was taken from the outbox

module _ (taken : List (ℕ × Parcel)) where
  brings_put : (inboxes : List (PutterEnd Parcel)) (x : Parcel) (old new : PutterEnd Parcel) → slice_get inboxes x.frame.to ≡ Some old → (new.put ≡ old.put ++ x ∷ []) ⊎ (new.put ≡ old.put)
      → IsTaken taken x → Brings taken inboxes → Brings taken (slice_set inboxes x.frame.to new)
  brings_put inboxes x old new was put is k q inbox y at has =
      ⊎_elim
      (λ (t : (q ≡ x.frame.to) × (new ≡ inbox)).
      let here : Has new.put y = let P : PutterEnd Parcel → Type 0 = λ p. Has p.put y in subst P (sym t.1) has in
      let old_one : Has old.put y → (y.frame.to ≡ q) × IsTaken taken y = λ h. let it = k x.frame.to old y was h in (it.0 ∙ sym t.0, it.1) in
      ⊎_elim
      (λ (e : new.put ≡ old.put ++ x ∷ []). ⊎_elim old_one
      (λ (w : x ≡ y). (ap (λ (p : Parcel). p.frame.to) (sym w) ∙ sym t.0, subst (IsTaken taken) w is))
      (has_snoc old.put x y (subst (λ l. Has l y) e here)))
      (λ (e : new.put ≡ old.put). old_one (subst (λ l. Has l y) e here))
      put)
      (λ (t : (q ≢ x.frame.to) × (slice_get inboxes q ≡ Some inbox)). k q inbox y t.1 has)
      (get_set inboxes x.frame.to q new inbox at)

  brings_one : (room : ℕ) (a b : List (PutterEnd Parcel)) (x : Parcel) → IsTaken taken x → PutsOne room a x b → Brings taken a → Brings taken b
  brings_one room a b x is h k =
      ⊎_elim (λ t. subst (Brings taken) (sym t.1) k)
      (λ t. subst (Brings taken) (sym t.3) (brings_put a x t.0 t.1 t.2 (⊎_elim (λ e. inl e.0) (λ e. inr e.0) t.5) is k))
      h

  brings_copy : (room : ℕ) (twice : Bool) (a b : List (PutterEnd Parcel)) (x : Parcel) → IsTaken taken x → PutsCopy room twice a x b → Brings taken a → Brings taken b
  brings_copy room false a b x is h k = subst (Brings taken) (sym h) k
  brings_copy room true a b x is h k = ⊎_elim (λ t. brings_one room a b x is t k) (λ t. subst (Brings taken) (sym t.1) k) h

  brings_on : (room : ℕ) (twice : Bool) (a b : List (PutterEnd Parcel)) (x : Parcel) → IsTaken taken x → HandsOn room twice a x b → Brings taken a → Brings taken b
  brings_on room twice a b x is h k = brings_one room h.0 b x is h.2 (brings_copy room twice a h.0 x is h.1 k)

  brings_all : (room : ℕ) (a b : List (PutterEnd Parcel)) (ds : List Delayed) → ((d : Delayed) → Has ds d → IsTaken taken d.parcel) → HandsOnAll room a ds b → Brings taken a → Brings taken b
  unfolding HandsOnAll
  brings_all room a b [] are h k = subst (Brings taken) (sym h) k
  brings_all room a b (d ∷ ds) are h k = brings_all room h.0 b ds (λ y has. are y (suc has.0, has.1)) h.2 (brings_on room d.twice a h.0 d.parcel (are d (zero, refl)) h.1 k)

  brings_unless : (room : ℕ) (stays twice : Bool) (a b : List (PutterEnd Parcel)) (x : Parcel) → IsTaken taken x → HandsOnUnless room stays twice a x b → Brings taken a → Brings taken b
  brings_unless room true twice a b x is h k = subst (Brings taken) (sym h) k
  brings_unless room false twice a b x is h k = brings_on room twice a b x is h k

  -- what waited was taken, whatever it has to wait for now
  has_down : (to : ℕ) (d : List Delayed) → ((y : Delayed) → Has d y → IsTaken taken y.parcel) → (y : Delayed) → Has (map (counted_down to) d) y → IsTaken taken y.parcel
  has_down to [] are y h = absurd (has_none y h)
  has_down to (x ∷ d) are y (zero, e) = let is : counted_down to x ≡ y = cc in subst (IsTaken taken) (ap (λ (z : Delayed). z.parcel) is) (are x (zero, refl))
  has_down to (x ∷ d) are y (suc i, e) = has_down to d (λ z h. are z (suc h.0, h.1)) y (i, e)

  now_waits : (kept : Bool) (d y : Delayed) → IsTaken taken d.parcel → Has (cond kept (d ∷ []) []) y → IsTaken taken y.parcel
  now_waits true d y is (zero, e) = let same : d ≡ y = cc in subst (λ (z : Delayed). IsTaken taken z.parcel) same is
  now_waits true d y is (suc i, e) = absurd cc
  now_waits false d y is h = absurd (has_none y h)

  pub goes_on : (room : ℕ) (fate : Fate) (a b : List (PutterEnd Parcel)) (d e : List Delayed) (x : Parcel) → IsTaken taken x → WaitsBy fate d x e → HandsOver room fate a d x b → CarrierKeeps taken a d → CarrierKeeps taken b e
  goes_on room fate a b d e x is waits hands k =
      let to = x.frame.to in
      let down = has_down to d k.1 in (
        brings_unless room _ fate.twice hands.0 b x is hands.2 (brings_all room a hands.0 (due_by to d) (λ y has. down y (has_filter _ (map (counted_down to) d) y has)) hands.1 k.0),
        λ y has. ⊎_elim (λ h. down y (has_filter _ (map (counted_down to) d) y h)) (λ h. now_waits waits.0 _ y is h)
            (has_either (waiting_on to d) (cond waits.0 (record { left = fate.delay; twice = fate.twice; parcel = x } ∷ []) []) y (subst (λ l. Has l y) waits.2 has)),
      )

-- a carrier that takes one parcel more, and does with it what the plan says
pub carried : (room : ℕ) (taken taken' : List (ℕ × Parcel)) (fate : Fate) (a b : List (PutterEnd Parcel)) (d e : List Delayed) (number : ℕ) (x : Parcel)
    → CarrierKeeps taken a d → taken' ≡ taken ++ (number, x) ∷ [] → WaitsBy fate d x e → HandsOver room fate a d x b → CarrierKeeps taken' b e
carried room taken taken' fate a b d e number x k is waits hands =
    let now = taken ++ (number, x) ∷ [] in
    let more : (y : Parcel) → IsTaken taken y → IsTaken now y = λ y h. (h.0, has_left taken ((number, x) ∷ []) (h.0, y) h.1) in
    subst (λ t. CarrierKeeps t b e) (sym is)
    (goes_on now room fate a b d e x (number, has_last taken (number, x)) waits hands ((λ q inbox y at has. let it = k.0 q inbox y at has in (it.0, more y it.1)), λ d has. more d.parcel (k.1 d has)))
