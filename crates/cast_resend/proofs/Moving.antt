-- What calls change about the peers' slots.
use Rattle.std.proofs.Common.{◌≡◌, ◌≢◌, ℕ, ◌<◌, ◌≤◌, true, false, List, length, slice_get, Some, None, refl, sym, ap, ◌∙◌, subst, inl, inr, ⊎_elim, arith}
use Rattle.std.specs.FinSet as set
use Rattle.std.specs.Vec.{with_item}
use Rattle.std.proofs.lemmas.Bool.Decides.{eqb_tells}
use Rattle.std.proofs.lemmas.Option.{slice_get_past}
use Rattle.cast_box.proofs.Same.{get_set}
use Rattle.cast_journal.specs.Lists.{Has}
use Rattle.cast_node.specs.Kept.{Kept}
use Rattle.cast_resend.specs.declared.due.Due.{Due}
use Rattle.cast_resend.specs.declared.resend.Resend.{Resend}
use Rattle.cast_resend.specs.Dues.{owes, NoneDue, Drops, AddsAgain}
use Rattle.cast_resend.specs.Hopes.{IsNoneDueTo}
use Rattle.cast_resend.specs.Keeps.{Keeps, GivesPast, LooksAt, MakesDue}
use Rattle.cast_journal.proofs.Lists.{has_left, has_either}
use Rattle.cast_resend.proofs.Members.{stays_in, was_in, is_out}
use Rattle.cast_resend.proofs.Hoping.{none_dropped}
use Rattle.cast_resend.proofs.Keeping.{Moves, keeps_more, less_past, less_self}

-- the slots of a peer stay as they were
pub unmoved : (kept : Kept) (old new : Resend) (q : ℕ) (d : Due) → new.window ≡ old.window → slice_get old.due.items q ≡ Some d → (set.contains old.hopeful q ≡ true → set.contains new.hopeful q ≡ true) → Moves kept kept old new q d
unmoved kept old new q d window at still = record {
  was = d;
  at = at;
  first = omega arith;
  stay = λ other below owed h. h;
  below = λ known. known;
  hope = inr (inl ((λ n. subst (λ w. NoneDue kept q w d) (sym window) n), still));
}

-- any peer may have been given slots
pub keeps_given : (before after : Kept) (r : Resend) (s : set.FinSet _) → s ≡ r.peers → Keeps before r → GivesPast before after → Keeps after (record r { hopeful = s })
keeps_given before after r s e k gives = keeps_more before after r (record r { hopeful = s }) (refl, refl) (λ q member. member) gives (λ q d at. record {
  was = d;
  at = at;
  first = omega arith;
  stay = λ other below owed h. h;
  below = λ known. known;
  hope = inl (λ member. ap (λ t. set.contains t q) e ∙ member);
}) k

-- nothing is due to a peer that is passed over
pub keeps_passed : (kept : Kept) (r : Resend) (to : ℕ) → Keeps kept r → IsNoneDueTo kept r to → Keeps kept (record r { hopeful = set.remove r.hopeful to })
keeps_passed kept r to k n = keeps_more kept kept r (record r { hopeful = set.remove r.hopeful to }) (refl, refl) (λ q member. member) (less_past kept kept (less_self kept)) (λ q d at. record {
  was = d;
  at = at;
  first = omega arith;
  stay = λ other below owed h. h;
  below = λ known. known;
  hope = elim (eqb_tells q to) [
    | inl e ↦ inr (inr (subst (λ p. NoneDue kept p r.window d) (sym e.1) (n d (ap (slice_get r.due.items) (sym e.1) ∙ at))))
    | inr e ↦ inr (inl ((λ none. none), stays_in r.hopeful to q e.0))
  ];
}) k

-- a peer that has ended is no longer asked
pub keeps_given_up : (kept : Kept) (r : Resend) (to : ℕ) → Keeps kept r → Keeps kept (record r { peers = set.remove r.peers to; hopeful = set.remove r.hopeful to })
keeps_given_up kept r to k = keeps_more kept kept r (record r { peers = set.remove r.peers to; hopeful = set.remove r.hopeful to }) (refl, refl) still_there (less_past kept kept (less_self kept)) (λ q d at. record {
  was = d;
  at = at;
  first = omega arith;
  stay = λ other below owed h. h;
  below = λ known. known;
  hope = elim (eqb_tells q to) [
    | inl e ↦ inl (λ member. let out : true ≡ false = sym member ∙ is_out r.peers to q e.0 in absurd cc)
    | inr e ↦ inr (inl ((λ none. none), stays_in r.hopeful to q e.0))
  ];
}) k
  where
    still_there : (q : ℕ) → set.contains (set.remove r.peers to) q ≡ true → set.contains r.peers q ≡ true
    still_there q member = elim (eqb_tells q to) [
      | inl e ↦ let out : true ≡ false = sym member ∙ is_out r.peers to q e.0 in absurd cc
      | inr e ↦ was_in r.peers to q e.0 member
    ]

-- what is no longer owed was dropped
module _ (kept : Kept) (r : Resend) (at to : ℕ) (old new : Due) (is : at ≡ to) (was : slice_get r.due.items at ≡ Some old)
    (same : (new.first ≡ old.first) × (new.heard ≡ old.heard)) (drops : Drops kept to old.again.items new.again.items) where
  abbrev seen : Resend
  seen = record r { due = with_item r.due at new }

  kept_slot : (other : ℕ) → owes kept at other ≡ true → Has old.again.items other → Has new.again.items other
  kept_slot other owed h =
      ⊎_elim (λ (t : Has new.again.items other). t)
      (λ (t : Has drops.0 other). let e : true ≡ false = sym owed ∙ ap (λ p. owes kept p other) is ∙ drops.2 other t in absurd cc)
      (has_either new.again.items drops.0 other (subst (λ (l : List ℕ). Has l other) drops.1 h))

  dropped_at : Drops kept at old.again.items new.again.items
  dropped_at = subst (λ p. Drops kept p old.again.items new.again.items) (sym is) drops

  looked_at : Moves kept kept r seen at new
  looked_at = record {
    was = old;
    at = was;
    first = let e : new.first ≡ old.first = same.0 in omega arith;
    stay = λ other below owed h. kept_slot other owed h;
    below = λ known other h. subst (λ f. other < f) (sym same.0) (known other (subst (λ (l : List ℕ). Has l other) (sym drops.1) (has_left new.again.items drops.0 other h)));
    hope = inr (inl (none_dropped kept at r.window old new same dropped_at, λ h. h));
  }

  pub keeps_after : Keeps kept r → Keeps kept (record r { due = with_item r.due at new })
  keeps_after k = keeps_more kept kept r seen (refl, refl) (λ q member. member) (less_past kept kept (less_self kept)) each k
    where
      each : (q : ℕ) (d : Due) → slice_get seen.due.items q ≡ Some d → Moves kept kept r seen q d
      each q d e =
          ⊎_elim (λ (t : (q ≡ at) × (new ≡ d)). subst (λ p. Moves kept kept r seen p d) (sym t.0) (subst (Moves kept kept r seen at) t.1 looked_at))
          (λ (t : (q ≢ at) × (slice_get r.due.items q ≡ Some d)). unmoved kept r seen q d refl t.1 (λ h. h))
          (get_set r.due.items at q new d e)

-- a peer has acknowledged a slot
module _ (kept : Kept) (r : Resend) (h : set.FinSet _) (to : ℕ) (looks : LooksAt to r (record r { hopeful = h })) (k : Keeps kept r) where
  heard_none : Keeps kept (record r { hopeful = h })
  heard_none = keeps_more kept kept r (record r { hopeful = h }) (refl, refl) (λ q member. member) (less_past kept kept (less_self kept)) (λ q d at. unmoved kept r (record r { hopeful = h }) q d refl at (looks.still q)) k

  module _ (at : ℕ) (old new : Due) (is : at ≡ to) (was : slice_get r.due.items at ≡ Some old) (first : new.first ≡ old.first) (again : new.again ≡ old.again) where
    abbrev heard : Resend
    heard = record r { due = with_item r.due at new; hopeful = h }

    heard_at : Moves kept kept r heard at new
    heard_at = record {
      was = old;
      at = was;
      first = omega arith;
      stay = λ other below owed has. subst (λ v. Has v.items other) (sym again) has;
      below = λ known other has. subst (λ f. other < f) (sym first) (known other (subst (λ v. Has v.items other) again has));
      hope = inl (subst (λ p. set.contains r.peers p ≡ true → set.contains h p ≡ true) (sym is) looks.asked);
    }

    heard_some : Keeps kept heard
    heard_some = keeps_more kept kept r heard (refl, refl) (λ q member. member) (less_past kept kept (less_self kept)) each k
      where
        each : (q : ℕ) (d : Due) → slice_get heard.due.items q ≡ Some d → Moves kept kept r heard q d
        each q d e =
            ⊎_elim (λ (t : (q ≡ at) × (new ≡ d)). subst (λ p. Moves kept kept r heard p d) (sym t.0) (subst (Moves kept kept r heard at) t.1 heard_at))
            (λ (t : (q ≢ at) × (slice_get r.due.items q ≡ Some d)). unmoved kept r heard q d refl t.1 (looks.still q))
            (get_set r.due.items at q new d e)

module _ (kept : Kept) (r s : Resend) (to : ℕ) (same : s ≡ record r { hopeful = s.hopeful }) (looks : LooksAt to r s) (k : Keeps kept r) where
  looks_same : LooksAt to r (record r { hopeful = s.hopeful })
  looks_same = subst (LooksAt to r) same looks

  pub keeps_heard_none : Keeps kept s
  keeps_heard_none = subst (Keeps kept) (sym same) (heard_none kept r s.hopeful to looks_same k)

  pub keeps_heard : (at : ℕ) (old new : Due) → at ≡ to → slice_get s.due.items at ≡ Some old → new.first ≡ old.first → new.again ≡ old.again → Keeps kept (record s { due = with_item s.due at new })
  keeps_heard at old new is was first again =
      let at_r : slice_get r.due.items at ≡ Some old = subst (λ z. slice_get z.due.items at ≡ Some old) same was in
      let P : Resend → Type 0 = λ z. Keeps kept (record z { due = with_item z.due at new }) in
      subst P (sym same) (heard_some kept r s.hopeful to looks_same k at old new is at_r first again)

-- a slot that was sent is due again
module _ (r : Resend) (h : set.FinSet _) (to slot : ℕ) (looks : LooksAt to r (record r { hopeful = h })) where
  made_none : (at : ℕ) → at ≡ to → length r.due.items ≤ at → MakesDue to slot r (record r { hopeful = h })
  made_none at is past = record {
    sent = (refl, refl);
    window = refl;
    peers = refl;
    looks = looks;
    slots = λ q d e. elim (eqb_tells q to) [
      | inl t ↦ let none : None ≡ Some d = sym (slice_get_past r.due.items q (subst (λ p. length r.due.items ≤ p) (is ∙ sym t.1) past)) ∙ e in absurd cc
      | inr t ↦ inl (t.1, e)
    ];
  }

  made_some : (at : ℕ) (old new : Due) → at ≡ to → slice_get r.due.items at ≡ Some old → AddsAgain slot old new → MakesDue to slot r (record r { due = with_item r.due at new; hopeful = h })
  made_some at old new is was adds = record {
    sent = (refl, refl);
    window = refl;
    peers = refl;
    looks = record { asked = looks.asked; still = looks.still };
    slots = λ q d e.
        ⊎_elim (λ (t : (q ≡ at) × (new ≡ d)). inr (t.0 ∙ is, (old, ap (slice_get r.due.items) t.0 ∙ was, subst (AddsAgain slot old) t.1 adds)))
        (λ (t : (q ≢ at) × (slice_get r.due.items q ≡ Some d)). inl ((λ this. let differs = t.0 in differs (this ∙ sym is)), t.1))
        (get_set r.due.items at q new d e);
  }

module _ (r s : Resend) (to slot : ℕ) (same : s ≡ record r { hopeful = s.hopeful }) (looks : LooksAt to r s) where
  looks_too : LooksAt to r (record r { hopeful = s.hopeful })
  looks_too = subst (LooksAt to r) same looks

  pub makes_none : (at : ℕ) → at ≡ to → length s.due.items ≤ at → MakesDue to slot r s
  makes_none at is past =
      let past_r : length r.due.items ≤ at = subst (λ z. length z.due.items ≤ at) same past in
      subst (MakesDue to slot r) (sym same) (made_none r s.hopeful to slot looks_too at is past_r)

  pub makes_some : (at : ℕ) (old new : Due) → at ≡ to → slice_get s.due.items at ≡ Some old → AddsAgain slot old new → MakesDue to slot r (record s { due = with_item s.due at new })
  makes_some at old new is was adds =
      let at_r : slice_get r.due.items at ≡ Some old = subst (λ z. slice_get z.due.items at ≡ Some old) same was in
      let P : Resend → Type 0 = λ z. MakesDue to slot r (record z { due = with_item z.due at new }) in
      subst P (sym same) (made_some r s.hopeful to slot looks_too at old new is at_r adds)
