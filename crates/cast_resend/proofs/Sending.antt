-- What was sent is remembered until it is due again.
use Rattle.std.proofs.Common.{◌≡◌, ◌≢◌, ℕ, zero, suc, ◌+◌, ◌-◌, ◌<◌, ◌≤◌, true, false, List, [], ◌∷◌, ◌++◌, length, slice_get, slice_set, Option, Some, None, refl, sym, ap, ◌∙◌, subst, inl, inr, ⊎_elim, ◌⊎◌, arith}
use Rattle.std.specs.Prelude.{option_to_list}
use Rattle.std.specs.FinSet as set
use Rattle.std.specs.Global.{Vec}
use Rattle.std.specs.Vec.{with_item}
use Rattle.std.proofs.lemmas.Bool.Decides.{eqb_tells, leb_tells}
use Rattle.std.proofs.lemmas.List.{append-nil, length_push, length-set}
use Rattle.std.proofs.lemmas.Option.{slice_get_within}
use Rattle.cast_box.proofs.Same.{get_set}
use Rattle.cast_box.proofs.Closing.{get_middle}
use Rattle.cast_journal.specs.Lists.{Has}
use Rattle.cast_journal.proofs.Lists.{has_left, has_either, has_none}
use Rattle.cast_node.specs.Kept.{Kept, link_to}
use Rattle.cast_resend.specs.declared.due.Due.{Due}
use Rattle.cast_resend.specs.declared.resend.Sent.{Sent}
use Rattle.cast_resend.specs.declared.resend.Resend.{Resend}
use Rattle.cast_resend.specs.Dues.{owes, NoneDue, IsDue, EndsIn, Takes, AddsAgain}
use Rattle.cast_resend.specs.Hopes.{IsNoneDueTo, IsDueTo}
use Rattle.cast_resend.specs.Keeps.{Keeps, WasSent, MakesDue, HasPlace, IsRecalled, sent_to}
use Rattle.cast_resend.proofs.Keeping.{Moves, keeps_more, less_past, less_self}
use Rattle.cast_resend.proofs.Moving.{unmoved}
use Rattle.cast_resend.proofs.Hoping.{get_same}

set_other : {A : Type 0} (xs : List A) (i j : ℕ) (a : A) → j ≢ i → slice_get (slice_set xs i a) j ≡ slice_get xs j
set_other [] i j a n = refl
set_other (x ∷ xs) zero zero a n = absurd (n refl)
set_other (x ∷ xs) zero (suc j) a n = refl
set_other (x ∷ xs) (suc i) zero a n = refl
set_other (x ∷ xs) (suc i) (suc j) a n = set_other xs i j a (λ e. n (ap suc e))

-- what was in the list still is, or it was at this place
still_stands : {A : Type 0} (xs : List A) (i : ℕ) (a x : A) → Has xs x → Has (slice_set xs i a) x ⊎ (slice_get xs i ≡ Some x)
still_stands xs i a x h = ⊎_elim (λ (t : _ × (h.0 ≡ i)). inr (ap (slice_get xs) (sym t.1) ∙ h.1)) (λ (t : _ × (h.0 ≢ i)). inl (h.0, set_other xs i h.0 a t.1 ∙ h.1)) (eqb_tells h.0 i)

stood : {A : Type 0} (xs : List A) (i : ℕ) (a x : A) → Has (slice_set xs i a) x → (a ≡ x) ⊎ Has xs x
stood xs i a x h = ⊎_elim (λ (t : (h.0 ≡ i) × (a ≡ x)). inl t.1) (λ (t : (h.0 ≢ i) × (slice_get xs h.0 ≡ Some x)). inr (h.0, t.1)) (get_set xs i h.0 a x h.1)

-- the place of this turn is cleared: what was sent there is not owed, or is due again
pub keeps_cleared : (kept : Kept) (r : Resend) (s : Vec (Option Sent)) → s.items ≡ slice_set r.sent.items r.turn None → IsRecalled kept r → Keeps kept r → Keeps kept (record r { sent = s })
keeps_cleared kept r s is recalled k = record {
  hopes = k.hopes;
  remembers = λ q other d e below owed.
      ⊎_elim (λ (h : Has d.again.items other). inl h)
      (λ (h : WasSent r q other). ⊎_elim
      (λ (t : Has (slice_set r.sent.items r.turn None) (Some (sent_to q other))). inr (subst (λ l. Has l (Some (sent_to q other))) (sym is) t))
      (λ (t : slice_get r.sent.items r.turn ≡ Some (Some (sent_to q other))). inl (recalled q other d t e below owed))
      (still_stands r.sent.items r.turn None (Some (sent_to q other)) h))
      (k.remembers q other d e below owed);
  again_below = k.again_below;
  given = k.given;
  place = let p : r.turn < length r.sent.items = k.place in subst (λ n. r.turn < n) (sym (ap length is ∙ length-set r.sent.items r.turn None)) p;
}

pub has_place : (kept : Kept) (r : Resend) (s : Vec (Option Sent)) → s.items ≡ slice_set r.sent.items r.turn None → Keeps kept r → slice_get s.items r.turn ≡ Some None
has_place kept r s is k = ap (λ l. slice_get l r.turn) is ∙ get_same r.sent.items r.turn None k.place

-- the next turn has a place of its own
pub keeps_turned : (kept : Kept) (r : Resend) (t : ℕ) → t < length r.sent.items → Keeps kept r → Keeps kept (record r { turn = t })
keeps_turned kept r t within k = record { hopes = k.hopes; remembers = k.remembers; again_below = k.again_below; given = k.given; place = within }

-- a slot that was sent is due again
module _ (kept : Kept) (to slot : ℕ) (r s : Resend) (m : MakesDue to slot r s) (k : Keeps kept r) where
  pub keeps_made : Keeps kept s
  keeps_made = keeps_more kept kept r s m.sent (λ q member. subst (λ t. set.contains t q ≡ true) m.peers member) (less_past kept kept (less_self kept)) each k
    where
      made : (q : ℕ) (d was : Due) → q ≡ to → slice_get r.due.items q ≡ Some was → AddsAgain slot was d → Moves kept kept r s q d
      made q d was here at adds = record {
        was = was;
        at = at;
        first = adds.first;
        stay = λ other below owed h. adds.stay other below (inr h);
        below = adds.below;
        hope = inl (λ member. subst (λ p. set.contains s.hopeful p ≡ true) (sym here) (m.looks.asked (subst (λ p. set.contains r.peers p ≡ true) here (subst (λ v. set.contains v q ≡ true) m.peers member))));
      }

      each : (q : ℕ) (d : Due) → slice_get s.due.items q ≡ Some d → Moves kept kept r s q d
      each q d e = elim (m.slots q d e) [
        | inl t ↦ unmoved kept r s q d m.window t.1 (m.looks.still q)
        | inr t ↦ made q d t.1.0 t.0 t.1.1 t.1.2
      ]

  pub recalled_made : slice_get r.sent.items r.turn ≡ Some (Some (sent_to to slot)) → IsRecalled kept s
  recalled_made there q other d at e below owed =
      let here : slice_get s.sent.items s.turn ≡ Some (Some (sent_to to slot)) = (λ i. slice_get (m.sent.0 i).items (m.sent.1 i)) ∙ there in
      let same : sent_to to slot ≡ sent_to q other = cc in
      let peer : to ≡ q = ap (λ (x : Sent). x.to) same in
      let number : slot ≡ other = ap (λ (x : Sent). x.slot) same in
      elim (m.slots q d e) [
        | inl t ↦ absurd (let differs = t.0 in differs (sym peer))
        | inr t ↦ t.1.2.stay other below (inl (sym number))
      ]

-- what was sent there is no longer owed
pub recalled_not_owed : (kept : Kept) (r : Resend) (to slot : ℕ) → slice_get r.sent.items r.turn ≡ Some (Some (sent_to to slot)) → owes kept to slot ≡ false → IsRecalled kept r
recalled_not_owed kept r to slot there free q other d at e below owed =
    let same : sent_to to slot ≡ sent_to q other = cc in
    let clash : true ≡ false = sym owed ∙ (λ i. owes kept (sym (ap (λ (x : Sent). x.to) same) i) (sym (ap (λ (x : Sent). x.slot) same) i)) ∙ free in
    absurd cc

ends_last : (xs : List ℕ) (slot other : ℕ) → EndsIn (xs ++ other ∷ []) slot → other ≡ slot
ends_last xs slot other e =
    let place : length (xs ++ other ∷ []) - 1 ≡ length xs = let n = length_push xs other in omega arith in
    let found : slice_get (xs ++ other ∷ []) (length xs) ≡ Some slot = ap (slice_get (xs ++ other ∷ [])) (sym place) ∙ e in
    let there : slice_get (xs ++ other ∷ []) (length xs) ≡ Some other = get_middle xs other [] in
    cc

-- the last that is due again is the slot that was found due
only_last : (old new : List ℕ) (last : Option ℕ) (slot other : ℕ) → old ≡ new ++ option_to_list last → EndsIn old slot → Has old other → Has new other ⊎ (other ≡ slot)
only_last old new None slot other is e h = inl (subst (λ (l : List ℕ). Has l other) (is ∙ append-nil new) h)
only_last old new (Some y) slot other is e h =
    let same : y ≡ slot = ends_last new slot y (subst (λ l. EndsIn l slot) is e) in
    ⊎_elim (λ (t : Has new other). inl t) (λ (t : Has (y ∷ []) other). inr (one t ∙ same)) (has_either new (y ∷ []) other (subst (λ (l : List ℕ). Has l other) is h))
  where
    one : Has (y ∷ []) other → other ≡ y
    one (zero, g) = let k : y ≡ other = cc in sym k
    one (suc i, g) = absurd (has_none other (i, g))

fewer : (old new : List ℕ) (last : Option ℕ) (other : ℕ) → old ≡ new ++ option_to_list last → Has new other → Has old other
fewer old new last other is h = subst (λ (l : List ℕ). Has l other) (sym is) (has_left new (option_to_list last) other h)

-- a slot that is due is sent
module _ (kept : Kept) (r : Resend) (to slot : ℕ) (s : Vec (Option Sent)) (is : s.items ≡ slice_set r.sent.items r.turn (Some (sent_to to slot))) (free : slice_get r.sent.items r.turn ≡ Some None) (k : Keeps kept r) where
  now_sent : Has s.items (Some (sent_to to slot))
  now_sent = subst (λ l. Has l (Some (sent_to to slot))) (sym is) (r.turn, get_same r.sent.items r.turn (Some (sent_to to slot)) (slice_get_within r.sent.items r.turn None free))

  still_sent : (q other : ℕ) → WasSent r q other → Has s.items (Some (sent_to q other))
  still_sent q other h =
      ⊎_elim (λ (t : Has (slice_set r.sent.items r.turn (Some (sent_to to slot))) (Some (sent_to q other))). subst (λ l. Has l (Some (sent_to q other))) (sym is) t)
      (λ (t : slice_get r.sent.items r.turn ≡ Some (Some (sent_to q other))). let clash = sym free ∙ t in absurd cc)
      (still_stands r.sent.items r.turn (Some (sent_to to slot)) (Some (sent_to q other)) h)

  module _ (at : ℕ) (old new : Due) (here : at ≡ to) (was : slice_get r.due.items at ≡ Some old) (due : IsDue kept at r.window old slot) (takes : Takes slot old new) (within : slot < (link_to kept to).given) where
    abbrev noted : Resend
    noted = record r { sent = s; due = with_item r.due at new }

    first_up : old.first ≤ new.first
    first_up = elim takes [ inl t ↦ omega (arith, t.1) | inr t ↦ t.1 ]

    first_given : new.first ≤ (link_to kept to).given
    first_given =
        let was_given : old.first ≤ (link_to kept to).given = subst (λ p. old.first ≤ (link_to kept p).given) here (k.given at old was) in
        elim takes [ inl t ↦ omega (arith, t.1) | inr t ↦ omega (arith, t.2) ]

    fewer_again : (other : ℕ) → Has new.again.items other → Has old.again.items other
    fewer_again other h = elim takes [ inl t ↦ fewer old.again.items new.again.items t.2.0 other t.2.1 h | inr t ↦ subst (λ (l : List ℕ). Has l other) t.3 h ]

    -- as the slot is due, it is not so that nothing is due
    not_none : NoneDue kept at r.window old → ⊥
    not_none n = elim due [
      | inl t ↦ let clash : true ≡ false = sym t.1 ∙ n.again slot (_, t.0) in cc
      | inr f ↦ ⊎_elim (λ (full : r.window ≤ old.first - old.heard). let a = f.new in let b = f.room in omega arith) (λ none. let clash : true ≡ false = sym f.owed ∙ none slot f.new f.room in cc) n.first
    ]

    still_hopes : (q : ℕ) → set.contains r.peers q ≡ true → (set.contains r.hopeful q ≡ true) ⊎ IsNoneDueTo kept noted q
    still_hopes q member =
        ⊎_elim (λ (t : set.contains r.hopeful q ≡ true). inl t)
        (λ (n : IsNoneDueTo kept r q). ⊎_elim
        (λ (e : _ × (q ≡ at)). absurd (not_none (subst (λ p. NoneDue kept p r.window old) e.1 (n old (ap (slice_get r.due.items) e.1 ∙ was)))))
        (λ (e : _ × (q ≢ at)). inr (λ d g. n d (sym (set_other r.due.items at q new e.1) ∙ g)))
        (eqb_tells q at))
        (k.hopes q member)

    -- what was sent to this peer, and is owed
    remembered : (other : ℕ) → other < new.first → owes kept at other ≡ true → Has new.again.items other ⊎ Has s.items (Some (sent_to at other))
    remembered other below owed = elim takes [
      | inl t ↦
          let under : other < old.first = omega (arith, t.1) in
          ⊎_elim (λ (h : Has old.again.items other). last_gone t.0 t.2.0 t.2.1 h) (λ (h : WasSent r at other). inr (still_sent at other h)) (k.remembers at other old was under owed)
      | inr t ↦ elim (leb_tells (suc other) old.first) [
        | inl l ↦ ⊎_elim (λ (h : Has old.again.items other). inl (subst (λ (l : List ℕ). Has l other) (sym t.3) h)) (λ (h : WasSent r at other). inr (still_sent at other h)) (k.remembers at other old was (omega (arith, l.1)) owed)
        | inr l ↦ newly t.0 t.2 (omega (arith, l.1))
      ]
    ]
      where
        now_here : other ≡ slot → Has s.items (Some (sent_to at other))
        now_here e = subst (λ p. Has s.items (Some (sent_to p other))) (sym here) (subst (λ n. Has s.items (Some (sent_to to n))) (sym e) now_sent)

        last_gone : slot < old.first → (last : Option ℕ) → old.again.items ≡ new.again.items ++ option_to_list last → Has old.again.items other → Has new.again.items other ⊎ Has s.items (Some (sent_to at other))
        last_gone low last e h = elim due [
          | inl d ↦ ⊎_elim (λ (g : Has new.again.items other). inl g) (λ (g : other ≡ slot). inr (now_here g)) (only_last old.again.items new.again.items last slot other e d.0 h)
          | inr f ↦ let up = f.new in absurd (omega arith)
        ]

        newly : old.first ≤ slot → new.first ≤ slot + 1 → old.first ≤ other → Has new.again.items other ⊎ Has s.items (Some (sent_to at other))
        newly low up from = elim (eqb_tells other slot) [
          | inl e ↦ inr (now_here e.1)
          | inr e ↦ let differs = e.1 in let less : other < slot = omega arith in elim due [
            | inl d ↦ let high : slot < old.first = k.again_below at slot old was (_, d.0) in absurd (omega arith)
            | inr f ↦ let clash : true ≡ false = sym owed ∙ f.least other from less in absurd cc
          ]
        ]

    keeps_noted : Keeps kept noted
    keeps_noted = record {
      hopes = still_hopes;
      remembers = λ q other d e below owed.
          ⊎_elim (λ (t : (q ≡ at) × (new ≡ d)).
          let under : other < new.first = subst (λ (v : Due). other < v.first) (sym t.1) below in
          let found = remembered other under (subst (λ p. owes kept p other ≡ true) t.0 owed) in
          let P : Due → Type 0 = λ v. Has v.again.items other ⊎ Has s.items (Some (sent_to q other)) in
          subst P t.1 (subst (λ p. Has new.again.items other ⊎ Has s.items (Some (sent_to p other))) (sym t.0) found))
          (λ (t : (q ≢ at) × (slice_get r.due.items q ≡ Some d)). ⊎_elim (λ (h : Has d.again.items other). inl h) (λ (h : WasSent r q other). inr (still_sent q other h)) (k.remembers q other d t.1 below owed))
          (get_set r.due.items at q new d e);
      again_below = λ q other d e h.
          ⊎_elim (λ (t : (q ≡ at) × (new ≡ d)).
          let there : Has new.again.items other = subst (λ (v : Due). Has v.again.items other) (sym t.1) h in
          let low : other < old.first = k.again_below at other old was (fewer_again other there) in
          let up : old.first ≤ new.first = first_up in
          subst (λ (v : Due). other < v.first) t.1 (omega arith))
          (λ (t : (q ≢ at) × (slice_get r.due.items q ≡ Some d)). k.again_below q other d t.1 h)
          (get_set r.due.items at q new d e);
      given = λ q d e.
          ⊎_elim (λ (t : (q ≡ at) × (new ≡ d)). subst (λ p. d.first ≤ (link_to kept p).given) (sym (t.0 ∙ here)) (subst (λ (v : Due). v.first ≤ (link_to kept to).given) t.1 first_given))
          (λ (t : (q ≢ at) × (slice_get r.due.items q ≡ Some d)). k.given q d t.1)
          (get_set r.due.items at q new d e);
      place = let p : r.turn < length r.sent.items = k.place in subst (λ n. r.turn < n) (sym (ap length is ∙ length-set r.sent.items r.turn (Some (sent_to to slot)))) p;
    }

-- the call: the place is filled, and then the peer's slots change
module _ (kept : Kept) (r z : Resend) (to slot : ℕ) (same : z ≡ record r { sent = z.sent }) (is : z.sent.items ≡ slice_set r.sent.items r.turn (Some (sent_to to slot))) where
  pub keeps_sent : (at : ℕ) (old new : Due) → at ≡ to → slice_get z.due.items at ≡ Some old → Takes slot old new → Keeps kept r → IsDueTo kept r to slot → slot < (link_to kept to).given → HasPlace r → Keeps kept (record z { due = with_item z.due at new })
  keeps_sent at old new here was takes k due within free =
      let at_r : slice_get r.due.items at ≡ Some old = subst (λ v. slice_get v.due.items at ≡ Some old) same was in
      let there : slice_get r.due.items at ≡ Some due.0 = ap (slice_get r.due.items) here ∙ due.1 in
      let one : due.0 ≡ old = cc in
      let found : IsDue kept at r.window old slot = subst (λ p. IsDue kept p r.window old slot) (sym here) (subst (λ d. IsDue kept to r.window d slot) one due.2) in
      let P : Resend → Type 0 = λ v. Keeps kept (record v { due = with_item v.due at new }) in
      subst P (sym same) (keeps_noted kept r to slot z.sent is free k at old new here at_r found takes within)

  pub no_peer : {A : Type 0} → (at : ℕ) → at ≡ to → length z.due.items ≤ at → IsDueTo kept r to slot → A
  no_peer at here past due =
      let within : to < length r.due.items = slice_get_within r.due.items to due.0 due.1 in
      let past_r : length r.due.items ≤ at = subst (λ v. length v.due.items ≤ at) same past in
      absurd (omega (arith, here))
