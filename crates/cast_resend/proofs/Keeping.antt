-- What is remembered while peers are looked at, and while nodes owe less, or more after what was given.
use Rattle.std.proofs.Common.{◌≡◌, ℕ, ◌<◌, ◌≤◌, Bool, true, false, length, slice_get, Option, Some, None, refl, sym, ◌∙◌, subst, inl, inr, ⊎_elim, ◌⊎◌, arith}
use Rattle.std.specs.FinSet as set
use Rattle.cast_journal.specs.Lists.{Has}
use Rattle.cast_node.specs.Kept.{Kept, link_to}
use Rattle.cast_resend.specs.declared.due.Due.{Due}
use Rattle.cast_resend.specs.declared.resend.Resend.{Resend}
use Rattle.cast_resend.specs.Dues.{owes, NoneDue}
use Rattle.cast_resend.specs.Hopes.{IsNoneDueTo}
use Rattle.cast_resend.specs.Keeps.{Keeps, KeepsSent, WasSent, GivesPast, OwesLess, sent_to}

-- how what is known about a peer's slots may change
pub record Moves (before after : Kept) (old new : Resend) (q : ℕ) (d : Due) : Type 0 where
  pub was : Due
  pub at : slice_get old.due.items q ≡ Some was
  pub first : d.first ≤ was.first
  pub stay : (other : ℕ) → other < d.first → owes after q other ≡ true → Has was.again.items other → Has d.again.items other
  pub below : ((other : ℕ) → Has was.again.items other → other < was.first) → (other : ℕ) → Has d.again.items other → other < d.first
  pub hope : (set.contains new.peers q ≡ true → set.contains new.hopeful q ≡ true)
      ⊎ (((NoneDue before q old.window was → NoneDue after q new.window d) × (set.contains old.hopeful q ≡ true → set.contains new.hopeful q ≡ true))
      ⊎ NoneDue after q new.window d)

module _ (before after : Kept) (old new : Resend) (sent : KeepsSent old new) (peers : (q : ℕ) → set.contains new.peers q ≡ true → set.contains old.peers q ≡ true)
    (gives : GivesPast before after) (moves : (q : ℕ) (d : Due) → slice_get new.due.items q ≡ Some d → Moves before after old new q d) (k : Keeps before old) where
  none_at : (q : ℕ) (d : Due) → slice_get new.due.items q ≡ Some d → NoneDue after q new.window d → IsNoneDueTo after new q
  none_at q d at n e is = let same : d ≡ e = cc in subst (NoneDue after q new.window) same n

  hope_at : (q : ℕ) (o : Option Due) → slice_get new.due.items q ≡ o → set.contains new.peers q ≡ true → (set.contains new.hopeful q ≡ true) ⊎ IsNoneDueTo after new q
  hope_at q None at member = inr (λ d is. let e : None ≡ Some d = sym at ∙ is in absurd cc)
  hope_at q (Some d) at member =
      let m : Moves before after old new q d = moves q d at in
      elim m.hope [
        | inl asked ↦ inl (asked member)
        | inr (inl b) ↦ ⊎_elim (λ (h : set.contains old.hopeful q ≡ true). inl (b.1 h)) (λ (n : IsNoneDueTo before old q). inr (none_at q d at (b.0 (n m.was m.at)))) (k.hopes q (peers q member))
        | inr (inr n) ↦ inr (none_at q d at n)
      ]

  pub keeps_more : Keeps after new
  keeps_more = record {
    hopes = λ q member. hope_at q (slice_get new.due.items q) refl member;
    remembers = λ q slot d at below owed.
        let m : Moves before after old new q d = moves q d at in
        let first : d.first ≤ m.was.first = m.first in
        let within : m.was.first ≤ (link_to before q).given = k.given q m.was m.at in
        let less : slot < m.was.first = omega arith in
        ⊎_elim (λ (h : Has m.was.again.items slot). inl (m.stay slot below owed h)) (λ (h : WasSent old q slot). inr (subst (λ v. Has v.items (Some (sent_to q slot))) (sym sent.0) h))
        (k.remembers q slot m.was m.at less ((gives q).1 slot (omega arith) owed));
    again_below = λ q slot d at has. let m : Moves before after old new q d = moves q d at in m.below (λ other h. k.again_below q other m.was m.at h) slot has;
    given = λ q d at.
        let m : Moves before after old new q d = moves q d at in
        let first : d.first ≤ m.was.first = m.first in
        let within : m.was.first ≤ (link_to before q).given = k.given q m.was m.at in
        let more : (link_to before q).given ≤ (link_to after q).given = (gives q).0 in
        omega arith;
    place = let p : old.turn < length old.sent.items = k.place in subst (λ t. t < length new.sent.items) (sym sent.1) (subst (λ v. old.turn < length v.items) (sym sent.0) p);
  }

pub less_past : (before after : Kept) → OwesLess before after → GivesPast before after
less_past before after less q = ((less q).0, λ slot below owed. (less q).1 slot owed)

pub less_self : (kept : Kept) → OwesLess kept kept
less_self kept q = (omega arith, λ slot owed. owed)

-- if nothing more is owed, nothing more is due
no_more : (b c : Bool) → (c ≡ true → b ≡ true) → b ≡ false → c ≡ false
no_more b true f e = absurd (let t = f refl in cc)
no_more b false f e = refl

pub none_less : (before after : Kept) (q window : ℕ) (d : Due) → OwesLess before after → NoneDue before q window d → NoneDue after q window d
none_less before after q window d less n = record {
  again = λ slot has. no_more (owes before q slot) (owes after q slot) ((less q).1 slot) (n.again slot has);
  first = ⊎_elim (λ full. inl full) (λ none. inr (λ slot new room. no_more (owes before q slot) (owes after q slot) ((less q).1 slot) (none slot new room))) n.first;
}

-- the node owes less, and nothing else has changed
pub keeps_less : (before after : Kept) (r : Resend) → OwesLess before after → Keeps before r → Keeps after r
keeps_less before after r less k = keeps_more before after r r (refl, refl) (λ q member. member) (less_past before after less) (λ q d at. record {
  was = d;
  at = at;
  first = omega arith;
  stay = λ other below owed h. h;
  below = λ known. known;
  hope = inr (inl (none_less before after q r.window d less, λ h. h));
}) k
