-- A peer is no longer asked only if no slot is due to it.
use Rattle.std.proofs.Common.{◌≡◌, ◌≢◌, ℕ, zero, suc, ◌<◌, true, false, List, [], ◌∷◌, length, slice_get, slice_set, Option, Some, None, refl, sym, ◌∙◌, subst, ⊎_elim, arith}
use Rattle.std.specs.Prelude.{IfSome, IfNone}
use Rattle.std.specs.FinSet as set
use Rattle.std.specs.Vec.{with_item}
use Rattle.cast_box.proofs.Same.{get_set}
use Rattle.cast_journal.specs.Lists.{Has}
use Rattle.cast_journal.proofs.Lists.{has_left}
use Rattle.cast_node.specs.Kept.{Kept}
use Rattle.cast_resend.specs.declared.due.Due.{Due}
use Rattle.cast_resend.specs.declared.resend.Resend.{Resend}
use Rattle.cast_resend.specs.Dues.{Drops, NoneFirstDue, NoneDue, IsDue}
use Rattle.cast_resend.specs.Hopes.{IsNoneDueTo, Hopes, NothingDue, IsDueTo}

-- if nothing was due, nothing is due after some slots were dropped
pub none_dropped : (kept : Kept) (to window : ℕ) (old new : Due) → (new.first ≡ old.first) × (new.heard ≡ old.heard) → Drops kept to old.again.items new.again.items → NoneDue kept to window old → NoneDue kept to window new
none_dropped kept to window old new same drops n =
    let first : NoneFirstDue kept to window new.first old.heard = subst (λ f. NoneFirstDue kept to window f old.heard) (sym same.0) n.first in
    record {
      again = λ slot has. n.again slot (subst (λ (l : List ℕ). Has l slot) (sym drops.1) (has_left new.again.items drops.0 slot has));
      first = subst (NoneFirstDue kept to window new.first) (sym same.1) first;
    }

pub get_same : {A : Type 0} (xs : List A) (i : ℕ) (a : A) → i < length xs → slice_get (slice_set xs i a) i ≡ Some a
get_same [] i a l = absurd (omega arith)
get_same (x ∷ xs) zero a l = refl
get_same (x ∷ xs) (suc i) a l = get_same xs i a (omega arith)

module _ (kept : Kept) (r : Resend) (at : ℕ) (old new : Due) (was : slice_get r.due.items at ≡ Some old) (same : (new.first ≡ old.first) × (new.heard ≡ old.heard)) (drops : Drops kept at old.again.items new.again.items) where
  abbrev pub looked : Resend
  looked = record r { due = with_item r.due at new }

  pub none_found : NoneDue kept at r.window old → IsNoneDueTo kept looked at
  none_found n d is =
      ⊎_elim (λ (e : (at ≡ at) × (new ≡ d)). subst (NoneDue kept at r.window) e.1 (none_dropped kept at r.window old new same drops n))
      (λ (e : (at ≢ at) × (slice_get r.due.items at ≡ Some d)). absurd (let differs = e.0 in differs refl))
      (get_set r.due.items at at new d is)

  pub some_found : at < length r.due.items → (slot : ℕ) → IsDue kept at r.window new slot → IsDueTo kept looked at slot
  some_found l slot is = (new, get_same r.due.items at new l, is)

pub nothing_hoped : (kept : Kept) (r : Resend) → Hopes kept r → ((q : ℕ) → set.contains r.hopeful q ≡ false) → NothingDue kept r
nothing_hoped kept r h none_in q member = ⊎_elim (λ (k : set.contains r.hopeful q ≡ true). let e = sym k ∙ none_in q in absurd cc) (λ (k : IsNoneDueTo kept r q). k) (h q member)

-- what is due to a peer that was asked
module _ (kept : Kept) (r : Resend) (at to : ℕ) (old new : Due) (is : at ≡ to) (within : at < length r.due.items) (was : slice_get r.due.items at ≡ Some old)
    (same : (new.first ≡ old.first) × (new.heard ≡ old.heard)) (drops : Drops kept to old.again.items new.again.items) where
  drops_at : Drops kept at old.again.items new.again.items
  drops_at = subst (λ p. Drops kept p old.again.items new.again.items) (sym is) drops

  pub none_after : (o : Option ℕ) → IfNone o (NoneDue kept to r.window old) → IfNone o (IsNoneDueTo kept (record r { due = with_item r.due at new }) to)
  none_after None n = subst (IsNoneDueTo kept (record r { due = with_item r.due at new })) is (none_found kept r at old new was same drops_at (subst (λ p. NoneDue kept p r.window old) (sym is) n))
  none_after (Some slot) n = n

  pub some_after : (o : Option ℕ) → IfSome o (IsDue kept to r.window new) → IfSome o (IsDueTo kept (record r { due = with_item r.due at new }) to)
  some_after None n = n
  some_after (Some slot) n = subst (λ p. IsDueTo kept (record r { due = with_item r.due at new }) p slot) is (some_found kept r at old new was same drops_at within slot (subst (λ p. IsDue kept p r.window new slot) (sym is) n))
