-- Laws of `and`, `or` and choices by a truth value.
use Rattle.std.proofs.Common.{◌≡◌, ℕ, refl, sym, Bool, true, false, cond, ◌&&◌, ◌||◌, Option, Some, None}

pub or_false : (b : Bool) → (b || false) ≡ b
or_false true = refl
or_false false = refl

pub and_false : (b : Bool) → (b && false) ≡ false
and_false true = refl
and_false false = refl

pub and_true : (b : Bool) → (b && true) ≡ b
and_true true = refl
and_true false = refl

pub or_comm : (b c : Bool) → (b || c) ≡ (c || b)
or_comm true true = refl
or_comm true false = refl
or_comm false true = refl
or_comm false false = refl

pub or_assoc : (b c d : Bool) → (b || (c || d)) ≡ ((b || c) || d)
or_assoc true c d = refl
or_assoc false c d = refl

-- what matters to a conjunction where its first part holds
pub and_alike : (b c d : Bool) → (b ≡ true → c ≡ d) → (b && c) ≡ (b && d)
and_alike true c d h = h refl
and_alike false c d h = refl

-- what implies the first part adds nothing to it
pub or_implied : (b c : Bool) → (c ≡ true → b ≡ true) → (b || c) ≡ b
or_implied true c h = refl
or_implied false true h = sym (h refl)
or_implied false false h = refl

-- nothing is chosen: neither the first, nor is there a second
pub chosen : (b : Bool) (n : ℕ) (o : Option ℕ) → cond b (Some n) o ≡ None → (b ≡ false) × (o ≡ None)
chosen true n o e = absurd (cc)
chosen false n o e = (refl, e)
