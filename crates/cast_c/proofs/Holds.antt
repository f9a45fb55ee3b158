-- What an option holds.
use Rattle.std.proofs.Common.{◌≡◌, true, refl, Option, Some, None, true≢false, sym}
use Rattle.std.specs.Prelude.{is_some}

pub record Shown {X : Type 0} (held : Option X) : Type 0 where
  pub value : X
  pub is : held ≡ Some value

pub shown : {X : Type 0} → (held : Option X) → is_some held ≡ true → Shown held
shown (Some x) some = record { value = x; is = refl }
shown None some = absurd (true≢false (sym some))
