-- What a reader of one element returns, given the element that it should read.
use Rattle.std.specs.Prelude.{◌≡◌, Option, Some, None, Result, Ok, Err}
use Rattle.cast_script.specs.declared.element.Unread.{Unread}
use Rattle.cast_script.specs.declared.element.Unread.TheVariants.{Shape, Memory}

-- `Shape` if there is no element; memory may always run out
abbrev pub Fails : {B : Type 0} → Unread → Option B → Type 0
Fails Shape element = element ≡ None
Fails Memory element = Unit {0}

-- the element by its view, or a reason why not
abbrev pub GivesBy : {A B : Type 0} → (A → B) → Result A Unread → Option B → Type 0
GivesBy seen (Ok x) element = element ≡ Some (seen x)
GivesBy seen (Err unread) element = Fails unread element

abbrev pub Gives : {A : Type 0} → Result A Unread → Option A → Type 0
Gives result element = GivesBy (λ x. x) result element
