-- A word about lists.
--     Has xs x                  the list has x
use Rattle.std.specs.Prelude.{◌≡◌, ℕ, List, slice_get, Some}

abbrev pub Has : {A : Type 0} → List A → A → Type 0
Has xs x = (i : ℕ) × (slice_get xs i ≡ Some x)
