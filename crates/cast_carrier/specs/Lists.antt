-- Words about lists.
--     AreSame Same old new      each new element corresponds to the old one in its place
--     IsRoomFor n v             an empty list with room for n
use Rattle.std.specs.Prelude.{◌≡◌, ◌≤◌, ℕ, List, [], slice_get, Some, vec_len, vec_capacity}
use Rattle.std.specs.Global.{Vec}

abbrev pub AreSame : {S T : Type 0} → (S → T → Type 0) → List S → List T → Type 0
AreSame {S} {T} Same old new =
    (p : ℕ) (z : T) → slice_get new p ≡ Some z → (x : S) × (slice_get old p ≡ Some x) × Same x z

abbrev pub IsRoomFor : {T : Type 0} → ℕ → Vec T → Type 0
IsRoomFor n v = (v.items ≡ []) × (vec_len v ≡ 0) × (n ≤ vec_capacity v)
