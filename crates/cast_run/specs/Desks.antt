-- The desks of a group's nodes, when they are new.
use Rattle.std.specs.Prelude.{◌≡◌, ℕ, List, [], length, slice_get, Option, Some, None}
use Rattle.cast_desk.specs.declared.desk.Desk.{Desk}
use Rattle.cast_desk.specs.Desk.{ClientState, IsDeskOf, IsNewDesk}

-- no client and no desk, or a new desk with this many clients
abbrev pub IsNewDeskOf : ℕ → ℕ → Option Desk → List ClientState → Type 0
IsNewDeskOf size clients None cs = (clients ≡ 0) × (cs ≡ [])
IsNewDeskOf size clients (Some d) cs =
    IsDeskOf cs d.orders d.trays.items × (length cs ≡ clients)
    × IsNewDesk size 0 cs d.orders d.trays.items

-- a desk for each count, with that many clients
abbrev pub AreNewDesks : ℕ → List ℕ → List (Option Desk) → List (List ClientState) → Type 0
AreNewDesks size counts desks rows =
    (length desks ≡ length counts) × (length rows ≡ length counts)
    × ((p : ℕ) (d : Option Desk) (cs : List ClientState) → slice_get desks p ≡ Some d
    → slice_get rows p ≡ Some cs
    → (k : ℕ) × (slice_get counts p ≡ Some k) × IsNewDeskOf size k d cs)
