-- To which peers a slot is due.
--     IsNoneDueTo kept r q    no slot that is owed to the peer is due
--     Hopes kept r            a peer that isn't known to have ended is hoped for, or no slot is due to it
--     AsksAll nodes r         none of a group's nodes is known to have ended
--     NothingDue kept r       no slot is due to a peer that isn't known to have ended
--     IsDueTo kept r q slot   this slot is due to the peer
use Rattle.std.specs.Prelude.{◌≡◌, ◌<◌, ℕ, true, ◌⊎◌, slice_get, Some}
use Rattle.std.specs.FinSet as set
use Rattle.cast_node.specs.Kept.{Kept}
use Rattle.cast_resend.specs.declared.due.Due.{Due}
use Rattle.cast_resend.specs.declared.resend.Resend.{Resend}
use Rattle.cast_resend.specs.Dues.{NoneDue, IsDue}

abbrev pub IsNoneDueTo : Kept → Resend → ℕ → Type 0
IsNoneDueTo kept r q = (d : Due) → slice_get r.due.items q ≡ Some d → NoneDue kept q r.window d

abbrev pub Hopes : Kept → Resend → Type 0
Hopes kept r =
    (q : ℕ) → set.contains r.peers q ≡ true
    → (set.contains r.hopeful q ≡ true) ⊎ IsNoneDueTo kept r q

-- the group has this many nodes, and none is known to have ended
abbrev pub AsksAll : ℕ → Resend → Type 0
AsksAll nodes r = (q : ℕ) → q < nodes → q < 64 → set.contains r.peers q ≡ true

abbrev pub NothingDue : Kept → Resend → Type 0
NothingDue kept r = (q : ℕ) → set.contains r.peers q ≡ true → IsNoneDueTo kept r q

abbrev pub IsDueTo : Kept → Resend → ℕ → ℕ → Type 0
IsDueTo kept r q slot = (d : Due) × (slice_get r.due.items q ≡ Some d) × IsDue kept q r.window d slot

-- the same peers are not known to have ended, and the same are hoped for
abbrev pub KeepsPeers : Resend → Resend → Type 0
KeepsPeers old new = (new.peers ≡ old.peers) × (new.hopeful ≡ old.hopeful)
