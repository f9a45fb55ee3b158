-- What is remembered about the slots that were sent.
--     Keeps kept r             no slot that is owed is forgotten, and no peer to which one is due
--     HasPlace r               nothing was sent in this turn yet
--     IsRecalled kept r        what was sent 256 turns ago is due again
--     MakesDue q slot old new  the slot is made due again
--     LooksAt q old new        the peer is asked next time
--     GivesPast before after   what is owed in addition is after what was given
--     OwesLess before after    nothing more is owed
--     ForgetsNothing           if nothing is due, each owed slot was sent lately, or has no room in the window
use Rattle.std.specs.Prelude.{◌≡◌, ◌≢◌, ℕ, ◌-◌, ◌<◌, ◌≤◌, true, ◌⊎◌, length, slice_get, Some, None}
use Rattle.std.specs.FinSet as set
use Rattle.cast_journal.specs.Lists.{Has}
use Rattle.cast_node.specs.Kept.{Kept, link_to}
use Rattle.cast_resend.specs.declared.due.Due.{Due}
use Rattle.cast_resend.specs.declared.resend.Sent.{Sent}
use Rattle.cast_resend.specs.declared.resend.Resend.{Resend}
use Rattle.cast_resend.specs.Dues.{owes, AddsAgain}
use Rattle.cast_resend.specs.Hopes.{Hopes, NothingDue}

abbrev pub sent_to : ℕ → ℕ → Sent
sent_to q slot = record { to = q; slot = slot }

-- it was sent in one of the last turns
abbrev pub WasSent : Resend → ℕ → ℕ → Type 0
WasSent r q slot = Has r.sent.items (Some (sent_to q slot))

pub record Keeps (kept : Kept) (r : Resend) : Type 0 where
  pub hopes : Hopes kept r
  -- a slot that was ever sent, and is owed, is due again, or was sent in one of the last turns
  pub remembers : (q slot : ℕ) (d : Due) → slice_get r.due.items q ≡ Some d → slot < d.first
      → owes kept q slot ≡ true → Has d.again.items slot ⊎ WasSent r q slot
  pub again_below : (q slot : ℕ) (d : Due) → slice_get r.due.items q ≡ Some d
      → Has d.again.items slot → slot < d.first
  pub given : (q : ℕ) (d : Due) → slice_get r.due.items q ≡ Some d → d.first ≤ (link_to kept q).given
  pub place : r.turn < length r.sent.items

abbrev pub HasPlace : Resend → Type 0
HasPlace r = slice_get r.sent.items r.turn ≡ Some None

-- the same was sent in the same turns
abbrev pub KeepsSent : Resend → Resend → Type 0
KeepsSent old new = (new.sent ≡ old.sent) × (new.turn ≡ old.turn)

-- the peer is asked next time, unless it is known to have ended
pub record LooksAt (to : ℕ) (old new : Resend) : Type 0 where
  pub asked : set.contains old.peers to ≡ true → set.contains new.hopeful to ≡ true
  pub still : (q : ℕ) → set.contains old.hopeful q ≡ true → set.contains new.hopeful q ≡ true

-- the slot is due again
pub record MakesDue (to slot : ℕ) (old new : Resend) : Type 0 where
  pub sent : KeepsSent old new
  pub window : new.window ≡ old.window
  pub peers : new.peers ≡ old.peers
  pub looks : LooksAt to old new
  pub slots : (q : ℕ) (d : Due) → slice_get new.due.items q ≡ Some d
      → ((q ≢ to) × (slice_get old.due.items q ≡ Some d))
      ⊎ ((q ≡ to) × ((was : Due) × (slice_get old.due.items q ≡ Some was) × AddsAgain slot was d))

-- what was sent at the place of this turn, and is owed, is due again
abbrev pub IsRecalled : Kept → Resend → Type 0
IsRecalled kept r =
    (q slot : ℕ) (d : Due) → slice_get r.sent.items r.turn ≡ Some (Some (sent_to q slot))
    → slice_get r.due.items q ≡ Some d → slot < d.first → owes kept q slot ≡ true → Has d.again.items slot

-- what is owed in addition is after what was given
abbrev pub GivesPast : Kept → Kept → Type 0
GivesPast before after =
    (q : ℕ) → ((link_to before q).given ≤ (link_to after q).given)
    × ((slot : ℕ) → slot < (link_to before q).given → owes after q slot ≡ true → owes before q slot ≡ true)

-- nothing more is owed
abbrev pub OwesLess : Kept → Kept → Type 0
OwesLess before after =
    (q : ℕ) → ((link_to before q).given ≤ (link_to after q).given)
    × ((slot : ℕ) → owes after q slot ≡ true → owes before q slot ≡ true)

-- if nothing is due, each owed slot was sent in one of the last turns, or was never sent and has no room in the window
abbrev pub ForgetsNothing : Type 0
ForgetsNothing =
    (kept : Kept) (r : Resend) (q slot : ℕ) (d : Due) → Keeps kept r → NothingDue kept r
    → set.contains r.peers q ≡ true → slice_get r.due.items q ≡ Some d → owes kept q slot ≡ true
    → WasSent r q slot ⊎ ((d.first ≤ slot) × ((r.window ≤ d.first - d.heard) ⊎ (r.window ≤ slot - d.heard)))
