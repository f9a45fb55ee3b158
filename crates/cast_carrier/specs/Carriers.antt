-- A carrier as contracts see it, and what it keeps.
use Rattle.std.specs.Prelude.{◌≡◌, ℕ, ◌+◌, ◌-◌, ◌≤◌, ◌<◌, ◌==◌, nat_le, nat_lt, Bool, true, false, not, ◌&&◌, ◌||◌, cond, if◌then◌else◌, List, [], ◌∷◌, ◌++◌, map, length, slice_get, slice_set, Some, None, ◌⊎◌}
use Rattle.std.specs.List.{count_by, sum_by, filter}
use Rattle.cast_box.specs.Ends.{PutterEnd, TakerEnd, IsSameTaker, IsSamePutter, AreSamePutters, HasHeld, WasFull}
use Rattle.cast_message.specs.Items.{kind_of, carries_bytes}
use Rattle.cast_message.specs.declared.message.FrameKind.{FrameKind}
use Rattle.cast_message.specs.declared.message.FrameKind.TheVariants.{Carry, Took}
use Rattle.cast_message.specs.declared.plan.Fault.{Fault}
use Rattle.cast_journal.specs.declared.parcel.Parcel.{Parcel}
use Rattle.cast_carrier.specs.declared.carrier.Delayed.{Delayed}
use Rattle.cast_carrier.specs.declared.fate.Fate.{Fate}
use Rattle.cast_carrier.specs.declared.fate.Ordinals.{Ordinals}
use Rattle.cast_journal.specs.Lists.{Has}
use Rattle.cast_carrier.specs.Fates.{fate_in}
use Rattle.cast_carrier.specs.Copies.{ordinals_after, is_for, copies, due}

-- a carrier puts a message into an inbox only if that holds fewer than `room` items
pub record CarrierState : Type 0 where
  pub outbox : TakerEnd Parcel
  pub inboxes : List (PutterEnd Parcel)
  pub room : ℕ
  pub faults : List Fault
  pub delayed : List Delayed

-- the same ends, with the faults of a plan
abbrev pub with_faults : List Fault → CarrierState → CarrierState
with_faults faults c = record c { faults = faults }

-- the parcel was taken from the outbox
abbrev pub IsTaken : List (ℕ × Parcel) → Parcel → Type 0
IsTaken taken x = (number : ℕ) × Has taken (number, x)

-- each parcel put into inbox q is for node q, and was taken from the outbox
abbrev pub Brings : List (ℕ × Parcel) → List (PutterEnd Parcel) → Type 0
Brings taken inboxes =
    (q : ℕ) (inbox : PutterEnd Parcel) (x : Parcel) → slice_get inboxes q ≡ Some inbox
    → Has inbox.put x → (x.frame.to ≡ q) × IsTaken taken x

-- each delayed parcel was taken from the outbox
abbrev pub Delays : List (ℕ × Parcel) → List Delayed → Type 0
Delays taken delayed = (d : Delayed) → Has delayed d → IsTaken taken d.parcel

abbrev pub CarrierKeeps : List (ℕ × Parcel) → List (PutterEnd Parcel) → List Delayed → Type 0
CarrierKeeps taken inboxes delayed = Brings taken inboxes × Delays taken delayed

abbrev pub IsSameCarrier : CarrierState → CarrierState → Type 0
IsSameCarrier old new =
    IsSameTaker old.outbox new.outbox × AreSamePutters old.inboxes new.inboxes
    × (new.faults ≡ old.faults) × (new.room ≡ old.room)

abbrev pub AreUnused : List (PutterEnd Parcel) → Type 0
AreUnused inboxes = (q : ℕ) (p : PutterEnd Parcel) → slice_get inboxes q ≡ Some p → p.put ≡ []

-- ---- what a carrier does with its plan

-- one more frame was taken for a target
abbrev pub counted_down : ℕ → Delayed → Delayed
counted_down to d =
    record { left = if d.parcel.frame.to == to then d.left - 1 else d.left; twice = d.twice; parcel = d.parcel }

-- more frames have to be taken before it is due
abbrev pub is_early : Delayed → Bool
is_early d = nat_lt 0 d.left

-- what still waits after one more frame was taken for a target, in its order
abbrev pub waiting_on : ℕ → List Delayed → List Delayed
waiting_on to delayed = filter is_early (map (counted_down to) delayed)

-- how many copies of the delayed parcels for target q that pass a test are handed on by the time that `more` further
-- frames were taken for it
abbrev pub kept_for : (Parcel → Bool) → ℕ → ℕ → List Delayed → ℕ
kept_for test q more delayed =
    sum_by (λ d. cond (is_for test q d.parcel && nat_le d.left more) (copies d.twice) 0) delayed

-- at no time are more put or kept than are due
abbrev pub IsWithin : List Fault → ℕ → List (ℕ × Parcel) → List (PutterEnd Parcel) → List Delayed → Type 0
IsWithin faults targets taken inboxes delayed =
    (test : Parcel → Bool) (q more : ℕ) (inbox : PutterEnd Parcel)
    → slice_get inboxes q ≡ Some inbox
    → count_by test inbox.put + kept_for test q more delayed ≤ due faults targets test q more taken

abbrev pub CarrierPlans : List Fault → List Ordinals → List (ℕ × Parcel) → List (PutterEnd Parcel)
    → List Delayed → Type 0
CarrierPlans faults ordinals taken inboxes delayed =
    (ordinals ≡ ordinals_after (length inboxes) taken)
    × IsWithin faults (length inboxes) taken inboxes delayed

-- it is kept, after the others, or lost
abbrev pub IsKeptOrLost : List Delayed → Delayed → List Delayed → Type 0
IsKeptOrLost old d new = (kept : Bool) × (new ≡ cond kept (old ++ d ∷ []) old)

-- the delayed parcels that are not due still wait; the new one waits after them if its fate delays it and there was
-- memory to keep it
abbrev pub WaitsBy : Fate → List Delayed → Parcel → List Delayed → Type 0
WaitsBy fate old x new =
    (kept : Bool) × (kept ≡ true → (fate.lost ≡ false) × (0 < fate.delay))
    × (new ≡ waiting_on x.frame.to old
    ++ cond kept (record { left = fate.delay; twice = fate.twice; parcel = x } ∷ []) [])

-- ---- what a carrier puts, in order

-- what waits no longer
abbrev pub is_due : Delayed → Bool
is_due d = not (is_early d)

-- what is due, and so handed on, after one more frame was taken for a target, in its order
abbrev pub due_by : ℕ → List Delayed → List Delayed
due_by to delayed = filter is_due (map (counted_down to) delayed)

-- at one moment the inbox held fewer than `room` items; an acknowledgement needs no such moment
abbrev pub HadRoom : ℕ → PutterEnd Parcel → FrameKind → Type 0
HadRoom room inbox Carry = (n : ℕ) × (n < room) × HasHeld n inbox
HadRoom room inbox Took = Unit {0}

-- at one moment it held at least `room` items, and the frame is no acknowledgement
abbrev pub HadNoRoom : ℕ → PutterEnd Parcel → FrameKind → Type 0
HadNoRoom room inbox Carry = (n : ℕ) × (room ≤ n) × HasHeld n inbox
HadNoRoom room inbox Took = ⊥

module _ (room : ℕ) where
  -- the parcel was put, a message only if there was room for it; or it is lost because the inbox was full, a message also
  -- if there was no room for it
  abbrev pub PutsInto : PutterEnd Parcel → Parcel → PutterEnd Parcel → Type 0
  PutsInto was x now =
      ((now.put ≡ was.put ++ x ∷ []) × HadRoom room was (kind_of x.frame.body))
      ⊎ ((now.put ≡ was.put) × (WasFull was ⊎ HadNoRoom room was (kind_of x.frame.body)))

  -- the parcel was put into the inbox of its target, or is lost because that does not exist or had no place for it
  abbrev pub PutsOne : List (PutterEnd Parcel) → Parcel → List (PutterEnd Parcel) → Type 0
  PutsOne old x new =
      ((slice_get old x.frame.to ≡ None) × (new ≡ old))
      ⊎ ((was now : PutterEnd Parcel) × (slice_get old x.frame.to ≡ Some was)
      × (new ≡ slice_set old x.frame.to now) × IsSamePutter was now × PutsInto was x now)

  -- a repeated parcel has a copy put too, which is also lost if there is no memory for its bytes
  abbrev pub PutsCopy : Bool → List (PutterEnd Parcel) → Parcel → List (PutterEnd Parcel) → Type 0
  PutsCopy false old x new = new ≡ old
  PutsCopy true old x new = PutsOne old x new ⊎ ((carries_bytes x.frame.body ≡ true) × (new ≡ old))

  -- the parcel is handed on, once or twice
  abbrev pub HandsOn : Bool → List (PutterEnd Parcel) → Parcel → List (PutterEnd Parcel) → Type 0
  HandsOn twice old x new = (mid : List (PutterEnd Parcel)) × PutsCopy twice old x mid × PutsOne mid x new

  -- these are handed on, one after another
  unfoldable pub HandsOnAll : List (PutterEnd Parcel) → List Delayed → List (PutterEnd Parcel) → Type 0
  HandsOnAll old [] new = new ≡ old
  HandsOnAll old (d ∷ ds) new =
      (mid : List (PutterEnd Parcel)) × HandsOn d.twice old d.parcel mid × HandsOnAll mid ds new

  -- the parcel is handed on, unless it is lost or waits
  abbrev pub HandsOnUnless : Bool → Bool → List (PutterEnd Parcel) → Parcel → List (PutterEnd Parcel) → Type 0
  HandsOnUnless true twice old x new = new ≡ old
  HandsOnUnless false twice old x new = HandsOn twice old x new

  -- what becomes due with the parcel is handed on, and then the parcel, by its fate
  abbrev pub HandsOver : Fate → List (PutterEnd Parcel) → List Delayed → Parcel
      → List (PutterEnd Parcel) → Type 0
  HandsOver fate old delayed x new =
      (mid : List (PutterEnd Parcel)) × HandsOnAll old (due_by x.frame.to delayed) mid
      × HandsOnUnless (fate.lost || nat_lt 0 fate.delay) fate.twice mid x new

-- the parcel goes on its way, and so does what becomes due with it
abbrev pub Carries : CarrierState → Fate → Parcel → CarrierState → Type 0
Carries old fate x new =
    WaitsBy fate old.delayed x new.delayed × HandsOver old.room fate old.inboxes old.delayed x new.inboxes

-- one parcel was taken from the outbox and carried as the plan says; or none was, and nothing changed
abbrev pub CarriesOne : CarrierState → CarrierState → Bool → Type 0
CarriesOne old new true =
    (m : ℕ × Parcel) × (new.outbox.taken ≡ old.outbox.taken ++ m ∷ [])
    × Carries old (fate_in old.faults (ordinals_after (length old.inboxes) old.outbox.taken) m.1.frame) m.1 new
CarriesOne old new false = new ≡ old
