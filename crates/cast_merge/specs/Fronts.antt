-- What is left of logs while they are merged.
--     first_step front         the step at hand
--     entries_left front       the entries after it
--     steps_left front         that step, and those of the entries after it
--     merged_left fronts       all of these steps, merged
--     events_left fronts       their events
--     IsFirst fronts place     the step at hand there is the first with the least stamp
--     FirstIn fronts from end first      the same for the fronts from one place to another; it has this stamp
--     AreFirsts fronts firsts            these are the firsts of each eight fronts, in order
use Rattle.std.specs.Prelude.{◌≡◌, ℕ, ◌+◌, ◌-◌, ◌*◌, ◌<◌, ◌≤◌, List, [], ◌∷◌, length, map, drop, slice_get, slice_index_or, Bool, Option, Some, None}
use Rattle.cast_message.specs.declared.event.Event.{Event}
use Rattle.cast_message.specs.declared.event.Event.TheVariants.{Crash}
use Rattle.cast_log.specs.declared.entry.Entry.{Entry}
use Rattle.cast_log.specs.Logged.{is_step, step_event}
use Rattle.cast_merge.specs.declared.merge.First.{First}
use Rattle.cast_merge.specs.declared.merge.Front.{Front}
use Rattle.cast_merge.specs.ByStamp.{LoggedStep, merge, stamp_of, event_at, logged_steps}

-- the event of a step; the default if there is none, but no front is at such a place
abbrev pub event_or : Option Event → Event
event_or (Some event) = event
event_or None = Crash 0

abbrev pub event_there : Option Entry → Event
event_there (Some e) = event_or (step_event e.kind)
event_there None = Crash 0

abbrev pub first_step : Front → LoggedStep
first_step front =
    record { stamp = front.stamp; event = event_there (slice_get front.log.now (front.next - 1)) }

abbrev pub entries_left : Front → List Entry
entries_left front = drop front.next front.log.now

-- whether the entry there is a step, and its stamp
abbrev pub IsStep : Bool → Option Entry → Type 0
IsStep is None = ⊥
IsStep is (Some e) = is ≡ is_step e.kind

abbrev pub HasStamp : ℕ → Option Entry → Type 0
HasStamp stamp None = ⊥
HasStamp stamp (Some e) = stamp ≡ e.stamp

abbrev pub steps_left : Front → List LoggedStep
steps_left front = first_step front ∷ logged_steps (entries_left front)

unfoldable pub merged_left : List Front → List LoggedStep
merged_left [] = []
merged_left (front ∷ fronts) = merge stamp_of (steps_left front) (merged_left fronts)

abbrev pub events_left : List Front → List Event
events_left fronts = map event_at (merged_left fronts)

-- each earlier one has a greater stamp, and no later one has a smaller stamp
pub record IsFirst (fronts : List Front) (place : ℕ) : Type 0 where
  pub within : place < length fronts
  pub earlier : (k : ℕ) (d : Front) → k < place
      → (slice_index_or fronts place d).stamp < (slice_index_or fronts k d).stamp
  pub later : (k : ℕ) (d : Front) → place ≤ k → k < length fronts
      → (slice_index_or fronts place d).stamp ≤ (slice_index_or fronts k d).stamp

pub record FirstIn (fronts : List Front) (from end : ℕ) (first : First) : Type 0 where
  pub after : from ≤ first.place
  pub below : first.place < end
  pub within : first.place < length fronts
  pub stamp : (d : Front) → (slice_index_or fronts first.place d).stamp ≡ first.stamp
  pub earlier : (k : ℕ) (d : Front) → from ≤ k → k < first.place
      → first.stamp < (slice_index_or fronts k d).stamp
  pub later : (k : ℕ) (d : Front) → first.place ≤ k → k < end → k < length fronts
      → first.stamp ≤ (slice_index_or fronts k d).stamp

pub record AreFirsts (fronts : List Front) (firsts : List First) : Type 0 where
  pub each : (g : ℕ) (d : First) → g < length firsts
      → FirstIn fronts (g * 8) (g * 8 + 8) (slice_index_or firsts g d)
  pub all : length fronts ≤ length firsts * 8
