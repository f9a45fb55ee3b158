-- How many copies of the frames that a carrier took the plan lets it put.
--     ordinals_after targets taken              how many frames of each kind were taken for each target
--     frames_for q taken                        how many frames of either kind were taken for target q
--     due faults targets test q more taken      how many copies of the parcels for target q that pass a test are due after
--                                               `more` further frames were taken for it
--     IsByPlan faults taken inboxes             of the parcels that pass any test, no more were put than are due by now
use Rattle.std.specs.Prelude.{◌≡◌, ℕ, ◌+◌, ◌≤◌, ◌==◌, nat_lt, Bool, ◌&&◌, ◌||◌, cond, if◌then◌else◌, List, [], ◌∷◌, length, replicate, slice_get, Some}
use Rattle.std.specs.List.{fold, count_by}
use Rattle.cast_box.specs.Ends.{PutterEnd}
use Rattle.cast_message.specs.declared.plan.Fault.{Fault}
use Rattle.cast_journal.specs.declared.parcel.Parcel.{Parcel}
use Rattle.cast_carrier.specs.declared.fate.Fate.{Fate}
use Rattle.cast_carrier.specs.declared.fate.Ordinals.{Ordinals}
use Rattle.cast_carrier.specs.Fates.{fate_in, counted_in}

abbrev pub none_taken : Ordinals
none_taken = record { carry = 0; took = 0 }

-- the ordinals after these were taken too
abbrev pub counted_all : List Ordinals → List (ℕ × Parcel) → List Ordinals
counted_all ordinals taken = fold (λ counts m. counted_in counts m.1.frame) ordinals taken

abbrev pub ordinals_after : ℕ → List (ℕ × Parcel) → List Ordinals
ordinals_after targets taken = counted_all (replicate targets none_taken) taken

abbrev pub frames_for : ℕ → List (ℕ × Parcel) → ℕ
frames_for q taken = count_by (λ m. m.1.frame.to == q) taken

-- the parcel is for target q, and passes the test
abbrev pub is_for : (Parcel → Bool) → ℕ → Parcel → Bool
is_for test q x = x.frame.to == q && test x

abbrev pub copies : Bool → ℕ
copies twice = if twice then 2 else 1

-- the copies of a frame that are due after `frames` further frames were taken for its target: none if it is lost, or
-- delayed for longer
abbrev pub copies_after : Fate → ℕ → ℕ
copies_after fate frames = if fate.lost || nat_lt frames fate.delay then 0 else copies fate.twice

-- the copies due of the taken parcels that are for the target and pass the test; the first parcel has these ordinals
unfoldable pub due_from : List Fault → List Ordinals → (Parcel → Bool) → ℕ → ℕ → List (ℕ × Parcel) → ℕ
due_from faults ordinals test q more [] = 0
due_from faults ordinals test q more (m ∷ ms) =
    cond (is_for test q m.1) (copies_after (fate_in faults ordinals m.1.frame) (frames_for q ms + more)) 0
    + due_from faults (counted_in ordinals m.1.frame) test q more ms

abbrev pub due : List Fault → ℕ → (Parcel → Bool) → ℕ → ℕ → List (ℕ × Parcel) → ℕ
due faults targets test q more taken = due_from faults (replicate targets none_taken) test q more taken

abbrev pub IsByPlan : List Fault → List (ℕ × Parcel) → List (PutterEnd Parcel) → Type 0
IsByPlan faults taken inboxes =
    (test : Parcel → Bool) (q : ℕ) (inbox : PutterEnd Parcel)
    → slice_get inboxes q ≡ Some inbox → count_by test inbox.put ≤ due faults (length inboxes) test q 0 taken
