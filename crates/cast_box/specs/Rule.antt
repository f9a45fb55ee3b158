-- The rule of a box: for each putter, what was taken and then what is still in the box is what that putter put. The box
-- holds no more than its size.
use Rattle.std.specs.Prelude.{◌≡◌, ℕ, ◌<◌, ◌≤◌, List, [], ◌∷◌, ◌++◌, length}
use mathlib.Core.Option.{Option, some, none}
use lib.ListN.{get_elem?}
use Rattle.cast_box.specs.Lists.{of, put_by, IsFair, HasOwn, HasTakenOfEnded}
use Rattle.cast_box.specs.declared.rule.Known.{Known}
use Rattle.cast_box.specs.declared.rule.Role.TheVariants.{Putting, Taking, Gathering, Ended}

module _ {T : Type 0} where
  -- the putter with this number, and what it has put
  abbrev pub putter : ℕ → ℕ → ℕ → List T → Known T
  putter size putters number put =
      record {
        role = Putting;
        size = size;
        putters = putters;
        number = number;
        put = put;
        taken = [];
        ended = [];
        left = [];
      }

  -- the taker knows how many putters were made, what it has taken, and what each ended putter has put
  abbrev pub taker : ℕ → ℕ → ℕ → List (ℕ × T) → List (List T) → Known T
  taker size putters made taken ended =
      record {
        role = Taking;
        size = size;
        putters = putters;
        number = made;
        put = [];
        taken = taken;
        ended = ended;
        left = [];
      }

  -- the one end that is left once all putters have ended
  abbrev pub gatherer : List (ℕ × T) → List (List T) → List (ℕ × T) → Known T
  gatherer taken ended left =
      record {
        role = Gathering;
        size = 0;
        putters = 0;
        number = 0;
        put = [];
        taken = taken;
        ended = ended;
        left = left;
      }

  -- an end that was given up
  abbrev pub spent : Known T
  spent =
      record { role = Ended; size = 0; putters = 0; number = 0; put = []; taken = []; ended = []; left = [] }

  -- How the knowledge `v` of an end relates to the box. `reader` is the taker's pass. `seat a` is the pass of putter a,
  -- if that putter was made and has not ended. `put a` is what putter a has put.
  module _ (reader : ℕ) (seat : ℕ → Option ℕ) (put : ℕ → List T) (taken items : List (ℕ × T))
      (size putters : ℕ) where
    pub record IsPutter (pass : ℕ) (v : Known T) : Type 0 where
      pub sits : seat v.number ≡ some pass
      pub put_is : v.put ≡ put v.number
      pub size_is : v.size ≡ size
      pub putters_is : v.putters ≡ putters
      pub below : v.number < putters

    pub record IsTaker (pass : ℕ) (v : Known T) : Type 0 where
      pub reads : pass ≡ reader
      pub taken_is : v.taken ≡ taken
      pub unmade : (a : ℕ) → v.number ≤ a → (seat a ≡ none) × (put a ≡ [])
      pub ended : (a : ℕ) → a < length v.ended → (seat a ≡ none) × (put_by v.ended a ≡ put a)
      pub ended_made : length v.ended ≤ v.number
      pub size_is : v.size ≡ size
      pub putters_is : v.putters ≡ putters
      pub made_within : v.number ≤ putters

    pub record IsGatherer (pass : ℕ) (v : Known T) : Type 0 where
      pub reads : pass ≡ reader
      pub left_is : v.left ≡ items
      pub all_ended : (a : ℕ) → seat a ≡ none

    pub record Fits (pass : ℕ) (v : Known T) : Type 0 where
      pub as_putter : v.role ≡ Putting → IsPutter pass v
      pub as_taker : v.role ≡ Taking → IsTaker pass v
      pub as_gatherer : v.role ≡ Gathering → IsGatherer pass v

  -- the box holds these items, and its ends know these things
  pub record Ruled (items : List (ℕ × T)) (views : List (Known T)) : Type 0 where
    pub reader : ℕ
    pub seat : ℕ → Option ℕ
    pub put : ℕ → List T
    pub taken : List (ℕ × T)
    pub size : ℕ
    pub putters : ℕ
    pub fair : (a : ℕ) → of a (taken ++ items) ≡ put a
    pub room : length items ≤ size
    pub within : (a : ℕ) → putters ≤ a → put a ≡ []
    pub fits : (pass : ℕ) (v : Known T) → get_elem? views pass ≡ some v
        → Fits reader seat put taken items size putters pass v

  -- how a step relates what the end knew before, the item with its putter's number, and what the end knows after
  abbrev pub Puts : Known T → ℕ × T → Known T → Type 0
  Puts v m w = w ≡ putter v.size v.putters v.number (v.put ++ m.1 ∷ [])

  abbrev pub Takes : Known T → ℕ × T → Known T → Type 0
  Takes v m w = (w ≡ taker v.size v.putters v.number (v.taken ++ m ∷ []) v.ended) × (m.0 < v.number)

  abbrev pub Closes : Known T → ℕ × T → Known T → Type 0
  Closes v m w =
      (w ≡ gatherer v.taken v.ended w.left) × IsFair v.ended v.taken (m ∷ w.left)
      × (length (m ∷ w.left) ≤ v.size)

  abbrev pub Empties : Known T → ℕ × T → Known T → Type 0
  Empties v m w = (w ≡ gatherer v.taken v.ended w.left) × (v.left ≡ m ∷ w.left)

  -- what an end learns about the items in the box
  abbrev pub ShowsPutter : Known T → List (ℕ × T) → Type 0
  ShowsPutter v items = HasOwn v.putters v.number v.put items

  abbrev pub ShowsEnded : Known T → List (ℕ × T) → Type 0
  ShowsEnded v items = HasTakenOfEnded v.ended (v.taken ++ items)

  abbrev pub ShowsAll : Known T → List (ℕ × T) → Type 0
  ShowsAll v items = IsFair v.ended v.taken items

  abbrev pub ShowsLeft : Known T → List (ℕ × T) → Type 0
  ShowsLeft v items = items ≡ v.left
