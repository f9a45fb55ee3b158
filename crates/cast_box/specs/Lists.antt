-- Items with the numbers of their putters.
use Rattle.std.specs.Prelude.{◌≡◌, ℕ, ◌<◌, List, [], ◌∷◌, ◌++◌, length, if◌then◌else◌, ◌==◌, slice_index_or}

module _ {T : Type 0} where
  -- the items of putter a, in order
  abbrev pub of : ℕ → List (ℕ × T) → List T
  of a [] = []
  of a (m ∷ ms) = if a == m.0 then m.1 ∷ of a ms else of a ms

  -- what putter a has put, given the lists of all putters
  abbrev pub put_by : List (List T) → ℕ → List T
  put_by lists a = slice_index_or lists a []

  -- what was taken, followed by what is left, has each putter's items in the order it put them, and no others
  abbrev pub IsFair : List (List T) → List (ℕ × T) → List (ℕ × T) → Type 0
  IsFair put taken left = (a : ℕ) → of a (taken ++ left) ≡ put_by put a

  -- everything was taken that the ended putters had put; these are their lists
  abbrev pub HasTakenOfEnded : List (List T) → List (ℕ × T) → Type 0
  HasTakenOfEnded ended taken = (a : ℕ) → a < length ended → of a taken ≡ put_by ended a

  -- the first list ends with the second
  abbrev pub EndsWith : List T → List T → Type 0
  EndsWith xs end = (before : List T) × (xs ≡ before ++ end)

  -- the first list starts with the second
  abbrev pub StartsWith : List T → List T → Type 0
  StartsWith xs front = (rest : List T) × (xs ≡ front ++ rest)

  -- the items are of putters with numbers below n
  abbrev pub AreBelow : ℕ → List (ℕ × T) → Type 0
  AreBelow n [] = Unit {0}
  AreBelow n (m ∷ ms) = (m.0 < n) × AreBelow n ms

  -- all items are from putters below `putters`, and those of putter `number` are the last that it put
  abbrev pub HasOwn : ℕ → ℕ → List T → List (ℕ × T) → Type 0
  HasOwn putters number put items = AreBelow putters items × EndsWith put (of number items)
