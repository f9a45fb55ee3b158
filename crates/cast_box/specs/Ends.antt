-- The ends of a box, as contracts see them.
use Rattle.std.specs.Prelude.{◌≡◌, ℕ, ◌<◌, ◌≤◌, List, [], ◌∷◌, ◌++◌, length, slice_get, Some, Option, None, MatchOption}
use Rattle.atomic_table.specs.Seated.{TableId}
use Rattle.crossbeam_queue.specs.Fifo.{Held}
use Rattle.cast_box.specs.Lists.{HasOwn}
use Rattle.cast_box.specs.declared.opening.BoxFault.{BoxFault}
use Rattle.cast_box.specs.declared.opening.BoxFault.TheVariants.{Size, Putters, Memory}

-- a box of which `made` putters of `putters` were made
pub record OpeningBox : Type 0 where
  pub home : TableId
  pub size : ℕ
  pub putters : ℕ
  pub made : ℕ

-- a putter of the box `home`, which has `size` places and `putters` putters: its number, and what it has put
pub record PutterEnd (T : Type 0) : Type 0 where
  pub home : TableId
  pub size : ℕ
  pub putters : ℕ
  pub number : ℕ
  pub put : List T

-- the taker of the box `home`: what it has taken, with the putters' numbers, and what each ended putter has put; the
-- ended putters are the first ones
pub record TakerEnd (T : Type 0) : Type 0 where
  pub home : TableId
  pub size : ℕ
  pub putters : ℕ
  pub taken : List (ℕ × T)
  pub ended : List (List T)

-- a box after its end: what each putter has put, what was taken and what is left
pub record GatheredBox (T : Type 0) : Type 0 where
  pub put : List (List T)
  pub taken : List (ℕ × T)
  pub left : List (ℕ × T)

module _ {T : Type 0} where
  -- the same putter of the same box, whatever it has put since
  abbrev pub IsSamePutter : PutterEnd T → PutterEnd T → Type 0
  IsSamePutter old new =
      (new.home ≡ old.home) × (new.size ≡ old.size) × (new.putters ≡ old.putters) × (new.number ≡ old.number)

  -- the taker of the same box, with the same putters ended, whatever it has taken since
  abbrev pub IsSameTaker : TakerEnd T → TakerEnd T → Type 0
  IsSameTaker old new =
      (new.home ≡ old.home) × (new.size ≡ old.size) × (new.putters ≡ old.putters) × (new.ended ≡ old.ended)

  -- an item from one of the putters was taken, or none was
  abbrev pub TakesItem : TakerEnd T → Option T → TakerEnd T → Type 0
  TakesItem old item new =
      MatchOption item (new.taken ≡ old.taken)
      (λ item. (from : ℕ) × (from < old.putters) × (new.taken ≡ old.taken ++ (from, item) ∷ []))

  -- each putter is the same as the one in its place before
  abbrev pub AreSamePutters : List (PutterEnd T) → List (PutterEnd T) → Type 0
  AreSamePutters old new =
      (length new ≡ length old)
      × ((a : ℕ) (p : PutterEnd T) → slice_get new a ≡ Some p
      → (was : PutterEnd T) × (slice_get old a ≡ Some was) × IsSamePutter was p)

  -- these are all the ends of one box, the putters in the order of their numbers
  abbrev pub AreAllEnds : List (PutterEnd T) → TakerEnd T → Type 0
  AreAllEnds putters taker =
      (length putters ≡ taker.putters)
      × ((a : ℕ) (p : PutterEnd T) → slice_get putters a ≡ Some p → (p.home ≡ taker.home) × (p.number ≡ a))
      × (taker.ended ≡ [])

  -- the putter is the next to end
  abbrev pub IsNextToEnd : PutterEnd T → TakerEnd T → Type 0
  IsNextToEnd putter taker = (putter.home ≡ taker.home) × (putter.number ≡ length taker.ended)

  -- every putter of the box has ended
  abbrev pub HaveAllEnded : TakerEnd T → Type 0
  HaveAllEnded taker = length taker.ended ≡ taker.putters

  -- the ends know the limits of their box, nothing was put and nothing taken
  abbrev pub AreNew : List (PutterEnd T) → TakerEnd T → Type 0
  AreNew putters taker =
      ((a : ℕ) (p : PutterEnd T) → slice_get putters a ≡ Some p
      → (p.size ≡ taker.size) × (p.putters ≡ taker.putters) × (p.put ≡ []))
      × (taker.taken ≡ [])

  -- at one moment of the call the box held n items, all from its putters; those of this putter were the last that it had
  -- put
  abbrev pub HasHeld : ℕ → PutterEnd T → Type 0
  HasHeld n p = Held n (HasOwn p.putters p.number p.put)

  -- at one moment of the call each place of the box was taken
  abbrev pub WasFull : PutterEnd T → Type 0
  WasFull p = HasHeld p.size p

  -- if it is the only putter of its box, it has put at least as many items as the box has places
  abbrev pub FilledItAlone : PutterEnd T → Type 0
  FilledItAlone p = p.putters ≡ 1 → p.size ≤ length p.put

  -- the item handed out next, and then the others
  abbrev pub left_from : Option (ℕ × T) → List (ℕ × T) → List (ℕ × T)
  left_from None rest = []
  left_from (Some m) rest = m ∷ rest

abbrev pub IsSize : ℕ → Type 0
IsSize size = (0 < size) × (size ≤ 4096)

abbrev pub IsPutters : ℕ → Type 0
IsPutters putters = (0 < putters) × (putters ≤ 64)

-- the first fault, given what the size and the number of putters must satisfy
abbrev pub IsFirstFault : Type 0 → Type 0 → BoxFault → Type 0
IsFirstFault size putters Size = ¬ size
IsFirstFault size putters Putters = size × ¬ putters
IsFirstFault size putters Memory = size × putters

abbrev pub IsFaultOf : ℕ → ℕ → BoxFault → Type 0
IsFaultOf size putters = IsFirstFault (IsSize size) (IsPutters putters)
