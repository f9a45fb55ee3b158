-- Who takes the next step of a run by a schedule.
--     IsNext w p a               the actor at place p takes the next step
--     NoneWaitsTooLong w         none has waited for as many steps as `longest` and the number of actors make
use Rattle.std.specs.Prelude.{◌≡◌, ◌<◌, ◌≤◌, ℕ, ◌+◌, ◌-◌, ◌*◌, ◌⊎◌, Bool, nat_le, List, length, slice_get, slice_set, Some}
use Rattle.std.specs.List.{count_by, swap_remove}
use Rattle.cast_run.specs.declared.waits.LiveActor.{LiveActor}
use Rattle.cast_run.specs.declared.waits.Place.{Place}
use Rattle.cast_journal.specs.Lists.{Has}
use Rattle.cast_run.specs.Fairly.{IsActorOf}

-- the actors that have not ended, the steps taken so far, after how many an actor goes first, and how many actors there
-- were at the beginning
pub record WaitsState : Type 0 where
  pub live : List LiveActor
  pub steps : ℕ
  pub longest : ℕ
  pub most : ℕ

-- a fact about each actor that has not ended
abbrev pub OfEach : (LiveActor → Type 0) → List LiveActor → Type 0
OfEach P live = (p : ℕ) (a : LiveActor) → slice_get live p ≡ Some a → P a

-- none has waited for this many steps
abbrev pub NoneWaits : ℕ → WaitsState → Type 0
NoneWaits n w = OfEach (λ a. w.steps < a.last + n) w.live

-- it has waited for `longest` steps, and none has waited longer
abbrev pub WaitsLongest : WaitsState → LiveActor → Type 0
WaitsLongest w a = (a.last + w.longest ≤ w.steps) × OfEach (λ b. a.last ≤ b.last) w.live

-- the actor at a place of the list takes the next step: any, if none has waited for `longest` steps, or else one that
-- has waited longest
abbrev pub IsNext : WaitsState → ℕ → LiveActor → Type 0
IsNext w p a = (slice_get w.live p ≡ Some a) × (NoneWaits w.longest w ⊎ WaitsLongest w a)

-- it takes the step
abbrev pub StepsNext : WaitsState → ℕ → WaitsState → Type 0
StepsNext old p new =
    (a : LiveActor) × IsNext old p a
    × (new ≡ record old {
      steps = old.steps + 1;
      live = slice_set old.live p (record { place = a.place; last = old.steps + 1 });
    })

-- it has ended, and is taken out of the list
abbrev pub HasLeft : WaitsState → ℕ → WaitsState → Type 0
HasLeft old p new =
    (a : LiveActor) × (slice_get old.live p ≡ Some a) × (new ≡ record old { live = swap_remove old.live p a })

-- some actor of the list is this one
abbrev pub Names : List LiveActor → Place → Type 0
Names live a = (b : LiveActor) × Has live b × (b.place ≡ a)

-- each actor of a group with this many nodes and jobs is in the list, and none has taken a step
abbrev pub AreNewActors : ℕ → ℕ → List LiveActor → Type 0
AreNewActors nodes jobs live =
    (length live ≡ 2 * nodes + jobs) × OfEach (λ a. a.last ≡ 0) live
    × ((a : Place) → IsActorOf nodes jobs a → Names live a)

abbrev pub NoneWaitsTooLong : WaitsState → Type 0
NoneWaitsTooLong w = NoneWaits (w.longest + w.most) w

-- ---- what is kept

abbrev pub has_waited : ℕ → ℕ → LiveActor → Bool
has_waited steps n a = nat_le (a.last + n) steps

-- for each k, all but k of the actors have waited for less than `longest` and k steps
abbrev pub FewWait : List LiveActor → ℕ → ℕ → ℕ → Type 0
FewWait live steps longest most = (k : ℕ) → count_by (has_waited steps (longest + k)) live ≤ most - k

-- no last step was before `oldest`
abbrev pub KeepsWaits : List LiveActor → ℕ → ℕ → ℕ → ℕ → Type 0
KeepsWaits live steps oldest longest most =
    (length live ≤ most) × (oldest ≤ steps) × OfEach (λ a. (oldest ≤ a.last) × (a.last ≤ steps)) live
    × FewWait live steps longest most

-- of the first n actors none took its last step before the one at place p
abbrev pub IsOldest : List LiveActor → ℕ → ℕ → Type 0
IsOldest live n p =
    (a : LiveActor) × (slice_get live p ≡ Some a)
    × ((q : ℕ) (b : LiveActor) → q < n → slice_get live q ≡ Some b → a.last ≤ b.last)
