-- Who takes the steps of a run by a schedule.
--     IsServed bound a past          at each moment of the run the actor has ended, or has waited for fewer than `bound` steps
--     RanFairly longest old new      so has each actor of the run from `old` to `new`; the bound is the longest wait and the
--                                    number of actors
use Rattle.std.specs.Prelude.{◌≡◌, ◌≢◌, ◌<◌, ℕ, ◌+◌, ◌*◌, ◌⊎◌, Bool, false, List, [], ◌∷◌, ◌++◌, length, slice_get}
use Rattle.cast_journal.specs.Lists.{Has}
use Rattle.cast_run.specs.declared.actors.Actors.{Actors}
use Rattle.cast_run.specs.declared.waits.Place.{Place}
use Rattle.cast_run.specs.declared.waits.Place.TheVariants.{Engine, Carrier, Job}

-- an actor of a group with this many nodes and jobs
abbrev pub IsActorOf : ℕ → ℕ → Place → Type 0
IsActorOf nodes jobs (Engine n) = n < nodes
IsActorOf nodes jobs (Carrier n) = n < nodes
IsActorOf nodes jobs (Job i) = i < jobs

-- the steps of a run, newest first: who took each, and whether it goes on
abbrev pub Past : Type 0
Past = List (Place × Bool)

-- it took one of the last steps, after which others took fewer than `bound`; or the run has not taken so many
abbrev pub SteppedLately : ℕ → Place → Past → Type 0
SteppedLately bound a past =
    (length past < bound)
    ⊎ ((later earlier : Past) × (on : Bool) × (past ≡ later ++ (a, on) ∷ earlier) × (length later < bound))

abbrev pub IsServed : ℕ → Place → Past → Type 0
IsServed bound a past =
    (later earlier : Past) → past ≡ later ++ earlier → Has earlier (a, false) ⊎ SteppedLately bound a earlier

-- as many as before, and none but the one at place p has changed
abbrev pub AreSameBut : {A : Type 0} → ℕ → List A → List A → Type 0
AreSameBut {A} p old new = (length new ≡ length old) × ((q : ℕ) → q ≢ p → slice_get new q ≡ slice_get old q)

module _ {J G : Type 0} where
  abbrev pub ChangesOnly : Place → Actors J G → Actors J G → Type 0
  ChangesOnly (Engine n) old new =
      AreSameBut n old.engines.items new.engines.items
      × (new.carriers.items ≡ old.carriers.items) × (new.jobs.items ≡ old.jobs.items)
  ChangesOnly (Carrier n) old new =
      (new.engines.items ≡ old.engines.items)
      × AreSameBut n old.carriers.items new.carriers.items × (new.jobs.items ≡ old.jobs.items)
  ChangesOnly (Job i) old new =
      (new.engines.items ≡ old.engines.items) × (new.carriers.items ≡ old.carriers.items)
      × AreSameBut i old.jobs.items new.jobs.items

  -- in each step only the actor that took it has changed
  unfoldable pub TookSteps : Past → Actors J G → Actors J G → Type 0
  TookSteps [] old new = new ≡ old
  TookSteps (t ∷ past) old new = (mid : Actors J G) × TookSteps past old mid × ChangesOnly t.0 mid new

  abbrev pub RanFairly : ℕ → Actors J G → Actors J G → Type 0
  RanFairly longest old new =
      let nodes = length old.engines.items in
      let jobs = length old.jobs.items in
      (past : Past) × TookSteps past old new
      × ((a : Place) → IsActorOf nodes jobs a → IsServed (longest + (2 * nodes + jobs)) a past)
