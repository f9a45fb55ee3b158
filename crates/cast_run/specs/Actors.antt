-- What takes steps, in a thread of its own or in turn with others.
--     ComesFrom from x          x came from some earlier state
--     StaysFrom from x y        whatever x came from, y comes from too
--     AreStill Same old new     as many as before, and each is the same as the one in its place
--     HaveBegun fact jobs       no job has taken a step
--     CameBack fact old new     the engines, carriers and jobs of a group are the same, some steps later
use Rattle.std.specs.Prelude.{◌≡◌, ℕ, Bool, List, length, slice_get, Some}
use Rattle.cast_journal.specs.declared.order.OrderIn.{OrderIn}
use Rattle.cast_desk.specs.declared.notice.Notice.{Notice}
use Rattle.cast_engine.specs.Engines.{IsSameEngine}
use Rattle.cast_carrier.specs.Carriers.{IsSameCarrier}
use Rattle.cast_carrier.specs.Lists.{AreSame}
use Rattle.cast_run.specs.declared.actors.Actors.{Actors}
use Rattle.cast_run.specs.declared.jobs.Seat.{Seat}
use Rattle.cast_run.specs.Seats.{IsSameSeat, AreSameSeats}

abbrev pub ComesFrom : {A : Type 0} → (A → A → Type 0) → A → Type 0
ComesFrom {A} from x = (was : A) × from was x

abbrev pub StaysFrom : {A : Type 0} → (A → A → Type 0) → A → A → Type 0
StaysFrom {A} from x y = (was : A) → from was x → from was y

abbrev pub AreStill : {S T : Type 0} → (S → T → Type 0) → List S → List T → Type 0
AreStill {S} {T} Same old new = (length new ≡ length old) × AreSame Same old new

module _ {J : Type 0} (fact : J → J → List OrderIn → List Notice → Bool → Type 0) where
  abbrev pub HaveBegun : List (Seat J) → Type 0
  HaveBegun jobs = (i : ℕ) (s : Seat J) → slice_get jobs i ≡ Some s → IsSameSeat fact s s

  pub record CameBack {G : Type 0} (old new : Actors J G) : Type 0 where
    pub engines : AreStill IsSameEngine old.engines.items new.engines.items
    pub carriers : AreStill IsSameCarrier old.carriers.items new.carriers.items
    pub jobs_are : AreSameSeats fact old.jobs.items new.jobs.items
