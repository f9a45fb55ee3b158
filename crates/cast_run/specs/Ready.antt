-- A group that is ready to run, and what is known about it after the run.
--     IsReady config faults jobs actors room            these actors run these jobs, and there is room for what they leave
--     HasRun config faults fact jobs actors room        these are such actors, some steps later
use Rattle.std.specs.Prelude.{◌≡◌, ℕ, Bool, List, [], length, map, slice_get, Some}
use Rattle.cast_message.specs.declared.config.Config.{Config}
use Rattle.cast_message.specs.declared.plan.Fault.{Fault}
use Rattle.cast_journal.specs.declared.order.OrderIn.{OrderIn}
use Rattle.cast_desk.specs.declared.notice.Notice.{Notice}
use Rattle.cast_run.specs.declared.actors.Actors.{Actors}
use Rattle.cast_run.specs.declared.jobs.Seat.{Seat}
use Rattle.cast_run.specs.declared.room.Room.{Room}
use Rattle.cast_run.specs.Actors.{CameBack}
use Rattle.cast_run.specs.Faults.{JobsFit}
use Rattle.cast_run.specs.Fresh.{HaveDesksOf}
use Rattle.cast_run.specs.Group.{IsGroup, AreSetUp}
use Rattle.cast_run.specs.Planned.{faults_of, HaveFaults}
use Rattle.cast_run.specs.Reports.{AreRowsOf, AreSeated}
use Rattle.cast_run.specs.Rooms.{HasRoom}
use Rattle.cast_run.specs.Seats.{seat_client, seat_job, IsFreshSeat}

pub record IsReady {J G : Type 0} (config : Config) (faults : List Fault) (jobs : List (ℕ × J))
    (actors : Actors J G) (room : Room J) : Type 0 where
  pub many : (length actors.engines.items ≡ config.nodes) × (length actors.carriers.items ≡ config.nodes)
  pub group : IsGroup actors.engines.items actors.carriers.items
  pub set : AreSetUp config faults actors.engines.items
  pub plan : HaveFaults (faults_of faults) actors.carriers.items
  pub desks : HaveDesksOf config.box_size actors.engines.items
  pub seated : AreSeated actors.engines.items (map seat_client actors.jobs.items)
  pub jobs_are : map seat_job actors.jobs.items ≡ jobs
  pub fresh : (i : ℕ) (s : Seat J) → slice_get actors.jobs.items i ≡ Some s → IsFreshSeat s
  pub fit : JobsFit config.nodes jobs
  pub rows : (length room.rows.items ≡ config.nodes)
      × AreRowsOf (map seat_client actors.jobs.items) [] room.rows.items
  pub room_is : HasRoom config.nodes (length jobs) room

abbrev pub HasRun : {J G : Type 0} → Config → List Fault
    → (J → J → List OrderIn → List Notice → Bool → Type 0) → List (ℕ × J) → Actors J G → Room J → Type 0
HasRun {J} {G} config faults fact jobs actors room =
    (was : Actors J G) × IsReady config faults jobs was room × CameBack fact was actors
