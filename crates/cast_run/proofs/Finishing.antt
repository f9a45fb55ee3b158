-- What is known of actors that have run.
use Rattle.std.proofs.Common.{◌≡◌, ◌∙◌, ◌≤◌, ℕ, Bool, List, [], length, map, slice_get, Some, vec_len, ap, sym, subst, rules, arith}
use Rattle.std.proofs.lemmas.Option.{slice_get_within}
use Rattle.cast_box.specs.Lists.{of}
use Rattle.cast_box.proofs.Closing.{found}
use Rattle.cast_message.specs.declared.config.Config.{Config}
use Rattle.cast_message.specs.declared.plan.Fault.{Fault}
use Rattle.cast_journal.specs.declared.order.OrderIn.{OrderIn}
use Rattle.cast_desk.specs.declared.notice.Notice.{Notice}
use Rattle.cast_run.specs.declared.actors.Actors.{Actors}
use Rattle.cast_run.specs.declared.reports.ClientReport.{ClientReport}
use Rattle.cast_run.specs.declared.room.Room.{Room}
use Rattle.cast_run.specs.Faults.{JobsFit}
use Rattle.cast_run.specs.Group.{IsGroup, AreSetUp}
use Rattle.cast_run.specs.Planned.{faults_of, HaveFaults}
use Rattle.cast_run.specs.Ready.{HasRun}
use Rattle.cast_run.specs.Reports.{AreFinished, AreRowsOf, AreSeated}
use Rattle.cast_run.specs.Rooms.{HasRoom}
use Rattle.cast_run.specs.Seats.{seat_client}
use Rattle.cast_run.proofs.Outer.{still_seated}
use Rattle.cast_run.proofs.Returned.{returned, still_set, still_sized}
use Rattle.cast_run.proofs.Seating.{same_count}
use Rattle.cast_run.proofs.Wholes.{as_many, same_counts, still_fit}

module _ {J G : Type 0} (config : Config) (faults : List Fault) (fact : J → J → List OrderIn → List Notice → Bool → Type 0) (jobs : List (ℕ × J)) (actors : Actors J G) (room : Room J)
    (run : HasRun config faults fact jobs actors room) where
  pub group_back : IsGroup actors.engines.items actors.carriers.items
  group_back = returned run.0.engines.items actors.engines.items run.0.carriers.items actors.carriers.items run.1.group run.2.engines.0 run.2.engines.1 run.2.carriers.1

  pub size_back : length actors.engines.items ≡ config.nodes
  size_back = run.2.engines.0 ∙ run.1.many.0

  pub many_back : length actors.carriers.items ≡ length actors.engines.items
  many_back = run.2.carriers.0 ∙ run.1.many.1 ∙ sym size_back

  pub set_back : AreSetUp config faults actors.engines.items
  set_back = still_set config faults run.0.engines.items actors.engines.items run.1.set run.2.engines.1

  pub plan_back : HaveFaults (faults_of faults) actors.carriers.items
  plan_back p c at = let was = run.2.carriers.1 p c at in was.2.2 ∙ run.1.plan p was.0 was.1

  pub seated_back : AreSeated actors.engines.items (map seat_client actors.jobs.items)
  seated_back = still_seated fact run.0.engines.items actors.engines.items run.0.jobs.items actors.jobs.items run.1.seated run.2.engines.1 run.2.jobs_are

  pub fit_back : JobsFit config.nodes (map seat_client actors.jobs.items)
  fit_back = still_fit fact jobs run.0.jobs.items run.1.jobs_are actors.jobs.items run.2.jobs_are run.1.fresh config.nodes run.1.fit

  pub counts_back : (p : ℕ) → length (of p (map seat_client actors.jobs.items)) ≡ length (of p jobs)
  counts_back = same_counts fact jobs run.0.jobs.items run.1.jobs_are actors.jobs.items run.2.jobs_are run.1.fresh

  pub rows_room : (length room.rows.items ≡ config.nodes) × AreRowsOf (map seat_client actors.jobs.items) [] room.rows.items
  rows_room = (
    run.1.rows.0,
    λ p row at.
        let it = run.1.rows.1 p row at in
        let now = counts_back p in
        let was = same_count p run.0.jobs.items ∙ ap (λ l. length (of p l)) run.1.jobs_are in
        let enough = it.1 in
        (it.0, omega arith),
  )

  pub room_back : HasRoom (vec_len actors.engines) (vec_len actors.jobs) room
  room_back =
      let a : vec_len actors.jobs ≡ length actors.jobs.items = search rules in
      let b : vec_len actors.engines ≡ length actors.engines.items = search rules in
      let k : length jobs ≡ vec_len actors.jobs = sym (a ∙ as_many fact jobs run.0.jobs.items run.1.jobs_are actors.jobs.items run.2.jobs_are run.1.fresh) in
      let h : config.nodes ≡ vec_len actors.engines = sym (b ∙ size_back) in
      subst (λ x. HasRoom x (vec_len actors.jobs) room) h (subst (λ x. HasRoom config.nodes x room) k run.1.room_is)

  -- no more orders of a client are left than a box has places
  pub left_back : (back : List J) (reports : List ClientReport) → AreFinished actors.jobs.items actors.engines.items back reports → (i : ℕ) (r : ClientReport) → slice_get reports i ≡ Some r → r.left ≤ config.box_size
  left_back back reports fin i r at =
      let within = slice_get_within reports i r at in
      let many = fin.1 in
      let e = found actors.jobs.items i (omega arith) in
      let f = fin.2 i e.0 r e.1 at in
      let size = still_sized config.box_size run.0.engines.items actors.engines.items run.1.desks run.2.engines.1 r.node f.engine f.desk f.engine_at f.desk_is in
      let room = f.room in
      omega arith
