use Rattle.std.proofs.Common.{◌≡◌, ◌∙◌, ap, sym, subst, ℕ, List, map, take, length, vec_len, rules, arith}
use Rattle.cast_box.specs.Lists.{of}
use Rattle.cast_engine.specs.Engines.{EngineState}
use Rattle.cast_run.specs.Faults.{Fits}
use Rattle.cast_run.specs.Fresh.{HaveDesksOf}
use Rattle.cast_run.specs.Group.{IsGroup, AreSetUp}
use Rattle.cast_run.specs.Jobs.{IsCount}
use Rattle.cast_run.specs.Planned.{faults_of, HaveFaults}
use Rattle.cast_run.specs.Reports.{AreSeated}
use Rattle.cast_run.specs.Rooms.{HasRoom}
use Rattle.cast_run.specs.Seats.{seat_client}
use Rattle.cast_run.proofs.Causes.{still_fits}
use Rattle.cast_run.proofs.Counted.{new_rows}
use Rattle.cast_run.proofs.Numbered.{first_counts}
use Rattle.cast_run.proofs.Seating.{same_count}
use Rattle.cast_run.proofs.prepared.prepare.Goals as goal
use Rattle.cast_run.proofs.prepared.prepare.Goals.{In_ok-counts}

fits : (g : _) (c : In_ok-counts g) → Fits c.args.config.now.nodes c.args.jobs.items (vec_len c.args.gates) c.args.plan.now.faults
fits g c = still_fits c.args.config.now.nodes c.args.plan.now.faults c.as_slice.result.now c.args.jobs.items c.len.result (vec_len c.args.gates) c.as_slice.ensures.value c.len.ensures c.in_ok-counts.ensures.fits

counted : (g : _) (c : In_ok-counts g) → IsCount c.nodes-nodes.result c.args.jobs.items (take c.nodes-nodes.result c.in_ok-counts.counts)
counted g c =
    let most = c.args.config.now.nodes_in_range in
    let same = c.nodes-nodes.ensures in
    let C : List (ℕ × g.row.J.Denot) → Type 0 = λ l. IsCount 64 l c.in_ok-counts.counts in
    first_counts c.nodes-nodes.result c.args.jobs.items c.in_ok-counts.counts (omega arith) (subst C c.as_slice.ensures.value c.in_ok-counts.ensures.counts)

pub make_actors-requires : goal.make_actors-requires
make_actors-requires g c =
    let here = (goal.at.make_actors-requires g c).In_ok-counts in
    let N : ℕ → Type 0 = λ m. IsCount m c.args.jobs.items (take c.nodes-nodes.result c.in_ok-counts.counts) in
    record { fit = (fits g here).jobs_fit; counted = subst N c.nodes-nodes.ensures (counted g here) }

pub returns-clause-fits : goal.returns-clause-fits
returns-clause-fits g c = fits g (goal.at.returns-clause-fits g c).In_ok-counts

pub returns-clause-ready : goal.returns-clause-ready
returns-clause-ready g c =
    let here = (goal.at.returns-clause-ready g c).In_ok-counts in
    let config = c.args.config.now in
    let faults = c.args.plan.now.faults in
    let jobs = c.args.jobs.items in
    let made = c.in_ok-group in
    let seats = made.jobs.items in
    let carriers = made.group.carriers.items in
    let gated = sym c.in_ok-engines.ensures in
    let engines = c.in_ok-engines.engines.items in
    let counts = take c.nodes-nodes.result c.in_ok-counts.counts in
    let are = counted g here in
    let many : length jobs ≡ vec_len c.args.jobs = search rules in
    let C : List EngineState → Type 0 = λ es. length es ≡ config.nodes in
    let G : List EngineState → Type 0 = λ es. IsGroup es carriers in
    let S : List EngineState → Type 0 = λ es. AreSetUp config faults es in
    let D : List EngineState → Type 0 = λ es. HaveDesksOf config.box_size es in
    let T : List EngineState → Type 0 = λ es. AreSeated es (map seat_client seats) in
    record {
      many = (subst C gated made.ensures.group.1, made.ensures.group.2);
      group = subst G gated made.ensures.group.0;
      set = subst S gated (subst (λ l. AreSetUp config l made.group.engines.items) c.as_slice-2.ensures made.ensures.set);
      plan = subst (λ l. HaveFaults (faults_of l) carriers) c.as_slice-2.ensures made.ensures.plan;
      desks = subst D gated made.ensures.desks;
      seated = subst T gated made.ensures.seated;
      jobs_are = made.ensures.jobs;
      fresh = made.ensures.fresh;
      fit = (fits g here).jobs_fit;
      rows = (
        c.in_ok-room.ensures.rows.0 ∙ are.0 ∙ c.nodes-nodes.ensures,
        new_rows counts c.in_ok-room.room.rows.items (map seat_client seats) c.in_ok-room.ensures.rows
            (λ q k at. let here = (are.1 q k at).0 in let as_many = same_count q seats ∙ ap (λ l. length (of q l)) made.ensures.jobs in omega arith),
      );
      room_is = (
          let H : ℕ → ℕ → Type 0 = λ n k. HasRoom n k c.in_ok-room.room in
          subst (λ n. H n (length jobs)) (are.0 ∙ c.nodes-nodes.ensures) (subst (H (length counts)) (c.len-2.ensures ∙ sym many) c.in_ok-room.ensures.room)
          );
    }
