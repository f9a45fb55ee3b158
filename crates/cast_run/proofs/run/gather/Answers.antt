use Rattle.std.proofs.Common.{◌≡◌, ◌∙◌, List, ℕ, ap, map, sym, subst, length, vec_len, rules, arith}
use Rattle.std.proofs.lemmas.List.{length-map}
use Rattle.cast_engine.specs.Engines.{EngineState}
use Rattle.cast_run.specs.Faults.{JobsFit}
use Rattle.cast_run.specs.Seats.{seat_client}
use Rattle.cast_run.specs.Reports.{AreReportsOf, AreCounted}
use Rattle.cast_run.proofs.Outer.{desks_or_none}
use Rattle.cast_run.proofs.Wholes.{all_counted, all_finished, all_numbered}
use Rattle.cast_run.proofs.run.gather.Goals as goal

pub take_apart-requires : goal.take_apart-requires
take_apart-requires g c = record {
  fits = subst (λ n. JobsFit n (map seat_client c.args.actors.jobs.items)) (sym c.requires.rows.0) c.requires.fit;
  rows = c.requires.rows.1;
  jobs = c.requires.room.jobs;
  drafts = c.requires.room.drafts;
}

pub gather_group-report-requires-clause-room : goal.gather_group-report-requires-clause-room
gather_group-report-requires-clause-room g c =
    let ends = c.requires.room.ends in
    record { takers = ends.takers; reports = ends.reports; desks = ends.desks }

pub end_nodes-left-requires : goal.end_nodes-left-requires
end_nodes-left-requires g c =
    let desks = c.gather_group-report.result.1 in
    let engines = c.args.actors.engines in
    let many : length desks.items ≡ length engines.items = ap length c.gather_group-report.ensures.desks ∙ length-map engines.items (λ (e : EngineState). e.desk) in
    let a : vec_len desks ≡ length desks.items = search rules in
    let b : vec_len engines ≡ length engines.items = search rules in
    record {
      room = (c.requires.room.left.0, c.requires.room.left.1, (let r = c.requires.room.left.2 in omega arith));
      rows = (let r = c.take_apart.ensures.rows.0 in let n = c.requires.rows.0 in let e = c.requires.size in omega arith);
      desks = desks_or_none engines.items (map seat_client c.args.actors.jobs.items) desks.items c.take_apart.new.rows.items c.gather_group-report.ensures.desks c.requires.seated c.take_apart.ensures.rows.1;
    }

pub make_reports-clients-requires : goal.make_reports-clients-requires
make_reports-clients-requires g c =
    let ended = c.args.actors.jobs in
    let drafts = c.take_apart.new.drafts in
    let engines = c.args.actors.engines.items in
    let apart = c.take_apart.ensures in
    let desks = c.gather_group-report.result.1.items in
    let left = c.end_nodes-left.result.items in
    let many : length desks ≡ c.args.config.nodes = ap length c.gather_group-report.ensures.desks ∙ length-map engines (λ (e : EngineState). e.desk) ∙ c.requires.size in
    let a : vec_len drafts ≡ length drafts.items = search rules in
    let b : vec_len ended ≡ length ended.items = search rules in
    let P : List (List ℕ) → Type 0 = λ l. AreCounted l drafts.items in
    record {
      room = (c.requires.room.clients.0, c.requires.room.clients.1, (let r = c.requires.room.clients.2 in let d = apart.drafts.0 in omega arith));
      counted = subst P (sym c.as_slice-2.ensures.value) (all_counted ended.items c.args.config.nodes c.requires.fit desks c.take_apart.new.rows.items left many apart.rows.1 c.end_nodes-left.ensures drafts.items apart.drafts);
    }

pub returns-clause-numbered : goal.returns-clause-numbered
returns-clause-numbered g c =
    all_numbered (map seat_client c.args.actors.jobs.items) c.args.actors.engines.items c.gather_group-report.result.1.items c.take_apart.new.rows.items c.end_nodes-left.result.items c.gather_group-report.ensures.desks c.take_apart.ensures.rows.1 c.end_nodes-left.ensures

pub returns-clause-jobs : goal.returns-clause-jobs
returns-clause-jobs g c =
    let engines = c.args.actors.engines.items in
    let apart = c.take_apart.ensures in
    let drafts = c.take_apart.new.drafts.items in
    let desks = c.gather_group-report.result.1.items in
    let left = c.end_nodes-left.result.items in
    let reports = c.make_reports-clients.result.items in
    let many : length desks ≡ c.args.config.nodes = ap length c.gather_group-report.ensures.desks ∙ length-map engines (λ (e : EngineState). e.desk) ∙ c.requires.size in
    let P : List (List ℕ) → Type 0 = λ l. AreReportsOf drafts l reports in
    all_finished c.args.actors.jobs.items c.args.config.nodes c.requires.fit desks c.take_apart.new.rows.items left many apart.rows.1 c.end_nodes-left.ensures
    engines c.take_apart.new.jobs.items drafts reports c.gather_group-report.ensures.desks apart.jobs apart.drafts (subst P c.as_slice-2.ensures.value c.make_reports-clients.ensures)
