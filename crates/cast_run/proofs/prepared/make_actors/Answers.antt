use Rattle.std.proofs.Common.{◌∙◌, subst, arith}
use Rattle.cast_run.specs.Fresh.{HaveDesksOf}
use Rattle.cast_run.proofs.Outer.{all_seated, enough_clients, new_fresh, desks_unused, desks_of}
use Rattle.cast_run.proofs.prepared.make_actors.Goals as goal

pub seat_jobs-seats-requires-clause-fresh : goal.seat_jobs-seats-requires-clause-fresh
seat_jobs-seats-requires-clause-fresh g c = let d = c.in_ok-desks in new_fresh c.box_size.result _ d.desks.items d.waiting.items d.ensures

pub seat_jobs-seats-requires-clause-enough : goal.seat_jobs-seats-requires-clause-enough
seat_jobs-seats-requires-clause-enough g c = let d = c.in_ok-desks in enough_clients c.args.config.now.nodes c.box_size.result c.args.jobs.items c.args.counts.now d.desks.items d.waiting.items c.requires.fit c.requires.counted d.ensures

pub make_desks-requires : goal.make_desks-requires
make_desks-requires g c = record {
  size = (let e = c.box_size.ensures in let some = c.args.config.now.some_place in let most = c.args.config.now.box_in_range in (omega arith, omega arith));
  few = λ p k at. (c.requires.counted.1 p k at).1;
}

pub make_group-requires : goal.make_group-requires
make_group-requires g c = let d = c.in_ok-desks in record { many = d.ensures.0 ∙ c.requires.counted.0; desks = desks_unused c.box_size.result _ d.desks.items d.waiting.items d.ensures }

pub returns-clause-seated : goal.returns-clause-seated
returns-clause-seated g c =
    let d = c.in_ok-desks in
    all_seated c.args.config.now.nodes c.box_size.result c.args.jobs.items c.args.counts.now d.desks.items d.waiting.items c.seat_jobs-seats.result.items c.in_ok-group.group.engines.items
    (let e = c.box_size.ensures in let some = c.args.config.now.some_place in let most = c.args.config.now.box_in_range in (omega arith, omega arith)) c.requires.counted d.ensures c.seat_jobs-seats.ensures c.in_ok-group.ensures.desks

pub returns-clause-desks : goal.returns-clause-desks
returns-clause-desks g c =
    let d = c.in_ok-desks in
    let engines = c.in_ok-group.group.engines.items in
    subst (λ n. HaveDesksOf n engines) c.box_size.ensures (desks_of c.box_size.result _ d.desks.items d.waiting.items engines d.ensures c.in_ok-group.ensures.desks)
