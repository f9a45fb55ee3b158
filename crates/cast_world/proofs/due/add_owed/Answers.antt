use Rattle.cast_node.specs.Kept.{link_to}
use Rattle.cast_world.specs.Plans.{due_of}
use Rattle.cast_world.proofs.Owing.{owed_next, owed_all}
use Rattle.cast_world.proofs.due.add_owed.Goals as goal

pub loop-first-preserved : goal.loop-first-preserved
loop-first-preserved c =
    let least = c.in-Some.ensures.peer c.requires in
    owed_next (link_to c.args.node.now c.args.taker) (due_of c.args.giver c.args.taker) c.loop-first.due c.push_run.new.self c.args.due.now c.loop-first.from c.in-Some.first c.owed_until-end.result least.0 least.2 c.owed_until-end.ensures c.loop-first.invariant c.in_ok-push_run.ensures.ok

pub returns : goal.returns
returns c bound small beyond =
    owed_all (link_to c.args.node.now c.args.taker) (due_of c.args.giver c.args.taker) c.loop-first.due c.args.due.now c.loop-first.from bound (c.in_default.ensures.peer c.requires) beyond c.loop-first.invariant
