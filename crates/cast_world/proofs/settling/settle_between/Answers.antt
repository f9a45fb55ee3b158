use Rattle.std.proofs.Common.{◌<◌, arith, subst, sym}
use Rattle.std.specs.List.{range_with_len}
use Rattle.cast_world.specs.Settled.{ends, SettlesSlots}
use Rattle.cast_world.proofs.Settled.{settled_before, settled_after}
use Rattle.cast_world.proofs.settling.settle_between.Goals as goal

pub returns-then-from-to-clause-settles : goal.returns-then-from-to-clause-settles
returns-then-from-to-clause-settles c config =
    settled_before (λ row. row.items) config c.args.nodes.now c.args.marks.now c.args.from c.args.to _ c.index-givers-from.result c.index-takers-0.result c.settle_run.new.giver c.settle_run.new.taker c.index-carried-from.result c.index-told-0.result c.settle_run.new.carried c.settle_run.new.told
    (subst (λ e. SettlesSlots e (range_with_len c.args.first c.settle_run.result) (ends c.settle_run.new.giver c.settle_run.new.taker c.settle_run.new.carried.items c.settle_run.new.told.items)) (λ k. ends (sym c.index-givers-from.is k) (sym c.index-takers-0.is k) (sym c.index-carried-from.is k).items (sym c.index-told-0.is k).items) c.settle_run.ensures.settles)
    c.split_at_mut-givers.result.0.now c.split_at_mut-givers.result.1.now c.split_at_mut-carried.result.0.now c.split_at_mut-carried.result.1.now
    c.split_at_mut-givers.ensures.front c.split_at_mut-givers.ensures.back c.split_at_mut-carried.ensures.front c.split_at_mut-carried.ensures.back
    c.if-from-to.true c.requires.to (subst (λ n. c.args.to < n) (sym c.requires.rows) c.requires.to)
    c.index-givers-from.is c.index-takers-0.is c.index-carried-from.is c.index-told-0.is

pub returns-clause-settles : goal.returns-clause-settles
returns-clause-settles c config =
    let after = c.if-from-to.false in
    let apart = c.requires.apart in
    settled_after (λ row. row.items) config c.args.nodes.now c.args.marks.now c.args.from c.args.to _ c.index-givers-0.result c.index-takers-to.result c.settle_run-2.new.giver c.settle_run-2.new.taker c.index-carried-0.result c.index-told-to.result c.settle_run-2.new.carried c.settle_run-2.new.told
    (subst (λ e. SettlesSlots e (range_with_len c.args.first c.settle_run-2.result) (ends c.settle_run-2.new.giver c.settle_run-2.new.taker c.settle_run-2.new.carried.items c.settle_run-2.new.told.items)) (λ k. ends (sym c.index-givers-0.is k) (sym c.index-takers-to.is k) (sym c.index-carried-0.is k).items (sym c.index-told-to.is k).items) c.settle_run-2.ensures.settles)
    c.split_at_mut-takers.result.0.now c.split_at_mut-takers.result.1.now c.split_at_mut-told.result.0.now c.split_at_mut-told.result.1.now
    c.split_at_mut-takers.ensures.front c.split_at_mut-takers.ensures.back c.split_at_mut-told.ensures.front c.split_at_mut-told.ensures.back
    (omega (arith, after, apart)) c.requires.from (subst (λ n. c.args.from < n) (sym c.requires.rows) c.requires.from)
    c.index-givers-0.is c.index-takers-to.is c.index-carried-0.is c.index-told-to.is
