use Rattle.std.proofs.Common.{◌++◌, ◌∙◌, ap, map, subst, sym}
use Rattle.cast_live.specs.Live.{AreNewJobs, items_of}
use Rattle.cast_live.proofs.LiveLemmas.{new_more, items_more}
use Rattle.cast_live.proofs.live.submit_all.Goals as goal

pub loop-node-preserved : goal.loop-node-preserved
loop-node-preserved c =
    let l = c.loop-node in
    let added = c.in_ok-add_job.ensures in
    let whole = ap (λ rest. map items_of l.all.items ++ rest) (sym c.in-Some.ensures.steps.0) ∙ l.invariant.3 in (
      tt,
      tt,
      subst AreNewJobs (sym added.3) (new_more l.all.items _ l.invariant.2 added.1),
      items_more c.args.jobs c.add_job.new.all.items c.in-Some.node added.0 c.in-Some.items l.all.items c.next.new.self.rest.items whole added.2 added.3,
    )
