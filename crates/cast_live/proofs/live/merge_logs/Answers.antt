use Rattle.std.proofs.Common.{refl}
use Rattle.cast_model.specs.Replies.{history, replies}
use Rattle.cast_merge.specs.ByStamp.{merged_events}
use Rattle.cast_merge.proofs.Assembling.{tells_merge, all_accepted, whole_history}
use Rattle.cast_live.proofs.live.merge_logs.Goals as goal

pub returns-clause-ok : goal.returns-clause-ok
returns-clause-ok c =
    let config = c.args.run.report.config in
    let reports = c.args.run.report.reports in
    let events = merged_events reports in
    let linked = c.reports-linked.ensures.linked in
    record {
      merged = record {
        linked = linked;
        merge = tells_merge config reports linked events (replies config events) refl refl;
        accepted = all_accepted config reports linked events refl;
        whole = whole_history config reports linked events refl;
      };
      stands = c.in_ok-world.ensures.stands;
      said = record { rest = c.at_rest.ensures.rest config (history config events) c.in_ok-world.ensures.stands; good = c.in_ok-world.ensures.good };
    }
