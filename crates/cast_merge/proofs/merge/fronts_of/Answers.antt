use Rattle.std.proofs.Common.{◌∙◌, ap}
use Rattle.cast_merge.specs.Fronts.{merged_left}
use Rattle.cast_merge.proofs.Fronts.{none_read, read_more, read_none}
use Rattle.cast_merge.proofs.merge.fronts_of.Goals.{in-Some+in_ok-push, in_default}
use Rattle.cast_merge.proofs.merge.fronts_of.Goals as goal

pub loop-report-init : goal.loop-report-init
loop-report-init c = none_read c.in_ok-fronts.fronts.items c.in_ok-fronts.ensures.items

pub loop-report-preserved : goal.loop-report-preserved
loop-report-preserved c =
    let fronts = c.loop-report.fronts.items in
    let report = c.report-item.result in
    elim c.match-front_of.branch [
      | in-Some+in_ok-push w ↦
          ap (λ now. merged_left now.items) w.fronts-is
          ∙ read_more c.args.reports.now c.loop-report.report-index report fronts w.push.new.self.items w.in-Some.front c.loop-report-test.true c.report-item.is w.in_ok-push.ensures.items
          w.in-Some.ensures c.loop-report.invariant
      | in_default w ↦
          ap (λ now. merged_left now.items) w.fronts-is
          ∙ read_none c.args.reports.now c.loop-report.report-index report fronts c.loop-report-test.true c.report-item.is w.in_default.ensures c.loop-report.invariant
    ]
