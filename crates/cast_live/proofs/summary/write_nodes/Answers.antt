use Rattle.cast_record.proofs.WrittenLemmas.{going_start, going_again, going_more, going_breaks, going_done}
use Rattle.cast_live.proofs.SummaryLemmas.{nodes-next, nodes-end}
use Rattle.cast_live.proofs.summary.write_nodes.Goals as goal

pub loop-node-init : goal.loop-node-init
loop-node-init g c = record { sound = c.requires.writer; going = λ past st. going_start c.requires.writer }

pub returns-in_err-write_node-clause-text : goal.returns-in_err-write_node-clause-text
returns-in_err-write_node-clause-text g c past st =
    let next = nodes-next c.args.config.now past c.args.reports.now c.loop-node.node c.index-reports-node.result c.loop-node-test.true c.index-reports-node.is in
    going_breaks _ _ c.from_residual.result c.from_residual.ensures.1 (going_again (c.loop-node.invariant.going past st) next) (c.in_err-write_node.ensures.text past st)

pub loop-node-preserved : goal.loop-node-preserved
loop-node-preserved g c = record {
  sound = c.in_ok-write_node.ensures.sound;
  going = λ past st.
      let next = nodes-next c.args.config.now past c.args.reports.now c.loop-node.node c.index-reports-node.result c.loop-node-test.true c.index-reports-node.is in
      going_more (going_again (c.loop-node.invariant.going past st) next) (c.in_ok-write_node.ensures.text past st);
}

pub returns-clause-text : goal.returns-clause-text
returns-clause-text g c past st = going_done (going_again (c.loop-node.invariant.going past st) (nodes-end c.args.config.now past c.args.reports.now c.loop-node.node c.loop-node-test.false))
