use Rattle.cast_live.proofs.OutputLemmas.{all_whole, all_front, all_fault, second_of}
use Rattle.cast_live.proofs.outputs.RunOutputs.write.Goals as goal

pub returns-clause-whole : goal.returns-clause-whole
returns-clause-whole g c =
    all_whole g.S.Write.contents g.F.Write.contents c.args.self.now _ c.args.run.now c.put_record-record.result c.put_replay-replay.result c.put_summary-summary.result c.put_record-record.ensures c.put_replay-replay.ensures.text c.put_summary-summary.ensures
    c.memory_first.result c.memory_first-2.result c.memory_first.ensures.ok c.memory_first-2.ensures.ok

pub returns-clause-front : goal.returns-clause-front
returns-clause-front g c =
    all_front g.S.Write.contents g.F.Write.contents c.args.self.now _ c.args.run.now c.put_record-record.result c.put_replay-replay.result c.put_summary-summary.result c.put_record-record.ensures c.put_replay-replay.ensures.text c.put_summary-summary.ensures
    c.memory_first-2.result

pub returns-clause-fault : goal.returns-clause-fault
returns-clause-fault g c =
    all_fault g.S.Write.contents g.F.Write.contents c.args.self.now _ c.args.run.now c.put_record-record.result c.put_replay-replay.result c.put_summary-summary.result c.put_record-record.ensures c.put_replay-replay.ensures.text c.put_summary-summary.ensures
    c.memory_first.result c.memory_first-2.result c.memory_first.ensures.err c.memory_first-2.ensures.err

pub returns-clause-law : goal.returns-clause-law
returns-clause-law g c =
    second_of g.S.Write.contents g.F.Write.contents c.args.self.now _ c.args.run.now c.put_record-record.result c.put_replay-replay.result c.put_summary-summary.result c.put_record-record.ensures c.put_replay-replay.ensures.text c.put_summary-summary.ensures
    _ c.memory_first.result c.memory_first-2.result c.memory_first.ensures.ok c.memory_first-2.ensures.ok c.put_replay-replay.ensures.law
