use Rattle.std.proofs.Common.{◌≡◌, ◌-◌, ◌≤◌, length, take, arith}
use Rattle.std.proofs.lemmas.Grind.{common_steps}
use Rattle.cast_text.proofs.JudgingLemmas.{judging_more, judging_taken}
use Rattle.cast_text.proofs.judge.judge_input.Goals as goal

pub loop-count-preserved : goal.loop-count-preserved
loop-count-preserved g c =
    let j = c.loop-count.invariant.judging in
    let piece = take c.in-Ok.count c.read.new.buf in
    let size : length (take c.in-Ok.count c.read.new.buf) ≡ c.in-Ok.count = grind (arith, common_steps) in
    record {
      room = grind (arith, common_steps);
      short = omega arith;
      sound = c.in_ok-feed.ensures.ok;
      judging = judging_more _ _ _ c.loop-count.reader.failed c.read.new.self.failed c.loop-count.length c.in-Ok.count piece c.loop-count.judging c.feed.new.self j c.in-Ok.ensures.bytes.0 c.in-Ok.ensures.ok size c.in_ok-feed.ensures.fed (c.in_ok-feed.ensures.stands j.text j.stands);
    }

pub returns-then-length-gt-INPUT_LIMIT-clause-taken : goal.returns-then-length-gt-INPUT_LIMIT-clause-taken
returns-then-length-gt-INPUT_LIMIT-clause-taken g c =
    let size : length (take c.in-Ok.count c.read.new.buf) ≡ c.in-Ok.count = grind (arith, common_steps) in
    let asked : c.in-Ok.count ≤ 67108865 - c.loop-count.length = grind (arith, common_steps) in
    judging_taken _ c.loop-count.length c.in-Ok.count _ c.loop-count.invariant.judging c.in-Ok.ensures.bytes.0 size asked c.loop-count.invariant.short

pub returns-in_err-feed-clause-taken : goal.returns-in_err-feed-clause-taken
returns-in_err-feed-clause-taken g c =
    let size : length (take c.in-Ok.count c.read.new.buf) ≡ c.in-Ok.count = grind (arith, common_steps) in
    let asked : c.in-Ok.count ≤ 67108865 - c.loop-count.length = grind (arith, common_steps) in
    judging_taken _ c.loop-count.length c.in-Ok.count _ c.loop-count.invariant.judging c.in-Ok.ensures.bytes.0 size asked c.loop-count.invariant.short
