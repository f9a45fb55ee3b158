-- What was read so far was fed.
use Rattle.std.proofs.Common.{◌≡◌, ◌≤◌, ◌-◌, false, length}
use Rattle.cast_judge.specs.Judged.{is_refused}
use Rattle.cast_text.proofs.JudgingLemmas.{IsJudging}
use Rattle.cast_text.proofs.judge.judge_input.Given as goal

abbrev pub invariant-loop-count : goal.invariant-loop-count
invariant-loop-count g l = record {
  room : length l.chunk ≡ 65536;
  short : l.length ≤ 67108864;
  judging : IsJudging (g.R.Read.remaining l.fn.reader.inner) (g.R.Read.remaining l.reader.inner) l.reader.failed l.length l.judging;
  sound : is_refused l.judging ≡ false;
}

abbrev pub decreases-loop-count : goal.decreases-loop-count
decreases-loop-count g l = 67108865 - l.length
