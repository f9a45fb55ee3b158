use Rattle.std.proofs.Common.{nat_eq}
use Rattle.cast_judge.proofs.FindLemmas.{first_is_position}
use Rattle.cast_judge.proofs.lines.find_line_feed.Goals as goal

pub returns : goal.returns
returns c = first_is_position (λ b. nat_eq b 10) c.args.bytes.now c.memchr.result c.memchr.ensures
