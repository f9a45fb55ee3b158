use Rattle.std.proofs.Common.{drop, map}
use Rattle.cast_record.proofs.WrittenLemmas.{IsGoing}
use Rattle.cast_script.specs.Cells.{member_in}
use Rattle.cast_script.specs.Replay.{members_text}
use Rattle.cast_script.proofs.replay.write_members.Given as goal

abbrev pub invariant-loop-member : goal.invariant-loop-member
invariant-loop-member g l = IsGoing (g.W.Write.contents l.initial.writer.inner) (g.W.Write.contents l.writer.inner) l.writer.failed (members_text (map member_in l.members)) (members_text (map member_in (drop l.member-index l.members)))
