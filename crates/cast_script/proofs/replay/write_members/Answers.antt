use Rattle.cast_record.proofs.WrittenLemmas.{going_again, going_more, going_breaks}
use Rattle.cast_script.proofs.ReplayWriting.{members-next}
use Rattle.cast_script.proofs.replay.write_members.Goals as goal

pub returns-in_err-write_member : goal.returns-in_err-write_member
returns-in_err-write_member g c = going_breaks _ _ c.from_residual.result c.from_residual.ensures.1 (going_again c.loop-member.invariant (members-next c.args.members.now c.loop-member.member-index _ c.loop-member-test.true)) c.in_err-write_member.ensures

pub loop-member-preserved : goal.loop-member-preserved
loop-member-preserved g c = going_more (going_again c.loop-member.invariant (members-next c.args.members.now c.loop-member.member-index _ c.loop-member-test.true)) c.in_ok-write_member.ensures
