use Rattle.cast_record.proofs.WrittenLemmas.{going_start, going_again, going_more, going_breaks, going_last}
use Rattle.cast_script.proofs.ReplayWriting.{member-parts}
use Rattle.cast_script.proofs.replay.write_member.Goals as goal

pub returns-in_err-write_word : goal.returns-in_err-write_word
returns-in_err-write_word g c = going_breaks _ _ c.from_residual.result c.from_residual.ensures.1 (going_again (going_start c.requires) (member-parts c.args.member.now)) c.in_err-write_word.ensures

pub returns-in_err-write_bytes : goal.returns-in_err-write_bytes
returns-in_err-write_bytes g c = going_breaks _ _ c.from_residual-in_err-write_bytes.result c.from_residual-in_err-write_bytes.ensures.1 (going_more (going_again (going_start c.requires) (member-parts c.args.member.now)) c.in_ok-write_word.ensures) c.in_err-write_bytes.ensures

pub returns-in_err-write_cell : goal.returns-in_err-write_cell
returns-in_err-write_cell g c = going_breaks _ _ c.from_residual-in_err-write_cell.result c.from_residual-in_err-write_cell.ensures.1 (going_more (going_more (going_again (going_start c.requires) (member-parts c.args.member.now)) c.in_ok-write_word.ensures) c.in_ok-write_bytes.ensures) c.in_err-write_cell.ensures

pub returns : goal.returns
returns g c = going_last _ _ c.write_bytes-2.result
    (going_more (going_more (going_more (going_again (going_start c.requires) (member-parts c.args.member.now)) c.in_ok-write_word.ensures) c.in_ok-write_bytes.ensures) c.in_ok-write_cell.ensures) c.write_bytes-2.ensures
