use Rattle.std.proofs.Common.{ap}
use Rattle.cast_record.proofs.WrittenLemmas.{going_start, going_again, going_more, going_breaks, going_last}
use Rattle.cast_script.specs.Replay.{events_text}
use Rattle.cast_script.proofs.replay.write_events.Goals as goal

pub returns-in_err-write_bytes : goal.returns-in_err-write_bytes
returns-in_err-write_bytes g c = going_breaks _ _ c.from_residual.result c.from_residual.ensures.1 (going_again (going_start c.requires) (ap events_text c.in-Some.ensures.cases.0)) c.in_err-write_bytes.ensures

pub returns-in_err-write_event : goal.returns-in_err-write_event
returns-in_err-write_event g c = going_breaks _ _ c.from_residual-in_err-write_event.result c.from_residual-in_err-write_event.ensures.1 (going_more (going_again (going_start c.requires) (ap events_text c.in-Some.ensures.cases.0)) c.in_ok-write_bytes.ensures) c.in_err-write_event.ensures

pub returns : goal.returns
returns g c = going_last _ _ c.write_other_events.result
    (going_more (going_more (going_again (going_start c.requires) (ap events_text c.in-Some.ensures.cases.0)) c.in_ok-write_bytes.ensures) c.in_ok-write_event.ensures)
    c.write_other_events.ensures
