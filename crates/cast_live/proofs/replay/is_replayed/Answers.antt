use Rattle.cast_live.proofs.Replaying.{records_replay}
use Rattle.cast_live.proofs.replay.is_replayed.Goals as goal

pub returns : goal.returns
returns c = record { law = records_replay c.args.config.now c.args.events.now c.is_read_back.ensures.law c.tell_event_ranges.ensures.ranges c.tell_event_ranges.ensures.few }
