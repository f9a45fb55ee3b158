use Rattle.cast_model.proofs.Possible.{node_reply-steps_of, node_after-steps_of}
use Rattle.cast_model.proofs.OwnReplies.{own_frames-steps_of, own_owed-steps_of}
use Rattle.cast_model.proofs.OwnTurns.{own_delivered-steps_of, own_decision-steps_of, own_known_by-steps_of, own_knows-steps_of}
use Rattle.cast_model.proofs.answers_by_own_steps.Goals as goal

pub returns : goal.returns
returns c = record {
  reply = node_reply-steps_of;
  steps = node_after-steps_of;
  frames = own_frames-steps_of;
  delivered = own_delivered-steps_of;
  decided = own_decision-steps_of;
  owed = own_owed-steps_of;
  known = own_known_by-steps_of;
  holders = own_knows-steps_of;
}
