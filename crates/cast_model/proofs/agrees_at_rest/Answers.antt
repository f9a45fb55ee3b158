use Rattle.cast_model.proofs.Dues.{Rest-from_none_due, none_due-from_Rest}
use Rattle.cast_model.proofs.DecidedAtRest.{all_delivered_same, live_stream_delivered, all_decided_same, decided_where_proposed}
use Rattle.cast_model.proofs.UniformRest.{all_have_it}
use Rattle.cast_model.proofs.agrees_at_rest.Goals as goal

pub returns : goal.returns
returns c = record {
  rests = Rest-from_none_due;
  nothing_due = none_due-from_Rest;
  same = all_delivered_same;
  whole = live_stream_delivered;
  decided = all_decided_same;
  proposed = decided_where_proposed;
  uniform = λ config past accepted rest uniform few p q s live. all_have_it config past accepted rest uniform few p live.in_group live.alive q s;
}
