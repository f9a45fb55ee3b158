use Rattle.std.proofs.Common.{◌≡◌, ℕ, ◌<◌, map, take, Some, Result}
use Rattle.std.specs.Prelude.{IsOk, slice_get}
use Rattle.std.specs.List.{All}
use Rattle.cast_message.specs.declared.event.Answer.{Answer}
use Rattle.cast_message.specs.declared.event.StepFault.{StepFault}
use Rattle.cast_logfile.specs.declared.merging.StepPlace.{StepPlace}
use Rattle.cast_node.specs.Linked.{outcome_in}
use Rattle.cast_logfile.specs.Merging.{outcome_at, IsAt}
use Rattle.cast_logfile.proofs.misfit.find_misfit.Given as goal

abbrev pub invariant-each : goal.invariant-each
invariant-each l = record {
  accepted : All IsOk (take l.index l.replies);
  places : (k : ℕ) (x : StepPlace) (reply : Result Answer StepFault) → k < l.index → slice_get l.order k ≡ Some x → slice_get l.replies k ≡ Some reply → IsAt x.node reply;
  outcomes : map outcome_in (take l.index l.replies) ≡ map (outcome_at l.logs) (take l.index l.order);
}
