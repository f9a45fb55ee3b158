-- The events of the slots before, and how many frames they make.
use Rattle.std.proofs.Common.{◌≡◌, ◌+◌, ◌≤◌, ◌++◌, List, [], length}
use Rattle.std.specs.Prelude.{◌^◌}
use Rattle.cast_message.specs.declared.config.Config.{Config}
use Rattle.cast_model.specs.History.{History}
use Rattle.cast_model.specs.Rounds.{Due, due, plan_from}
use Rattle.cast_world.specs.Group.{Stands}
use Rattle.cast_world.proofs.Numbering.{AreCounted}
use Rattle.cast_world.proofs.world.World.round_plan.Given as goal

abbrev pub invariant-slots : goal.invariant-slots
invariant-slots l = record {
  before : List Due;
  counted : AreCounted before l.made;
  few : length before + length l.due ≤ 2 ^ 61;
  plan : (config : Config) (past : History) → Stands config past l.self → (before ++ l.due ≡ due config past) × (l.events.items ≡ plan_from past [] before);
}

abbrev pub decreases-slots : goal.decreases-slots
decreases-slots l = length l.due
