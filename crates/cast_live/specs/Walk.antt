-- A walk over the merged events of a run.
--     TakesStep old event new answered         the answer is the group's reply, and the world includes the event
--     IsWalk config events index left world    `index` events were taken, `left` are left, and the world matches those taken
use Rattle.std.specs.Prelude.{◌≡◌, ℕ, ◌<◌, ◌^◌, List, ◌++◌, length, Result}
use Rattle.std.specs.List.{AllByRecursion}
use Rattle.cast_message.specs.declared.config.Config.{Config}
use Rattle.cast_message.specs.declared.event.Answer.{Answer}
use Rattle.cast_message.specs.declared.event.Event.{Event}
use Rattle.cast_message.specs.declared.event.StepFault.{StepFault}
use Rattle.cast_model.specs.History.{History}
use Rattle.cast_model.specs.Replies.{history, history_from, reply, after}
use Rattle.cast_text.specs.Ranges.{HasEventRange}
use Rattle.cast_world.specs.Group.{State, Stands}

abbrev pub TakesStep : State → Event → State → Result Answer StepFault → Type 0
TakesStep old event new answered =
    (config : Config) (past : History) → Stands config past old
    → (answered ≡ reply config past event) × Stands config (after config past event) new

pub record IsWalk (config : Config) (events : List Event) (index : ℕ) (left : List Event) (world : State)
    : Type 0 where
  pub past : History
  pub stands : Stands config past world
  pub ends : history_from config past left ≡ history config events
  pub seen : List Event
  pub parts : events ≡ seen ++ left
  pub count : (index ≡ length seen) × (index < 2 ^ 64)
  pub ranges : AllByRecursion HasEventRange seen
