-- The steps of several logs in one list.
--     step_at logs x                    the step in this place
--     row logs p order                  the steps of node p, in this order
--     IsWhole logs order                the steps of each node are its log
--     AreAt order results               a frame that arrived is for the node whose log has the step
--     Tells logs order events results   the events are these steps; each is accepted, and delivers and decides what was logged
use Rattle.std.specs.Prelude.{◌≡◌, ℕ, ◌==◌, if◌then◌else◌, List, [], ◌∷◌, length, map, flat_map, slice_get, slice_index_or, Some, Result, Ok, IsOk}
use Rattle.std.specs.List.{All}
use Rattle.cast_message.specs.declared.event.Event.{Event}
use Rattle.cast_message.specs.declared.event.Event.TheVariants.{Crash}
use Rattle.cast_message.specs.declared.event.Answer.{Answer}
use Rattle.cast_message.specs.declared.event.Answer.TheVariants.{Arrived}
use Rattle.cast_message.specs.declared.event.StepFault.{StepFault}
use Rattle.cast_message.specs.declared.event.Outcome.{Outcome}
use Rattle.cast_model.specs.OwnSteps.{nothing}
use Rattle.cast_node.specs.Linked.{outcome_in}
use Rattle.cast_logfile.specs.declared.file_log.LoggedStep.{LoggedStep}
use Rattle.cast_logfile.specs.declared.merging.StepPlace.{StepPlace}

abbrev pub Logs : Type 0
Logs = List (List LoggedStep)

abbrev pub log_of : Logs → ℕ → List LoggedStep
log_of logs p = slice_index_or logs p []

-- the default, where there is no step
abbrev pub no_step : LoggedStep
no_step = record { stamp = 0; line = 0; event = Crash 0; outcome = nothing }

abbrev pub step_at : Logs → StepPlace → LoggedStep
step_at logs x = slice_index_or (log_of logs x.node) x.place no_step

abbrev pub event_at : Logs → StepPlace → Event
event_at logs x = (step_at logs x).event

abbrev pub outcome_at : Logs → StepPlace → Outcome
outcome_at logs x = (step_at logs x).outcome

abbrev pub step_of : Logs → ℕ → StepPlace → List LoggedStep
step_of logs p x = if x.node == p then step_at logs x ∷ [] else []

-- the steps of node p, in this order
abbrev pub row : Logs → ℕ → List StepPlace → List LoggedStep
row logs p order = flat_map (step_of logs p) order

-- the steps of each node are its log
abbrev pub IsWhole : Logs → List StepPlace → Type 0
IsWhole logs order = (p : ℕ) → row logs p order ≡ log_of logs p

-- a frame that arrived is for node p
abbrev pub IsAt : ℕ → Result Answer StepFault → Type 0
IsAt p (Ok (Arrived node outcome)) = node ≡ p
IsAt p result = Unit {0}

abbrev pub AreAt : List StepPlace → List (Result Answer StepFault) → Type 0
AreAt order results = (i : ℕ) (x : StepPlace) (result : Result Answer StepFault) → slice_get order i ≡ Some x
    → slice_get results i ≡ Some result → IsAt x.node result

-- the events are the steps of the logs in this order; the group accepts each, and delivers and decides what was logged
-- there
pub record Tells (logs : Logs) (order : List StepPlace) (events : List Event)
    (results : List (Result Answer StepFault)) : Type 0 where
  pub whole : IsWhole logs order
  pub in_order : events ≡ map (event_at logs) order
  pub accepted : All IsOk results
  pub outcomes : map outcome_in results ≡ map (outcome_at logs) order
  pub places : AreAt order results
