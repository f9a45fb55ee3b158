-- Which lines of a record come from a group's configuration, and from each event with its reply.
--     head_of config                  the first line
--     lines_for index event reply     the lines of the event with this index, and its reply
use Rattle.std.specs.Prelude.{ℕ, List, [], ◌∷◌, ◌++◌, map, nat_le, if◌then◌else◌, Result, Ok, Err}
use Rattle.cast_message.specs.declared.config.Config.{Config}
use Rattle.cast_message.specs.declared.config.Mode.{Mode}
use Rattle.cast_message.specs.declared.config.Mode.TheVariants.{Basic, Uniform}
use Rattle.cast_message.specs.declared.event.Event.{Event}
use Rattle.cast_message.specs.declared.event.Event.TheVariants.{Order, Arrive, Crash}
use Rattle.cast_message.specs.declared.event.Answer.{Answer}
use Rattle.cast_message.specs.declared.event.Answer.TheVariants.{Ordered, Arrived, Down}
use Rattle.cast_message.specs.declared.event.Outcome.{Outcome}
use Rattle.cast_message.specs.declared.event.StepFault.{StepFault}
use Rattle.cast_message.specs.StepCode.{step_code}
use Rattle.cast_record.specs.declared.line.Line.{Line}
use Rattle.cast_record.specs.declared.line.Line.TheVariants.{Head, Head2, Broadcast, Delivered, Decided, Crashed, Refused}

abbrev pub head_by : Mode → ℕ → ℕ → ℕ → Line
head_by Basic nodes faults choices =
    if nat_le nodes 16 then Head nodes faults choices else Head2 nodes faults choices Basic
head_by Uniform nodes faults choices = Head2 nodes faults choices Uniform

-- `cast/1` if the mode is basic and there are at most 16 nodes, otherwise `cast/2`
abbrev pub head_of : Config → Line
head_of config = head_by config.mode config.nodes config.faults config.choices

-- what was delivered at the node, in order, and then what was decided there, in order
abbrev pub outcome_lines : ℕ → Outcome → List Line
outcome_lines node outcome = map (Delivered node) outcome.deliveries ++ map (Decided node) outcome.decisions

-- An accepted event. An answer that does not fit the event has no lines.
abbrev pub answer_lines : Event → Answer → List Line
answer_lines (Order node item) (Ordered number outcome) =
    Broadcast (record { sender = node; number = number; item = item }) ∷ outcome_lines node outcome
answer_lines (Arrive from seq) (Arrived node outcome) = outcome_lines node outcome
answer_lines (Crash node) Down = Crashed node ∷ []
answer_lines event answer = []

-- A refused event. Out of memory, 13, ends a record and has no line.
abbrev pub refusal_lines : ℕ → ℕ → List Line
refusal_lines index code = if nat_le code 12 then Refused index code ∷ [] else []

abbrev pub lines_for : ℕ → Event → Result Answer StepFault → List Line
lines_for index event (Ok answer) = answer_lines event answer
lines_for index event (Err fault) = refusal_lines index (step_code fault)
