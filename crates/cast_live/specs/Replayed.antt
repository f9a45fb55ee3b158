-- The record of a run, and that of the script that says what happened in it.
--     lines_told index events replies     the lines of these events with these replies, counted from an index
--     run_record config events replies    the head, those lines, and the end
--     RecordsReplay config events         running the script of these events writes exactly that record
use Rattle.std.specs.Prelude.{◌≡◌, ℕ, ◌+◌, Bool, true, false, List, [], ◌∷◌, ◌++◌, reverse, Option, Some, Result, Err}
use Rattle.std.specs.List.{All}
use Rattle.std.specs.Io.KnownBytes.{Appends}
use Rattle.cast_message.specs.declared.config.Config.{Config}
use Rattle.cast_message.specs.declared.event.Answer.{Answer}
use Rattle.cast_message.specs.declared.event.Event.{Event}
use Rattle.cast_message.specs.declared.event.StepFault.{StepFault}
use Rattle.cast_model.specs.Replies.{history, replies}
use Rattle.cast_record.specs.declared.line.Line.{Line}
use Rattle.cast_record.specs.declared.line.Line.TheVariants.{Refused, End}
use Rattle.cast_record.specs.declared.verdict.Verdict.TheVariants.{Good}
use Rattle.cast_record.specs.Lines.{head_of, lines_for}
use Rattle.cast_record.specs.Text.{record_text}
use Rattle.cast_record.specs.Verdicts.{verdict}
use Rattle.cast_script.specs.Replay.{script_text}
use Rattle.cast_script.specs.declared.script.ScriptFault.{ScriptFault}
use Rattle.cast_script.specs.declared.script.ScriptFault.TheVariants.{Memory}
use Rattle.cast_text.specs.declared.fault.TextFault.TheVariants as faults
use Rattle.cast_text.specs.Text.{WritesRecord, Records}

unfoldable pub lines_told : ℕ → List Event → List (Result Answer StepFault) → List Line
lines_told index [] results = []
lines_told index (event ∷ events) [] = []
lines_told index (event ∷ events) (result ∷ results) =
    lines_for index event result ++ lines_told (index + 1) events results

abbrev pub run_record : Config → List Event → List (Result Answer StepFault) → List Line
run_record config events results = head_of config ∷ (lines_told 0 events results ++ End ∷ [])

abbrev pub is_refusal : Line → Bool
is_refusal (Refused index code) = true
is_refusal _ = false

-- the record of the events and their replies
abbrev pub record_of_accepted : Config → List Event → List Line
record_of_accepted config events = run_record config events (replies config events)

pub record RecordsReplay (config : Config) (events : List Event) : Type 0 where
  -- running the text of that script to its end writes that record (a text too long for an input is not run)
  pub replays : (old new : Option (List ℕ))
      → WritesRecord (Some (script_text config events)) old new
      → Appends old new (record_text (record_of_accepted config events))
  -- that text is refused only for lack of memory
  pub not_refused : (read_failed failed : Bool) (old new : Option (List ℕ)) (fault : ScriptFault)
      → Records (Some (script_text config events)) read_failed old new failed (Err (faults.Script fault))
      → fault ≡ Memory
  pub good : verdict (record_text (record_of_accepted config events)) ≡ Good
  -- if all events are accepted, no line is a refusal
  pub none_refused : history config events ≡ reverse events
      → All (λ line. is_refusal line ≡ false) (record_of_accepted config events)
