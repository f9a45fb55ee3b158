-- Logs merged by stamp, one after another; the order in which pairs of them are merged makes no difference.
--     before key n ys          the first of these, as long as their keys are below n
--     from key n ys            the others
--     merge key xs ys          both by key; of equal keys, those of the first list come first
--     logged_steps log         the steps of a log, without their outcomes
--     merged_logs logs         the steps of the logs: those of the first merged with those of the others
use Rattle.std.specs.Prelude.{ℕ, nat_lt, if◌then◌else◌, List, [], ◌∷◌, ◌++◌, map}
use Rattle.cast_message.specs.declared.event.Event.{Event}
use Rattle.cast_log.specs.declared.entry.Entry.{Entry}
use Rattle.cast_node.specs.declared.report.NodeReport.{NodeReport}
use Rattle.cast_node.specs.Linked.{TakenStep, taken}

-- a step of a log, without its outcome
pub record LoggedStep : Type 0 where
  pub stamp : ℕ
  pub event : Event

module _ {X : Type 0} where
  unfoldable pub before : (X → ℕ) → ℕ → List X → List X
  before key n [] = []
  before key n (y ∷ ys) = if nat_lt (key y) n then y ∷ before key n ys else []

  unfoldable pub from : (X → ℕ) → ℕ → List X → List X
  from key n [] = []
  from key n (y ∷ ys) = if nat_lt (key y) n then from key n ys else y ∷ ys

  unfoldable pub merge : (X → ℕ) → List X → List X → List X
  merge key [] ys = ys
  merge key (x ∷ xs) ys = before key (key x) ys ++ x ∷ merge key xs (from key (key x) ys)

abbrev pub stamp_of : LoggedStep → ℕ
stamp_of step = step.stamp

abbrev pub event_at : LoggedStep → Event
event_at step = step.event

abbrev pub without_outcome : TakenStep → LoggedStep
without_outcome t = record { stamp = t.stamp; event = t.event }

abbrev pub logged_steps : List Entry → List LoggedStep
logged_steps log = map without_outcome (taken log)

unfoldable pub merged_logs : List (List Entry) → List LoggedStep
merged_logs [] = []
merged_logs (log ∷ logs) = merge stamp_of (logged_steps log) (merged_logs logs)

abbrev pub logs_of : List NodeReport → List (List Entry)
logs_of reports = map (λ report. report.log) reports

-- the events of the steps in the logs of these reports, by stamp, then by node
abbrev pub merged_events : List NodeReport → List Event
merged_events reports = map event_at (merged_logs (logs_of reports))
