-- What the writers of a run's texts have received.
--     IsSound writer, AreSound outputs           no requested writer has failed
--     PutsWanted contents old new result text    a requested text was written, or broke off
--     Got contents old new whole text            a writer has the whole text, or else a prefix of it
--     GotTexts summary file old new whole run    each requested writer has its text of the run, or a prefix of it
--     FailsFor fault failed                      the fault reports this failure, or out of memory
--     FailsIn outputs fault                      a writer failed, or memory ran out
--     IsRunIn input run                          it is a run of the script that was read
--     RunsGroup                                  each writer has its text of a run of the script, or the fault's cause holds
use Rattle.std.specs.Prelude.{◌≡◌, ℕ, ◌⊎◌, List, Bool, true, false, Option, Some, None, Result, Ok, Err}
use Rattle.cast_record.specs.Text.{record_text}
use Rattle.cast_record.specs.Written.{WroteAll}
use Rattle.cast_record.specs.declared.meter.Meter.{Meter}
use Rattle.cast_script.specs.Replay.{script_text}
use Rattle.cast_script.specs.declared.script.Script.{Script}
use Rattle.cast_text.specs.declared.fault.TextFault.{TextFault}
use Rattle.cast_text.specs.declared.fault.TextFault.TheVariants as faults
use Rattle.cast_text.specs.Text.{IsScriptIn, IsOfScript, Puts, WroteFront}
use Rattle.cast_live.specs.declared.live.FinishedRun.{FinishedRun}
use Rattle.cast_live.specs.declared.outputs.RunOutputs.{RunOutputs}
use Rattle.cast_live.specs.Live.{IsFinished, IsRunOf, DoesNotRun, events_of, summary_of}
use Rattle.cast_live.specs.Replayed.{record_of_accepted}

abbrev pub IsSound : {F : Type 0} → Option (Meter F) → Type 0
IsSound None = Unit {0}
IsSound (Some writer) = writer.failed ≡ false

abbrev pub AreSound : {S F : Type 0} → RunOutputs S F → Type 0
AreSound outputs = (outputs.summary.failed ≡ false) × (IsSound outputs.«record» × IsSound outputs.replay)

abbrev pub PutsWanted : {F : Type 0} → (F → Option (List ℕ)) → Option (Meter F) → Option (Meter F) → Result (Unit {0}) TextFault → List ℕ → Type 0
PutsWanted contents None None result text = result ≡ Ok tt
PutsWanted contents None (Some new) result text = ⊥
PutsWanted contents (Some old) None result text = ⊥
PutsWanted contents (Some old) (Some new) result text = Puts contents old new result text

abbrev pub Got : {W : Type 0} → (W → Option (List ℕ)) → Meter W → Meter W → Bool → List ℕ → Type 0
Got contents old new true text = WroteAll (contents old.inner) (contents new.inner) new.failed text
Got contents old new false text = WroteFront (contents old.inner) (contents new.inner) text

abbrev pub GotWanted : {F : Type 0} → (F → Option (List ℕ)) → Option (Meter F) → Option (Meter F) → Bool → List ℕ → Type 0
GotWanted contents None None whole text = Unit {0}
GotWanted contents None (Some new) whole text = ⊥
GotWanted contents (Some old) None whole text = ⊥
GotWanted contents (Some old) (Some new) whole text = Got contents old new whole text

-- the summary and, if requested, the record and the script that replays the run
pub record GotTexts {S F : Type 0} (summaries : S → Option (List ℕ)) (files : F → Option (List ℕ)) (old new : RunOutputs S F) (whole : Bool) (run : FinishedRun) : Type 0 where
  pub summary : Got summaries old.summary new.summary whole (summary_of run)
  pub lines : GotWanted files old.«record» new.«record» whole (record_text (record_of_accepted run.report.config (events_of run)))
  pub replay : GotWanted files old.replay new.replay whole (script_text run.report.config (events_of run))

abbrev pub HasFailed : {F : Type 0} → Option (Meter F) → Type 0
HasFailed None = ⊥
HasFailed (Some writer) = writer.failed ≡ true

abbrev pub FailsFor : TextFault → Type 0 → Type 0
FailsFor faults.Write failed = failed
FailsFor faults.Memory failed = Unit {0}
FailsFor _ failed = ⊥

abbrev pub FailsIn : {S F : Type 0} → RunOutputs S F → TextFault → Type 0
FailsIn outputs why = FailsFor why ((outputs.summary.failed ≡ true) ⊎ (HasFailed outputs.«record» ⊎ HasFailed outputs.replay))

pub record IsRunIn (input : Option (List ℕ)) (run : FinishedRun) : Type 0 where
  pub script : Script
  pub read : IsScriptIn input script
  pub config : run.report.config ≡ script.config
  pub ran : IsRunOf script run.report.reports
  pub finished : IsFinished run

-- why there is no run of the script
abbrev pub IsUnrun : Option (List ℕ) → Bool → TextFault → Type 0
IsUnrun input read_failed (faults.Live why) = DoesNotRun input why
IsUnrun input read_failed fault = IsOfScript input read_failed fault

-- a text of the run broke off
pub record StopsWriting {S F : Type 0} (input : Option (List ℕ)) (summaries : S → Option (List ℕ)) (files : F → Option (List ℕ)) (old new : RunOutputs S F) (fault : TextFault) : Type 0 where
  pub run : FinishedRun
  pub of : IsRunIn input run
  pub texts : GotTexts summaries files old new false run
  pub cause : FailsIn new fault

-- if there is no run, nothing was written
abbrev pub RunsGroup : {S F : Type 0} → Option (List ℕ) → Bool → (S → Option (List ℕ)) → (F → Option (List ℕ)) → RunOutputs S F → RunOutputs S F → Result FinishedRun TextFault → Type 0
RunsGroup input read_failed summaries files old new (Ok run) = IsRunIn input run × GotTexts summaries files old new true run
RunsGroup input read_failed summaries files old new (Err fault) =
    (IsUnrun input read_failed fault × (new ≡ old)) ⊎ StopsWriting input summaries files old new fault

-- whether a writer failed
abbrev pub is_of_output : Result FinishedRun TextFault → Bool
is_of_output (Err faults.Write) = true
is_of_output _ = false
