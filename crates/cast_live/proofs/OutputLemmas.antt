-- What the writers of a run's texts have got, by what each call left in its own.
use Rattle.std.proofs.Common.{◌≡◌, ℕ, List, [], ◌⊎◌, inl, inr, Bool, true, false, Option, Some, None, Result, Ok, Err, IfErr, IsOk, OnOk, OnErr, sym, subst, append-nil}
use Rattle.cast_record.specs.Text.{record_text}
use Rattle.cast_record.specs.declared.meter.Meter.{Meter}
use Rattle.cast_script.specs.Replay.{script_text}
use Rattle.cast_script.specs.declared.script.Script.{Script}
use Rattle.cast_text.specs.declared.fault.TextFault.{TextFault}
use Rattle.cast_text.specs.declared.fault.TextFault.TheVariants as faults
use Rattle.cast_text.specs.Text.{BreaksOff, IsScriptIn, Puts}
use Rattle.cast_text.proofs.Recording.{front_of}
use Rattle.cast_text.proofs.Whole.{script_takes_bytes}
use Rattle.cast_live.specs.declared.live.FinishedRun.{FinishedRun}
use Rattle.cast_live.specs.declared.outputs.RunOutputs.{RunOutputs}
use Rattle.cast_live.specs.Live.{IsFinished, IsRunOf, IsOfRunning, events_of, summary_of}
use Rattle.cast_live.specs.Outputs.{PutsWanted, Got, GotWanted, GotTexts, HasFailed, FailsFor, FailsIn, IsUnrun, IsRunIn}
use Rattle.cast_live.specs.Replayed.{record_of_accepted}

module _ {W : Type 0} (contents : W → Option (List ℕ)) where
  whole : (old new : Meter W) (r : Result (Unit {0}) TextFault) (text : List ℕ) → Puts contents old new r text → IsOk r → Got contents old new true text
  whole old new (Ok done) text puts is = puts
  whole old new (Err why) text puts is = absurd cc

  front : (old new : Meter W) (r : Result (Unit {0}) TextFault) (text : List ℕ) → Puts contents old new r text → Got contents old new false text
  front old new (Ok done) text puts = record { front = text; rest = []; parts = sym (append-nil text); appends = puts.appends }
  front old new (Err why) text puts = front_of why _ _ _ text puts

  fails : (old new : Meter W) (why : TextFault) (text : List ℕ) → Puts contents old new (Err why) text → FailsFor why (new.failed ≡ true)
  fails old new faults.Write text breaks = breaks.0
  fails old new faults.Memory text breaks = tt
  fails old new faults.Read text breaks = absurd breaks
  fails old new faults.TooLong text breaks = absurd breaks
  fails old new (faults.Script cause) text breaks = absurd breaks
  fails old new faults.NotV1 text breaks = absurd breaks
  fails old new (faults.Live cause) text breaks = absurd breaks

  whole_wanted : (old new : Option (Meter W)) (r : Result (Unit {0}) TextFault) (text : List ℕ) → PutsWanted contents old new r text → IsOk r → GotWanted contents old new true text
  whole_wanted None None r text puts is = tt
  whole_wanted None (Some new) r text puts is = absurd puts
  whole_wanted (Some old) None r text puts is = absurd puts
  whole_wanted (Some old) (Some new) r text puts is = whole old new r text puts is

  front_wanted : (old new : Option (Meter W)) (r : Result (Unit {0}) TextFault) (text : List ℕ) → PutsWanted contents old new r text → GotWanted contents old new false text
  front_wanted None None r text puts = tt
  front_wanted None (Some new) r text puts = absurd puts
  front_wanted (Some old) None r text puts = absurd puts
  front_wanted (Some old) (Some new) r text puts = front old new r text puts

  wanted_fails : (old new : Option (Meter W)) (why : TextFault) (text : List ℕ) → PutsWanted contents old new (Err why) text → FailsFor why (HasFailed new)
  wanted_fails None None why text puts = absurd cc
  wanted_fails None (Some new) why text puts = absurd puts
  wanted_fails (Some old) None why text puts = absurd puts
  wanted_fails (Some old) (Some new) why text puts = fails old new why text puts

-- one of several failed
among : {P Q : Type 0} (why : TextFault) → (P → Q) → FailsFor why P → FailsFor why Q
among faults.Write into failed = into failed
among faults.Memory into failed = tt
among faults.Read into failed = absurd failed
among faults.TooLong into failed = absurd failed
among (faults.Script cause) into failed = absurd failed
among faults.NotV1 into failed = absurd failed
among (faults.Live cause) into failed = absurd failed

on_ok : {P : Type 0} (m : Result (Unit {0}) TextFault) → OnOk m P → IsOk m → P
on_ok (Ok done) p is = p
on_ok (Err why) p is = absurd cc

module _ {S F : Type 0} (summaries : S → Option (List ℕ)) (files : F → Option (List ℕ)) (old new : RunOutputs S F) (run : FinishedRun) (first second third : Result (Unit {0}) TextFault)
    (lines : PutsWanted files old.«record» new.«record» first (record_text (record_of_accepted run.report.config (events_of run))))
    (replay : PutsWanted files old.replay new.replay second (script_text run.report.config (events_of run)))
    (summary : Puts summaries old.summary new.summary third (summary_of run)) where
  pub all_whole : (m n : Result (Unit {0}) TextFault) → OnOk m (IsOk second × IsOk third) → OnOk n (IsOk first × IsOk m) → OnOk n (GotTexts summaries files old new true run)
  all_whole m (Err why) later all = tt
  all_whole m (Ok done) later all =
      let rest = on_ok m later all.1 in
      record { summary = whole summaries old.summary new.summary third (summary_of run) summary rest.1; lines = whole_wanted files old.«record» new.«record» first _ lines all.0; replay = whole_wanted files old.replay new.replay second _ replay rest.0 }

  pub second_of : (P : Type 0) (m n : Result (Unit {0}) TextFault) → OnOk m (IsOk second × IsOk third) → OnOk n (IsOk first × IsOk m) → OnOk second P → OnOk n P
  second_of P m (Err why) later all p = tt
  second_of P m (Ok done) later all p = on_ok second p (on_ok m later all.1).0

  got_fronts : GotTexts summaries files old new false run
  got_fronts = record { summary = front summaries old.summary new.summary third (summary_of run) summary; lines = front_wanted files old.«record» new.«record» first _ lines; replay = front_wanted files old.replay new.replay second _ replay }

  pub all_front : (n : Result (Unit {0}) TextFault) → OnErr n (GotTexts summaries files old new false run)
  all_front (Ok done) = tt
  all_front (Err why) = got_fronts

  abbrev later_fails : (why : TextFault) → ((second ≡ Err why) ⊎ (third ≡ Err why)) → FailsIn new why
  later_fails why (inl is) = among why (λ failed. inr (inr failed)) (wanted_fails files old.replay new.replay why _ (subst (λ r. PutsWanted files old.replay new.replay r (script_text run.report.config (events_of run))) is replay))
  later_fails why (inr is) = among why inl (fails summaries old.summary new.summary why (summary_of run) (subst (λ r. Puts summaries old.summary new.summary r (summary_of run)) is summary))

  pub all_fault : (m n : Result (Unit {0}) TextFault) → IfErr m (λ fault. (second ≡ Err fault) ⊎ (third ≡ Err fault)) → IfErr n (λ fault. (first ≡ Err fault) ⊎ (m ≡ Err fault)) → IfErr n (FailsIn new)
  all_fault m (Ok done) later all = tt
  all_fault m (Err why) later (inl is) = among why (λ failed. inr (inl failed)) (wanted_fails files old.«record» new.«record» why _ (subst (λ r. PutsWanted files old.«record» new.«record» r (record_text (record_of_accepted run.report.config (events_of run)))) is lines))
  all_fault m (Err why) later (inr is) = later_fails why (subst (λ r. IfErr r (λ fault. (second ≡ Err fault) ⊎ (third ≡ Err fault))) is later)

-- ---- there is no run of the script

pub unrun : (input : Option (List ℕ)) (read_failed : Bool) (script : Script) (why : TextFault) → IsScriptIn input script → IsOfRunning script why → IsUnrun input read_failed why
unrun input read_failed script (faults.Live cause) read is = record { script = script; read = read; cause = is }
unrun input read_failed script faults.Memory read is = script_takes_bytes input script read
unrun input read_failed script faults.Read read is = absurd is
unrun input read_failed script faults.TooLong read is = absurd is
unrun input read_failed script (faults.Script cause) read is = absurd is
unrun input read_failed script faults.Write read is = absurd is
unrun input read_failed script faults.NotV1 read is = absurd is

-- ---- there is one

pub is_run : (input : Option (List ℕ)) (script : Script) (run : FinishedRun) → IsScriptIn input script → run.report.config ≡ script.config → IsRunOf script run.report.reports → IsFinished run → IsRunIn input run
is_run input script run read same ran finished = record { script = script; read = read; config = same; ran = ran; finished = finished }
