-- From the bytes of a script to those of its record.
use Rattle.std.proofs.Common.{◌≡◌, ◌<◌, ℕ, List, length, Bool, Option, Some, None, Result, Ok, Err, IfErr, IfSome, inr}
use Rattle.cast_record.specs.declared.verdict.Verdict.TheVariants.{Good}
use Rattle.cast_record.specs.Text.{record_text}
use Rattle.cast_record.specs.Verdicts.{verdict}
use Rattle.cast_script.specs.declared.script.Script.{Script}
use Rattle.cast_script.proofs.ScriptLemmas.{value_takes_bytes}
use Rattle.cast_text.specs.declared.fault.TextFault.{TextFault}
use Rattle.cast_text.specs.declared.fault.TextFault.TheVariants as faults
use Rattle.cast_text.specs.Recorded.{record_of}
use Rattle.cast_text.specs.Text.{IsScriptIn, Records, StopsBeforeEnd, Writes}

-- and so it is not empty
pub script_takes_bytes : (input : Option (List ℕ)) (script : Script) → IsScriptIn input script → IfSome input (λ bytes. 0 < length bytes)
script_takes_bytes None script is = tt
script_takes_bytes (Some bytes) script is = value_takes_bytes bytes is.1.0 is.1.1

pub text_recorded : (input old new : Option (List ℕ)) (read_failed failed : Bool) (script : Script) (result : Result (Unit {0}) TextFault) → IsScriptIn input script → verdict (record_text (record_of script)) ≡ Good → Writes old new failed result (record_text (record_of script))
    → IfErr result (λ fault. StopsBeforeEnd fault old new script) → Records input read_failed old new failed result
text_recorded input old new read_failed failed script (Ok done) read good wrote before_end = record { script = script; read = read; good = good; appends = wrote.appends }
text_recorded input old new read_failed failed script (Err faults.Write) read good breaks before_end = record { script = script; read = read; breaks = breaks; before_end = before_end }
text_recorded input old new read_failed failed script (Err faults.Memory) read good breaks before_end = inr (record { script = script; read = read; breaks = breaks; before_end = before_end })
text_recorded input old new read_failed failed script (Err faults.Read) read good breaks before_end = absurd breaks
text_recorded input old new read_failed failed script (Err faults.TooLong) read good breaks before_end = absurd breaks
text_recorded input old new read_failed failed script (Err (faults.Script why)) read good breaks before_end = absurd breaks
text_recorded input old new read_failed failed script (Err faults.NotV1) read good breaks before_end = absurd breaks
text_recorded input old new read_failed failed script (Err (faults.Live why)) read good breaks before_end = absurd breaks
