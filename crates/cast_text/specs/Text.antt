-- The bytes of a script, and those of its record.
use Rattle.std.specs.Prelude.{◌≡◌, ℕ, ◌+◌, ◌<◌, ◌≤◌, ◌++◌, ◌⊎◌, List, length, Bool, true, false, Option, Result, Ok, Err, IfSome}
use Rattle.std.specs.Io.KnownBytes.{Appends, Consumes, Keeps}
use Rattle.cast_record.specs.declared.verdict.Verdict.TheVariants.{Good}
use Rattle.cast_record.specs.Text.{record_text}
use Rattle.cast_record.specs.Verdicts.{verdict}
use Rattle.cast_message.specs.declared.live_fault.LiveFault.{LiveFault}
use Rattle.cast_message.specs.declared.live_fault.LiveFault.TheVariants as lives
use Rattle.cast_script.specs.declared.script.ScriptFault.TheVariants as scripts
use Rattle.cast_script.specs.declared.script.Script.{Script}
use Rattle.cast_script.specs.Script.{Reads}
use Rattle.cast_record.specs.Written.{WroteAll}
use Rattle.cast_record.specs.declared.meter.Meter.{Meter}
use Rattle.cast_text.specs.declared.fault.TextFault.{TextFault}
use Rattle.cast_text.specs.declared.fault.TextFault.TheVariants as faults
use Rattle.cast_text.specs.Recorded.{record_of, unended_of}

-- the most bytes of an input
abbrev pub input_limit : ℕ
input_limit = 67108864

-- for a group that is not run, out of memory is reported as `Memory`
abbrev pub fault_of_live : LiveFault → TextFault
fault_of_live lives.Memory = faults.Memory
fault_of_live why = faults.Live why

-- the known bytes grew by a prefix of the text
pub record WroteFront (old new : Option (List ℕ)) (text : List ℕ) : Type 0 where
  pub front : List ℕ
  pub rest : List ℕ
  pub parts : text ≡ front ++ rest
  pub appends : Appends old new front

-- A text broke off: the writer failed, or memory ran out and the writer did not fail.
abbrev pub BreaksOff : TextFault → Option (List ℕ) → Option (List ℕ) → Bool → List ℕ → Type 0
BreaksOff faults.Write old new failed text = (failed ≡ true) × WroteFront old new text
BreaksOff faults.Memory old new failed text = (failed ≡ false) × WroteFront old new text
BreaksOff _ old new failed text = ⊥

-- a text was written, or broke off
abbrev pub Writes : Option (List ℕ) → Option (List ℕ) → Bool → Result (Unit {0}) TextFault → List ℕ → Type 0
Writes old new failed (Ok done) text = WroteAll old new failed text
Writes old new failed (Err broken) text = BreaksOff broken old new failed text

-- the same for a meter before and after a call, given what its writer contains
abbrev pub Puts : {W : Type 0} → (W → Option (List ℕ)) → Meter W → Meter W → Result (Unit {0}) TextFault
    → List ℕ → Type 0
Puts contents old new result text = Writes (contents old.inner) (contents new.inner) new.failed result text

-- the script is what the bytes say, if they are known
abbrev pub IsScriptIn : Option (List ℕ) → Script → Type 0
IsScriptIn input script = IfSome input (λ bytes. (length bytes ≤ input_limit) × Reads (Ok script) bytes)

-- the writer has the record of the script that was read, and nothing else, and that record is good
pub record WritesRecord (input old new : Option (List ℕ)) : Type 0 where
  pub script : Script
  pub read : IsScriptIn input script
  pub good : verdict (record_text (record_of script)) ≡ Good
  pub appends : Appends old new (record_text (record_of script))

-- if memory ran out, the last line of the record was not begun
abbrev pub StopsBeforeEnd : TextFault → Option (List ℕ) → Option (List ℕ) → Script → Type 0
StopsBeforeEnd broken old new script =
    broken ≡ faults.Memory → WroteFront old new (record_text (unended_of script))

-- the record of the script that was read broke off
pub record RecordBreaksOff (broken : TextFault) (input old new : Option (List ℕ)) (failed : Bool) : Type 0 where
  pub script : Script
  pub read : IsScriptIn input script
  pub breaks : BreaksOff broken old new failed (record_text (record_of script))
  pub before_end : StopsBeforeEnd broken old new script

-- the faults of reading an input, each with its cause; an empty input never runs out of memory
abbrev pub IsOfInput : Option (List ℕ) → Bool → TextFault → Type 0
IsOfInput input read_failed faults.Read = read_failed ≡ true
IsOfInput input read_failed faults.TooLong = IfSome input (λ bytes. input_limit < length bytes)
IsOfInput input read_failed faults.Memory = IfSome input (λ bytes. 0 < length bytes)
IsOfInput input read_failed fault = ⊥

-- the same for reading a script
abbrev pub IsOfScript : Option (List ℕ) → Bool → TextFault → Type 0
IsOfScript input read_failed (faults.Script fault) =
    IfSome input (λ bytes. (length bytes ≤ input_limit) × Reads (Err fault) bytes)
IsOfScript input read_failed fault = IsOfInput input read_failed fault

-- the same for a text whose script was read, which may run out of memory later, or break off
abbrev pub IsOfText : Option (List ℕ) → Bool → TextFault → Type 0
IsOfText input read_failed faults.Memory = Unit {0}
IsOfText input read_failed faults.Write = Unit {0}
IsOfText input read_failed fault = IsOfScript input read_failed fault

-- The record was written, or a fault has its cause. After a fault nothing was written, unless the record broke off.
abbrev pub Records : Option (List ℕ) → Bool → Option (List ℕ) → Option (List ℕ) → Bool
    → Result (Unit {0}) TextFault → Type 0
Records input read_failed old new failed (Ok done) = WritesRecord input old new
Records input read_failed old new failed (Err faults.Write) = RecordBreaksOff faults.Write input old new failed
Records input read_failed old new failed (Err faults.Memory) =
    (IsOfScript input read_failed faults.Memory × Keeps old new)
    ⊎ RecordBreaksOff faults.Memory input old new failed
Records input read_failed old new failed (Err fault) = IsOfScript input read_failed fault × Keeps old new

-- A fault names the stream that failed, and no other stream failed. Out of memory is `Memory` alone.
abbrev pub Tells : {T : Type 0} → Result T TextFault → Bool → Bool → Type 0
Tells (Ok done) read_failed write_failed = (read_failed ≡ false) × (write_failed ≡ false)
Tells (Err faults.Read) read_failed write_failed = (read_failed ≡ true) × (write_failed ≡ false)
Tells (Err faults.Write) read_failed write_failed = (read_failed ≡ false) × (write_failed ≡ true)
Tells (Err (faults.Script scripts.Memory)) read_failed write_failed = ⊥
Tells (Err (faults.Live lives.Memory)) read_failed write_failed = ⊥
Tells (Err fault) read_failed write_failed = (read_failed ≡ false) × (write_failed ≡ false)

-- no more of the reader's bytes were taken than show that there are too many
abbrev pub TakesInput : Option (List ℕ) → Option (List ℕ) → Type 0
TakesInput old new = (bytes : List ℕ) × Consumes old new bytes × (length bytes ≤ input_limit + 1)

-- both, for a call that also has a writer
abbrev pub UsesStreams : {R T : Type 0} → (R → Option (List ℕ)) → Meter R → Meter R → Bool
    → Result T TextFault → Type 0
UsesStreams remaining old new write_failed result =
    Tells result new.failed write_failed × TakesInput (remaining old.inner) (remaining new.inner)
