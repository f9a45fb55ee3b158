-- What the exports of texts say.
--     only_length, numbers_of_fault, status_of_fault    how a text ended, as numbers, and the status
--     RefusesAs script fault                   if it is a fault of scripts, it is the fault of this script
--     IsRefused script told                    the script is refused, and this says why
--     IsTextStatus status                      one of the statuses of these calls
--     IsText Writes status told old new        a text, its length, and the text in the buffer, if that has room
--     PutsText made status told old new        a text in the buffer, or why there is none
--     PutsMigrated text status count old new   the text with the new head in the buffer, or why there is none
use Rattle.std.specs.Prelude.{◌≡◌, ◌⊎◌, ℕ, ◌<◌, ◌≤◌, List, length, Result, Ok, Err}
use Rattle.std.specs.Global.{Vec}
use Rattle.cast_message.specs.Limits.{config_code}
use Rattle.cast_record.specs.Migration.{Migrates}
use Rattle.cast_record.specs.declared.migration.MigrateFault.{MigrateFault}
use Rattle.cast_record.specs.declared.migration.MigrateFault.TheVariants as migrations
use Rattle.cast_script.specs.Script.{Reads}
use Rattle.cast_script.specs.declared.script.ScriptFault.TheVariants as scripts
use Rattle.cast_text.specs.Text.{input_limit}
use Rattle.cast_text.specs.declared.fault.TextFault.{TextFault}
use Rattle.cast_text.specs.declared.fault.TextFault.TheVariants as faults
use Rattle.cast_c.specs.Steps.{Puts}
use Rattle.cast_c.specs.declared.numbers.TextNumbers.{TextNumbers}

abbrev pub only_length : ℕ → TextNumbers
only_length count = record { length = count; fault = 0; place = 0 }

abbrev pub of_fault : ℕ → ℕ → TextNumbers
of_fault fault place = record { length = 0; fault = fault; place = place }

abbrev pub numbers_of_fault : TextFault → TextNumbers
numbers_of_fault faults.TooLong = of_fault 1 0
numbers_of_fault (faults.Script scripts.NotJson) = of_fault 2 0
numbers_of_fault (faults.Script (scripts.Shape index)) = of_fault 3 index
numbers_of_fault (faults.Script (scripts.Config fault)) = of_fault 4 (config_code fault)
numbers_of_fault _ = of_fault 0 0

abbrev pub status_of_fault : TextFault → ℕ
status_of_fault faults.Memory = 5
status_of_fault faults.Write = 5
status_of_fault faults.TooLong = 2
status_of_fault (faults.Script fault) = 2
status_of_fault _ = 1

abbrev pub RefusesAs : List ℕ → TextFault → Type 0
RefusesAs script faults.TooLong = input_limit < length script
RefusesAs script (faults.Script fault) = (length script ≤ input_limit) × Reads (Err fault) script
RefusesAs script _ = Unit {0}

pub record IsRefused (script : List ℕ) (told : TextNumbers) : Type 0 where
  pub fault : TextFault
  pub numbers : told ≡ numbers_of_fault fault
  pub refused : status_of_fault fault ≡ 2
  pub cause : RefusesAs script fault

pub record IsText (Writes : List ℕ → Type 0) (status : ℕ) (told : TextNumbers) (old new : List ℕ)
    : Type 0 where
  pub text : List ℕ
  pub writes : Writes text
  pub told_length : told ≡ only_length (length text)
  pub puts : Puts text status old new

abbrev pub PutsText : Result (Vec ℕ) TextFault → ℕ → TextNumbers → List ℕ → List ℕ → Type 0
PutsText (Ok text) status told old new =
    Puts text.items status old new × (told ≡ only_length (length text.items))
PutsText (Err fault) status told old new =
    (status ≡ status_of_fault fault) × (told ≡ numbers_of_fault fault) × (new ≡ old)

-- 1 only if a slice refused to be read, which it never does
abbrev pub IsTextStatus : ℕ → Type 0
IsTextStatus status =
    (status ≡ 0) ⊎ (status ≡ 1) ⊎ (status ≡ 2) ⊎ (status ≡ 5) ⊎ (status ≡ 6)

abbrev pub PutsMade : Result (Vec ℕ) MigrateFault → ℕ → ℕ → List ℕ → List ℕ → Type 0
PutsMade (Ok text) status count old new = Puts text.items status old new × (count ≡ length text.items)
PutsMade (Err migrations.NotV1) status count old new = (status ≡ 2) × (new ≡ old)
PutsMade (Err migrations.Memory) status count old new = (status ≡ 5) × (new ≡ old)

pub record PutsMigrated (text : List ℕ) (status count : ℕ) (old new : List ℕ) : Type 0 where
  pub made : Result (Vec ℕ) MigrateFault
  pub migrates : Migrates text made
  pub puts : PutsMade made status count old new
