-- The bytes of a record, and the same with the new head.
use Rattle.std.specs.Prelude.{◌≡◌, ◌≤◌, List, ℕ, length, Bool, true, Option, IfSome, Result, Ok, Err}
use Rattle.std.specs.Io.KnownBytes.{Appends, Keeps}
use Rattle.cast_record.specs.Migration.{IsMigrated, HasNoHead}
use Rattle.cast_text.specs.declared.fault.TextFault.{TextFault}
use Rattle.cast_text.specs.declared.fault.TextFault.TheVariants as faults
use Rattle.cast_text.specs.Text.{input_limit, IsOfInput, WroteFront}

-- these are the bytes with their head changed, if they are known
abbrev pub IsInputMigrated : Option (List ℕ) → List ℕ → Type 0
IsInputMigrated input migrated =
    IfSome input (λ bytes. (length bytes ≤ input_limit) × IsMigrated bytes migrated)

-- the writer has the bytes that were read with their head changed, and nothing else
pub record WritesMigrated (input old new : Option (List ℕ)) : Type 0 where
  pub migrated : List ℕ
  pub read : IsInputMigrated input migrated
  pub appends : Appends old new migrated

-- the writing broke off
pub record MigratedBreaksOff (input old new : Option (List ℕ)) (failed : Bool) : Type 0 where
  pub migrated : List ℕ
  pub read : IsInputMigrated input migrated
  pub broken : failed ≡ true
  pub front : WroteFront old new migrated

-- The text was written, or a fault has its cause. After a fault nothing was written, unless the writing broke off.
abbrev pub Migrates : Option (List ℕ) → Bool → Option (List ℕ) → Option (List ℕ) → Bool
    → Result (Unit {0}) TextFault → Type 0
Migrates input read_failed old new failed (Ok done) = WritesMigrated input old new
Migrates input read_failed old new failed (Err faults.NotV1) =
    IfSome input (λ bytes. (length bytes ≤ input_limit) × HasNoHead bytes) × Keeps old new
Migrates input read_failed old new failed (Err faults.Write) = MigratedBreaksOff input old new failed
Migrates input read_failed old new failed (Err fault) = IsOfInput input read_failed fault × Keeps old new
