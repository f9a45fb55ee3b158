-- What was migrated is what was read.
use Rattle.std.proofs.Common.{◌≡◌, ◌≤◌, ℕ, List, length, Bool, Option, Some, None, IfSome, subst}
use Rattle.cast_record.specs.Migration.{IsMigrated}
use Rattle.cast_record.specs.Written.{WrotePrefix}
use Rattle.cast_text.specs.Migrating.{IsInputMigrated, MigratedBreaksOff}
use Rattle.cast_text.specs.Text.{input_limit}

pub input_migrated : (input : Option (List ℕ)) (bytes migrated : List ℕ) → IfSome input (λ whole. bytes ≡ whole) → length bytes ≤ input_limit → IsMigrated bytes migrated → IsInputMigrated input migrated
input_migrated None bytes migrated same short h = tt
input_migrated (Some whole) bytes migrated same short h = subst (λ b. (length b ≤ input_limit) × IsMigrated b migrated) same (short, h)

pub migrated_breaks : (input old new : Option (List ℕ)) (failed : Bool) (migrated : List ℕ) → IsInputMigrated input migrated → WrotePrefix old new failed migrated → MigratedBreaksOff input old new failed
migrated_breaks input old new failed migrated read wrote = record {
  migrated = migrated;
  read = read;
  broken = wrote.broken;
  front = record { front = wrote.front; rest = wrote.rest; parts = wrote.parts; appends = wrote.appends };
}
