-- The bytes of a record, and those of its verdict.
use Rattle.std.specs.Prelude.{◌≡◌, ℕ, ◌≤◌, ◌++◌, [], ◌∷◌, List, length, Bool, true, Option, IfSome, Result, Ok, Err}
use Rattle.std.specs.Io.KnownBytes.{Appends, Keeps}
use Rattle.cast_record.specs.declared.verdict.Verdict.{Verdict}
use Rattle.cast_record.specs.VerdictText.{verdict_text}
use Rattle.cast_record.specs.Verdicts.{verdict}
use Rattle.cast_text.specs.declared.fault.TextFault.{TextFault}
use Rattle.cast_text.specs.declared.fault.TextFault.TheVariants as faults
use Rattle.cast_text.specs.Text.{input_limit, IsOfInput, WroteFront}

-- the verdict is that on the bytes, if they are known
abbrev pub JudgesInput : Option (List ℕ) → Verdict → Type 0
JudgesInput input said = IfSome input (λ bytes. (length bytes ≤ input_limit) × (said ≡ verdict bytes))

-- the writer has the line of the verdict on what was read, and nothing else
pub record SaysVerdict (input old new : Option (List ℕ)) (said : Verdict) : Type 0 where
  pub read : JudgesInput input said
  pub appends : Appends old new (verdict_text said ++ 10 ∷ [])

-- the line of the verdict on what was read broke off
pub record VerdictBreaksOff (input old new : Option (List ℕ)) (failed : Bool) : Type 0 where
  pub said : Verdict
  pub read : JudgesInput input said
  pub broken : failed ≡ true
  pub front : WroteFront old new (verdict_text said ++ 10 ∷ [])

-- The line was written, or a fault has its cause. After a fault nothing was written, unless the line broke off.
abbrev pub Judges : Option (List ℕ) → Bool → Option (List ℕ) → Option (List ℕ) → Bool
    → Result Verdict TextFault → Type 0
Judges input read_failed old new failed (Ok said) = SaysVerdict input old new said
Judges input read_failed old new failed (Err faults.Write) = VerdictBreaksOff input old new failed
Judges input read_failed old new failed (Err fault) = IsOfInput input read_failed fault × Keeps old new
