-- The picture of a script's run. `sheet_of_script` says which marks it has. How these are written has no contract.
use Rattle.std.specs.Prelude.{◌≡◌, List, ℕ, Bool, true, Option, Result, Ok, Err}
use Rattle.std.specs.Io.KnownBytes.{Appends, Keeps}
use Rattle.cast_draw.specs.declared.picture.Picture.{Picture}
use Rattle.cast_draw.specs.declared.window.Window.{Window}
use Rattle.cast_draw.specs.Sheet.{sheet_of}
use Rattle.cast_script.specs.declared.script.Script.{Script}
use Rattle.cast_text.specs.declared.fault.TextFault.{TextFault}
use Rattle.cast_text.specs.declared.fault.TextFault.TheVariants as faults
use Rattle.cast_text.specs.Pictured.{sheet_of_script}
use Rattle.cast_text.specs.Text.{IsOfScript, IsScriptIn, WroteFront}

-- the writer has the text of a picture with the marks of the script that was read, and nothing else
pub record WritesDrawing (window : Window) (input old new : Option (List ℕ)) : Type 0 where
  pub script : Script
  pub read : IsScriptIn input script
  pub picture : Picture
  pub marks : sheet_of picture ≡ sheet_of_script script window
  pub text : List ℕ
  pub appends : Appends old new text

-- such a text broke off
pub record DrawingBreaksOff (window : Window) (input old new : Option (List ℕ)) (failed : Bool) : Type 0 where
  pub script : Script
  pub read : IsScriptIn input script
  pub picture : Picture
  pub marks : sheet_of picture ≡ sheet_of_script script window
  pub broken : failed ≡ true
  pub text : List ℕ
  pub front : WroteFront old new text

-- The picture was written, or a fault has its cause. Then nothing was written, unless the writing broke off.
abbrev pub Draws : Window → Option (List ℕ) → Bool → Option (List ℕ) → Option (List ℕ) → Bool
    → Result (Unit {0}) TextFault → Type 0
Draws window input read_failed old new failed (Ok done) = WritesDrawing window input old new
Draws window input read_failed old new failed (Err faults.Write) = DrawingBreaksOff window input old new failed
Draws window input read_failed old new failed (Err fault) = IsOfScript input read_failed fault × Keeps old new
