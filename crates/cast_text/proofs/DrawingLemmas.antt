-- What was drawn is written.
use Rattle.std.proofs.Common.{◌≡◌, ℕ, List, Bool, Option, Some, None, Err, refl}
use Rattle.cast_record.specs.Written.{WroteAll, WrotePrefix}
use Rattle.cast_draw.specs.declared.picture.Picture.{Picture}
use Rattle.cast_draw.specs.declared.window.Window.{Window}
use Rattle.cast_draw.specs.Sheet.{sheet_of}
use Rattle.cast_script.specs.declared.script.Script.{Script}
use Rattle.cast_text.specs.declared.fault.TextFault.TheVariants.{Memory}
use Rattle.cast_text.specs.Drawing.{Draws, WritesDrawing, DrawingBreaksOff}
use Rattle.cast_text.specs.Pictured.{sheet_of_script}
use Rattle.cast_text.specs.Text.{IsScriptIn}
use Rattle.cast_text.proofs.Whole.{script_takes_bytes}

pub drawing_done : (window : Window) (input old new : Option (List ℕ)) (failed : Bool) (script : Script) (picture : Picture) (text : List ℕ) → IsScriptIn input script → sheet_of picture ≡ sheet_of_script script window
    → WroteAll old new failed text → WritesDrawing window input old new
drawing_done window input old new failed script picture text read is wrote =
    record { script = script; read = read; picture = picture; marks = is; text = text; appends = wrote.appends }

pub drawing_breaks : (window : Window) (input old new : Option (List ℕ)) (failed : Bool) (script : Script) (picture : Picture) (text : List ℕ) → IsScriptIn input script → sheet_of picture ≡ sheet_of_script script window
    → WrotePrefix old new failed text → DrawingBreaksOff window input old new failed
drawing_breaks window input old new failed script picture text read is wrote =
    record {
      script = script;
      read = read;
      picture = picture;
      marks = is;
      broken = wrote.broken;
      text = text;
      front = record { front = wrote.front; rest = wrote.rest; parts = wrote.parts; appends = wrote.appends };
    }

-- where memory is wanted for the picture of the script that was read, nothing was written
pub drawing_refused : (window : Window) (input old : Option (List ℕ)) (read_failed failed : Bool) (script : Script) → IsScriptIn input script → Draws window input read_failed old old failed (Err Memory)
drawing_refused window input None read_failed failed script read = (script_takes_bytes input script read, tt)
drawing_refused window input (Some known) read_failed failed script read = (script_takes_bytes input script read, refl)
