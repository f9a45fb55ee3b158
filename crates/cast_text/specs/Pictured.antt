-- The picture of a script: that of what is taken as it is played.
--     sheet_of_script script window    what the whole shows
use Rattle.std.specs.Prelude.{◌≡◌, List, [], ◌∷◌, Result, Ok, Err}
use Rattle.cast_draw.specs.declared.picture.Picture.{Picture}
use Rattle.cast_draw.specs.declared.window.Window.{Window}
use Rattle.cast_draw.specs.Sheet.{Sheet, blank, sheet_of}
use Rattle.cast_draw.specs.Drawn.{drawn_after, settle_begun, settle_ended}
use Rattle.cast_script.specs.declared.script.Script.{Script}
use Rattle.cast_text.specs.declared.fault.TextFault.{TextFault}
use Rattle.cast_text.specs.declared.fault.TextFault.TheVariants as faults
use Rattle.cast_text.specs.Played.{Played, Taken, SettleBegun, SettleEnded, played}

abbrev pub drawn_at : Sheet → Played → Sheet
drawn_at sheet (Taken index event reply) = drawn_after sheet index event reply
drawn_at sheet SettleBegun = settle_begun sheet
drawn_at sheet (SettleEnded index) = settle_ended sheet index

unfoldable pub drawn : Sheet → List Played → Sheet
drawn sheet [] = sheet
drawn sheet (one ∷ rest) = drawn (drawn_at sheet one) rest

abbrev pub sheet_of_script : Script → Window → Sheet
sheet_of_script script window = drawn (blank script.config window) (played script)

-- The picture shows this too, or there was no memory.
abbrev pub Shows : Picture → Picture → Result (Unit {0}) TextFault → List Played → Type 0
Shows old new (Ok done) more = sheet_of new ≡ drawn (sheet_of old) more
Shows old new (Err fault) more = fault ≡ faults.Memory
