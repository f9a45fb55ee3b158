-- The word of a mode, and the mode that a word names.
use Rattle.std.specs.Prelude.{ℕ, List, Option, Some, None, codes, if◌then◌else◌}
use Rattle.std.specs.Str.{bytes_eq}
use Rattle.cast_message.specs.declared.config.Mode.{Mode}
use Rattle.cast_message.specs.declared.config.Mode.TheVariants.{Basic, Uniform}

abbrev pub mode_word : Mode → List ℕ
mode_word Basic = codes "basic"
mode_word Uniform = codes "uniform"

abbrev pub mode_named : List ℕ → Option Mode
mode_named word =
    if bytes_eq word (codes "basic") then Some Basic
    else (if bytes_eq word (codes "uniform") then Some Uniform else None)
