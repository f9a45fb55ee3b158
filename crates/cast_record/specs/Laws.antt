-- What is proved about the definitions themselves.
use Rattle.std.specs.Prelude.{◌≡◌}
use Rattle.cast_record.specs.declared.line.Line.{Line}
use Rattle.cast_record.specs.Ranges.{IsWithin}
use Rattle.cast_record.specs.Text.{line_text}

-- no two lines within their ranges have the same text
abbrev pub HaveTextsOfTheirOwn : Type 0
HaveTextsOfTheirOwn = (a b : Line) → IsWithin a → IsWithin b → line_text a ≡ line_text b → a ≡ b
