-- How bytes of an input are shown.
--     shown bytes     printing ASCII as it is, every other byte as \x and two digits
use Rattle.std.specs.Prelude.{ℕ, ◌/◌, ◌%◌, ◌&&◌, Bool, false, List, [], ◌∷◌, flat_map, nat_le, if◌then◌else◌}
use Rattle.std.specs.Fmt.{digit_glyph}

-- from the blank to the tilde
abbrev pub is_printing : ℕ → Bool
is_printing byte = nat_le 32 byte && nat_le byte 126

-- \x and two digits
abbrev pub by_number : ℕ → List ℕ
by_number byte = 92 ∷ 120 ∷ digit_glyph false (byte / 16) ∷ digit_glyph false (byte % 16) ∷ []

abbrev pub shown_byte : ℕ → List ℕ
shown_byte byte = if is_printing byte then byte ∷ [] else by_number byte

abbrev pub shown : List ℕ → List ℕ
shown bytes = flat_map shown_byte bytes
