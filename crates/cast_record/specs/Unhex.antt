-- The bytes that digits spell, two digits a byte.
--     unhex digits             the bytes, if the digits spell some
--     AreDigitsOf bytes digits the digits are those of the bytes; or there are none, and the digits spell no bytes
use Rattle.std.specs.Prelude.{◌≡◌, ◌≢◌, ℕ, ◌+◌, ◌-◌, ◌*◌, ◌&&◌, List, [], ◌∷◌, nat_le, if◌then◌else◌, Option, Some, None, option_map}
use Rattle.cast_record.specs.Hex.{AreBytes, hex}

abbrev pub digit_of : ℕ → Option ℕ
digit_of c = if nat_le 48 c && nat_le c 57 then Some (c - 48) else (if nat_le 97 c && nat_le c 102 then Some (c - 97 + 10) else None)

abbrev pub byte_of : Option ℕ → Option ℕ → Option ℕ
byte_of None low = None
byte_of (Some high) None = None
byte_of (Some high) (Some low) = Some (16 * high + low)

-- the byte, if there is one, before the others, if there are any
abbrev pub before : Option ℕ → Option (List ℕ) → Option (List ℕ)
before None others = None
before (Some byte) others = option_map (λ bytes. byte ∷ bytes) others

abbrev pub unhex : List ℕ → Option (List ℕ)
unhex [] = Some []
unhex (h ∷ []) = None
unhex (h ∷ l ∷ rest) = before (byte_of (digit_of h) (digit_of l)) (unhex rest)

-- the text of bytes is read back as those bytes, and nothing else is read as bytes
abbrev pub AreDigitsOf : Option (List ℕ) → List ℕ → Type 0
AreDigitsOf None digits = (bytes : List ℕ) → AreBytes bytes → digits ≢ hex bytes
AreDigitsOf (Some bytes) digits = digits ≡ hex bytes
