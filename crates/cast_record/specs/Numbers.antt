-- The number that a word spells: decimal, without a leading zero, below 2^64.
--     number_of word       the number, if it spells one
--     IsWordOf number word  the word is the digits of the number; or there is none, and the word spells no number
use Rattle.std.specs.Prelude.{◌≡◌, ◌≢◌, ℕ, ◌+◌, ◌-◌, ◌*◌, ◌^◌, ◌<◌, ◌&&◌, ◌==◌, List, [], ◌∷◌, nat_lt, if◌then◌else◌, Option, Some, None, decimal}
use Rattle.std.specs.Str.{all_ascii_digits}

-- the digits, read on after the number n
abbrev pub read_on : ℕ → List ℕ → ℕ
read_on n [] = n
read_on n (c ∷ cs) = read_on (10 * n + (c - 48)) cs

abbrev pub value_of : List ℕ → Option ℕ
value_of w = if all_ascii_digits w && nat_lt (read_on 0 w) (2 ^ 64) then Some (read_on 0 w) else None

-- no zero comes before another digit
abbrev pub number_of : List ℕ → Option ℕ
number_of [] = None
number_of (c ∷ []) = value_of (c ∷ [])
number_of (c ∷ d ∷ ds) = if c == 48 then None else value_of (c ∷ d ∷ ds)

-- the text of a number is read back as that number, and nothing else is read as one
abbrev pub IsWordOf : Option ℕ → List ℕ → Type 0
IsWordOf None word = (n : ℕ) → n < 2 ^ 64 → word ≢ decimal n
IsWordOf (Some n) word = word ≡ decimal n
