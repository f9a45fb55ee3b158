-- Digits are read again as the bytes that they stand for.
use Rattle.std.proofs.Common.{◌≡◌, ◌≢◌, ℕ, ◌+◌, ◌*◌, ◌/◌, ◌%◌, ◌<◌, ◌≤◌, List, [], ◌∷◌, ◌++◌, length, get_or, take, drop, slice_set, length-set, cond, nat_lt, lt-ltb, le-ltb, max, Option, Some, None, option_map, unwrap_or, append_assoc, append-nil, inl, inr, ◌⊎◌, ap, sym, ◌∙◌, refl, arith, subst}
use Rattle.std.proofs.lemmas.Bool.{cases_lt}
use Rattle.std.proofs.lemmas.Bool.Decides.{nat_tests}
use Rattle.std.proofs.lemmas.List.{take_all, take_more_set, drop_all, drop_more}
use Rattle.cast_record.specs.Hex.{AreBytes, hex, hex_digit}
use Rattle.cast_record.specs.Unhex.{digit_of, byte_of, before, unhex, AreDigitsOf}

append_before : (bytes : List ℕ) (byte : ℕ) (others : Option (List ℕ)) → option_map (λ more. (bytes ++ byte ∷ []) ++ more) others ≡ option_map (λ more. bytes ++ more) (before (Some byte) others)
append_before bytes byte None = refl
append_before bytes byte (Some more) = ap Some (append_assoc bytes (byte ∷ []) more)

at_cells : (bytes : List ℕ) (x y byte : ℕ) (rest : List ℕ) → byte_of (digit_of x) (digit_of y) ≡ Some byte
    → option_map (λ more. (bytes ++ byte ∷ []) ++ more) (unhex rest) ≡ option_map (λ more. bytes ++ more) (unhex (x ∷ y ∷ rest))
at_cells bytes x y byte rest e = rw e (append_before bytes byte (unhex rest))

-- ---- one digit, one byte

digit_again : (n : ℕ) → n < 16 → digit_of (hex_digit n) ≡ Some n
digit_again n small = grind (arith, nat_tests)

digit_takes : (c n : ℕ) → digit_of c ≡ Some n → (n < 16) × (hex_digit n ≡ c)
digit_takes c n e = grind (arith, nat_tests)

byte_again : (b : ℕ) → b < 256 → byte_of (digit_of (hex_digit (b / 16))) (digit_of (hex_digit (b % 16))) ≡ Some b
byte_again b small =
    let high = digit_again (b / 16) (omega arith) in
    let low = digit_again (b % 16) (omega arith) in
    let whole : 16 * (b / 16) + b % 16 ≡ b = omega arith in
    rw (high, low) (ap Some whole)

byte_by : (h l : Option ℕ) (b : ℕ) → byte_of h l ≡ Some b → (high : ℕ) × (low : ℕ) × (h ≡ Some high) × (l ≡ Some low) × (16 * high + low ≡ b)
byte_by None l b e = absurd (cc)
byte_by (Some high) None b e = absurd (cc)
byte_by (Some high) (Some low) b e = (high, low, refl, refl, cc)

byte_takes : (x y b : ℕ) → byte_of (digit_of x) (digit_of y) ≡ Some b → (b < 256) × (hex_digit (b / 16) ≡ x) × (hex_digit (b % 16) ≡ y)
byte_takes x y b e =
    let parts = byte_by (digit_of x) (digit_of y) b e in
    let high = digit_takes x parts.0 parts.2 in
    let low = digit_takes y parts.1 parts.3 in
    let is : 16 * parts.0 + parts.1 ≡ b = parts.4 in
    let small_high : parts.0 < 16 = high.0 in
    let small_low : parts.1 < 16 = low.0 in
    let above : b / 16 ≡ parts.0 = omega arith in
    let below : b % 16 ≡ parts.1 = omega arith in
    (omega arith, ap hex_digit above ∙ high.1, ap hex_digit below ∙ low.1)

-- ---- bytes, put one after another

-- so many bytes were put, if all their digits are digits, and there is something else if not
pub record Stands (digits bytes : List ℕ) (i greatest : ℕ) : Type 0 where
  pub places : length digits ≡ 2 * length bytes
  pub read : greatest < 16 → option_map (λ more. take i bytes ++ more) (unhex (drop (2 * i) digits)) ≡ unhex digits
  pub none : 16 ≤ greatest → unhex digits ≡ None

same_map : (o : Option (List ℕ)) → option_map (λ more. [] ++ more) o ≡ o
same_map None = refl
same_map (Some more) = refl

pub stands_first : (digits bytes : List ℕ) → length digits ≡ 2 * length bytes → Stands digits bytes 0 0
stands_first digits bytes places = record {
  places = places;
  read = λ small. same_map (unhex digits);
  none = λ large. absurd (omega arith);
}

is_digit : (o : Option ℕ) (n : ℕ) → n ≡ unwrap_or o 255 → n < 16 → o ≡ Some n
is_digit None n e small = absurd (omega arith)
is_digit (Some m) n e small = ap Some (sym e)

no_digit : (c n : ℕ) (o : Option ℕ) → digit_of c ≡ o → n ≡ unwrap_or o 255 → 16 ≤ n → digit_of c ≡ None
no_digit c n None is e large = is
no_digit c n (Some m) is e large = let small = (digit_takes c m is).0 in absurd (omega arith)

-- the digits that are left, from a whole pair on
pair : (digits : List ℕ) (i : ℕ) → 2 * i + 1 < length digits → drop (2 * i) digits ≡ get_or digits (2 * i) 0 ∷ get_or digits (2 * i + 1) 0 ∷ drop (2 * (i + 1)) digits
pair digits i within =
    let first = drop_more digits (2 * i) 0 (omega arith) in
    let second = drop_more digits (2 * i + 1) 0 within in
    let two : 2 * i + 1 + 1 ≡ 2 * (i + 1) = omega arith in
    rw (first, second, two) refl

no_byte : (x y : ℕ) (rest : List ℕ) → (digit_of x ≡ None) ⊎ (digit_of y ≡ None) → unhex (x ∷ y ∷ rest) ≡ None
no_byte x y rest (inl e) = rw e refl
no_byte x y rest (inr e) = rw e (second (digit_of x) (unhex rest))
  where
    second : (o : Option ℕ) (others : Option (List ℕ)) → before (byte_of o None) others ≡ None
    second None others = refl
    second (Some high) others = refl

-- one more byte is put
pub stands_next : (digits bytes : List ℕ) (i high low greatest next : ℕ) → i < length bytes → next ≡ max (max greatest high) low
    → high ≡ unwrap_or (digit_of (get_or digits (2 * i) 0)) 255 → low ≡ unwrap_or (digit_of (get_or digits (2 * i + 1) 0)) 255
    → Stands digits bytes i greatest → Stands digits (slice_set bytes i (16 * (high % 16) + low % 16)) (i + 1) next
stands_next digits bytes i high low greatest next within most e f so_far =
    let x = get_or digits (2 * i) 0 in
    let y = get_or digits (2 * i + 1) 0 in
    let rest = drop (2 * (i + 1)) digits in
    let cut : drop (2 * i) digits ≡ x ∷ y ∷ rest = pair digits i (omega (arith, so_far.places)) in
    record {
      places = omega (arith, so_far.places, length-set {A = ℕ});
      read = λ small.
          let high_is = is_digit (digit_of x) high e (omega arith) in
          let low_is = is_digit (digit_of y) low f (omega arith) in
          let whole : 16 * high + low ≡ 16 * (high % 16) + low % 16 = omega arith in
          let byte : byte_of (digit_of x) (digit_of y) ≡ Some (16 * (high % 16) + low % 16) = rw (high_is, low_is) (ap Some whole) in
          let put = take_more_set bytes i (16 * (high % 16) + low % 16) within in
          ap (λ front. option_map (λ more. front ++ more) (unhex rest)) put
          ∙ at_cells (take i bytes) x y (16 * (high % 16) + low % 16) rest byte
          ∙ ap (λ ds. option_map (λ more. take i bytes ++ more) (unhex ds)) (sym cut)
          ∙ so_far.read (omega arith);
      none = λ large.
          elim (cases_lt greatest 16) [
            | inl small ↦
                let bad : (digit_of x ≡ None) ⊎ (digit_of y ≡ None) = elim (cases_lt high 16) [
                  | inl good ↦ inr (no_digit y low (digit_of y) refl f (omega arith))
                  | inr past ↦ inl (no_digit x high (digit_of x) refl e past)
                ] in
                let left : unhex (drop (2 * i) digits) ≡ None = ap unhex cut ∙ no_byte x y rest bad in
                sym (so_far.read small) ∙ ap (option_map (λ more. take i bytes ++ more)) left
            | inr past ↦ so_far.none past
          ];
    }

pub all_stand : (digits bytes : List ℕ) (i greatest : ℕ) → length bytes ≤ i → Stands digits bytes i greatest
    → unhex digits ≡ cond (nat_lt greatest 16) (Some bytes) None
all_stand digits bytes i greatest past so_far =
    let nothing : drop (2 * i) digits ≡ [] = drop_all (2 * i) digits (omega (arith, so_far.places)) in
    let everything : take i bytes ≡ bytes = take_all i bytes past in
    elim (cases_lt greatest 16) [
      | inl small ↦
          sym (so_far.read small)
          ∙ ap (λ ds. option_map (λ more. take i bytes ++ more) (unhex ds)) nothing
          ∙ ap Some (append-nil (take i bytes) ∙ everything)
          ∙ sym (ap (λ b. cond b (Some bytes) None) (lt-ltb _ _ small))
      | inr past16 ↦ so_far.none past16 ∙ sym (ap (λ b. cond b (Some bytes) None) (le-ltb _ _ past16))
    ]

-- half a byte is left over
pub odd_says_none : (digits : List ℕ) → length digits % 2 ≢ 0 → unhex digits ≡ None
odd_says_none [] odd = absurd (odd refl)
odd_says_none (x ∷ []) odd = refl
odd_says_none (x ∷ y ∷ rest) odd =
    rw (odd_says_none rest (λ even. odd (omega (arith, even)))) (nothing_after (byte_of (digit_of x) (digit_of y)))
  where
    nothing_after : (o : Option ℕ) → before o None ≡ None
    nothing_after None = refl
    nothing_after (Some byte) = refl

-- ---- all bytes

pub unhex_again : (bytes : List ℕ) → AreBytes bytes → unhex (hex bytes) ≡ Some bytes
unhex_again [] small = refl
unhex_again (b ∷ bytes) small = rw (byte_again b small.0, unhex_again bytes small.1) refl

pub record Hexed (digits bytes : List ℕ) : Type 0 where
  pub small : AreBytes bytes
  pub same : hex bytes ≡ digits

before_some : (b : Option ℕ) (o : Option (List ℕ)) (all : List ℕ) → before b o ≡ Some all → (byte : ℕ) × (bytes : List ℕ) × (b ≡ Some byte) × (o ≡ Some bytes) × (byte ∷ bytes ≡ all)
before_some None o all e = absurd (cc)
before_some (Some byte) None all e = absurd (cc)
before_some (Some byte) (Some bytes) all e = (byte, bytes, refl, refl, cc)

pub unhex_takes : (digits bytes : List ℕ) → unhex digits ≡ Some bytes → Hexed digits bytes
unhex_takes [] bytes e = let none : [] ≡ bytes = cc in subst (Hexed []) none (record { small = tt; same = refl })
unhex_takes (x ∷ []) bytes e = absurd (cc)
unhex_takes (x ∷ y ∷ rest) bytes e =
    let parts = before_some (byte_of (digit_of x) (digit_of y)) (unhex rest) bytes e in
    let first = byte_takes x y parts.0 parts.2 in
    let others = unhex_takes rest parts.1 parts.3 in
    subst (Hexed (x ∷ y ∷ rest)) parts.4 (record {
      small = (first.0, others.small);
      same = joined (hex_digit (parts.0 / 16)) x (hex_digit (parts.0 % 16)) y (hex parts.1) rest first.1 first.2 others.same;
    })
  where
    joined : (a b c d : ℕ) (xs ys : List ℕ) → a ≡ b → c ≡ d → xs ≡ ys → a ∷ c ∷ xs ≡ b ∷ d ∷ ys
    joined a b c d xs ys e f g = cc

pub are_digits : (digits : List ℕ) (o : Option (List ℕ)) → o ≡ unhex digits → AreDigitsOf o digits
are_digits digits None e = λ bytes small same. absurd (cc (e, ap unhex same, unhex_again bytes small))
are_digits digits (Some bytes) e = sym (unhex_takes digits bytes (sym e)).same

-- two digits a byte
pub length-hex : (bytes : List ℕ) → length (hex bytes) ≡ 2 * length bytes
length-hex [] = refl
length-hex (b ∷ bytes) = omega (arith, length-hex bytes)
