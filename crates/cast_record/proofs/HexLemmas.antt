-- Digits of bytes, written from the first one on.
use Rattle.std.proofs.Common.{◌≡◌, ℕ, ◌+◌, ◌*◌, ◌/◌, ◌%◌, ◌<◌, ◌≤◌, List, [], ◌∷◌, ◌++◌, append_assoc, ap, sym, ◌∙◌, refl, take, drop, length, arith, slice_set, length-set, length-append, length-drop, get_or}
use Rattle.std.proofs.lemmas.List.{take-append-drop, take_all, take_more, take_more_set}
use Rattle.cast_record.specs.Hex.{hex, hex_digit}
use Rattle.cast_record.proofs.UnhexLemmas.{length-hex}

pub hex-append : (xs ys : List ℕ) → hex (xs ++ ys) ≡ hex xs ++ hex ys
hex-append [] ys = refl
hex-append (x ∷ xs) ys = ap (λ digits. hex_digit (x / 16) ∷ hex_digit (x % 16) ∷ digits) (hex-append xs ys)

-- the digits of a front of the bytes, and of the others
pub hex-parts : (bytes front others digits : List ℕ) (n : ℕ) → front ≡ take n bytes → others ≡ drop n bytes → digits ≡ hex front → hex bytes ≡ digits ++ hex others
hex-parts bytes front others digits n e f g = rw (g, e, f) (ap hex (sym (take-append-drop n bytes)) ∙ hex-append (take n bytes) (drop n bytes))

-- the digits of one more byte
pub two_more : (bytes digits : List ℕ) (i high low : ℕ) → 2 * i + 1 < length digits → i < length bytes
    → high ≡ hex_digit (get_or bytes i 0 / 16) → low ≡ hex_digit (get_or bytes i 0 % 16) → take (2 * i) digits ≡ hex (take i bytes)
    → take (2 * (i + 1)) (slice_set (slice_set digits (2 * i) high) (2 * i + 1) low) ≡ hex (take (i + 1) bytes)
two_more bytes digits i high low room within e f before =
    let next : 2 * (i + 1) ≡ 2 * i + 1 + 1 = omega arith in
    let first : take (2 * i + 1) (slice_set digits (2 * i) high) ≡ take (2 * i) digits ++ high ∷ [] = take_more_set digits (2 * i) high (omega arith) in
    let second : take (2 * i + 1 + 1) (slice_set (slice_set digits (2 * i) high) (2 * i + 1) low) ≡ take (2 * i + 1) (slice_set digits (2 * i) high) ++ low ∷ []
    = take_more_set (slice_set digits (2 * i) high) (2 * i + 1) low (omega (arith, length-set {A = ℕ})) in
    rw (next, second, first, before, append_assoc, e, f, take_more bytes i 0 within, hex-append) refl

-- the digits of all bytes
pub all_put : (bytes digits : List ℕ) (i : ℕ) → length bytes ≤ i → length digits ≡ 2 * length bytes → take (2 * i) digits ≡ hex (take i bytes) → digits ≡ hex bytes
all_put bytes digits i past places put =
    sym (take_all (2 * i) digits (omega arith)) ∙ put ∙ ap hex (take_all i bytes past)

-- the digits stand at the front of a room, which is as long as before
pub room_kept : (bytes digits room : List ℕ) → digits ≡ hex bytes → 2 * length bytes ≤ length room → length (digits ++ drop (2 * length bytes) room) ≡ length room
room_kept bytes digits room put within =
    rw (length-append, length-drop, put, length-hex bytes) (omega arith)
