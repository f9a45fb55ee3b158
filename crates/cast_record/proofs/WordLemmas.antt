-- A line's words are those between its blanks.
use Rattle.std.proofs.Common.{◌≡◌, ℕ, ◌-◌, ◌/◌, ◌%◌, ◌^◌, ◌<◌, ◌≤◌, Bool, true, false, List, [], ◌∷◌, ◌++◌, decimal, codes, refl, sym, ap, ◌∙◌, arith, nat_eq, cond}
use Rattle.std.specs.List.{join_with_byte, slice_split, All}
use Rattle.std.specs.Str.{all_ascii_digits}
use Rattle.std.specs.Char.{is_ascii_digit}
use Rattle.std.proofs.lemmas.List.Elements.{All-cons, All-nil, All-append}
use Rattle.std.proofs.lemmas.List.Splits.{slice_split_none, slice_split_at}
use Rattle.std.proofs.lemmas.Fmt.{digits_decimal}
use Rattle.std.proofs.lemmas.Bool.Decides.{nat_tests}
use Rattle.cast_message.specs.declared.config.Mode.{Mode}
use Rattle.cast_message.specs.declared.config.Mode.TheVariants.{Basic, Uniform}
use Rattle.cast_message.specs.declared.message.Item.{Item}
use Rattle.cast_message.specs.declared.message.Item.TheVariants.{Data, Propose, Close}
use Rattle.cast_message.specs.declared.message.Message.{Message}
use Rattle.cast_record.specs.declared.line.Line.{Line}
use Rattle.cast_record.specs.declared.line.Line.TheVariants.{Head, Head2, Broadcast, Delivered, Decided, Crashed, Refused, End}
use Rattle.cast_record.specs.Hex.{hex, hex_digit}
use Rattle.cast_record.specs.Modes.{mode_word}
use Rattle.cast_record.specs.Text.{item_word, message_words, line_words, line_text}
use Rattle.cast_record.specs.Ranges.{IsItemWithin, IsMessageWithin, IsWithin}
use Rattle.cast_record.proofs.NumberLemmas.{own}

-- the byte is not the one at which is cut
abbrev pub Differs : ℕ → ℕ → Type 0
Differs c x = nat_eq x c ≡ false

abbrev pub HasNone : ℕ → List ℕ → Type 0
HasNone c w = All (Differs c) w

abbrev pub NoneHas : ℕ → List (List ℕ) → Type 0
NoneHas c [] = Unit {0}
NoneHas c (w ∷ ws) = HasNone c w × NoneHas c ws

-- words with no c in them are the parts of their row
pub split_join : (c : ℕ) (w : List ℕ) (ws : List (List ℕ)) → nat_eq c c ≡ true → HasNone c w → NoneHas c ws → slice_split (λ b. nat_eq b c) (join_with_byte c (w ∷ ws)) ≡ w ∷ ws
split_join c w [] same none rest = slice_split_none (λ b. nat_eq b c) w none
split_join c w (v ∷ vs) same none rest =
    slice_split_at (λ b. nat_eq b c) w c (join_with_byte c (v ∷ vs)) none same ∙ ap (λ r. w ∷ r) (split_join c v vs same rest.0 rest.1)

-- ---- no word has a blank or a line feed, and no number a colon

pub digits_without : (c : ℕ) (w : List ℕ) → ((x : ℕ) → is_ascii_digit x ≡ true → nat_eq x c ≡ false) → all_ascii_digits w ≡ true → HasNone c w
digits_without c [] other e = All-nil (Differs c)
digits_without c (x ∷ xs) other e =
    let first : is_ascii_digit x ≡ true = grind (arith, nat_tests) in
    let rest : all_ascii_digits xs ≡ true = grind (arith, nat_tests) in
    All-cons (Differs c) x xs (other x first) (digits_without c xs other rest)

-- a byte that stands in no word
pub record IsOutside (c : ℕ) : Type 0 where
  pub small : c ≤ 32

pub decimal_without : (c : ℕ) → IsOutside c → (n : ℕ) → n < 2 ^ 64 → HasNone c (decimal n)
decimal_without c out n fits = let small : c ≤ 32 = out.small in digits_without c (decimal n) (λ x h. grind (arith, nat_tests)) (digits_decimal own n fits)

pub decimal_without_colon : (n : ℕ) → n < 2 ^ 64 → HasNone 58 (decimal n)
decimal_without_colon n fits = digits_without 58 (decimal n) (λ x h. grind (arith, nat_tests)) (digits_decimal own n fits)

-- all bytes of a word lie above the blank
abbrev pub is_plain : List ℕ → Bool
is_plain [] = true
is_plain (x ∷ xs) = cond (nat_eq (x - 32) 0) false (is_plain xs)

plain_at : (x : ℕ) (xs : List ℕ) (b : Bool) → nat_eq (x - 32) 0 ≡ b → cond b false (is_plain xs) ≡ true → (b ≡ false) × (is_plain xs ≡ true)
plain_at x xs true e h = absurd (cc)
plain_at x xs false e h = (refl, h)

above_blank : (c x : ℕ) → c ≤ 32 → nat_eq (x - 32) 0 ≡ false → nat_eq x c ≡ false
above_blank c x small e = grind (arith, nat_tests)

pub plain : (c : ℕ) → IsOutside c → (w : List ℕ) → is_plain w ≡ true → HasNone c w
plain c out [] e = All-nil (Differs c)
plain c out (x ∷ xs) e =
    let both = plain_at x xs (nat_eq (x - 32) 0) refl e in
    All-cons (Differs c) x xs (above_blank c x out.small both.0) (plain c out xs both.1)

hex_digit_without : (c n : ℕ) → c ≤ 32 → nat_eq (hex_digit n) c ≡ false
hex_digit_without c n small = grind (arith, nat_tests)

pub hex_without : (c : ℕ) → IsOutside c → (bs : List ℕ) → HasNone c (hex bs)
hex_without c out [] = All-nil (Differs c)
hex_without c out (b ∷ bs) =
    All-cons (Differs c) (hex_digit (b / 16)) (hex_digit (b % 16) ∷ hex bs) (hex_digit_without c (b / 16) out.small)
    (All-cons (Differs c) (hex_digit (b % 16)) (hex bs) (hex_digit_without c (b % 16) out.small) (hex_without c out bs))

pub item_without : (c : ℕ) → IsOutside c → (i : Item) → IsItemWithin i → HasNone c (item_word i)
item_without c out (Data payload) f = All-append (Differs c) (codes "data:") (hex payload) (plain c out (codes "data:") refl) (hex_without c out payload)
item_without c out (Propose j v) f =
    All-append (Differs c) (codes "prop:" ++ decimal j ++ codes ":") (decimal v)
    (All-append (Differs c) (codes "prop:" ++ decimal j) (codes ":")
    (All-append (Differs c) (codes "prop:") (decimal j) (plain c out (codes "prop:") refl) (decimal_without c out j f.0))
    (plain c out (codes ":") refl))
    (decimal_without c out v f.1)
item_without c out Close f = plain c out (codes "close") refl

pub mode_without : (c : ℕ) → IsOutside c → (mode : Mode) → HasNone c (mode_word mode)
mode_without c out Basic = plain c out (codes "basic") refl
mode_without c out Uniform = plain c out (codes "uniform") refl

node_fits : (n : ℕ) → n < 256 → n < 2 ^ 64
node_fits n small = omega arith

message_without : (c : ℕ) → IsOutside c → (m : Message) → IsMessageWithin m → NoneHas c (message_words m)
message_without c out m f = (decimal_without c out m.sender (node_fits m.sender f.0), (decimal_without c out m.number f.1, (item_without c out m.item f.2, tt)))

group_fits : (n most : ℕ) → n ≤ most → most ≤ 64 → n < 2 ^ 64
group_fits n most small limit = omega arith

below_fits : (f n most : ℕ) → f < n → n ≤ most → most ≤ 64 → f < 2 ^ 64
below_fits f n most less small limit = omega arith

upto_fits : (f n most : ℕ) → f ≤ n → n ≤ most → most ≤ 64 → f < 2 ^ 64
upto_fits f n most less small limit = omega arith

code_fits : (code : ℕ) → code ≤ 12 → code < 2 ^ 64
code_fits code small = omega arith

-- the words after the first
abbrev pub others : List (List ℕ) → List (List ℕ)
others [] = []
others (w ∷ ws) = ws

abbrev pub name_of : List (List ℕ) → List ℕ
name_of [] = []
name_of (w ∷ ws) = w

name_without : (c : ℕ) → IsOutside c → (l : Line) → HasNone c (name_of (line_words l))
name_without c out (Head n f k) = plain c out (codes "cast/1") refl
name_without c out (Head2 n f k m) = plain c out (codes "cast/2") refl
name_without c out (Broadcast m) = plain c out (codes "b") refl
name_without c out (Delivered q m) = plain c out (codes "d") refl
name_without c out (Decided q d) = plain c out (codes "v") refl
name_without c out (Crashed q) = plain c out (codes "x") refl
name_without c out (Refused i code) = plain c out (codes "r") refl
name_without c out End = plain c out (codes "end") refl

group_without : (c : ℕ) → IsOutside c → (n f k most : ℕ) → n ≤ most → f < n → k ≤ n → most ≤ 64 → HasNone c (decimal n) × HasNone c (decimal f) × HasNone c (decimal k)
group_without c out n f k most a b d limit = (
  decimal_without c out n (group_fits n most a limit),
  decimal_without c out f (below_fits f n most b a limit),
  decimal_without c out k (upto_fits k n most d a limit),
)

others_without : (c : ℕ) → IsOutside c → (l : Line) → IsWithin l → NoneHas c (others (line_words l))
others_without c out (Head n f k) h = let g = group_without c out n f k 16 h.1 h.2 h.4 (omega arith) in (g.0, (g.1, (g.2, tt)))
others_without c out (Head2 n f k m) h = let g = group_without c out n f k 64 h.0.1 h.0.2 h.0.4 (omega arith) in (g.0, (g.1, (g.2, (mode_without c out m, tt))))
others_without c out (Broadcast m) h = message_without c out m h
others_without c out (Delivered q m) h = (decimal_without c out q (node_fits q h.0), message_without c out m h.1)
others_without c out (Decided q d) h = (decimal_without c out q (node_fits q h.0), (decimal_without c out d.instance h.1, (decimal_without c out d.value h.2, tt)))
others_without c out (Crashed q) h = (decimal_without c out q (node_fits q h), tt)
others_without c out (Refused i code) h = (decimal_without c out i h.0, (decimal_without c out code (code_fits code h.2), tt))
others_without c out End h = tt

has_words : (l : Line) → line_words l ≡ name_of (line_words l) ∷ others (line_words l)
has_words (Head n f k) = refl
has_words (Head2 n f k m) = refl
has_words (Broadcast m) = refl
has_words (Delivered q m) = refl
has_words (Decided q d) = refl
has_words (Crashed q) = refl
has_words (Refused i code) = refl
has_words End = refl

blank_is_outside : IsOutside 32
blank_is_outside = record { small = omega arith }

feed_is_outside : IsOutside 10
feed_is_outside = record { small = omega arith }

-- the words of a line are those between its blanks
pub split_line : (l : Line) → IsWithin l → slice_split (λ b. nat_eq b 32) (line_text l) ≡ line_words l
split_line l h =
    ap (λ ws. slice_split (λ b. nat_eq b 32) (join_with_byte 32 ws)) (has_words l)
    ∙ split_join 32 (name_of (line_words l)) (others (line_words l)) refl (name_without 32 blank_is_outside l) (others_without 32 blank_is_outside l h)
    ∙ sym (has_words l)

-- words without a byte, joined by another one, are without it
blank_differs : Differs 10 32
blank_differs = refl

joined_without : (w : List ℕ) (ws : List (List ℕ)) → HasNone 10 w → NoneHas 10 ws → HasNone 10 (join_with_byte 32 (w ∷ ws))
joined_without w [] h g = h
joined_without w (v ∷ vs) h g = All-append (Differs 10) w (32 ∷ join_with_byte 32 (v ∷ vs)) h (All-cons (Differs 10) 32 (join_with_byte 32 (v ∷ vs)) blank_differs (joined_without v vs g.0 g.1))

-- no line has a line feed in it
pub line_without_feed : (l : Line) → IsWithin l → HasNone 10 (line_text l)
line_without_feed l h = rw (has_words l) (joined_without (name_of (line_words l)) (others (line_words l)) (name_without 10 feed_is_outside l) (others_without 10 feed_is_outside l h))
