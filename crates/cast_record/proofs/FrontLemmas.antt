-- Lines read from the front, and numbers digit by digit.
use Rattle.std.proofs.Common.{◌≡◌, ℕ, zero, suc, ◌+◌, ◌-◌, ◌*◌, ◌^◌, ◌<◌, ◌≤◌, ◌++◌, append_assoc, add-one, length, take, drop, drop-cons, get_or, true, false, nat_eq, nat_lt, List, [], ◌∷◌, codes, Some, refl, sym, ap, subst, ◌∙◌, arith}
use Rattle.std.specs.List.{slice_split}
use Rattle.std.proofs.lemmas.List.Splits.{slice_split_none}
use Rattle.cast_message.specs.declared.message.Item.{Item}
use Rattle.cast_record.specs.declared.line.Line.TheVariants.{Broadcast, Delivered, Decided}
use Rattle.std.specs.Str.{all_ascii_digits}
use Rattle.std.specs.Char.{is_ascii_digit}
use Rattle.std.proofs.lemmas.Bool.Decides.{nat_tests}
use Rattle.std.proofs.lemmas.Grind.{common_steps}
use Rattle.std.proofs.lemmas.List.{take-append-drop}
use Rattle.std.proofs.lemmas.List.Splits.{slice_split_at}
use Rattle.std.proofs.lemmas.List.Elements.{All-nil, All-cons}
use Rattle.cast_message.specs.Items.{byte_sized}
use Rattle.cast_record.specs.Nodes.{node_of}
use Rattle.cast_record.specs.Numbers.{read_on, number_of}
use Rattle.cast_record.specs.Reading as read
use Rattle.cast_record.specs.Fronts.{BeginsWithLine, BeginsWithNode, BeginsWithNumber, IsNumberSoFar}
use Rattle.cast_record.proofs.NumberLemmas.{number_from, number_takes}
use Rattle.cast_record.proofs.ItemWordLemmas.{from_on}
use Rattle.cast_record.proofs.ReadLemmas.{both, item_takes, line_by_parts}
use Rattle.cast_record.proofs.WordLemmas.{HasNone, item_without, decimal_without}

abbrev cut : List ℕ → List (List ℕ)
cut bytes = slice_split (λ b. nat_eq b 32) bytes

-- a blank ends a word
cut_at : (word rest : List ℕ) → HasNone 32 word → cut (word ++ 32 ∷ rest) ≡ word ∷ cut rest
cut_at word rest none = slice_split_at (λ b. nat_eq b 32) word 32 rest none refl

number_word : (word : List ℕ) (n : ℕ) → number_of word ≡ Some n → HasNone 32 word
number_word word n e = let is = number_takes word n e in subst (HasNone 32) (sym is.0) (decimal_without 32 (record { small = omega arith }) n is.1)

node_word : (word : List ℕ) (n : ℕ) → node_of word ≡ Some n → HasNone 32 word
node_word word n e = let h = both (number_of word) byte_sized n e in number_word word h.first h.was

-- a word that spells an item has no blank
one_word : (word : List ℕ) (item : Item) → read.item_of word ≡ Some item → cut word ≡ word ∷ []
one_word word item e =
    let is = item_takes word item e in
    slice_split_none (λ b. nat_eq b 32) word (subst (HasNone 32) is.same (item_without 32 (record { small = omega arith }) item is.within))

-- the line by its name of one byte and the words after it
line_by_name : (name : ℕ) (rest : List ℕ) → nat_eq name 32 ≡ false → read.line_of (name ∷ 32 ∷ rest) ≡ read.line_named (name ∷ []) (cut rest)
line_by_name name rest other =
    sym (line_by_parts (name ∷ 32 ∷ rest) (name ∷ []) rest (cut_at (name ∷ []) rest (All-cons (λ b. nat_eq b 32 ≡ false) name [] other (All-nil (λ b. nat_eq b 32 ≡ false)))))

-- what the words after the name spell

delivered_words : (receiver sender place word : List ℕ) (q s n : ℕ) (item : Item) → node_of receiver ≡ Some q → node_of sender ≡ Some s → number_of place ≡ Some n → read.item_of word ≡ Some item
    → read.line_named (codes "d") (receiver ∷ sender ∷ place ∷ word ∷ []) ≡ Some (Delivered q (record { sender = s; number = n; item = item }))
delivered_words receiver sender place word q s n item a b c d = rw (a, b, c, d) refl

broadcast_words : (sender place word : List ℕ) (s n : ℕ) (item : Item) → node_of sender ≡ Some s → number_of place ≡ Some n → read.item_of word ≡ Some item
    → read.line_named (codes "b") (sender ∷ place ∷ word ∷ []) ≡ Some (Broadcast (record { sender = s; number = n; item = item }))
broadcast_words sender place word s n item a b c = rw (a, b, c) refl

decided_words : (node instance value : List ℕ) (q j w : ℕ) → node_of node ≡ Some q → number_of instance ≡ Some j → number_of value ≡ Some w
    → read.line_named (codes "v") (node ∷ instance ∷ value ∷ []) ≡ Some (Decided q (record { instance = j; value = w }))
decided_words node instance value q j w a b c = rw (a, b, c) refl

pub broadcast_said : (r r' word : List ℕ) (s n : ℕ) (item : Item) → BeginsWithNode r s r' → BeginsWithNumber r' n word → read.item_of word ≡ Some item
    → read.line_of (98 ∷ 32 ∷ r) ≡ Some (Broadcast (record { sender = s; number = n; item = item }))
broadcast_said r r' word s n item one two spelled =
    let words : cut r ≡ one.word ∷ two.word ∷ word ∷ [] =
    ap cut one.cut ∙ cut_at one.word r' (node_word one.word s one.names)
    ∙ ap (λ ws. one.word ∷ ws) (ap cut two.cut ∙ cut_at two.word word (number_word two.word n two.spells) ∙ ap (λ ws. two.word ∷ ws) (one_word word item spelled)) in
    line_by_name 98 r refl ∙ ap (read.line_named (codes "b")) words ∙ broadcast_words one.word two.word word s n item one.names two.spells spelled

pub decision_said : (r r' word : List ℕ) (q j w : ℕ) → BeginsWithNode r q r' → BeginsWithNumber r' j word → number_of word ≡ Some w
    → read.line_of (118 ∷ 32 ∷ r) ≡ Some (Decided q (record { instance = j; value = w }))
decision_said r r' word q j w one two spelled =
    let words : cut r ≡ one.word ∷ two.word ∷ word ∷ [] =
    ap cut one.cut ∙ cut_at one.word r' (node_word one.word q one.names)
    ∙ ap (λ ws. one.word ∷ ws) (ap cut two.cut ∙ cut_at two.word word (number_word two.word j two.spells) ∙ ap (λ ws. two.word ∷ ws) (slice_split_none (λ b. nat_eq b 32) word (number_word word w spelled))) in
    line_by_name 118 r refl ∙ ap (read.line_named (codes "v")) words ∙ decided_words one.word two.word word q j w one.names two.spells spelled

-- ---- a line `d` at the front of a text

-- a word and a blank before what is cut
after_word : (word rest front more : List ℕ) → rest ≡ front ++ more → word ++ 32 ∷ rest ≡ (word ++ 32 ∷ front) ++ more
after_word word rest front more e = ap (λ bytes. word ++ 32 ∷ bytes) e ∙ sym (append_assoc word (32 ∷ front) more)

-- the first two bytes
pub name_there : (name : ℕ) (bytes rest : List ℕ) → 2 ≤ length bytes → get_or bytes 0 0 ≡ name → get_or bytes 1 0 ≡ 32 → rest ≡ drop 2 bytes → bytes ≡ name ∷ 32 ∷ rest
name_there name [] rest some a b e = absurd (omega arith)
name_there name (x ∷ []) rest some a b e = absurd (omega arith)
name_there name (x ∷ y ∷ bytes) rest some a b e = λ i. a i ∷ b i ∷ sym e i

pub delivery_said : (bytes r r' r'' rest : List ℕ) (q s n : ℕ) → 2 ≤ length bytes → get_or bytes 0 0 ≡ 100 → get_or bytes 1 0 ≡ 32 → r ≡ drop 2 bytes
    → BeginsWithNode r q r' → BeginsWithNode r' s r'' → BeginsWithNumber r'' n rest
    → (word more : List ℕ) (item : Item) → rest ≡ word ++ more → read.item_of word ≡ Some item → BeginsWithLine bytes more (Delivered q (record { sender = s; number = n; item = item }))
delivery_said bytes r r' r'' rest q s n some x y is one two three word more item cut_word spelled =
    let front'' = three.word ++ 32 ∷ word in
    let front' = two.word ++ 32 ∷ front'' in
    let front = one.word ++ 32 ∷ front' in
    let words : cut front ≡ one.word ∷ two.word ∷ three.word ∷ word ∷ [] =
    cut_at one.word front' (node_word one.word q one.names)
    ∙ ap (λ ws. one.word ∷ ws) (cut_at two.word front'' (node_word two.word s two.names)
    ∙ ap (λ ws. two.word ∷ ws) (cut_at three.word word (number_word three.word n three.spells) ∙ ap (λ ws. three.word ∷ ws) (one_word word item spelled))) in
    let parts : r ≡ front ++ more =
    one.cut ∙ after_word one.word r' front' more (two.cut ∙ after_word two.word r'' front'' more (three.cut ∙ after_word three.word rest word more cut_word)) in
    record {
      front = 100 ∷ 32 ∷ front;
      cut = name_there 100 bytes r some x y is ∙ ap (λ bytes. 100 ∷ 32 ∷ bytes) parts;
      spells = line_by_name 100 front refl ∙ ap (read.line_named (codes "d")) words ∙ delivered_words one.word two.word three.word word q s n item one.names two.names three.spells spelled;
    }

-- ---- a node of one digit or two

byte_names : (word : List ℕ) (n : ℕ) → number_of word ≡ Some n → n < 256 → node_of word ≡ Some n
byte_names word n e small = let below : nat_lt n 256 ≡ true = grind (arith, nat_tests) in rw (e, below) refl

one_digit : (high : ℕ) (rest : List ℕ) → is_ascii_digit high ≡ true → BeginsWithNode (high ∷ 32 ∷ rest) (high - 48) rest
one_digit high rest digit =
    let small : high < 58 = grind (arith, nat_tests) in
    let digits : all_ascii_digits (high ∷ []) ≡ true = grind (arith, nat_tests) in
    let value : read_on 0 (high ∷ []) ≡ high - 48 = omega arith in
    record { word = high ∷ []; cut = refl; names = byte_names (high ∷ []) (high - 48) (number_from (high ∷ []) (high - 48) (omega arith) (λ two zero_first. absurd (omega (arith, two))) digits value (omega (arith, small))) (omega (arith, small)) }

two_digits : (high low : ℕ) (rest : List ℕ) → is_ascii_digit high ≡ true → is_ascii_digit low ≡ true → (high ≡ 48 → ⊥) → BeginsWithNode (high ∷ low ∷ 32 ∷ rest) ((high - 48) * 10 + (low - 48)) rest
two_digits high low rest a b other =
    let small : (high < 58) × (low < 58) = grind (arith, nat_tests) in
    let digits : all_ascii_digits (high ∷ low ∷ []) ≡ true = grind (arith, nat_tests) in
    let value : read_on 0 (high ∷ low ∷ []) ≡ (high - 48) * 10 + (low - 48) = omega arith in
    record { word = high ∷ low ∷ []; cut = refl; names = byte_names (high ∷ low ∷ []) ((high - 48) * 10 + (low - 48)) (number_from (high ∷ low ∷ []) ((high - 48) * 10 + (low - 48)) (omega arith) (λ two zero_first. other zero_first) digits value (omega (arith, small.0, small.1))) (omega (arith, small.0, small.1)) }

pub short_node : (bytes : List ℕ) → 3 ≤ length bytes → is_ascii_digit (get_or bytes 0 0) ≡ true → get_or bytes 1 0 ≡ 32
    → BeginsWithNode bytes (get_or bytes 0 0 - 48) (take (length bytes - 2) (drop 2 bytes))
short_node [] some digit blank = absurd (omega arith)
short_node (high ∷ []) some digit blank = absurd (omega arith)
short_node (high ∷ low ∷ bytes) some digit blank =
    subst (λ rest. BeginsWithNode (high ∷ low ∷ bytes) (high - 48) rest) (sym (from_on 2 (high ∷ low ∷ bytes)))
    (subst (λ b. BeginsWithNode (high ∷ b ∷ bytes) (high - 48) bytes) (sym blank) (one_digit high bytes digit))

pub long_node : (bytes : List ℕ) → 3 ≤ length bytes → is_ascii_digit (get_or bytes 0 0) ≡ true → is_ascii_digit (get_or bytes 1 0) ≡ true → (get_or bytes 0 0 ≡ 48 → ⊥) → get_or bytes 2 0 ≡ 32
    → BeginsWithNode bytes ((get_or bytes 0 0 - 48) * 10 + (get_or bytes 1 0 - 48)) (take (length bytes - 3) (drop 3 bytes))
long_node [] some a b other blank = absurd (omega arith)
long_node (high ∷ []) some a b other blank = absurd (omega arith)
long_node (high ∷ low ∷ []) some a b other blank = absurd (omega arith)
long_node (high ∷ low ∷ end ∷ bytes) some a b other blank =
    subst (λ rest. BeginsWithNode (high ∷ low ∷ end ∷ bytes) ((high - 48) * 10 + (low - 48)) rest) (sym (from_on 3 (high ∷ low ∷ end ∷ bytes)))
    (subst (λ c. BeginsWithNode (high ∷ low ∷ c ∷ bytes) ((high - 48) * 10 + (low - 48)) bytes) (sym blank) (two_digits high low bytes a b other))

-- ---- a number, digit by digit

read_more : (n : ℕ) (xs : List ℕ) (c : ℕ) → read_on n (xs ++ c ∷ []) ≡ 10 * read_on n xs + (c - 48)
read_more n [] c = refl
read_more n (x ∷ xs) c = read_more (10 * n + (x - 48)) xs c

more_digits : (xs : List ℕ) (c : ℕ) → all_ascii_digits xs ≡ true → is_ascii_digit c ≡ true → all_ascii_digits (xs ++ c ∷ []) ≡ true
more_digits [] c e f = grind (arith, nat_tests)
more_digits (x ∷ xs) c e f =
    let rest : all_ascii_digits xs ≡ true = grind (arith, nat_tests) in
    let next = more_digits xs c rest f in
    grind (arith, nat_tests)

take_more : (xs : List ℕ) (i : ℕ) → i < length xs → take (suc i) xs ≡ take i xs ++ get_or xs i 0 ∷ []
take_more [] i within = absurd (omega arith)
take_more (x ∷ xs) zero within = refl
take_more (x ∷ xs) (suc i) within = ap (λ ys. x ∷ ys) (take_more xs i (omega arith))

pub digit_more : (bytes : List ℕ) (at value : ℕ) → IsNumberSoFar bytes at value → at < length bytes → is_ascii_digit (get_or bytes at 0) ≡ true → value * 10 + (get_or bytes at 0 - 48) < 2 ^ 64
    → IsNumberSoFar bytes (at + 1) (value * 10 + (get_or bytes at 0 - 48))
digit_more bytes at value h within digit fits =
    let taken : take (at + 1) bytes ≡ take at bytes ++ get_or bytes at 0 ∷ [] = ap (λ n. take n bytes) (add-one at) ∙ take_more bytes at within in
    record {
      within = omega (arith, within);
      digits = ap all_ascii_digits taken ∙ more_digits (take at bytes) (get_or bytes at 0) h.digits digit;
      value_is = ap (read_on 0) taken ∙ read_more 0 (take at bytes) (get_or bytes at 0) ∙ ap (λ v. 10 * v + (get_or bytes at 0 - 48)) h.value_is ∙ omega arith;
      fits = fits;
    }

pub number_ended : (bytes : List ℕ) (at value : ℕ) → IsNumberSoFar bytes at value → at < length bytes → get_or bytes at 0 ≡ 32 → 0 < at → (2 ≤ at → get_or bytes 0 0 ≡ 48 → ⊥)
    → BeginsWithNumber bytes value (drop (at + 1) bytes)
number_ended bytes at value h within blank some first =
    let many : length (take at bytes) ≡ at = grind (arith, common_steps) in
    let front : get_or (take at bytes) 0 0 ≡ get_or bytes 0 0 = grind (arith, common_steps) in
    let whole : bytes ≡ take at bytes ++ get_or bytes at 0 ∷ drop (at + 1) bytes =
    sym (take-append-drop at bytes) ∙ ap (λ ys. take at bytes ++ ys) (drop-cons bytes at 0 within ∙ ap (λ n. get_or bytes at 0 ∷ drop n bytes) (sym (add-one at))) in
    record {
      word = take at bytes;
      cut = whole ∙ ap (λ b. take at bytes ++ b ∷ drop (at + 1) bytes) blank;
      spells = number_from (take at bytes) value (omega (arith, many)) (λ two zero_first. first (omega (arith, many, two)) (sym front ∙ zero_first)) h.digits h.value_is h.fits;
    }
