-- What a word of an item says of it.
use Rattle.std.proofs.Common.{◌≡◌, ℕ, ◌-◌, ◌%◌, ◌≤◌, ◌&&◌, Bool, true, false, cond, nat_eq, nat_lt, List, [], ◌∷◌, length, take, drop, codes, Option, Some, None, option_map, option_and_then, refl, sym, ap, subst, ◌∙◌, arith}
use Rattle.std.specs.Prelude.{unwrap_or}
use Rattle.std.specs.Bool.{then_some}
use Rattle.std.specs.List.{list_all, slice_split}
use Rattle.std.specs.Str.{bytes_eq}
use Rattle.std.proofs.lemmas.Bool.Decides.{nat_tests}
use Rattle.std.proofs.lemmas.Grind.{common_steps}
use Rattle.std.proofs.lemmas.List.{take-append-drop}
use Rattle.std.proofs.lemmas.List.Folds.{list_all-append}
use Rattle.cast_message.specs.declared.message.Item.{Item}
use Rattle.cast_message.specs.declared.message.Item.TheVariants as items
use Rattle.cast_record.specs.Numbers.{number_of}
use Rattle.cast_record.specs.Reading.{data_of, item_of, two_of, proposal_by, proposal_of, HasData}
use Rattle.cast_record.specs.Unhex.{unhex, digit_of, byte_of, before}
use Rattle.cast_record.specs.declared.item_word.ItemKind.{ItemKind}
use Rattle.cast_record.specs.declared.item_word.ItemKind.TheVariants.{Data}
use Rattle.cast_record.specs.ItemWords.{kind_of, SpellsItem, is_known, is_hex, is_hex_digit}

known_before : (a b : Option ℕ) (o : Option (List ℕ)) → is_known (before (byte_of a b) o) ≡ (is_known a && is_known b && is_known o)
known_before None b o = refl
known_before (Some x) None o = refl
known_before (Some x) (Some y) None = refl
known_before (Some x) (Some y) (Some bytes) = refl

two_more : (h l : ℕ) (rest : List ℕ) → is_hex (h ∷ l ∷ rest) ≡ (is_hex_digit h && is_hex_digit l && is_hex rest)
two_more h l rest = known_before (digit_of h) (digit_of l) (unhex rest)

and_in_turn : (a b c : Bool) → (a && b && c) ≡ (a && (b && c))
and_in_turn true b c = refl
and_in_turn false b c = refl

-- an even number of digits
pub even_digits : (digits : List ℕ) → length digits % 2 ≡ 0 → is_hex digits ≡ list_all is_hex_digit digits
even_digits [] e = refl
even_digits (h ∷ []) e = absurd (omega arith)
even_digits (h ∷ l ∷ rest) e = two_more h l rest ∙ ap (λ b. is_hex_digit h && is_hex_digit l && b) (even_digits rest (omega arith)) ∙ and_in_turn (is_hex_digit h) (is_hex_digit l) (list_all is_hex_digit rest)

and_false : (a b : Bool) → (a && b && false) ≡ false
and_false true true = refl
and_false true false = refl
and_false false b = refl

pub odd_digits : (digits : List ℕ) → length digits % 2 ≡ 1 → is_hex digits ≡ false
odd_digits [] e = absurd (omega arith)
odd_digits (h ∷ []) e = refl
odd_digits (h ∷ l ∷ rest) e =
    two_more h l rest ∙ ap (λ b. is_hex_digit h && is_hex_digit l && b) (odd_digits rest (omega arith)) ∙ and_false (is_hex_digit h) (is_hex_digit l)

unhexed : (o : Option (List ℕ)) → option_map kind_of (option_map items.Data o) ≡ then_some (is_known o) Data
unhexed None = refl
unhexed (Some bytes) = refl

pub data_kind : (digits : List ℕ) (b : Bool) → nat_lt 2048 (length digits) ≡ false → is_hex digits ≡ b → option_map kind_of (data_of digits) ≡ then_some b Data
data_kind digits b short e = rw short (unhexed (unhex digits) ∙ ap (λ b. then_some b Data) e)

-- after the five letters of `data:` the word has the digits of bytes, and the item is those bytes
pub record SpellsData (word : List ℕ) : Type 0 where
  pub long : 5 ≤ length word
  pub bytes : List ℕ
  pub digits : unhex (drop 5 word) ≡ Some bytes
  pub is : item_of word ≡ Some (items.Data bytes)

-- what two words after `prop:` spell is no data
no_proposal : (o : Option (List ℕ × List ℕ)) → HasData (option_and_then proposal_by o) → ⊥
no_proposal None h = h
no_proposal (Some words) h = by_numbers (number_of words.0) (number_of words.1) h
  where
    by_numbers : (j v : Option ℕ) → HasData (option_and_then (λ j. option_and_then (λ v. Some (items.Propose j v)) v) j) → ⊥
    by_numbers None v h = h
    by_numbers (Some j) None h = h
    by_numbers (Some j) (Some v) h = absurd (cc)

-- the item of a word, by what is asked of the word
abbrev item_by : (is_close is_short is_data is_proposed is_long : Bool) → Option (List ℕ) → Option Item → Option Item
item_by is_close is_short is_data is_proposed is_long o p =
    cond is_close (Some items.Close) (cond is_short None (cond is_data (cond is_long None (option_map items.Data o)) (cond is_proposed p None)))

only_data : (a b c d e : Bool) (o : Option (List ℕ)) (p : Option Item) → (HasData p → ⊥) → HasData (item_by a b c d e o p)
    → (b ≡ false) × (bytes : List ℕ) × (o ≡ Some bytes) × (item_by a b c d e o p ≡ Some (items.Data bytes))
only_data true b c d e o p none h = absurd (cc)
only_data false true c d e o p none h = absurd h
only_data false false true d true o p none h = absurd h
only_data false false true d false None p none h = absurd h
only_data false false true d false (Some bytes) p none h = (refl, bytes, refl, refl)
only_data false false false true e o p none h = absurd (none h)
only_data false false false false e o p none h = absurd h

pub spells_data : (word : List ℕ) → HasData (item_of word) → SpellsData word
spells_data word h =
    let rest = drop 5 word in
    let told = only_data (bytes_eq word (codes "close")) (nat_lt (length word) 5) (bytes_eq (take 5 word) (codes "data:")) (bytes_eq (take 5 word) (codes "prop:")) (nat_lt 2048 (length rest)) (unhex rest) (proposal_of rest)
    (no_proposal (two_of (slice_split (λ b. nat_eq b 58) rest))) h in
    let short : nat_lt (length word) 5 ≡ false = told.0 in
    record { long = grind (arith, nat_tests); bytes = told.1; digits = told.2; is = told.3 }

-- a word of this kind spells data
pub has_data : (word : List ℕ) (kind : ItemKind) → SpellsItem word kind → kind ≡ Data → HasData (item_of word)
has_data word kind told e = subst HasData (sym told.spells) (by_item (unwrap_or (item_of word) items.Close) (sym told.is ∙ e))
  where
    by_item : (item : Item) → kind_of item ≡ Data → HasData (Some item)
    by_item (items.Data payload) e = refl
    by_item (items.Propose j v) e = absurd (cc)
    by_item items.Close e = absurd (cc)

pub no_item : (o : Option Item) → None ≡ option_map kind_of o → None ≡ o
no_item None e = refl
no_item (Some item) e = absurd (cc)

kind_told : (o : Option Item) (kind : ItemKind) → Some kind ≡ option_map kind_of o → (o ≡ Some (unwrap_or o items.Close)) × (kind ≡ kind_of (unwrap_or o items.Close))
kind_told None kind e = absurd (cc)
kind_told (Some item) kind e = (refl, cc)

pub spells : (word : List ℕ) (kind : ItemKind) → Some kind ≡ option_map kind_of (item_of word) → SpellsItem word kind
spells word kind e = let told = kind_told (item_of word) kind e in record { spells = told.0; is = told.1 }

-- ---- digits in blocks

-- a slice from a place on
pub from_on : (n : ℕ) (bytes : List ℕ) → take (length bytes - n) (drop n bytes) ≡ drop n bytes
from_on n bytes = grind (arith, common_steps)

pub all_after : (n : ℕ) (digits : List ℕ) → list_all is_hex_digit digits ≡ (list_all is_hex_digit (take n digits) && list_all is_hex_digit (drop n digits))
all_after n digits = ap (list_all is_hex_digit) (sym (take-append-drop n digits)) ∙ list_all-append is_hex_digit (take n digits) (drop n digits)

pub all_but_front : (n : ℕ) (digits : List ℕ) → list_all is_hex_digit (take n digits) ≡ true → list_all is_hex_digit (drop n digits) ≡ list_all is_hex_digit digits
all_but_front n digits e = sym (all_after n digits ∙ ap (λ b. b && list_all is_hex_digit (drop n digits)) e)

pub not_all : (n : ℕ) (digits : List ℕ) → list_all is_hex_digit (take n digits) ≡ false → list_all is_hex_digit digits ≡ false
not_all n digits e = all_after n digits ∙ ap (λ b. b && list_all is_hex_digit (drop n digits)) e
