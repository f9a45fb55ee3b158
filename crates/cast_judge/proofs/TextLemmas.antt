-- How the verdict on a text goes on as more of it is read.
use Rattle.std.proofs.Common.{◌≡◌, ℕ, ◌+◌, ◌^◌, ◌<◌, ◌≤◌, ◌&&◌, true, false, cond, nat_eq, List, [], ◌∷◌, ◌++◌, append-nil, length, length-append, decimal, codes, Option, Some, None, Ok, Err, refl, sym, ap, subst, ◌∙◌, arith}
use Rattle.std.specs.List.{slice_split, onto_first}
use Rattle.std.proofs.lemmas.Fmt.{length-decimal-le}
use Rattle.std.proofs.lemmas.List.Elements.{All-head, All-tail, All-append}
use Rattle.std.proofs.lemmas.List.Splits.{slice_split_at, slice_split_none, slice_split-cons_no}
use Rattle.std.proofs.lemmas.Bool.Decides.{nat_tests}
use Rattle.cast_message.proofs.Booleans.{and_false}
use Rattle.cast_message.specs.declared.message.Item.{Item}
use Rattle.cast_message.specs.declared.message.Item.TheVariants.{Data, Propose, Close}
use Rattle.cast_message.specs.declared.message.Message.{Message}
use Rattle.cast_message.specs.declared.config.Mode.TheVariants.{Basic, Uniform}
use Rattle.cast_record.specs.declared.line.Line.{Line}
use Rattle.cast_record.specs.declared.line.Line.TheVariants.{Head, Head2, Broadcast, Delivered, Decided, Crashed, Refused, End}
use Rattle.cast_record.specs.declared.verdict.Verdict.TheVariants.{Good, Bad}
use Rattle.cast_record.specs.Text.{item_word, line_text}
use Rattle.cast_record.specs.Ranges.{IsItemWithin, IsMessageWithin, IsWithin}
use Rattle.cast_record.specs.Reading.{line_of}
use Rattle.cast_record.specs.Rules.{is_ended, broken}
use Rattle.cast_record.specs.Verdicts.{with_line, verdict_at_end, verdict_after}
use Rattle.cast_record.proofs.PartLemmas.{has_first}
use Rattle.cast_record.proofs.VerdictLemmas.{goes_by, offends_by}
use Rattle.cast_record.proofs.UnhexLemmas.{length-hex}
use Rattle.cast_record.proofs.ReadLemmas.{line_takes_text}
use Rattle.cast_judge.specs.FitLines.{HasNone}
use Rattle.cast_judge.specs.Judged.{verdict_of}

abbrev feeds : List ℕ → List (List ℕ)
feeds bytes = slice_split (λ b. nat_eq b 10) bytes

-- ---- a whole line

cut_line : (line more : List ℕ) → HasNone 10 line → feeds (line ++ 10 ∷ more) ≡ line ∷ feeds more
cut_line line more clean = slice_split_at (λ b. nat_eq b 10) line 10 more clean refl

pub line_goes : (past lines : List Line) (line more : List ℕ) → HasNone 10 line → with_line past (line_of line) ≡ Ok lines → verdict_of past (line ++ 10 ∷ more) ≡ verdict_of lines more
line_goes past lines line more clean e =
    let first = has_first (λ b. nat_eq b 10) more in
    ap (verdict_after past) (cut_line line more clean ∙ ap (λ parts. line ∷ parts) first.2)
    ∙ goes_by past lines line first.0 first.1 e ∙ sym (ap (verdict_after lines) first.2)

pub line_offends : (past : List Line) (rule : ℕ) (line more : List ℕ) → HasNone 10 line → with_line past (line_of line) ≡ Err rule → verdict_of past (line ++ 10 ∷ more) ≡ Bad (length past + 1) rule
line_offends past rule line more clean e =
    let first = has_first (λ b. nat_eq b 10) more in
    ap (verdict_after past) (cut_line line more clean ∙ ap (λ parts. line ∷ parts) first.2)
    ∙ offends_by past rule line first.0 first.1 e

-- ---- the end of the text

pub at_end : (past : List Line) (tail : List ℕ) → HasNone 10 tail → verdict_of past tail ≡ verdict_at_end past tail
unfolding verdict_after
at_end past tail clean = ap (verdict_after past) (slice_split_none (λ b. nat_eq b 10) tail clean)

-- ---- a front that offends, whatever follows

-- what follows goes on with the unfinished line
front_goes_on : (front more part : List ℕ) (parts : List (List ℕ)) → HasNone 10 front → feeds more ≡ part ∷ parts → feeds (front ++ more) ≡ (front ++ part) ∷ parts
front_goes_on [] more part parts clean e = e
front_goes_on (b ∷ bs) more part parts clean e =
    slice_split-cons_no (λ b. nat_eq b 10) b (bs ++ more) (All-head (λ b. nat_eq b 10 ≡ false) b bs clean)
    ∙ ap (onto_first b) (front_goes_on bs more part parts (All-tail (λ b. nat_eq b 10 ≡ false) b bs clean) e)

not_empty : (bytes more : List ℕ) → 0 < length bytes → nat_eq (length (bytes ++ more)) 0 ≡ false
not_empty bytes more some = let some_in_all : 0 < length (bytes ++ more) = omega (arith, length-append bytes more) in grind (arith, nat_tests)

bad_at_end : (past : List Line) (bytes : List ℕ) → nat_eq (length bytes) 0 ≡ false → verdict_after past (bytes ∷ []) ≡ Bad (length past + 1) 0
unfolding verdict_after
bad_at_end past bytes e = ap (λ b. cond (is_ended past && b) Good (Bad (length past + 1) 0)) e ∙ ap (λ b. cond b Good (Bad (length past + 1) 0)) (and_false (is_ended past))

pub front_offends : (past : List Line) (front more : List ℕ) → HasNone 10 front → 0 < length front → ((rest : List ℕ) → with_line past (line_of (front ++ rest)) ≡ Err 0) → verdict_of past (front ++ more) ≡ Bad (length past + 1) 0
front_offends past front more clean some never =
    let first = has_first (λ b. nat_eq b 10) more in
    ap (verdict_after past) (front_goes_on front more first.0 first.1 clean first.2) ∙ go first.0 first.1
  where
    go : (part : List ℕ) (parts : List (List ℕ)) → verdict_after past ((front ++ part) ∷ parts) ≡ Bad (length past + 1) 0
    go part [] = bad_at_end past (front ++ part) (not_empty front part some)
    go part (next ∷ parts) = offends_by past 0 (front ++ part) next parts (never part)

-- after the end every line is out of place
ended_line : (past : List Line) (o : Option Line) → is_ended past ≡ true → with_line past o ≡ Err 0
unfolding broken
ended_line [] o e = absurd (cc)
ended_line (last ∷ past) None e = refl
ended_line (last ∷ past) (Some line) e = rw e refl

pub ended_offends : (past : List Line) (front more : List ℕ) → HasNone 10 front → 0 < length front → is_ended past ≡ true → verdict_of past (front ++ more) ≡ Bad (length past + 1) 0
ended_offends past front more clean some e = front_offends past front more clean some (λ rest. ended_line past (line_of (front ++ rest)) e)

-- ---- no line is long

decimal_short : (n : ℕ) → n < 2 ^ 64 → length (decimal n) ≤ 20
decimal_short n fits = length-decimal-le 20 n (omega arith) (omega arith) fits

item_short : (i : Item) → IsItemWithin i → length (item_word i) ≤ 2053
item_short (Data payload) h = omega (arith, length-hex payload, h.1)
item_short (Propose j v) h =
    let a = decimal_short j h.0 in let b = decimal_short v h.1 in
    omega (arith, a, b, length-append (codes "prop:" ++ decimal j ++ codes ":") (decimal v), length-append (codes "prop:" ++ decimal j) (codes ":"), length-append (codes "prop:") (decimal j))
item_short Close h = omega arith

-- a word before others
joined : (w : List ℕ) (rest : List ℕ) → length (w ++ 32 ∷ rest) ≡ length w + length rest + 1
joined w rest = omega (arith, length-append w (32 ∷ rest))

message_short : (m : Message) → IsMessageWithin m → length (decimal m.sender ++ 32 ∷ (decimal m.number ++ 32 ∷ item_word m.item)) ≤ 2095
message_short m h =
    let a = decimal_short m.sender (omega (arith, h.0)) in let b = decimal_short m.number h.1 in let c = item_short m.item h.2 in
    omega (arith, a, b, c, joined (decimal m.sender) (decimal m.number ++ 32 ∷ item_word m.item), joined (decimal m.number) (item_word m.item))

three_short : (n f k : ℕ) (rest : List ℕ) → n < 2 ^ 64 → f < 2 ^ 64 → k < 2 ^ 64 → length rest ≤ 100 → length (decimal n ++ 32 ∷ (decimal f ++ 32 ∷ (decimal k ++ rest))) ≤ 200
three_short n f k rest a b c r =
    let x = decimal_short n a in let y = decimal_short f b in let z = decimal_short k c in
    omega (arith, x, y, z, joined (decimal n) (decimal f ++ 32 ∷ (decimal k ++ rest)), joined (decimal f) (decimal k ++ rest), length-append (decimal k) rest)

line_short : (l : Line) → IsWithin l → length (line_text l) ≤ 4096
line_short (Head n f k) h =
    let some = three_short n f k [] (omega (arith, h.1)) (omega (arith, h.1, h.2)) (omega (arith, h.1, h.4)) (omega arith) in
    let same : decimal k ++ [] ≡ decimal k = append-nil (decimal k) in
    let all : length (decimal n ++ 32 ∷ (decimal f ++ 32 ∷ decimal k)) ≤ 200 = subst (λ w. length (decimal n ++ 32 ∷ (decimal f ++ 32 ∷ w)) ≤ 200) same some in
    omega (arith, all)
line_short (Head2 n f k Basic) h = let some = three_short n f k (32 ∷ codes "basic") (omega (arith, h.0.1)) (omega (arith, h.0.1, h.0.2)) (omega (arith, h.0.1, h.0.4)) (omega arith) in omega (arith, some)
line_short (Head2 n f k Uniform) h = let some = three_short n f k (32 ∷ codes "uniform") (omega (arith, h.0.1)) (omega (arith, h.0.1, h.0.2)) (omega (arith, h.0.1, h.0.4)) (omega arith) in omega (arith, some)
line_short (Broadcast m) h = let some = message_short m h in omega (arith, some)
line_short (Delivered q m) h =
    let some = message_short m h.1 in let a = decimal_short q (omega (arith, h.0)) in
    omega (arith, some, a, joined (decimal q) (decimal m.sender ++ 32 ∷ (decimal m.number ++ 32 ∷ item_word m.item)))
line_short (Decided q d) h =
    let some = three_short q d.instance d.value [] (omega (arith, h.0)) h.1 h.2 (omega arith) in
    let all : length (decimal q ++ 32 ∷ (decimal d.instance ++ 32 ∷ decimal d.value)) ≤ 200 = subst (λ w. length (decimal q ++ 32 ∷ (decimal d.instance ++ 32 ∷ w)) ≤ 200) (append-nil (decimal d.value)) some in
    omega (arith, all)
line_short (Crashed q) h = let a = decimal_short q (omega (arith, h)) in omega (arith, a)
line_short (Refused i c) h = let a = decimal_short i h.0 in let b = decimal_short c (omega (arith, h.2)) in omega (arith, a, b, joined (decimal i) (decimal c))
line_short End h = omega arith

long_line : (past : List Line) (bytes : List ℕ) (o : Option Line) → line_of bytes ≡ o → 4096 < length bytes → with_line past o ≡ Err 0
long_line past bytes None e long = refl
long_line past bytes (Some line) e long =
    let read = line_takes_text bytes line e in
    let short = line_short line read.0 in
    absurd (omega (arith, short, ap length read.1))

pub long_offends : (past : List Line) (front more : List ℕ) → HasNone 10 front → 4096 < length front → verdict_of past (front ++ more) ≡ Bad (length past + 1) 0
long_offends past front more clean long =
    front_offends past front more clean (omega arith) (λ rest. long_line past (front ++ rest) (line_of (front ++ rest)) refl (omega (arith, length-append front rest)))

pub clean_both : (front more : List ℕ) → HasNone 10 front → HasNone 10 more → HasNone 10 (front ++ more)
clean_both front more a b = All-append (λ b. nat_eq b 10 ≡ false) front more a b
