-- The verdict does not tell the two heads apart.
use Rattle.std.proofs.Common.{◌≡◌, ℕ, ◌+◌, ◌≤◌, ◌&&◌, ◌||◌, not, Bool, true, false, cond, nat_eq, nat_lt, List, [], ◌∷◌, ◌++◌, append_assoc, length, length-append, get_or, decimal, codes, Option, Some, None, option_and_then, is_some, refl, sym, ap, subst, ◌∙◌, arith}
use Rattle.std.specs.Prelude.{Result, Ok, Err, IfOk, IsErrAnd, MatchResult}
use Rattle.std.specs.Global.{Vec}
use Rattle.std.specs.List.{slice_split, list_any, filter, cons_option, join_with_byte}
use Rattle.std.specs.Str.{bytes_eq}
use Rattle.std.proofs.lemmas.List.Splits.{slice_split_at, join_with_byte-slice_split}
use Rattle.cast_message.specs.declared.config.Mode.TheVariants.{Basic}
use Rattle.cast_message.specs.declared.message.Item.{Item}
use Rattle.cast_message.specs.declared.message.Item.TheVariants.{Data, Propose, Close}
use Rattle.cast_message.specs.declared.message.Message.{Message}
use Rattle.cast_message.specs.declared.message.Decision.{Decision}
use Rattle.cast_message.specs.Items.{is_close, proposes_in}
use Rattle.cast_record.specs.declared.line.Line.{Line}
use Rattle.cast_record.specs.declared.line.Line.TheVariants.{Head, Head2, Broadcast, Delivered, Decided, Crashed, Refused, End}
use Rattle.cast_record.specs.declared.verdict.Verdict.TheVariants.{Good, Bad}
use Rattle.cast_record.specs.declared.migration.MigrateFault.{MigrateFault}
use Rattle.cast_record.specs.declared.migration.MigrateFault.TheVariants.{Memory}
use Rattle.cast_record.specs.Migration.{IsHeadIn, IsNoHead, IsMigrated, HasHead, HasNoHead, Migrates, new_text}
use Rattle.cast_record.specs.Ranges.{IsWithin}
use Rattle.cast_record.specs.Reading as read
use Rattle.cast_record.specs.Reading.{line_of}
use Rattle.cast_record.specs.Rules as said
use Rattle.cast_record.specs.Text.{line_words, line_text}
use Rattle.cast_record.specs.Verdicts.{with_line, kept_by, verdict_at_end, verdict_after, verdict}
use Rattle.cast_record.proofs.PartLemmas.{has_first}
use Rattle.cast_record.proofs.VerdictLemmas.{least_of, goes_by, offends_by}
use Rattle.cast_record.proofs.ReadLemmas.{head_takes, text_same, line_again, line_takes_text}
use Rattle.cast_record.proofs.WordLemmas.{split_line, line_without_feed}

-- ---- after either head the rules say the same

abbrev under : ℕ → ℕ → ℕ → List Line → List Line
under n f k lines = lines ++ Head n f k ∷ []

abbrev renewed : ℕ → ℕ → ℕ → List Line → List Line
renewed n f k lines = lines ++ Head2 n f k Basic ∷ []

any_same : (p : Line → Bool) (a b : Line) (xs : List Line) → p a ≡ p b → list_any p (xs ++ a ∷ []) ≡ list_any p (xs ++ b ∷ [])
any_same p a b [] e = ap (λ c. c || false) e
any_same p a b (x ∷ xs) e = ap (λ c. p x || c) (any_same p a b xs e)

more_same : (c : Bool) (x : Line) (xs ys : List Line) → length xs ≡ length ys → length (cond c (x ∷ xs) xs) ≡ length (cond c (x ∷ ys) ys)
more_same true x xs ys e = omega (arith, e)
more_same false x xs ys e = e

count_same : (p : Line → Bool) (a b : Line) (xs : List Line) → p a ≡ false → p b ≡ false → length (filter p (xs ++ a ∷ [])) ≡ length (filter p (xs ++ b ∷ []))
count_same p a b [] e f = ap (λ c. length (cond c (a ∷ []) [])) e ∙ sym (ap (λ c. length (cond c (b ∷ []) [])) f)
count_same p a b (x ∷ xs) e f = more_same (p x) x (filter p (xs ++ a ∷ [])) (filter p (xs ++ b ∷ [])) (count_same p a b xs e f)

group_same : (n f k : ℕ) (xs : List Line) → said.group_of (under n f k xs) ≡ said.group_of (renewed n f k xs)
unfolding said.group_of
group_same n f k [] = refl
group_same n f k (x ∷ xs) = ap (said.group_at x) (group_same n f k xs)

values_same : (n f k j : ℕ) (xs : List Line) → said.values_in (under n f k xs) j ≡ said.values_in (renewed n f k xs) j
unfolding said.values_in
values_same n f k j [] = refl
values_same n f k j (x ∷ xs) = ap (λ vs. cons_option (said.value_in j x) vs) (values_same n f k j xs)

module _ (n f k : ℕ) (xs : List Line) where
  broadcasts_same : (p : ℕ) → said.broadcasts_of (under n f k xs) p ≡ said.broadcasts_of (renewed n f k xs) p
  unfolding said.broadcasts_of
  broadcasts_same p = count_same (said.is_broadcast (λ m. nat_eq m.sender p)) (Head n f k) (Head2 n f k Basic) xs refl refl

  deliveries_same : (q s : ℕ) → said.deliveries_of (under n f k xs) q s ≡ said.deliveries_of (renewed n f k xs) q s
  unfolding said.deliveries_of
  deliveries_same q s = count_same (said.is_delivery q s) (Head n f k) (Head2 n f k Basic) xs refl refl

  has_broadcast_same : (m : Message) → said.has_broadcast (under n f k xs) m ≡ said.has_broadcast (renewed n f k xs) m
  unfolding said.has_broadcast
  has_broadcast_same m = any_same (said.is_broadcast (λ other. said.is_message other m)) (Head n f k) (Head2 n f k Basic) xs refl

  closed_same : (p : ℕ) → said.has_closed (under n f k xs) p ≡ said.has_closed (renewed n f k xs) p
  unfolding said.has_closed
  closed_same p = any_same (said.is_broadcast (λ m. nat_eq m.sender p && is_close m.item)) (Head n f k) (Head2 n f k Basic) xs refl

  proposed_same : (p j : ℕ) → said.has_proposed (under n f k xs) p j ≡ said.has_proposed (renewed n f k xs) p j
  unfolding said.has_proposed
  proposed_same p j = any_same (said.is_broadcast (λ m. nat_eq m.sender p && proposes_in j m.item)) (Head n f k) (Head2 n f k Basic) xs refl

  is_proposed_same : (j w : ℕ) → said.is_proposed (under n f k xs) j w ≡ said.is_proposed (renewed n f k xs) j w
  unfolding said.is_proposed
  is_proposed_same j w = any_same (said.is_broadcast (λ m. said.proposes j w m.item)) (Head n f k) (Head2 n f k Basic) xs refl

  crashed_same : (p : ℕ) → said.has_crashed (under n f k xs) p ≡ said.has_crashed (renewed n f k xs) p
  unfolding said.has_crashed
  crashed_same p = any_same (said.is_crash p) (Head n f k) (Head2 n f k Basic) xs refl

  many_same : (q : ℕ) (d : Decision) → said.is_of_too_many (under n f k xs) (Decided q d) ≡ said.is_of_too_many (renewed n f k xs) (Decided q d)
  many_same q d = λ i. nat_lt (group_same n f k xs i).faults (group_same n f k xs i).choices && nat_lt (group_same n f k xs i).choices (length (said.different (d.value ∷ values_same n f k d.instance xs i)))

  second_same : (p : ℕ) (item : Item) → said.is_second_proposal (under n f k xs) p item ≡ said.is_second_proposal (renewed n f k xs) p item
  second_same p (Data payload) = refl
  second_same p (Propose j w) = proposed_same p j
  second_same p Close = refl

place_same : (n f k : ℕ) (xs : List Line) (line : Line) → said.is_out_of_place (under n f k xs) line ≡ said.is_out_of_place (renewed n f k xs) line
place_same n f k [] line = ap (λ (g : said.Group). false || said.is_head line || not (said.names_below g.nodes line)) (group_same n f k [])
place_same n f k (x ∷ xs) line = ap (λ (g : said.Group). said.is_end x || said.is_head line || not (said.names_below g.nodes line)) (group_same n f k (x ∷ xs))

broken_same : (n f k : ℕ) (xs : List Line) (line : Line) → said.broken (under n f k xs) line ≡ said.broken (renewed n f k xs) line
unfolding said.broken
broken_same n f k xs (Head a b c) = λ i. least_of (place_same n f k xs (Head a b c) i) false false false false false false
broken_same n f k xs (Head2 a b c d) = λ i. least_of (place_same n f k xs (Head2 a b c d) i) false false false false false false
broken_same n f k xs (Broadcast m) = λ i. least_of (place_same n f k xs (Broadcast m) i) (not (nat_eq m.number (broadcasts_same n f k xs m.sender i))) (closed_same n f k xs m.sender i) false false (crashed_same n f k xs m.sender i) (second_same n f k xs m.sender m.item i)
broken_same n f k xs (Delivered q m) = λ i. least_of (place_same n f k xs (Delivered q m) i) (not (nat_eq m.number (deliveries_same n f k xs q m.sender i)) || not (has_broadcast_same n f k xs m i)) false false false (crashed_same n f k xs q i) false
broken_same n f k xs (Decided q d) = λ i. least_of (place_same n f k xs (Decided q d) i) false false (not (is_proposed_same n f k xs d.instance d.value i)) (many_same n f k xs q d i) (crashed_same n f k xs q i) false
broken_same n f k xs (Crashed q) = λ i. least_of (place_same n f k xs (Crashed q) i) false false false false (crashed_same n f k xs q i) false
broken_same n f k xs (Refused a b) = λ i. least_of (place_same n f k xs (Refused a b) i) false false false false false false
broken_same n f k xs End = λ i. least_of (place_same n f k xs End i) false false false false false false

length_same : (n f k : ℕ) (xs : List Line) → length (under n f k xs) ≡ length (renewed n f k xs)
length_same n f k xs = length-append xs (Head n f k ∷ []) ∙ sym (length-append xs (Head2 n f k Basic ∷ []))

ended_same : (n f k : ℕ) (xs : List Line) → said.is_ended (under n f k xs) ≡ said.is_ended (renewed n f k xs)
ended_same n f k [] = refl
ended_same n f k (x ∷ xs) = refl

end_same : (n f k : ℕ) (xs : List Line) (rest : List ℕ) → verdict_at_end (under n f k xs) rest ≡ verdict_at_end (renewed n f k xs) rest
end_same n f k xs rest = λ i. cond (ended_same n f k xs i && nat_eq (length rest) 0) Good (Bad (length_same n f k xs i + 1) 0)

abbrev GoesOn : ℕ → ℕ → ℕ → List Line → List (List ℕ) → Type 0
GoesOn n f k xs parts = (line : Line) → verdict_after (under n f k (line ∷ xs)) parts ≡ verdict_after (renewed n f k (line ∷ xs)) parts

by_rule : (n f k : ℕ) (xs : List Line) (bytes next : List ℕ) (parts : List (List ℕ)) → GoesOn n f k xs (next ∷ parts) → (line : Line) → line_of bytes ≡ Some line → (o : Option ℕ) → said.broken (under n f k xs) line ≡ o
    → verdict_after (under n f k xs) (bytes ∷ next ∷ parts) ≡ verdict_after (renewed n f k xs) (bytes ∷ next ∷ parts)
by_rule n f k xs bytes next parts goes line is None e =
    goes_by (under n f k xs) (line ∷ under n f k xs) bytes next parts (ap (with_line (under n f k xs)) is ∙ ap (kept_by (under n f k xs) line) e)
    ∙ goes line
    ∙ sym (goes_by (renewed n f k xs) (line ∷ renewed n f k xs) bytes next parts (ap (with_line (renewed n f k xs)) is ∙ ap (kept_by (renewed n f k xs) line) (sym (broken_same n f k xs line) ∙ e)))
by_rule n f k xs bytes next parts goes line is (Some rule) e =
    offends_by (under n f k xs) rule bytes next parts (ap (with_line (under n f k xs)) is ∙ ap (kept_by (under n f k xs) line) e)
    ∙ ap (λ m. Bad (m + 1) rule) (length_same n f k xs)
    ∙ sym (offends_by (renewed n f k xs) rule bytes next parts (ap (with_line (renewed n f k xs)) is ∙ ap (kept_by (renewed n f k xs) line) (sym (broken_same n f k xs line) ∙ e)))

by_line : (n f k : ℕ) (xs : List Line) (bytes next : List ℕ) (parts : List (List ℕ)) → GoesOn n f k xs (next ∷ parts) → (o : Option Line) → line_of bytes ≡ o
    → verdict_after (under n f k xs) (bytes ∷ next ∷ parts) ≡ verdict_after (renewed n f k xs) (bytes ∷ next ∷ parts)
by_line n f k xs bytes next parts goes None is =
    offends_by (under n f k xs) 0 bytes next parts (ap (with_line (under n f k xs)) is)
    ∙ ap (λ m. Bad (m + 1) 0) (length_same n f k xs)
    ∙ sym (offends_by (renewed n f k xs) 0 bytes next parts (ap (with_line (renewed n f k xs)) is))
by_line n f k xs bytes next parts goes (Some line) is = by_rule n f k xs bytes next parts goes line is (said.broken (under n f k xs) line) refl

pub verdict_same : (n f k : ℕ) (xs : List Line) (parts : List (List ℕ)) → verdict_after (under n f k xs) parts ≡ verdict_after (renewed n f k xs) parts
verdict_same n f k xs [] = unfold verdict_after in end_same n f k xs []
verdict_same n f k xs (rest ∷ []) = unfold verdict_after in end_same n f k xs rest
verdict_same n f k xs (bytes ∷ next ∷ parts) = by_line n f k xs bytes next parts (λ line. verdict_same n f k (line ∷ xs) (next ∷ parts)) (line_of bytes) refl

-- ---- the first line

first_kept : (head : Line) (rest : List ℕ) → IsWithin head → said.broken [] head ≡ None → verdict (line_text head ++ 10 ∷ rest) ≡ verdict_after (head ∷ []) (slice_split (λ b. nat_eq b 10) rest)
unfolding verdict
first_kept head rest within sound =
    let first = has_first (λ b. nat_eq b 10) rest in
    ap (verdict_after []) (slice_split_at (λ b. nat_eq b 10) (line_text head) 10 rest (line_without_feed head within) refl ∙ ap (λ parts. line_text head ∷ parts) first.2)
    ∙ goes_by [] (head ∷ []) (line_text head) first.0 first.1 (ap (with_line []) (line_again head within) ∙ ap (kept_by [] head) sound)
    ∙ sym (ap (verdict_after (head ∷ [])) first.2)

head_sound : (n f k : ℕ) → said.broken [] (Head n f k) ≡ None
unfolding said.broken
head_sound n f k = refl

head2_sound : (n f k : ℕ) → said.broken [] (Head2 n f k Basic) ≡ None
unfolding said.broken
head2_sound n f k = refl

new_within : (n f k : ℕ) → IsWithin (Head n f k) → IsWithin (Head2 n f k Basic)
new_within n f k h = ((h.0, wider n h.1, h.2, h.3, h.4), tt)
  where
    wider : (n : ℕ) → n ≤ 16 → n ≤ 64
    wider n small = omega arith

-- the verdict on a migrated text is that on the text before
migrated_verdict : (text new : List ℕ) → IsMigrated text new → verdict new ≡ verdict text
migrated_verdict text new h =
    ap verdict h.after ∙ first_kept (Head2 h.head.nodes h.head.faults h.head.choices Basic) h.head.rest (new_within h.head.nodes h.head.faults h.head.choices h.head.within) (head2_sound h.head.nodes h.head.faults h.head.choices)
    ∙ sym (verdict_same h.head.nodes h.head.faults h.head.choices [] (slice_split (λ b. nat_eq b 10) h.head.rest))
    ∙ sym (first_kept (Head h.head.nodes h.head.faults h.head.choices) h.head.rest h.head.within (head_sound h.head.nodes h.head.faults h.head.choices))
    ∙ sym (ap verdict h.head.same)

-- ---- the bytes

new_parts : (a b c rest : List ℕ) → codes "cast/2" ++ (32 ∷ (a ++ 32 ∷ (b ++ 32 ∷ c))) ++ codes " basic" ++ 10 ∷ rest ≡ join_with_byte 32 (codes "cast/2" ∷ a ∷ b ∷ c ∷ codes "basic" ∷ []) ++ 10 ∷ rest
new_parts a b c rest = simp append_assoc

-- the new head's bytes
pub new_head : (n f k : ℕ) (first rest : List ℕ) → line_text (Head n f k) ≡ first → new_text first rest ≡ line_text (Head2 n f k Basic) ++ 10 ∷ rest
new_head n f k first rest e = ap (λ bytes. new_text bytes rest) (sym e) ∙ new_parts (decimal n) (decimal f) (decimal k) rest

pub cut_text : (text first rest : List ℕ) → slice_split (λ b. nat_eq b 10) text ≡ first ∷ slice_split (λ b. nat_eq b 10) rest → text ≡ first ++ 10 ∷ rest
cut_text text first rest cut =
    let parts = has_first (λ b. nat_eq b 10) rest in
    sym (join_with_byte-slice_split 10 text) ∙ ap (join_with_byte 10) (cut ∙ ap (λ ps. first ∷ ps) parts.2)
    ∙ ap (λ bytes. first ++ 10 ∷ bytes) (ap (join_with_byte 10) (sym parts.2) ∙ join_with_byte-slice_split 10 rest)

has_head : (text first rest : List ℕ) → slice_split (λ b. nat_eq b 10) text ≡ first ∷ slice_split (λ b. nat_eq b 10) rest → IsHeadIn first → HasHead text
has_head text first rest cut h = record {
  nodes = h.nodes;
  faults = h.faults;
  choices = h.choices;
  rest = rest;
  within = h.within;
  same = cut_text text first rest cut ∙ ap (λ bytes. bytes ++ 10 ∷ rest) (sym h.same);
}

is_migrated : (text first rest new : List ℕ) → slice_split (λ b. nat_eq b 10) text ≡ first ∷ slice_split (λ b. nat_eq b 10) rest → IsHeadIn first → new ≡ new_text first rest → IsMigrated text new
unfolding has_head
is_migrated text first rest new cut h e = record { head = has_head text first rest cut h; after = e ∙ new_head h.nodes h.faults h.choices first rest h.same }

-- the new text, or want of memory
pub migrates_so : {E : Type 0} (P : E → MigrateFault → Type 0) (text first rest : List ℕ) (made : Result (Vec ℕ) E) (result : Result (Vec ℕ) MigrateFault) → slice_split (λ b. nat_eq b 10) text ≡ first ∷ slice_split (λ b. nat_eq b 10) rest → IsHeadIn first
    → ((e : E) (fault : MigrateFault) → P e fault → fault ≡ Memory) → IfOk made (λ new. new.items ≡ new_text first rest) → MatchResult made (λ new. result ≡ Ok new) (λ e. IsErrAnd result (P e)) → Migrates text result
migrates_so P text first rest (Ok new) result cut h only e is = subst (Migrates text) (sym is) (is_migrated text first rest new.items cut h e)
migrates_so P text first rest (Err error) (Ok new) cut h only e is = absurd is
migrates_so P text first rest (Err error) (Err fault) cut h only e is = subst (λ fault. Migrates text (Err fault)) (sym (only error fault is)) (has_head text first rest cut h)

pub same_verdict : (text : List ℕ) (result : Result (Vec ℕ) MigrateFault) → Migrates text result → IfOk result (λ new. verdict new.items ≡ verdict text)
same_verdict text (Ok new) h = migrated_verdict text new.items h
same_verdict text (Err fault) h = tt

pub long_enough : (first : List ℕ) → IsHeadIn first → 6 ≤ length first
long_enough first h = let e = ap length h.same in omega (arith, e)

-- the first part of a text that begins with a head is that head
pub first_part : (text first : List ℕ) (parts : List (List ℕ)) (n f k : ℕ) (rest : List ℕ) → slice_split (λ b. nat_eq b 10) text ≡ first ∷ parts → IsWithin (Head n f k) → text ≡ line_text (Head n f k) ++ 10 ∷ rest
    → (line_text (Head n f k) ≡ first) × (slice_split (λ b. nat_eq b 10) rest ≡ parts)
first_part text first parts n f k rest cut within is =
    let both = sym (slice_split_at (λ b. nat_eq b 10) (line_text (Head n f k)) 10 rest (line_without_feed (Head n f k) within) refl) ∙ ap (slice_split (λ b. nat_eq b 10)) (sym is) ∙ cut in
    (cc (both), cc (both))

pub no_feed : (text first : List ℕ) → slice_split (λ b. nat_eq b 10) text ≡ first ∷ [] → HasNoHead text
no_feed text first cut = λ n f k rest within is.
    let both = first_part text first [] n f k rest cut within is in
    let parts = has_first (λ b. nat_eq b 10) rest in
    absurd (cc (both.1, parts.2))

pub other_head : (text first : List ℕ) (parts : List (List ℕ)) → slice_split (λ b. nat_eq b 10) text ≡ first ∷ parts → IsNoHead first → HasNoHead text
other_head text first parts cut none = λ n f k rest within is. none (record { nodes = n; faults = f; choices = k; within = within; same = (first_part text first parts n f k rest cut within is).0 })

-- ---- whether the bytes are a head

-- where the first word names it, the bytes are read as a head
line_by_head : (bytes name rest : List ℕ) → slice_split (λ b. nat_eq b 32) bytes ≡ name ∷ slice_split (λ b. nat_eq b 32) rest → bytes_eq name (codes "cast/1") ≡ true
    → line_of bytes ≡ option_and_then read.head_by (read.three_of (slice_split (λ b. nat_eq b 32) rest))
unfolding line_of
line_by_head bytes name rest cut test =
    let first = has_first (λ b. nat_eq b 32) rest in
    let is : name ≡ codes "cast/1" = text_same name (codes "cast/1") test in
    ap read.line_of_words (cut ∙ ap (λ ws. name ∷ ws) first.2) ∙ ap (λ w. read.line_named w (first.0 ∷ first.1)) is ∙ ap (λ ws. option_and_then read.head_by (read.three_of ws)) (sym first.2)

-- the sixth byte of the first word tells the heads
abbrev sixth : List (List ℕ) → ℕ
sixth [] = 0
sixth (word ∷ words) = get_or word 5 0

named_head : (line : Line) (words : List (List ℕ)) → line_words line ≡ codes "cast/1" ∷ words → (n : ℕ) × (f : ℕ) × (k : ℕ) × (line ≡ Head n f k)
named_head (Head n f k) words e = (n, f, k, refl)
named_head (Head2 n f k mode) words e = absurd (omega (arith, ap sixth e))
named_head (Broadcast m) words e = absurd (omega (arith, ap sixth e))
named_head (Delivered q m) words e = absurd (omega (arith, ap sixth e))
named_head (Decided q d) words e = absurd (omega (arith, ap sixth e))
named_head (Crashed q) words e = absurd (omega (arith, ap sixth e))
named_head (Refused i c) words e = absurd (omega (arith, ap sixth e))
named_head End words e = absurd (omega (arith, ap sixth e))

found_head : (bytes : List ℕ) (words : read.Words) (o : Option Line) → o ≡ option_and_then read.head_by (read.three_of words) → line_of bytes ≡ o → is_some o ≡ true → IsHeadIn bytes
found_head bytes words None e f g = absurd (cc)
found_head bytes words (Some line) e f g =
    let taken = head_takes words line (sym e) in
    let head = named_head line words taken.same in
    let both = line_takes_text bytes (Head head.0 head.1 head.2) (f ∙ ap Some head.3) in
    record { nodes = head.0; faults = head.1; choices = head.2; within = both.0; same = both.1 }

pub head_found : (bytes name rest : List ℕ) (o : Option Line) → slice_split (λ b. nat_eq b 32) bytes ≡ name ∷ slice_split (λ b. nat_eq b 32) rest → bytes_eq name (codes "cast/1") ≡ true
    → o ≡ option_and_then read.head_by (read.three_of (slice_split (λ b. nat_eq b 32) rest)) → is_some o ≡ true → IsHeadIn bytes
head_found bytes name rest o cut test e some = found_head bytes (slice_split (λ b. nat_eq b 32) rest) o e (line_by_head bytes name rest cut test ∙ sym e) some

pub head_missed : (bytes name rest : List ℕ) (o : Option Line) → slice_split (λ b. nat_eq b 32) bytes ≡ name ∷ slice_split (λ b. nat_eq b 32) rest → bytes_eq name (codes "cast/1") ≡ true
    → o ≡ option_and_then read.head_by (read.three_of (slice_split (λ b. nat_eq b 32) rest)) → is_some o ≡ false → IsNoHead bytes
head_missed bytes name rest o cut test e none = λ h.
    let found = line_again (Head h.nodes h.faults h.choices) h.within in
    let is : o ≡ Some (Head h.nodes h.faults h.choices) = e ∙ sym (line_by_head bytes name rest cut test) ∙ ap line_of (sym h.same) ∙ found in
    let yes : is_some o ≡ true = ap is_some is in
    absurd (cc (yes, none))

head_words : (bytes : List ℕ) (words : List (List ℕ)) → slice_split (λ b. nat_eq b 32) bytes ≡ words → (h : IsHeadIn bytes) → codes "cast/1" ∷ decimal h.nodes ∷ decimal h.faults ∷ decimal h.choices ∷ [] ≡ words
head_words bytes words cut h = sym (split_line (Head h.nodes h.faults h.choices) h.within) ∙ ap (slice_split (λ b. nat_eq b 32)) h.same ∙ cut

pub one_word : (bytes name : List ℕ) → slice_split (λ b. nat_eq b 32) bytes ≡ name ∷ [] → IsNoHead bytes
one_word bytes name cut = λ h. let row = head_words bytes (name ∷ []) cut h in absurd (cc (row))
