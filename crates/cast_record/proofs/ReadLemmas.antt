-- What is written is read again, and what is read was written so.
use Rattle.std.proofs.Common.{◌≡◌, ℕ, ◌*◌, ◌^◌, ◌<◌, ◌≤◌, ◌||◌, Bool, true, false, List, [], ◌∷◌, ◌++◌, length, take, drop, decimal, codes, refl, sym, ap, subst, ◌∙◌, arith, nat_eq, nat_lt, cond, Option, Some, None, option_map, option_and_then, append_assoc}
use Rattle.std.specs.List.{join_with_byte, slice_split}
use Rattle.std.specs.Str.{bytes_eq}
use Rattle.std.proofs.lemmas.List.{take-append-drop}
use Rattle.std.proofs.lemmas.List.Splits.{join_with_byte-slice_split}
use Rattle.std.proofs.lemmas.Slice.Eq.{bytes_eq-Decides}
use Rattle.std.proofs.lemmas.Bool.Decides.{nat_tests}
use Rattle.cast_message.specs.declared.config.Mode.{Mode}
use Rattle.cast_message.specs.declared.config.Mode.TheVariants.{Basic, Uniform}
use Rattle.cast_message.specs.declared.message.Item.{Item}
use Rattle.cast_message.specs.declared.message.Item.TheVariants.{Data, Propose, Close}
use Rattle.cast_message.specs.declared.message.Message.{Message}
use Rattle.cast_message.specs.declared.message.Decision.{Decision}
use Rattle.cast_record.specs.declared.line.Line.{Line}
use Rattle.cast_record.specs.declared.line.Line.TheVariants.{Head, Head2, Broadcast, Delivered, Decided, Crashed, Refused, End}
use Rattle.cast_record.specs.Hex.{hex}
use Rattle.cast_record.specs.Modes.{mode_word, mode_named}
use Rattle.cast_record.specs.Text.{item_word, message_words, line_words, line_text}
use Rattle.cast_record.specs.Hex.{AreBytes}
use Rattle.cast_record.specs.Ranges.{IsItemWithin, IsMessageWithin, IsGroupWithin, IsModeWithin, IsWithin}
use Rattle.cast_message.specs.Items.{byte_sized}
use Rattle.cast_record.specs.Nodes.{node_of}
use Rattle.cast_record.specs.Numbers.{number_of}
use Rattle.cast_record.specs.Unhex.{unhex}
use Rattle.cast_record.specs.Reading as read
use Rattle.cast_record.specs.Reading.{IsReadOf}
use Rattle.cast_record.proofs.NumberLemmas.{number_again, number_takes}
use Rattle.cast_record.proofs.UnhexLemmas.{unhex_again, unhex_takes, length-hex}
use Rattle.cast_record.proofs.PartLemmas.{has_first}
use Rattle.cast_record.proofs.WordLemmas.{split_join, decimal_without_colon, split_line}

-- ---- what came of two in turn

pub record Both {A B : Type 0} (o : Option A) (f : A → Option B) (y : B) : Type 0 where
  pub first : A
  pub was : o ≡ Some first
  pub next : f first ≡ Some y

pub both : {A B : Type 0} (o : Option A) (f : A → Option B) (y : B) → option_and_then f o ≡ Some y → Both o f y
both None f y e = absurd (cc)
both (Some x) f y e = record { first = x; was = refl; next = e }

pub record Mapped {A B : Type 0} (o : Option A) (f : A → B) (y : B) : Type 0 where
  pub first : A
  pub was : o ≡ Some first
  pub is : f first ≡ y

pub mapped : {A B : Type 0} (o : Option A) (f : A → B) (y : B) → option_map f o ≡ Some y → Mapped o f y
mapped None f y e = absurd (cc)
mapped (Some x) f y e = record { first = x; was = refl; is = cc }

pub text_same : (xs ys : List ℕ) → bytes_eq xs ys ≡ true → xs ≡ ys
text_same xs ys e = (bytes_eq-Decides xs ys).0 e

-- ---- exactly so many words

one_takes : (ws : read.Words) (a : List ℕ) → read.one_of ws ≡ Some a → ws ≡ a ∷ []
one_takes [] a e = absurd (cc)
one_takes (x ∷ []) a e = cc
one_takes (x ∷ y ∷ ws) a e = absurd (cc)

two_takes : (ws : read.Words) (t : List ℕ × List ℕ) → read.two_of ws ≡ Some t → ws ≡ t.0 ∷ t.1 ∷ []
two_takes [] t e = absurd (cc)
two_takes (x ∷ []) t e = absurd (cc)
two_takes (x ∷ y ∷ []) t e = let same : (x, y) ≡ t = cc in ap (λ (s : List ℕ × List ℕ). s.0 ∷ s.1 ∷ []) same
two_takes (x ∷ y ∷ z ∷ ws) t e = absurd (cc)

three_takes : (ws : read.Words) (t : List ℕ × List ℕ × List ℕ) → read.three_of ws ≡ Some t → ws ≡ t.0 ∷ t.1 ∷ t.2 ∷ []
three_takes [] t e = absurd (cc)
three_takes (x ∷ []) t e = absurd (cc)
three_takes (x ∷ y ∷ []) t e = absurd (cc)
three_takes (x ∷ y ∷ z ∷ []) t e = let same : (x, y, z) ≡ t = cc in ap (λ (s : List ℕ × List ℕ × List ℕ). s.0 ∷ s.1 ∷ s.2 ∷ []) same
three_takes (x ∷ y ∷ z ∷ u ∷ ws) t e = absurd (cc)

four_takes : (ws : read.Words) (t : List ℕ × List ℕ × List ℕ × List ℕ) → read.four_of ws ≡ Some t → ws ≡ t.0 ∷ t.1 ∷ t.2 ∷ t.3 ∷ []
four_takes [] t e = absurd (cc)
four_takes (x ∷ []) t e = absurd (cc)
four_takes (x ∷ y ∷ []) t e = absurd (cc)
four_takes (x ∷ y ∷ z ∷ []) t e = absurd (cc)
four_takes (x ∷ y ∷ z ∷ u ∷ []) t e = let same : (x, y, z, u) ≡ t = cc in ap (λ (s : List ℕ × List ℕ × List ℕ × List ℕ). s.0 ∷ s.1 ∷ s.2 ∷ s.3 ∷ []) same
four_takes (x ∷ y ∷ z ∷ u ∷ v ∷ ws) t e = absurd (cc)

-- ---- numbers of nodes

node_again : (n : ℕ) → n < 256 → node_of (decimal n) ≡ Some n
node_again n small =
    let number = number_again n (omega arith) in
    let sized : byte_sized n ≡ Some n = grind (arith, nat_tests) in
    rw number sized

sized_takes : (m n : ℕ) → byte_sized m ≡ Some n → (m ≡ n) × (n < 256)
sized_takes m n e = grind (arith, nat_tests)

node_takes : (w : List ℕ) (n : ℕ) → node_of w ≡ Some n → (decimal n ≡ w) × (n < 256)
node_takes w n e =
    let parts = both (number_of w) byte_sized n e in
    let sized = sized_takes parts.first n parts.next in
    (ap decimal (sym sized.0) ∙ sym (number_takes w parts.first parts.was).0, sized.1)

-- ---- items

-- a word spells an item
pub record IsItemIn (word : List ℕ) (item : Item) : Type 0 where
  pub same : item_word item ≡ word
  pub within : IsItemWithin item

data_again : (payload : List ℕ) → AreBytes payload → length payload ≤ 1024 → read.data_of (hex payload) ≡ Some (Data payload)
data_again payload small short =
    let room : nat_lt 2048 (length (hex payload)) ≡ false = grind (arith, nat_tests, length-hex payload) in
    rw (room, unhex_again payload small) refl

data_takes : (digits : List ℕ) (item : Item) → read.data_of digits ≡ Some item → IsItemIn (codes "data:" ++ digits) item
data_takes digits item e = go (nat_lt 2048 (length digits)) refl e
  where
    found : (bytes : List ℕ) → unhex digits ≡ Some bytes → length digits ≤ 2048 → IsItemIn (codes "data:" ++ digits) (Data bytes)
    found bytes was short =
        let hexed = unhex_takes digits bytes was in
        let twice : 2 * length bytes ≡ length digits = sym (length-hex bytes) ∙ ap length hexed.same in
        record { same = ap (λ ds. codes "data:" ++ ds) hexed.same; within = (hexed.small, omega arith) }

    go : (b : Bool) → nat_lt 2048 (length digits) ≡ b → cond b None (option_map Data (unhex digits)) ≡ Some item → IsItemIn (codes "data:" ++ digits) item
    go true test h = absurd (cc)
    go false test h =
        let parts = mapped (unhex digits) Data item h in
        subst (IsItemIn (codes "data:" ++ digits)) parts.is (found parts.first parts.was (grind (arith, nat_tests)))

proposal_again : (j v : ℕ) → j < 2 ^ 64 → v < 2 ^ 64 → read.proposal_of (decimal j ++ 58 ∷ decimal v) ≡ Some (Propose j v)
proposal_again j v f g =
    let split = split_join 58 (decimal j) (decimal v ∷ []) refl (decimal_without_colon j f) (decimal_without_colon v g, tt) in
    rw split (rw (number_again j f, number_again v g) refl)

proposal_takes : (word : List ℕ) (item : Item) → read.proposal_of word ≡ Some item → IsItemIn (codes "prop:" ++ word) item
proposal_takes word item e =
    let words = both (read.two_of (slice_split (λ b. nat_eq b 58) word)) read.proposal_by item e in
    let row = two_takes (slice_split (λ b. nat_eq b 58) word) words.first words.was in
    let first = both (number_of words.first.0) (λ instance. option_and_then (λ value. Some (Propose instance value)) (number_of words.first.1)) item words.next in
    let second = both (number_of words.first.1) (λ value. Some (Propose first.first value)) item first.next in
    let j = number_takes words.first.0 first.first first.was in
    let v = number_takes words.first.1 second.first second.was in
    let whole : decimal first.first ++ 58 ∷ decimal second.first ≡ word = ap (λ w. w ++ 58 ∷ decimal second.first) (sym j.0) ∙ ap (λ w. words.first.0 ++ 58 ∷ w) (sym v.0) ∙ ap (join_with_byte 58) (sym row) ∙ join_with_byte-slice_split 58 word in
    let is : Propose first.first second.first ≡ item = cc (second.next) in
    subst (IsItemIn (codes "prop:" ++ word)) is (record {
      same = propose_word first.first second.first ∙ ap (λ w. codes "prop:" ++ w) whole;
      within = (j.1, v.1);
    })
  where
    propose_word : (j v : ℕ) → item_word (Propose j v) ≡ codes "prop:" ++ (decimal j ++ 58 ∷ decimal v)
    propose_word j v = simp append_assoc

-- the tests of an item's word
named_data : (rest : List ℕ) → read.item_of (codes "data:" ++ rest) ≡ read.data_of rest
named_data rest = rw (short rest) refl
  where
    short : (rest : List ℕ) → nat_lt (length (codes "data:" ++ rest)) 5 ≡ false
    short rest = grind (arith, nat_tests)

named_proposal : (rest : List ℕ) → read.item_of (codes "prop:" ++ rest) ≡ read.proposal_of rest
named_proposal rest = rw (short rest) refl
  where
    short : (rest : List ℕ) → nat_lt (length (codes "prop:" ++ rest)) 5 ≡ false
    short rest = grind (arith, nat_tests)

pub item_again : (i : Item) → IsItemWithin i → read.item_of (item_word i) ≡ Some i
item_again (Data payload) h = named_data (hex payload) ∙ data_again payload h.0 h.1
item_again (Propose j v) h =
    let word : item_word (Propose j v) ≡ codes "prop:" ++ (decimal j ++ 58 ∷ decimal v) = simp append_assoc in
    ap read.item_of word ∙ named_proposal (decimal j ++ 58 ∷ decimal v) ∙ proposal_again j v h.0 h.1
item_again Close h = refl

front_is : (word name : List ℕ) → bytes_eq (take 5 word) name ≡ true → name ++ drop 5 word ≡ word
front_is word name e = ap (λ front. front ++ drop 5 word) (sym (text_same (take 5 word) name e)) ∙ take-append-drop 5 word

pub item_takes : (word : List ℕ) (item : Item) → read.item_of word ≡ Some item → IsItemIn word item
item_takes word item e = by_close (bytes_eq word (codes "close")) refl e
  where
    by_proposal : (b : Bool) → bytes_eq (take 5 word) (codes "prop:") ≡ b → cond b (read.proposal_of (drop 5 word)) None ≡ Some item → IsItemIn word item
    by_proposal true test h = subst (λ w. IsItemIn w item) (front_is word (codes "prop:") test) (proposal_takes (drop 5 word) item h)
    by_proposal false test h = absurd (cc)

    by_data : (b : Bool) → bytes_eq (take 5 word) (codes "data:") ≡ b → cond b (read.data_of (drop 5 word)) (cond (bytes_eq (take 5 word) (codes "prop:")) (read.proposal_of (drop 5 word)) None) ≡ Some item → IsItemIn word item
    by_data true test h = subst (λ w. IsItemIn w item) (front_is word (codes "data:") test) (data_takes (drop 5 word) item h)
    by_data false test h = by_proposal (bytes_eq (take 5 word) (codes "prop:")) refl h

    by_length : (b : Bool) → cond b None (read.item_named (take 5 word) (drop 5 word)) ≡ Some item → IsItemIn word item
    by_length true h = absurd (cc)
    by_length false h = by_data (bytes_eq (take 5 word) (codes "data:")) refl h

    by_close : (b : Bool) → bytes_eq word (codes "close") ≡ b → cond b (Some Close) (cond (nat_lt (length word) 5) None (read.item_named (take 5 word) (drop 5 word))) ≡ Some item → IsItemIn word item
    by_close true test h =
        let is : Close ≡ item = cc in
        subst (IsItemIn word) is (record { same = sym (text_same word (codes "close") test); within = tt })
    by_close false test h = by_length (nat_lt (length word) 5) h

-- ---- messages

message_again : (m : Message) → IsMessageWithin m → read.message_of (decimal m.sender) (decimal m.number) (item_word m.item) ≡ Some m
message_again m h = rw (node_again m.sender h.0, number_again m.number h.1, item_again m.item h.2) refl

pub record IsMessageIn (p i word : List ℕ) (m : Message) : Type 0 where
  pub sender : decimal m.sender ≡ p
  pub number : decimal m.number ≡ i
  pub item : item_word m.item ≡ word
  pub within : IsMessageWithin m

message_takes : (p i word : List ℕ) (m : Message) → read.message_of p i word ≡ Some m → IsMessageIn p i word m
message_takes p i word m e =
    let made = λ (pair : ℕ × ℕ) (item : Item). let m : Message = record { sender = pair.0; number = pair.1; item = item } in m in
    let pair = both (read.pair_of p i) (λ pair. option_and_then (λ item. Some (made pair item)) (read.item_of word)) m e in
    let item = both (read.item_of word) (λ item. Some (made pair.first item)) m pair.next in
    let sender = both (node_of p) (λ sender. option_and_then (λ number. Some (sender, number)) (number_of i)) pair.first pair.was in
    let number = both (number_of i) (λ number. Some (sender.first, number)) pair.first sender.next in
    let who = node_takes p sender.first sender.was in
    let at = number_takes i number.first number.was in
    let what = item_takes word item.first item.was in
    let pair_is : (sender.first, number.first) ≡ pair.first = cc (number.next) in
    let is : made (sender.first, number.first) item.first ≡ m = ap (λ pair. made pair item.first) pair_is ∙ cc (item.next) in
    subst (IsMessageIn p i word) is (record { sender = who.0; number = sym at.0; item = what.same; within = (who.1, at.1, what.within) })

-- ---- lines

-- words spell a line
pub record IsLineIn (words : List (List ℕ)) (line : Line) : Type 0 where
  pub same : line_words line ≡ words
  pub within : IsWithin line

delivered_takes : (ws : read.Words) (line : Line) → option_and_then read.delivered_by (read.four_of ws) ≡ Some line → IsLineIn (codes "d" ∷ ws) line
delivered_takes ws line e =
    let words = both (read.four_of ws) read.delivered_by line e in
    let row = four_takes ws words.first words.was in
    let t = words.first in
    let node = both (node_of t.0) (λ node. option_and_then (λ message. Some (Delivered node message)) (read.message_of t.1 t.2 t.3)) line words.next in
    let message = both (read.message_of t.1 t.2 t.3) (λ message. Some (Delivered node.first message)) line node.next in
    let who = node_takes t.0 node.first node.was in
    let what = message_takes t.1 t.2 t.3 message.first message.was in
    let is : Delivered node.first message.first ≡ line = cc (message.next) in
    let same : codes "d" ∷ decimal node.first ∷ message_words message.first ≡ codes "d" ∷ ws = ap (λ w. codes "d" ∷ w ∷ message_words message.first) who.0 ∙ ap (λ w. codes "d" ∷ t.0 ∷ w ∷ decimal message.first.number ∷ item_word message.first.item ∷ []) what.sender ∙ ap (λ w. codes "d" ∷ t.0 ∷ t.1 ∷ w ∷ item_word message.first.item ∷ []) what.number ∙ ap (λ w. codes "d" ∷ t.0 ∷ t.1 ∷ t.2 ∷ w ∷ []) what.item ∙ ap (λ r. codes "d" ∷ r) (sym row) in
    subst (IsLineIn (codes "d" ∷ ws)) is (record { same = same; within = (who.1, what.within) })

broadcast_takes : (ws : read.Words) (line : Line) → option_and_then read.broadcast_by (read.three_of ws) ≡ Some line → IsLineIn (codes "b" ∷ ws) line
broadcast_takes ws line e =
    let words = both (read.three_of ws) read.broadcast_by line e in
    let row = three_takes ws words.first words.was in
    let t = words.first in
    let message = mapped (read.message_of t.0 t.1 t.2) Broadcast line words.next in
    let what = message_takes t.0 t.1 t.2 message.first message.was in
    let same : codes "b" ∷ message_words message.first ≡ codes "b" ∷ ws = ap (λ w. codes "b" ∷ w ∷ decimal message.first.number ∷ item_word message.first.item ∷ []) what.sender ∙ ap (λ w. codes "b" ∷ t.0 ∷ w ∷ item_word message.first.item ∷ []) what.number ∙ ap (λ w. codes "b" ∷ t.0 ∷ t.1 ∷ w ∷ []) what.item ∙ ap (λ r. codes "b" ∷ r) (sym row) in
    subst (IsLineIn (codes "b" ∷ ws)) message.is (record { same = same; within = what.within })

decided_takes : (ws : read.Words) (line : Line) → option_and_then read.decided_by (read.three_of ws) ≡ Some line → IsLineIn (codes "v" ∷ ws) line
decided_takes ws line e =
    let words = both (read.three_of ws) read.decided_by line e in
    let row = three_takes ws words.first words.was in
    let t = words.first in
    let made = λ (node j w : ℕ). Decided node (let d : Decision = record { instance = j; value = w } in d) in
    let node = both (node_of t.0) (λ node. option_and_then (λ j. option_and_then (λ w. Some (made node j w)) (number_of t.2)) (number_of t.1)) line words.next in
    let j = both (number_of t.1) (λ j. option_and_then (λ w. Some (made node.first j w)) (number_of t.2)) line node.next in
    let w = both (number_of t.2) (λ w. Some (made node.first j.first w)) line j.next in
    let who = node_takes t.0 node.first node.was in
    let instance = number_takes t.1 j.first j.was in
    let value = number_takes t.2 w.first w.was in
    let is : made node.first j.first w.first ≡ line = cc (w.next) in
    let same : codes "v" ∷ decimal node.first ∷ decimal j.first ∷ decimal w.first ∷ [] ≡ codes "v" ∷ ws = ap (λ x. codes "v" ∷ x ∷ decimal j.first ∷ decimal w.first ∷ []) who.0 ∙ ap (λ x. codes "v" ∷ t.0 ∷ x ∷ decimal w.first ∷ []) (sym instance.0) ∙ ap (λ x. codes "v" ∷ t.0 ∷ t.1 ∷ x ∷ []) (sym value.0) ∙ ap (λ r. codes "v" ∷ r) (sym row) in
    subst (IsLineIn (codes "v" ∷ ws)) is (record { same = same; within = (who.1, instance.1, value.1) })

crashed_takes : (ws : read.Words) (line : Line) → option_and_then read.crashed_by (read.one_of ws) ≡ Some line → IsLineIn (codes "x" ∷ ws) line
crashed_takes ws line e =
    let word = both (read.one_of ws) read.crashed_by line e in
    let row = one_takes ws word.first word.was in
    let node = mapped (node_of word.first) Crashed line word.next in
    let who = node_takes word.first node.first node.was in
    let same : codes "x" ∷ decimal node.first ∷ [] ≡ codes "x" ∷ ws = ap (λ w. codes "x" ∷ w ∷ []) who.0 ∙ ap (λ r. codes "x" ∷ r) (sym row) in
    subst (IsLineIn (codes "x" ∷ ws)) node.is (record { same = same; within = who.1 })

refusal_takes : (i c : ℕ) (line : Line) → read.refusal_within i c ≡ Some line → (Refused i c ≡ line) × (1 ≤ c) × (c ≤ 12)
refusal_takes i c line e = go (nat_lt c 1 || nat_lt 12 c) refl e
  where
    go : (b : Bool) → (nat_lt c 1 || nat_lt 12 c) ≡ b → cond b None (Some (Refused i c)) ≡ Some line → (Refused i c ≡ line) × (1 ≤ c) × (c ≤ 12)
    go true test h = absurd (cc)
    go false test h = (cc, grind (arith, nat_tests), grind (arith, nat_tests))

refused_takes : (ws : read.Words) (line : Line) → option_and_then read.refused_by (read.two_of ws) ≡ Some line → IsLineIn (codes "r" ∷ ws) line
refused_takes ws line e =
    let words = both (read.two_of ws) read.refused_by line e in
    let row = two_takes ws words.first words.was in
    let t = words.first in
    let i = both (number_of t.0) (λ i. option_and_then (λ c. read.refusal_within i c) (number_of t.1)) line words.next in
    let c = both (number_of t.1) (λ c. read.refusal_within i.first c) line i.next in
    let index = number_takes t.0 i.first i.was in
    let code = number_takes t.1 c.first c.was in
    let within = refusal_takes i.first c.first line c.next in
    let same : codes "r" ∷ decimal i.first ∷ decimal c.first ∷ [] ≡ codes "r" ∷ ws = ap (λ x. codes "r" ∷ x ∷ decimal c.first ∷ []) (sym index.0) ∙ ap (λ x. codes "r" ∷ t.0 ∷ x ∷ []) (sym code.0) ∙ ap (λ r. codes "r" ∷ r) (sym row) in
    subst (IsLineIn (codes "r" ∷ ws)) within.0 (record { same = same; within = (index.1, within.1, within.2) })

group_takes : (most n f k : ℕ) → read.is_outside most n f k ≡ false → IsGroupWithin most n f k
group_takes most n f k e = (grind (arith, nat_tests), grind (arith, nat_tests), grind (arith, nat_tests), grind (arith, nat_tests), grind (arith, nat_tests))

group_again : (most n f k : ℕ) → IsGroupWithin most n f k → read.is_outside most n f k ≡ false
group_again most n f k h =
    let a : 1 ≤ n = h.0 in let b : n ≤ most = h.1 in let c : f < n = h.2 in let d : 1 ≤ k = h.3 in let e : k ≤ n = h.4 in
    grind (arith, nat_tests)

pub head_takes : (ws : read.Words) (line : Line) → option_and_then read.head_by (read.three_of ws) ≡ Some line → IsLineIn (codes "cast/1" ∷ ws) line
head_takes ws line e =
    let words = both (read.three_of ws) read.head_by line e in
    let row = three_takes ws words.first words.was in
    let t = words.first in
    let n = both (number_of t.0) (λ n. option_and_then (λ f. option_and_then (λ k. read.head_within n f k) (number_of t.2)) (number_of t.1)) line words.next in
    let f = both (number_of t.1) (λ f. option_and_then (λ k. read.head_within n.first f k) (number_of t.2)) line n.next in
    let k = both (number_of t.2) (λ k. read.head_within n.first f.first k) line f.next in
    let same : codes "cast/1" ∷ decimal n.first ∷ decimal f.first ∷ decimal k.first ∷ [] ≡ codes "cast/1" ∷ ws = ap (λ x. codes "cast/1" ∷ x ∷ decimal f.first ∷ decimal k.first ∷ []) (sym (number_takes t.0 n.first n.was).0) ∙ ap (λ x. codes "cast/1" ∷ t.0 ∷ x ∷ decimal k.first ∷ []) (sym (number_takes t.1 f.first f.was).0) ∙ ap (λ x. codes "cast/1" ∷ t.0 ∷ t.1 ∷ x ∷ []) (sym (number_takes t.2 k.first k.was).0) ∙ ap (λ r. codes "cast/1" ∷ r) (sym row) in
    go n.first f.first k.first same (read.is_outside 16 n.first f.first k.first) refl k.next
  where
    go : (n f k : ℕ) → codes "cast/1" ∷ decimal n ∷ decimal f ∷ decimal k ∷ [] ≡ codes "cast/1" ∷ ws → (b : Bool) → read.is_outside 16 n f k ≡ b → cond b None (Some (Head n f k)) ≡ Some line → IsLineIn (codes "cast/1" ∷ ws) line
    go n f k same true test h = absurd (cc)
    go n f k same false test h = let is : Head n f k ≡ line = cc in subst (IsLineIn (codes "cast/1" ∷ ws)) is (record { same = same; within = group_takes 16 n f k test })

mode_takes : (word : List ℕ) (mode : Mode) → mode_named word ≡ Some mode → mode_word mode ≡ word
mode_takes word mode e = by_basic (bytes_eq word (codes "basic")) refl e
  where
    by_uniform : (b : Bool) → bytes_eq word (codes "uniform") ≡ b → cond b (Some Uniform) None ≡ Some mode → mode_word mode ≡ word
    by_uniform true test h = let is : Uniform ≡ mode = cc in ap mode_word (sym is) ∙ sym (text_same word (codes "uniform") test)
    by_uniform false test h = absurd (cc)

    by_basic : (b : Bool) → bytes_eq word (codes "basic") ≡ b → cond b (Some Basic) (cond (bytes_eq word (codes "uniform")) (Some Uniform) None) ≡ Some mode → mode_word mode ≡ word
    by_basic true test h = let is : Basic ≡ mode = cc in ap mode_word (sym is) ∙ sym (text_same word (codes "basic") test)
    by_basic false test h = by_uniform (bytes_eq word (codes "uniform")) refl h

pub or_false : (a b : Bool) → (a || b) ≡ false → (a ≡ false) × (b ≡ false)
or_false true b e = absurd (cc)
or_false false b e = (refl, e)

mode_range : (mode : Mode) (n f : ℕ) → read.is_mode_outside mode n f ≡ false → IsModeWithin mode n f
mode_range Basic n f e = tt
mode_range Uniform n f e = grind (arith, nat_tests)

mode_range_again : (mode : Mode) (n f : ℕ) → IsModeWithin mode n f → read.is_mode_outside mode n f ≡ false
mode_range_again Basic n f h = refl
mode_range_again Uniform n f h = grind (arith, nat_tests)

head2_takes : (ws : read.Words) (line : Line) → option_and_then read.head2_by (read.four_of ws) ≡ Some line → IsLineIn (codes "cast/2" ∷ ws) line
head2_takes ws line e =
    let words = both (read.four_of ws) read.head2_by line e in
    let row = four_takes ws words.first words.was in
    let t = words.first in
    let n = both (number_of t.0) (λ n. option_and_then (λ f. option_and_then (λ k. option_and_then (λ m. read.head2_within n f k m) (mode_named t.3)) (number_of t.2)) (number_of t.1)) line words.next in
    let f = both (number_of t.1) (λ f. option_and_then (λ k. option_and_then (λ m. read.head2_within n.first f k m) (mode_named t.3)) (number_of t.2)) line n.next in
    let k = both (number_of t.2) (λ k. option_and_then (λ m. read.head2_within n.first f.first k m) (mode_named t.3)) line f.next in
    let m = both (mode_named t.3) (λ m. read.head2_within n.first f.first k.first m) line k.next in
    let same : codes "cast/2" ∷ decimal n.first ∷ decimal f.first ∷ decimal k.first ∷ mode_word m.first ∷ [] ≡ codes "cast/2" ∷ ws = ap (λ x. codes "cast/2" ∷ x ∷ decimal f.first ∷ decimal k.first ∷ mode_word m.first ∷ []) (sym (number_takes t.0 n.first n.was).0) ∙ ap (λ x. codes "cast/2" ∷ t.0 ∷ x ∷ decimal k.first ∷ mode_word m.first ∷ []) (sym (number_takes t.1 f.first f.was).0) ∙ ap (λ x. codes "cast/2" ∷ t.0 ∷ t.1 ∷ x ∷ mode_word m.first ∷ []) (sym (number_takes t.2 k.first k.was).0) ∙ ap (λ x. codes "cast/2" ∷ t.0 ∷ t.1 ∷ t.2 ∷ x ∷ []) (mode_takes t.3 m.first m.was) ∙ ap (λ r. codes "cast/2" ∷ r) (sym row) in
    go n.first f.first k.first m.first same (read.is_outside 64 n.first f.first k.first || read.is_mode_outside m.first n.first f.first) refl m.next
  where
    go : (n f k : ℕ) (m : Mode) → codes "cast/2" ∷ decimal n ∷ decimal f ∷ decimal k ∷ mode_word m ∷ [] ≡ codes "cast/2" ∷ ws → (b : Bool) → (read.is_outside 64 n f k || read.is_mode_outside m n f) ≡ b → cond b None (Some (Head2 n f k m)) ≡ Some line → IsLineIn (codes "cast/2" ∷ ws) line
    go n f k m same true test h = absurd (cc)
    go n f k m same false test h =
        let is : Head2 n f k m ≡ line = cc in
        let tests = or_false (read.is_outside 64 n f k) (read.is_mode_outside m n f) test in
        subst (IsLineIn (codes "cast/2" ∷ ws)) is (record { same = same; within = (group_takes 64 n f k tests.0, mode_range m n f tests.1) })

-- the words of this name, whichever it is
renamed : (name text : List ℕ) (ws : List (List ℕ)) (line : Line) → bytes_eq name text ≡ true → IsLineIn (text ∷ ws) line → IsLineIn (name ∷ ws) line
renamed name text ws line test h = subst (λ w. IsLineIn (w ∷ ws) line) (sym (text_same name text test)) h

short_line_takes : (name : List ℕ) (ws : read.Words) (line : Line) → read.short_line_named name ws ≡ Some line → IsLineIn (name ∷ ws) line
short_line_takes name ws line e = by_decided (bytes_eq name (codes "v")) refl e
  where
    by_head2 : (b : Bool) → bytes_eq name (codes "cast/2") ≡ b → cond b (option_and_then read.head2_by (read.four_of ws)) None ≡ Some line → IsLineIn (name ∷ ws) line
    by_head2 true test h = renamed name (codes "cast/2") ws line test (head2_takes ws line h)
    by_head2 false test h = absurd (cc)

    by_head : (b : Bool) → bytes_eq name (codes "cast/1") ≡ b → cond b (option_and_then read.head_by (read.three_of ws)) (cond (bytes_eq name (codes "cast/2")) (option_and_then read.head2_by (read.four_of ws)) None) ≡ Some line → IsLineIn (name ∷ ws) line
    by_head true test h = renamed name (codes "cast/1") ws line test (head_takes ws line h)
    by_head false test h = by_head2 (bytes_eq name (codes "cast/2")) refl h

    by_refused : (b : Bool) → bytes_eq name (codes "r") ≡ b → cond b (option_and_then read.refused_by (read.two_of ws)) (cond (bytes_eq name (codes "cast/1")) (option_and_then read.head_by (read.three_of ws)) (cond (bytes_eq name (codes "cast/2")) (option_and_then read.head2_by (read.four_of ws)) None)) ≡ Some line → IsLineIn (name ∷ ws) line
    by_refused true test h = renamed name (codes "r") ws line test (refused_takes ws line h)
    by_refused false test h = by_head (bytes_eq name (codes "cast/1")) refl h

    by_crashed : (b : Bool) → bytes_eq name (codes "x") ≡ b → cond b (option_and_then read.crashed_by (read.one_of ws)) (cond (bytes_eq name (codes "r")) (option_and_then read.refused_by (read.two_of ws)) (cond (bytes_eq name (codes "cast/1")) (option_and_then read.head_by (read.three_of ws)) (cond (bytes_eq name (codes "cast/2")) (option_and_then read.head2_by (read.four_of ws)) None))) ≡ Some line → IsLineIn (name ∷ ws) line
    by_crashed true test h = renamed name (codes "x") ws line test (crashed_takes ws line h)
    by_crashed false test h = by_refused (bytes_eq name (codes "r")) refl h

    by_decided : (b : Bool) → bytes_eq name (codes "v") ≡ b → cond b (option_and_then read.decided_by (read.three_of ws)) (cond (bytes_eq name (codes "x")) (option_and_then read.crashed_by (read.one_of ws)) (cond (bytes_eq name (codes "r")) (option_and_then read.refused_by (read.two_of ws)) (cond (bytes_eq name (codes "cast/1")) (option_and_then read.head_by (read.three_of ws)) (cond (bytes_eq name (codes "cast/2")) (option_and_then read.head2_by (read.four_of ws)) None)))) ≡ Some line → IsLineIn (name ∷ ws) line
    by_decided true test h = renamed name (codes "v") ws line test (decided_takes ws line h)
    by_decided false test h = by_crashed (bytes_eq name (codes "x")) refl h

line_takes : (name : List ℕ) (ws : read.Words) (line : Line) → read.line_named name ws ≡ Some line → IsLineIn (name ∷ ws) line
line_takes name ws line e = by_delivered (bytes_eq name (codes "d")) refl e
  where
    by_broadcast : (b : Bool) → bytes_eq name (codes "b") ≡ b → cond b (option_and_then read.broadcast_by (read.three_of ws)) (read.short_line_named name ws) ≡ Some line → IsLineIn (name ∷ ws) line
    by_broadcast true test h = renamed name (codes "b") ws line test (broadcast_takes ws line h)
    by_broadcast false test h = short_line_takes name ws line h

    by_delivered : (b : Bool) → bytes_eq name (codes "d") ≡ b → cond b (option_and_then read.delivered_by (read.four_of ws)) (cond (bytes_eq name (codes "b")) (option_and_then read.broadcast_by (read.three_of ws)) (read.short_line_named name ws)) ≡ Some line → IsLineIn (name ∷ ws) line
    by_delivered true test h = renamed name (codes "d") ws line test (delivered_takes ws line h)
    by_delivered false test h = by_broadcast (bytes_eq name (codes "b")) refl h

end_takes : (name : List ℕ) (line : Line) → read.end_named name ≡ Some line → IsLineIn (name ∷ []) line
end_takes name line e = go (bytes_eq name (codes "end")) refl e
  where
    go : (b : Bool) → bytes_eq name (codes "end") ≡ b → cond b (Some End) None ≡ Some line → IsLineIn (name ∷ []) line
    go true test h = let is : End ≡ line = cc in subst (IsLineIn (name ∷ [])) is (renamed name (codes "end") [] End test (record { same = refl; within = tt }))
    go false test h = absurd (cc)

pub words_take : (ws : read.Words) (line : Line) → read.line_of_words ws ≡ Some line → IsLineIn ws line
words_take [] line e = absurd (cc)
words_take (name ∷ []) line e = end_takes name line e
words_take (name ∷ w ∷ ws) line e = line_takes name (w ∷ ws) line e

-- what is read was written so
pub line_takes_text : (bytes : List ℕ) (line : Line) → read.line_of bytes ≡ Some line → IsWithin line × (line_text line ≡ bytes)
unfolding read.line_of
line_takes_text bytes line e =
    let words = words_take (slice_split (λ b. nat_eq b 32) bytes) line e in
    (words.within, ap (join_with_byte 32) words.same ∙ join_with_byte-slice_split 32 bytes)

-- ---- what is written is read again

words_again : (l : Line) → IsWithin l → read.line_of_words (line_words l) ≡ Some l
words_again (Head n f k) h = rw (number_again n (omega (arith, h.1)), number_again f (omega (arith, h.1, h.2)), number_again k (omega (arith, h.1, h.4)), group_again 16 n f k h) refl
words_again (Head2 n f k Basic) h = rw (number_again n (omega (arith, h.0.1)), number_again f (omega (arith, h.0.1, h.0.2)), number_again k (omega (arith, h.0.1, h.0.4)), group_again 64 n f k h.0) refl
words_again (Head2 n f k Uniform) h = rw (number_again n (omega (arith, h.0.1)), number_again f (omega (arith, h.0.1, h.0.2)), number_again k (omega (arith, h.0.1, h.0.4)), group_again 64 n f k h.0, mode_range_again Uniform n f h.1) refl
words_again (Broadcast m) h = rw (message_again m h) refl
words_again (Delivered q m) h = rw (node_again q h.0, message_again m h.1) refl
words_again (Decided q d) h = rw (node_again q h.0, number_again d.instance h.1, number_again d.value h.2) refl
words_again (Crashed q) h = rw (node_again q h) refl
words_again (Refused i c) h =
    let range : (nat_lt c 1 || nat_lt 12 c) ≡ false = codes_within c h.1 h.2 in
    rw (number_again i h.0, number_again c (omega (arith, h.2)), range) refl
  where
    codes_within : (c : ℕ) → 1 ≤ c → c ≤ 12 → (nat_lt c 1 || nat_lt 12 c) ≡ false
    codes_within c a b = grind (arith, nat_tests)
words_again End h = refl

pub line_again : (l : Line) → IsWithin l → read.line_of (line_text l) ≡ Some l
unfolding read.line_of
line_again l h = ap read.line_of_words (split_line l h) ∙ words_again l h

-- exactly the lines within their ranges are read, each from its text
pub exact : (bytes : List ℕ) (o : Option Line) → o ≡ read.line_of bytes → IsReadOf bytes o
exact bytes (Some line) e = line_takes_text bytes line (sym e)
exact bytes None e = λ line within text. let found = sym (line_again line within) ∙ ap read.line_of text ∙ sym e in absurd (cc (found))

-- no two lines within their ranges have one text
pub one_text : (a b : Line) → IsWithin a → IsWithin b → line_text a ≡ line_text b → a ≡ b
one_text a b f g e = let both = sym (line_again a f) ∙ ap read.line_of e ∙ line_again b g in cc (both)

-- the first word and the others, cut in turn
pub line_by_parts : (bytes name rest : List ℕ) → slice_split (λ b. nat_eq b 32) bytes ≡ name ∷ slice_split (λ b. nat_eq b 32) rest → read.line_named name (slice_split (λ b. nat_eq b 32) rest) ≡ read.line_of bytes
unfolding read.line_of
line_by_parts bytes name rest cut =
    let first = has_first (λ b. nat_eq b 32) rest in
    ap (read.line_named name) first.2 ∙ sym (ap read.line_of_words (cut ∙ ap (λ ws. name ∷ ws) first.2))

pub line_by_one_part : (bytes name : List ℕ) → slice_split (λ b. nat_eq b 32) bytes ≡ name ∷ [] → read.end_named name ≡ read.line_of bytes
unfolding read.line_of
line_by_one_part bytes name cut = sym (ap read.line_of_words cut)
