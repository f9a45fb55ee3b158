-- Items and the words that spell them.
use Rattle.std.proofs.Common.{◌≡◌, ℕ, zero, suc, ◌+◌, add-one, ◌<◌, ◌≤◌, Bool, true, false, nat_eq, List, [], ◌∷◌, ◌++◌, length, length-append, take, drop, drop-cons, get_or, slice_get, Option, Some, None, refl, sym, ap, subst, ◌∙◌, arith}
use Rattle.std.specs.Str.{bytes_eq}
use Rattle.std.proofs.lemmas.List.{take-append-drop}
use Rattle.std.proofs.lemmas.Option.{slice_get_past, slice_get-get_or}
use Rattle.std.proofs.lemmas.Grind.{common_steps}
use Rattle.std.proofs.lemmas.Slice.Eq.{bytes_eq-Decides}
use Rattle.cast_message.proofs.Tests.{eq_same}
use Rattle.cast_message.specs.declared.message.Item.{Item}
use Rattle.cast_message.specs.declared.message.Item.TheVariants.{Data, Propose, Close}
use Rattle.cast_record.specs.Reading.{item_of}
use Rattle.cast_record.specs.Rules.{is_item}
use Rattle.cast_record.specs.Text.{item_word}
use Rattle.cast_record.specs.ItemWords.{item_in}
use Rattle.cast_record.proofs.ReadLemmas.{text_same, item_takes}
use Rattle.cast_judge.specs.Kept.{is_same, has_item}
use Rattle.cast_judge.specs.ItemList.{word_between, items_from, IsItemAt, AreItems, IsWordAt}
use Rattle.cast_judge.proofs.TestLemmas.{same_number, and_true}

-- ---- the items of a list

pub length_items : (start : ℕ) (ends bytes : List ℕ) → length (items_from start ends bytes) ≡ length ends
unfolding items_from
length_items start [] bytes = refl
length_items start (end ∷ ends) bytes = ap (λ n. suc n) (length_items end ends bytes)

-- a place has its word
pub record IsPlaced (start : ℕ) (ends bytes : List ℕ) (place : ℕ) : Type 0 where
  pub at : IsItemAt (get_or (start ∷ ends) place 0) (get_or ends place 0) bytes
  pub here : get_or (items_from start ends bytes) place Close ≡ item_in (word_between (get_or (start ∷ ends) place 0) (get_or ends place 0) bytes)

pub placed : (start : ℕ) (ends bytes : List ℕ) (place : ℕ) → AreItems start ends bytes → place < length ends → IsPlaced start ends bytes place
unfolding items_from
placed start [] bytes place h within = absurd (omega arith)
placed start (end ∷ ends) bytes zero h within = record { at = h.0; here = refl }
placed start (end ∷ ends) bytes (suc place) h within =
    let next = placed end ends bytes place h.1 (omega arith) in
    record { at = next.at; here = next.here }

pub word_found : (items : List Item) (start end : ℕ) (ends bytes : List ℕ) (place : ℕ) → items_from 0 ends bytes ≡ items → AreItems 0 ends bytes → place < length ends
    → start ≡ get_or (0 ∷ ends) place 0 → end ≡ get_or ends place 0 → IsWordAt items place (word_between start end bytes)
word_found items start end ends bytes place view h within first last =
    let p = placed 0 ends bytes place h within in
    let many : place < length (items_from 0 ends bytes) = omega (arith, length_items 0 ends bytes) in
    let spelled : slice_get (items_from 0 ends bytes) place ≡ item_of (word_between (get_or (0 ∷ ends) place 0) (get_or ends place 0) bytes) =
    slice_get-get_or (items_from 0 ends bytes) place Close many ∙ ap Some p.here ∙ sym p.at.spells in
    subst (λ items. IsWordAt items place (word_between start end bytes)) view (record {
      within = many;
      spells = spelled ∙ (λ i. item_of (word_between (sym first i) (sym last i) bytes));
    })

-- ---- one more item

word_kept : (start end : ℕ) (bytes word : List ℕ) → start ≤ end → end ≤ length bytes → word_between start end (bytes ++ word) ≡ word_between start end bytes
word_kept start end bytes word order within = grind (arith, common_steps)

last_word : (bytes word : List ℕ) → word_between (length bytes) (length bytes + length word) (bytes ++ word) ≡ word
last_word bytes word = grind (arith, common_steps)

item_kept : (start end : ℕ) (bytes word : List ℕ) → IsItemAt start end bytes → IsItemAt start end (bytes ++ word)
item_kept start end bytes word h = record {
  order = h.order;
  within = omega (arith, h.within, length-append bytes word);
  spells = subst (λ w. item_of w ≡ Some (item_in w)) (sym (word_kept start end bytes word h.order h.within)) h.spells;
}

item_told : (word : List ℕ) (item : Item) → item_of word ≡ Some item → item_in word ≡ item
item_told word item e = rw e refl

last_item : (bytes word : List ℕ) (item : Item) → item_of word ≡ Some item → IsItemAt (length bytes) (length bytes + length word) (bytes ++ word)
last_item bytes word item e = record {
  order = omega arith;
  within = omega (arith, length-append bytes word);
  spells = subst (λ w. item_of w ≡ Some (item_in w)) (sym (last_word bytes word)) (e ∙ ap Some (sym (item_told word item e)));
}

pub are_pushed : (start : ℕ) (ends bytes word : List ℕ) (item : Item) → AreItems start ends bytes → item_of word ≡ Some item → AreItems start (ends ++ (length bytes + length word) ∷ []) (bytes ++ word)
are_pushed start [] bytes word item h e = (subst (λ n. IsItemAt n (length bytes + length word) (bytes ++ word)) (sym h) (last_item bytes word item e), sym (length-append bytes word))
are_pushed start (end ∷ ends) bytes word item h e = (item_kept start end bytes word h.0, are_pushed end ends bytes word item h.1 e)

pub items_pushed : (start : ℕ) (ends bytes word : List ℕ) (item : Item) → AreItems start ends bytes → item_of word ≡ Some item
    → items_from start (ends ++ (length bytes + length word) ∷ []) (bytes ++ word) ≡ items_from start ends bytes ++ item ∷ []
unfolding items_from
items_pushed start [] bytes word item h e =
    ap (λ w. item_in w ∷ []) (ap (λ n. word_between n (length bytes + length word) (bytes ++ word)) h ∙ last_word bytes word) ∙ ap (λ i. i ∷ []) (item_told word item e)
items_pushed start (end ∷ ends) bytes word item h e =
    ap (λ w. item_in w ∷ items_from end (ends ++ (length bytes + length word) ∷ []) (bytes ++ word)) (word_kept start end bytes word h.0.order h.0.within)
    ∙ ap (λ items. item_in (word_between start end bytes) ∷ items) (items_pushed end ends bytes word item h.1 e)

-- ---- words are equal where their items are

bytes_itself : (w : List ℕ) → bytes_eq w w ≡ true
bytes_itself w = (bytes_eq-Decides w w).1 refl

item_same : (i j : Item) → is_item i j ≡ true → i ≡ j
item_same (Data xs) (Data ys) e = ap Data (text_same xs ys e)
item_same (Propose j v) (Propose k w) e = let both = and_true (nat_eq j k) (nat_eq v w) e in (λ i. Propose (same_number j k both.0 i) (same_number v w both.1 i))
item_same Close Close e = refl
item_same a b e = absurd (cc)

pub item_itself : (i : Item) → is_item i i ≡ true
item_itself (Data xs) = bytes_itself xs
item_itself (Propose j v) = rw (eq_same j, eq_same v) refl
item_itself Close = refl

words_same : (v w : List ℕ) (i j : Item) → item_of v ≡ Some i → item_of w ≡ Some j → i ≡ j → v ≡ w
words_same v w i j a b e = sym (item_takes v i a).same ∙ ap item_word e ∙ (item_takes w j b).same

pub same_word : (v w : List ℕ) (item : Item) → item_of w ≡ Some item → bytes_eq v w ≡ is_same (item_of v) item
same_word v w item e = go (item_of v) refl
  where
    yes : (b : Bool) → bytes_eq v w ≡ b → (other : Item) → item_of v ≡ Some other → (d : Bool) → is_item other item ≡ d → b ≡ d
    yes true f other a d g =
        let same : other ≡ item = (let found = sym a ∙ ap item_of (text_same v w f) ∙ e in cc (found)) in
        sym (ap (λ i. is_item i item) same ∙ item_itself item) ∙ g
    yes false f other a true g =
        let words = words_same v w other item a e (item_same other item g) in
        absurd (cc (sym f ∙ ap (λ u. bytes_eq u w) words ∙ bytes_itself w))
    yes false f other a false g = refl

    none : (b : Bool) → bytes_eq v w ≡ b → item_of v ≡ None → b ≡ false
    none true f a = let found = sym a ∙ ap item_of (text_same v w f) ∙ e in absurd (cc (found))
    none false f a = refl

    go : (o : Option Item) → item_of v ≡ o → bytes_eq v w ≡ is_same o item
    go None a = none (bytes_eq v w) refl a
    go (Some other) a = yes (bytes_eq v w) refl other a (is_item other item) refl

pub has_told : (items : List Item) (place : ℕ) (v w : List ℕ) (item : Item) → IsWordAt items place v → item_of w ≡ Some item → bytes_eq v w ≡ has_item items place item
has_told items place v w item h e = same_word v w item e ∙ ap (λ o. is_same o item) (sym h.spells)

pub has_none : (items : List Item) (place : ℕ) (item : Item) → length items ≤ place → false ≡ has_item items place item
has_none items place item past = sym (ap (λ o. is_same o item) (slice_get_past items place past))

-- ---- a word at the front of a text

pub after_feed : (bytes word : List ℕ) → take (length word) bytes ≡ word → length word < length bytes → get_or bytes (length word) 0 ≡ 10 → bytes ≡ word ++ 10 ∷ drop (length word + 1) bytes
after_feed bytes word front within feed =
    sym (take-append-drop (length word) bytes)
    ∙ (λ i. front i ++ (drop-cons bytes (length word) 0 within ∙ ap (λ n. get_or bytes (length word) 0 ∷ drop n bytes) (sym (add-one (length word))) ∙ ap (λ b. b ∷ drop (length word + 1) bytes) feed) i)
