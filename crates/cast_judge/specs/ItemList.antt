-- Items as the words that spell them, one after another in their bytes.
--     items_from start ends bytes      the items of the words that begin there and end at the given ends
--     AreItems start ends bytes        each of those words spells an item, and the last one ends with the bytes
use Rattle.std.specs.Prelude.{◌≡◌, ℕ, ◌+◌, ◌-◌, ◌<◌, ◌≤◌, List, [], ◌∷◌, ◌++◌, length, take, drop, slice_get, Some}
use Rattle.cast_message.specs.declared.message.Item.{Item}
use Rattle.cast_record.specs.Reading.{item_of}
use Rattle.cast_record.specs.ItemWords.{item_in}

abbrev pub word_between : ℕ → ℕ → List ℕ → List ℕ
word_between start end bytes = take (end - start) (drop start bytes)

unfoldable pub items_from : ℕ → List ℕ → List ℕ → List Item
items_from start [] bytes = []
items_from start (end ∷ ends) bytes = item_in (word_between start end bytes) ∷ items_from end ends bytes

pub record IsItemAt (start end : ℕ) (bytes : List ℕ) : Type 0 where
  pub order : start ≤ end
  pub within : end ≤ length bytes
  pub spells : item_of (word_between start end bytes) ≡ Some (item_in (word_between start end bytes))

abbrev pub AreItems : ℕ → List ℕ → List ℕ → Type 0
AreItems start [] bytes = start ≡ length bytes
AreItems start (end ∷ ends) bytes = IsItemAt start end bytes × AreItems end ends bytes

-- the word spells the item at this place
pub record IsWordAt (items : List Item) (place : ℕ) (word : List ℕ) : Type 0 where
  pub within : place < length items
  pub spells : slice_get items place ≡ item_of word

-- the bytes are the word of the item at this place, a line feed that ends there, and the rest
pub record BeginsWithWord (items : List Item) (place : ℕ) (bytes : List ℕ) (end : ℕ) : Type 0 where
  pub word : List ℕ
  pub after : List ℕ
  pub is_at : IsWordAt items place word
  pub cut : bytes ≡ word ++ 10 ∷ after
  pub ends : end ≡ length word + 1
