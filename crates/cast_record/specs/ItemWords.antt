-- What an item's word says about the item.
--     item_in word               the item that the word spells
--     SpellsItem word kind       the word spells an item of this kind
use Rattle.std.specs.Prelude.{◌≡◌, ℕ, Bool, true, false, List, Option, Some, None, unwrap_or}
use Rattle.cast_message.specs.declared.message.Item.{Item}
use Rattle.cast_message.specs.declared.message.Item.TheVariants as items
use Rattle.cast_record.specs.declared.item_word.ItemKind.{ItemKind}
use Rattle.cast_record.specs.declared.item_word.ItemKind.TheVariants.{Data, Propose, Close}
use Rattle.cast_record.specs.Reading.{item_of}
use Rattle.cast_record.specs.Unhex.{unhex, digit_of}

abbrev pub item_in : List ℕ → Item
item_in word = unwrap_or (item_of word) items.Close

abbrev pub kind_of : Item → ItemKind
kind_of (items.Data payload) = Data
kind_of (items.Propose instance value) = Propose instance value
kind_of items.Close = Close

pub record SpellsItem (word : List ℕ) (kind : ItemKind) : Type 0 where
  pub spells : item_of word ≡ Some (item_in word)
  pub is : kind ≡ kind_of (item_in word)

abbrev pub proposal_in : Item → Option (ℕ × ℕ)
proposal_in (items.Propose instance value) = Some (instance, value)
proposal_in item = None

abbrev pub is_known : {A : Type 0} → Option A → Bool
is_known None = false
is_known (Some x) = true

abbrev pub is_hex_digit : ℕ → Bool
is_hex_digit code = is_known (digit_of code)

-- the digits spell bytes
abbrev pub is_hex : List ℕ → Bool
is_hex digits = is_known (unhex digits)
