-- What the front of a text says.
--     BeginsWithDelivery bytes d  the bytes are `d`, words of these nodes and number, and the rest, each after a blank
--     SaysDelivery bytes d        the bytes begin with this line `d`, if a word at the front of its rest spells an item
use Rattle.std.specs.Prelude.{◌≡◌, ℕ, ◌^◌, ◌<◌, ◌≤◌, true, List, ◌∷◌, ◌++◌, length, take, Some}
use Rattle.std.specs.Str.{all_ascii_digits}
use Rattle.cast_message.specs.declared.message.Item.{Item}
use Rattle.cast_record.specs.declared.line.Line.{Line}
use Rattle.cast_record.specs.declared.line.Line.TheVariants.{Delivered}
use Rattle.cast_record.specs.declared.front.Delivery.{Delivery}
use Rattle.cast_record.specs.Numbers.{read_on, number_of}
use Rattle.cast_record.specs.Nodes.{node_of}
use Rattle.cast_record.specs.Reading.{item_of, line_of}

-- the bytes are a prefix that spells the line, and more
pub record BeginsWithLine (bytes more : List ℕ) (line : Line) : Type 0 where
  pub front : List ℕ
  pub cut : bytes ≡ front ++ more
  pub spells : line_of front ≡ Some line

abbrev pub SaysDelivery : List ℕ → Delivery → Type 0
SaysDelivery bytes d =
    (word more : List ℕ) (item : Item) → d.rest.now ≡ word ++ more → item_of word ≡ Some item
    → BeginsWithLine bytes more
    (Delivered d.node (record { sender = d.sender; number = d.number; item = item }))

-- the bytes are a word that names the node, a blank and the rest
pub record BeginsWithNode (bytes : List ℕ) (node : ℕ) (rest : List ℕ) : Type 0 where
  pub word : List ℕ
  pub cut : bytes ≡ word ++ 32 ∷ rest
  pub names : node_of word ≡ Some node

-- the bytes are a word that spells the number, a blank and the rest
pub record BeginsWithNumber (bytes : List ℕ) (number : ℕ) (rest : List ℕ) : Type 0 where
  pub word : List ℕ
  pub cut : bytes ≡ word ++ 32 ∷ rest
  pub spells : number_of word ≡ Some number

-- the first bytes are digits with this value
pub record IsNumberSoFar (bytes : List ℕ) (at value : ℕ) : Type 0 where
  pub within : at ≤ length bytes
  pub digits : all_ascii_digits (take at bytes) ≡ true
  pub value_is : read_on 0 (take at bytes) ≡ value
  pub fits : value < 2 ^ 64

-- `d`, words that name the nodes and spell the number, and the rest, each after a blank
pub record BeginsWithDelivery (bytes : List ℕ) (d : Delivery) : Type 0 where
  pub after : List ℕ
  pub head : bytes ≡ 100 ∷ 32 ∷ after
  pub after_node : List ℕ
  pub node : BeginsWithNode after d.node after_node
  pub after_sender : List ℕ
  pub sender : BeginsWithNode after_node d.sender after_sender
  pub number : BeginsWithNumber after_sender d.number d.rest.now
