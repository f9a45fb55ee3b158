-- The number of a node that a word spells: decimal, without a leading zero, below 256.
use Rattle.std.specs.Prelude.{ℕ, List, Option, option_and_then}
use Rattle.cast_message.specs.Items.{byte_sized}
use Rattle.cast_record.specs.Numbers.{number_of}

abbrev pub node_of : List ℕ → Option ℕ
node_of word = option_and_then byte_sized (number_of word)
