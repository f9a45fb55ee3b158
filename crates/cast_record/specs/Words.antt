-- How a word of a line is written.
use Rattle.std.specs.Prelude.{ℕ, List, decimal}
use Rattle.cast_record.specs.declared.words.Word.{Word}
use Rattle.cast_record.specs.declared.words.Word.TheVariants.{Number, Mode, Item}
use Rattle.cast_record.specs.Modes.{mode_word}
use Rattle.cast_record.specs.Text.{item_word}

abbrev pub word_text : Word → List ℕ
word_text (Number number) = decimal number
word_text (Mode mode) = mode_word mode
word_text (Item item) = item_word item.now
