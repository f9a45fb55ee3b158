use Rattle.std.proofs.Common.{◌≡◌, take}
use Rattle.std.specs.List.{list_all}
use Rattle.cast_record.specs.ItemWords.{is_hex_digit}
use Rattle.cast_record.proofs.item_word.is_block.Given as goal

abbrev pub invariant-loop-digit : goal.invariant-loop-digit
invariant-loop-digit l = l.are_digits ≡ list_all is_hex_digit (take l.digit-index l.digits)
