use Rattle.std.proofs.Common.{sym, ap, ◌∙◌}
use Rattle.std.specs.List.{list_all}
use Rattle.cast_record.specs.ItemWords.{is_hex_digit}
use Rattle.cast_record.proofs.ItemWordLemmas.{from_on, all_but_front, not_all}
use Rattle.cast_record.proofs.item_word.are_digits.Goals as goal

pub returns-then-not-is_block : goal.returns-then-not-is_block
returns-then-not-is_block c =
    sym (sym c.loop-rest.invariant ∙ not_all 64 c.loop-rest.rest.now (sym c.is_block.ensures ∙ c.if-not-is_block.true))

pub loop-rest-preserved : goal.loop-rest-preserved
loop-rest-preserved c =
    ap (list_all is_hex_digit) (from_on 64 c.loop-rest.rest.now) ∙ all_but_front 64 c.loop-rest.rest.now (sym c.is_block.ensures ∙ c.if-not-is_block.false) ∙ c.loop-rest.invariant
