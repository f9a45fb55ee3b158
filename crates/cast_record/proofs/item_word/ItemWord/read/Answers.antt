use Rattle.std.proofs.Common.{◌∙◌, sym}
use Rattle.cast_record.specs.Reading.{item_of}
use Rattle.cast_record.proofs.ItemWordLemmas.{no_item, spells}
use Rattle.cast_record.proofs.item_word.ItemWord.read.Goals as goal

pub returns-in_err-kind : goal.returns-in_err-kind
returns-in_err-kind c = c.from_residual.ensures ∙ no_item (item_of c.args.word.now) c.in_err-kind.ensures

pub invariant_of-result : goal.invariant_of-result
invariant_of-result c = spells c.args.word.now c.in_ok-kind.field-0 c.in_ok-kind.ensures

pub returns : goal.returns
returns c = sym (spells c.args.word.now c.in_ok-kind.field-0 c.in_ok-kind.ensures).spells
