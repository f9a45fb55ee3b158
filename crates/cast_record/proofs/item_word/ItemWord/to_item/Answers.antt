use Rattle.cast_record.proofs.ItemWordLemmas.{has_data}
use Rattle.cast_record.proofs.item_word.ItemWord.to_item.Goals as goal

pub data_item-requires : goal.data_item-requires
data_item-requires c = has_data c.self.inside.word.now c.self.inside.kind c.self.invariant c.in-Data.is
