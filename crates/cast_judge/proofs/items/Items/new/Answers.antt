use Rattle.std.proofs.Common.{refl}
use Rattle.cast_judge.specs.ItemList.{items_from}
use Rattle.cast_judge.proofs.items.Items.new.Goals as goal

pub returns : goal.returns
unfolding items_from
returns c = rw c.new-2.ensures.items refl
