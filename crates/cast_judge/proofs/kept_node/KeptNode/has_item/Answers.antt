use Rattle.std.proofs.Common.{◌∙◌}
use Rattle.cast_judge.proofs.ItemLemmas.{has_told, has_none}
use Rattle.cast_judge.proofs.kept_node.KeptNode.has_item.Goals as goal

pub returns-in-Some : goal.returns-in-Some
returns-in-Some c = c.eq.ensures ∙ has_told c.args.self.now.items c.args.number c.in-Some.word.now c.as_slice.result.now c.args.item.now c.in-Some.ensures c.as_slice.ensures

pub returns-in-None : goal.returns-in-None
returns-in-None c = has_none c.args.self.now.items c.args.number c.args.item.now c.in-None.ensures
