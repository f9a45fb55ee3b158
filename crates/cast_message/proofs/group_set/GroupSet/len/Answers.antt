use Rattle.std.proofs.Common.{◌∙◌, ap, arith}
use Rattle.std.specs.FinSet as set
use Rattle.cast_message.proofs.Group.{ones_are_members}
use Rattle.cast_message.proofs.group_set.GroupSet.len.Goals as goal

pub returns : goal.returns
returns c = c.from.ensures ∙ ones_are_members 64 c.self.inside.word (omega arith) ∙ ap set.len c.self.view_is
