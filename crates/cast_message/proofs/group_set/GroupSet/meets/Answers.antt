use Rattle.std.proofs.Common.{arith}
use Rattle.cast_message.proofs.Group.{none_in_both}
use Rattle.cast_message.proofs.group_set.GroupSet.meets.Goals as goal

pub returns : goal.returns
returns c = none_in_both c.self.inside.word c.other.inside.word _ _ (omega arith) c.self.view_is c.other.view_is
