use Rattle.std.proofs.Common.{List, ◌++◌, take}
use Rattle.cast_message.specs.declared.message.Message.{Message}
use Rattle.cast_merge.specs.Told.{told}
use Rattle.cast.proofs.follower.Follower.caught_up.Given as goal

abbrev pub invariant-loop-notice : goal.invariant-loop-notice
invariant-loop-notice g l =
    (taken : List Message) → g.M.Machine.stands l.fn.self.machine taken
    → g.M.Machine.stands l.machine (taken ++ told (take l.notice-index l.rest))
