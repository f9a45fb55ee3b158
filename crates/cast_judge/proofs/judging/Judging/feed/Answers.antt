use Rattle.std.proofs.Common.{◌++◌, refl}
use Rattle.cast_judge.proofs.WantLemmas.{wanted_same}
use Rattle.cast_judge.proofs.judging.Judging.feed.Goals as goal

pub returns-in-Err-clause-wants : goal.returns-in-Err-clause-wants
returns-in-Err-clause-wants c text st reading =
    wanted_same (text ++ c.args.piece.now) _ c.args.self.now c.read.new.self _ refl refl refl (c.in-Err.ensures.wants text st)
