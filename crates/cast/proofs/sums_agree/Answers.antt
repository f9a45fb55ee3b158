use Rattle.cast.proofs.Sums.{sums_agree as law}
use Rattle.cast.proofs.sums_agree.Goals as goal

pub returns : goal.returns
returns c = law
