use Rattle.cast_merge.proofs.Told.{tells_prefixes}
use Rattle.cast_merge.proofs.tells_prefixes.Goals as goal

pub returns : goal.returns
returns c = tells_prefixes
