use Rattle.cast_merge.proofs.Numbers.{tells_numbers}
use Rattle.cast_merge.proofs.tells_numbers.Goals as goal

pub returns : goal.returns
returns c = tells_numbers
