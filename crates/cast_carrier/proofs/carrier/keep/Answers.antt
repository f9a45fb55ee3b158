use Rattle.std.specs.Result.{is_ok}
use Rattle.cast_carrier.proofs.carrier.keep.Goals as goal

pub returns : goal.returns
returns c = (is_ok c.push-lost.result, c.push-lost.ensures.items)
