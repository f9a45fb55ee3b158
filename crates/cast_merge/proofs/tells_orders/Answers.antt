use Rattle.cast_merge.proofs.Ordered.{tells_orders}
use Rattle.cast_merge.proofs.tells_orders.Goals as goal

pub returns : goal.returns
returns c = tells_orders
