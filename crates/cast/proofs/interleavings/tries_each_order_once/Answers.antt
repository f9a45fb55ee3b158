use Rattle.cast.proofs.EachOnce.{exactly_orders, all_different}
use Rattle.cast.proofs.interleavings.tries_each_order_once.Goals as goal

pub returns-clause-all : goal.returns-clause-all
returns-clause-all c = exactly_orders

pub returns-clause-once : goal.returns-clause-once
returns-clause-once c = all_different
