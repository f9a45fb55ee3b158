use Rattle.cast_fifo.proofs.Law.{gives_in_order as law}
use Rattle.cast_fifo.proofs.gives_in_order.Goals as goal

pub returns : goal.returns
returns c = law
