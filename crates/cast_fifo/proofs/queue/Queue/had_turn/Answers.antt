use Rattle.std.proofs.lemmas.Bool.{ltb-true}
use Rattle.cast_fifo.proofs.Turns.{marked_past}
use Rattle.cast_fifo.proofs.queue.Queue.had_turn.Goals as goal

pub returns-clause-nothing : goal.returns-clause-nothing
returns-clause-nothing c past = (marked_past _ _ _ _ c.args.self.now _ c.args.number c.self.invariant.0 c.self.invariant.1 c.self.view_is (ltb-true _ _ past)).0

pub returns-clause-same : goal.returns-clause-same
returns-clause-same c past = (marked_past _ _ _ _ c.args.self.now _ c.args.number c.self.invariant.0 c.self.invariant.1 c.self.view_is (ltb-true _ _ past)).1
