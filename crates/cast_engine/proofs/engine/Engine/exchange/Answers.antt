use Rattle.cast_engine.proofs.Again.{engine_again}
use Rattle.cast_engine.proofs.Few.{few_again}
use Rattle.cast_engine.proofs.engine.Engine.exchange.Goals as goal

pub returns-then-put-clause-same : goal.returns-then-put-clause-same
returns-then-put-clause-same g c = engine_again c.args.self.now c.flush-put.new.self c.receive_and_acknowledge-received.new.self c.flush-put.ensures.same c.receive_and_acknowledge-received.ensures.same

pub returns-else-put-clause-same : goal.returns-else-put-clause-same
returns-else-put-clause-same g c = engine_again c.args.self.now c.flush-put.new.self c.receive_and_acknowledge-received.new.self c.flush-put.ensures.same c.receive_and_acknowledge-received.ensures.same

pub returns-then-put-clause-few : goal.returns-then-put-clause-few
returns-then-put-clause-few g c = few_again 0 0 1 0 1 0 1 0 c.args.self.now c.flush-put.new.self c.receive_and_acknowledge-received.new.self c.flush-put.ensures.few c.receive_and_acknowledge-received.ensures.few

pub returns-else-put-clause-few : goal.returns-else-put-clause-few
returns-else-put-clause-few g c = few_again 0 0 1 0 1 0 1 0 c.args.self.now c.flush-put.new.self c.receive_and_acknowledge-received.new.self c.flush-put.ensures.few c.receive_and_acknowledge-received.ensures.few
