use Rattle.std.proofs.Common.{sym, subst}
use Rattle.cast_engine.specs.Engines.{IsSameEngine}
use Rattle.cast_engine.proofs.Again.{engine_again, same_resent}
use Rattle.cast_engine.proofs.engine.Engine.receive_and_acknowledge.Goals as goal

pub returns-in-Carried-clause-same : goal.returns-in-Carried-clause-same
returns-in-Carried-clause-same g c =
    let logged = engine_again c.args.self.now c.take_next-taken.new.self c.log_waiting.new.self c.take_next-taken.ensures.same c.log_waiting.ensures.same in
    engine_again c.args.self.now c.log_waiting.new.self c.make.new.self logged c.make.ensures.same

pub returns-in-Acknowledged-clause-same : goal.returns-in-Acknowledged-clause-same
returns-in-Acknowledged-clause-same g c =
    subst (IsSameEngine c.args.self.now) (sym c.hear.ensures) (same_resent c.args.self.now c.log_waiting.new.self c.hear.new.self.resend (engine_again c.args.self.now c.take_next-taken.new.self c.log_waiting.new.self c.take_next-taken.ensures.same c.log_waiting.ensures.same))

pub returns-in-Nothing-clause-same : goal.returns-in-Nothing-clause-same
returns-in-Nothing-clause-same g c = engine_again c.args.self.now c.take_next-taken.new.self c.log_waiting.new.self c.take_next-taken.ensures.same c.log_waiting.ensures.same
