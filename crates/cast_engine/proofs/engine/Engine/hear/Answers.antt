use Rattle.cast_engine.proofs.engine.Engine.hear.Goals as goal

pub invariant_of-self : goal.invariant_of-self
invariant_of-self c = (c.self.invariant.0, c.hear.ensures c.self.inside.journal.node c.self.invariant.1)
