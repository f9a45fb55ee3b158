use Rattle.cast_world.proofs.Stepping.{continues_to, is_answered}
use Rattle.cast_world.proofs.Steps.{refused_far}
use Rattle.cast_world.proofs.world.World.step.Goals as goal

pub returns-clause-stands : goal.returns-clause-stands
returns-clause-stands c config past st = continues_to config past c.args.self.now st c.args.event.now c.take.result c.take.new.self c.take.ensures.steps

pub returns-clause-far : goal.returns-clause-far
returns-clause-far c config past st far = refused_far config past st.accepted c.args.event.now c.take.result c.take.new.self far (returns-clause-stands c config past st)

pub returns-clause-sure : goal.returns-clause-sure
returns-clause-sure c config past st crash = is_answered config past c.args.event.now c.take.result c.take.new.self (c.take.ensures.sure crash) (returns-clause-stands c config past st)
