use Rattle.std.proofs.Common.{◌∙◌}
use Rattle.std.proofs.lemmas.Result.{IfOk-weaker}
use Rattle.cast_world.proofs.Owing.{is_bounded, due_is}
use Rattle.cast_world.proofs.world.World.due.Goals as goal

pub returns : goal.returns
returns c = record { found = λ config past st. IfOk-weaker c.find_due.result _ _ (λ found is. is ∙ due_is config past c.args.self.now st) (c.find_due.ensures (is_bounded config past c.args.self.now st)) }
