use Rattle.std.proofs.Common.{refl}
use Rattle.cast_engine.proofs.Resending.{due_still}
use Rattle.cast_engine.proofs.engine.Engine.send.Goals as goal

pub note-requires-clause-due : goal.note-requires-clause-due
note-requires-clause-due g c = due_still c.args.self.now c.make.new.self c.args.to c.args.slot c.make.ensures.resend (c.if-not-make.ensures.frame refl) c.requires.due
