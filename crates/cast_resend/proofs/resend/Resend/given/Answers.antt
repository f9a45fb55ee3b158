use Rattle.cast_resend.proofs.Moving.{keeps_given}
use Rattle.cast_resend.proofs.resend.Resend.given.Goals as goal

pub returns : goal.returns
returns c = λ before after k gives. keeps_given before after c.args.self.now c.copy-self.result c.copy-self.ensures k gives
