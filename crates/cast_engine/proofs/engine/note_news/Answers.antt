use Rattle.cast_resend.proofs.Keeping.{keeps_less}
use Rattle.cast_engine.proofs.engine.note_news.Goals as goal

pub returns-then-has_news : goal.returns-then-has_news
returns-then-has_news c = λ before after k gives less. c.given.ensures before after k gives

pub returns-else-has_news : goal.returns-else-has_news
returns-else-has_news c = λ before after k gives less. keeps_less before after c.args.resend.now (less c.if-has_news.false) k
