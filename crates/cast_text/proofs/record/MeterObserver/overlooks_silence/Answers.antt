use Rattle.cast_text.proofs.Recording.{writes_silently}
use Rattle.cast_text.proofs.record.MeterObserver.overlooks_silence.Goals as goal

pub returns : goal.returns
returns g c overlooks index event answer sound silent = writes_silently (g.W.Write.contents c.args.self.now.inner) c.args.self.now.failed index event answer sound silent
