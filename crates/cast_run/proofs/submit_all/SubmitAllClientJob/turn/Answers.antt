use Rattle.std.proofs.Common.{◌≡◌, Bool, true, false, not, IsTrue}
use Rattle.cast_run.proofs.Submitting.{keeps_given}
use Rattle.cast_run.proofs.submit_all.SubmitAllClientJob.turn.Goals as goal

twice : (b : Bool) → not (not b) ≡ true → IsTrue b
twice true e = e
twice false e = e

pub returns-clause-fact : goal.returns-clause-fact
returns-clause-fact g c given fact =
    keeps_given given c.args.self.now c.take_reply.new.self c.submit_next.new.self c.args.client.now c.submit_next.new.client c.take_reply.new.client (not (not c.is_done.result))
    fact c.submit_next.ensures.next c.take_reply.ensures.given c.take_reply.ensures.orders c.take_reply.ensures.replies (λ done. c.is_done.ensures.0 (twice c.is_done.result done))
