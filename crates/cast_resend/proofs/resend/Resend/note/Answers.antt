use Rattle.std.proofs.Common.{◌<◌, ◌≤◌, ◌∙◌, length, arith}
use Rattle.cast_carrier.proofs.Lists.{read_at}
use Rattle.cast_resend.proofs.Sending.{keeps_sent, no_peer}
use Rattle.cast_resend.proofs.resend.Resend.note.Goals as goal

pub returns-then-at-len : goal.returns-then-at-len
returns-then-at-len c = λ kept k due given free.
    let within : c.from-at.result < length c.put.new.self.due.items = omega (arith, c.if-at-len.true, c.len.ensures, c.put.new.self.due.ok) in
    let was = read_at c.put.new.self.due.items c.from-at.result c.index_mut.result.now within c.index_mut.ensures.value in
    keeps_sent kept c.args.self.now c.put.new.self c.args.to c.args.slot c.put.ensures.same c.put.ensures.sent c.from-at.result c.index_mut.result.now c.take.new.self (c.from-at.ensures ∙ c.to.view_is) was c.take.ensures.takes k due given free

pub returns-else-at-len : goal.returns-else-at-len
returns-else-at-len c = λ kept k due given free.
    let past : length c.put.new.self.due.items ≤ c.from-at.result = omega (arith, c.if-at-len.false, c.len.ensures, c.put.new.self.due.ok) in
    no_peer kept c.args.self.now c.put.new.self c.args.to c.args.slot c.put.ensures.same c.put.ensures.sent c.from-at.result (c.from-at.ensures ∙ c.to.view_is) past due
