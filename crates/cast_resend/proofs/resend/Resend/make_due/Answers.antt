use Rattle.std.proofs.Common.{◌<◌, ◌≤◌, ◌∙◌, length, arith}
use Rattle.cast_carrier.proofs.Lists.{read_at}
use Rattle.cast_resend.proofs.Moving.{makes_none, makes_some}
use Rattle.cast_resend.proofs.resend.Resend.make_due.Goals as goal

pub returns-else-at-len : goal.returns-else-at-len
returns-else-at-len c =
    let past : length c.look_at.new.self.due.items ≤ c.from-at.result = omega (arith, c.if-at-len.false, c.len.ensures, c.look_at.new.self.due.ok) in
    makes_none c.args.self.now c.look_at.new.self c.args.to c.args.slot c.look_at.ensures.same c.look_at.ensures.looks c.from-at.result (c.from-at.ensures ∙ c.to.view_is) past

pub returns-then-at-len : goal.returns-then-at-len
returns-then-at-len c =
    let within : c.from-at.result < length c.look_at.new.self.due.items = omega (arith, c.if-at-len.true, c.len.ensures, c.look_at.new.self.due.ok) in
    let was = read_at c.look_at.new.self.due.items c.from-at.result c.index_mut.result.now within c.index_mut.ensures.value in
    makes_some c.args.self.now c.look_at.new.self c.args.to c.args.slot c.look_at.ensures.same c.look_at.ensures.looks c.from-at.result c.index_mut.result.now c.add.new.self (c.from-at.ensures ∙ c.to.view_is) was c.add.ensures
