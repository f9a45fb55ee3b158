use Rattle.std.proofs.Common.{◌<◌, ◌∙◌, length, refl, arith}
use Rattle.cast_carrier.proofs.Lists.{read_at}
use Rattle.cast_resend.proofs.Moving.{keeps_heard, keeps_heard_none}
use Rattle.cast_resend.proofs.resend.Resend.hear.Goals as goal

pub returns-then-at-len : goal.returns-then-at-len
returns-then-at-len c = λ kept k.
    let within : c.from-at.result < length c.look_at.new.self.due.items = omega (arith, c.if-at-len.true, c.len.ensures, c.look_at.new.self.due.ok) in
    let was = read_at c.look_at.new.self.due.items c.from-at.result c.index_mut-due.result.now within c.index_mut-due.ensures.value in
    keeps_heard kept c.args.self.now c.look_at.new.self c.args.from c.look_at.ensures.same c.look_at.ensures.looks k c.from-at.result c.index_mut-due.result.now _ (c.from-at.ensures ∙ c.from.view_is) was refl refl

pub returns-else-at-len : goal.returns-else-at-len
returns-else-at-len c = λ kept k. keeps_heard_none kept c.args.self.now c.look_at.new.self c.args.from c.look_at.ensures.same c.look_at.ensures.looks k
