use Rattle.std.proofs.Common.{◌<◌, ◌∙◌, length, arith}
use Rattle.cast_carrier.proofs.Lists.{read_at}
use Rattle.cast_resend.proofs.Hoping.{none_after, some_after}
use Rattle.cast_resend.proofs.Moving.{keeps_after}
use Rattle.cast_resend.proofs.resend.Resend.least_due.Goals as goal

pub returns-clause-keeps : goal.returns-clause-keeps
returns-clause-keeps c =
    let within : c.from-at.result < length c.args.self.now.due.items = omega (arith, c.if-at-len.false, c.len.ensures, c.args.self.now.due.ok) in
    let was = read_at c.args.self.now.due.items c.from-at.result c.index_mut.result.now within c.index_mut.ensures.value in
    keeps_after c.args.node.now c.args.self.now c.from-at.result c.args.to c.index_mut.result.now c.next.new.self (c.from-at.ensures ∙ c.to.view_is) was c.next.ensures.same c.next.ensures.drops c.requires.keeps

pub returns-clause-some : goal.returns-clause-some
returns-clause-some c =
    let within : c.from-at.result < length c.args.self.now.due.items = omega (arith, c.if-at-len.false, c.len.ensures, c.args.self.now.due.ok) in
    let was = read_at c.args.self.now.due.items c.from-at.result c.index_mut.result.now within c.index_mut.ensures.value in
    some_after c.args.node.now c.args.self.now c.from-at.result c.args.to c.index_mut.result.now c.next.new.self (c.from-at.ensures ∙ c.to.view_is) within was c.next.ensures.same c.next.ensures.drops c.next.result c.next.ensures.some

pub returns-clause-none : goal.returns-clause-none
returns-clause-none c =
    let within : c.from-at.result < length c.args.self.now.due.items = omega (arith, c.if-at-len.false, c.len.ensures, c.args.self.now.due.ok) in
    let was = read_at c.args.self.now.due.items c.from-at.result c.index_mut.result.now within c.index_mut.ensures.value in
    none_after c.args.node.now c.args.self.now c.from-at.result c.args.to c.index_mut.result.now c.next.new.self (c.from-at.ensures ∙ c.to.view_is) within was c.next.ensures.same c.next.ensures.drops c.next.result c.next.ensures.none
