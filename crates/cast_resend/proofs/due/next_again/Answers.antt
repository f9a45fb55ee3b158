use Rattle.std.proofs.Common.{◌∙◌, length, sym, ap, subst, arith}
use Rattle.cast_resend.specs.Dues.{EndsNotOwed}
use Rattle.cast_resend.proofs.Dropping.{drops_last, fewer_left, none_taken}
use Rattle.cast_resend.proofs.due.next_again.Goals as goal

pub loop-gone-preserved : goal.loop-gone-preserved
loop-gone-preserved c =
    let ends : EndsNotOwed c.args.node.now c.args.to c.loop-gone.again.items = subst (EndsNotOwed c.args.node.now c.args.to) c.as_slice.ensures.value c.in_default.ensures.none in
    let many = ap length (sym c.as_slice.ensures.value) ∙ c.as_slice.ensures.len in (
      drops_last c.args.node.now c.args.to c.args.again.now.items c.loop-gone.again.items c.pop.new.self.items c.pop.result c.loop-gone.invariant.0 ends c.pop.ensures.items,
      fewer_left c.args.node.now c.args.to c.loop-gone.again.items c.pop.new.self.items c.pop.result c.loop-gone.gone _ c.pop.ensures.items (none_taken c.pop.result _ _ _ c.pop.ensures.cases many) c.loop-gone.invariant.1 (omega (arith, c.loop-gone-test.true, c.len-gone-end.ensures, c.args.again.now.ok)),
    )
