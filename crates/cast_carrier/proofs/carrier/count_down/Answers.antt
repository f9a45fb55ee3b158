use Rattle.std.proofs.Common.{◌<◌, ◌∙◌, ap, sym, length, slice_get, slice_set, arith}
use Rattle.cast_carrier.proofs.Lists.{read_at}
use Rattle.cast_carrier.proofs.Copying.{down_set, down_long}
use Rattle.cast_carrier.proofs.carrier.count_down.Goals as goal

pub loop-place-preserved : goal.loop-place-preserved
loop-place-preserved c =
    let l = c.loop-place in
    let d = c.index_mut.result.now in
    let within : l.place < length l.delayed.items = omega (arith, c.loop-place-test.true, c.len-place-end.ensures, ap length l.invariant, down_long c.args.to c.args.delayed.now.items l.place, c.args.delayed.now.ok) in
    ap (λ s. slice_set s l.place c.count_one.new.one) l.invariant
    ∙ down_set c.args.to c.args.delayed.now.items l.place d c.count_one.new.one (ap (λ s. slice_get s l.place) (sym l.invariant) ∙ read_at l.delayed.items l.place d within c.index_mut.ensures.value) c.count_one.ensures
