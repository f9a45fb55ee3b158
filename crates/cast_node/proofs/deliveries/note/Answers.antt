use Rattle.std.proofs.Common.{◌≡◌, ◌-◌, ◌++◌, suc, length, replicate, slice_set, ap, ◌∙◌, arith}
use Rattle.std.specs.FinSet as set
use Rattle.cast_node.proofs.deliveries.note.Goals as goal

pub returns : goal.returns
returns c =
    let i = c.loop-empty.invariant in
    let row = c.args.row.now in
    let more : c.loop-empty._empty - length row.items ≡ suc c.args.number - length row.items = omega (arith, i.upto, c.loop-empty-test.false) in
    ap (λ xs. slice_set xs c.args.number c.args.members) (i.items ∙ ap (λ n. row.items ++ replicate n set.empty) more)
