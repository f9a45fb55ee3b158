use Rattle.std.proofs.Common.{◌∷◌, refl}
use Rattle.cast_script.proofs.plain.order.Goals as goal

pub returns : goal.returns
returns c =
    let a = c.in_ok-node.ensures in
    let b = c.in_ok-item.ensures in
    (a.0 ∷ b.0, (c.node.new.reader, a.1, b.1), rw (a.2, b.2) refl)
