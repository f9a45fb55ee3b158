use Rattle.std.proofs.Common.{◌∷◌, [], refl}
use Rattle.cast_script.proofs.plain.link_slot.Goals as goal

pub returns : goal.returns
returns c =
    let a = c.in_ok-from.ensures in
    let b = c.in_ok-to.ensures in
    let s = c.in_ok-slot.ensures in
    (a.0 ∷ b.0 ∷ s.0 ∷ [], (c.node.new.reader, a.1, (c.node-2.new.reader, b.1, (c.number.new.reader, s.1, c.in_ok-end.ensures))), rw (a.2, b.2, s.2) refl)
