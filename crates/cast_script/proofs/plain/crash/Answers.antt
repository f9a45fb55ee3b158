use Rattle.std.proofs.Common.{◌∷◌, [], refl}
use Rattle.cast_script.proofs.plain.crash.Goals as goal

pub returns : goal.returns
returns c =
    let a = c.in_ok-node.ensures in
    (a.0 ∷ [], (c.node.new.reader, a.1, c.in_ok-end.ensures), rw a.2 refl)
