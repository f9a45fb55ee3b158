use Rattle.std.proofs.Common.{◌∷◌, [], refl}
use Rattle.cast_script.proofs.plain.proposal.Goals as goal

pub returns : goal.returns
returns c =
    let a = c.in_ok-instance.ensures in
    let b = c.in_ok-value.ensures in
    (a.0 ∷ b.0 ∷ [], (c.number.new.reader, a.1, (c.number-2.new.reader, b.1, c.in_ok-end.ensures)), rw (a.2, b.2) refl)
