use Rattle.std.proofs.Common.{refl}
use Rattle.cast_script.proofs.plain.ack.Goals as goal

pub returns : goal.returns
returns c =
    let (ds, cells, is) = c.in_ok-from.ensures in
    (ds, cells, rw is refl)
