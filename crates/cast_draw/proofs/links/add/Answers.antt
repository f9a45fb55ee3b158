use Rattle.std.proofs.Common.{ap, arith}
use Rattle.cast_draw.specs.declared.links.Pair.{Pair}
use Rattle.cast_draw.proofs.GiftLemmas.{not_held}
use Rattle.cast_draw.proofs.links.add.Goals as goal

pub returns-then-place-held-clause-test : goal.returns-then-place-held-clause-test
returns-then-place-held-clause-test c =
    not_held c.args.held.now c.args.pair (omega (arith, c.if-place-held.true, c.from-place.ensures, ap (λ (pair : Pair). pair.sender) c.pair.view_is))
