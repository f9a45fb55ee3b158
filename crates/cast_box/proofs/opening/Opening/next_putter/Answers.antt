use Rattle.std.proofs.Common.{ap, arith}
use Rattle.cast_box.proofs.Moves.{forks}
use Rattle.cast_box.proofs.opening.Opening.next_putter.Goals as goal

pub another-pass-requires-clause-rule : goal.another-pass-requires-clause-rule
another-pass-requires-clause-rule g c =
    let made = ap (λ o. o.made) c.self.view_is in
    let all = ap (λ o. o.putters) c.self.view_is in
    let next = c.requires in
    forks _ _ (ap (λ v. v.role) c.self.invariant.1) (omega arith)
