use Rattle.std.proofs.Common.{ap, ◌∙◌, sym, length}
use Rattle.cast_box.proofs.Closing.{fair_left}
use Rattle.cast_box.proofs.Moves.{closes, shows_all}
use Rattle.cast_box.proofs.ends.Taker.gather.Goals as goal

pub pop_as-next-requires-clause-rule : goal.pop_as-next-requires-clause-rule
pop_as-next-requires-clause-rule g c =
    let is = c.self.invariant.1 in
    let role = ap (λ v. v.role) is in
    let count = ap (λ v. v.number) is ∙ ap (λ t. t.putters) c.self.view_is ∙ sym c.requires ∙ sym (ap (λ t. length t.ended) c.self.view_is) in
    (closes _ _ role count, shows_all _ _ role count)

pub returns-clause-fair : goal.returns-clause-fair
returns-clause-fair g c = fair_left _ _ _ c.pop_as-next.ensures.rule
