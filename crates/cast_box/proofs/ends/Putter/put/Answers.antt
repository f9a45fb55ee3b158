use Rattle.std.proofs.Common.{ap, ◌∙◌, sym, length, arith}
use Rattle.crossbeam_queue.specs.Passes.{ruled_capacity, view as known}
use Rattle.cast_box.proofs.Closing.{sole_full}
use Rattle.cast_box.proofs.Moves.{puts_as, shows_putter}
use Rattle.cast_box.proofs.ends.Putter.put.Goals as goal
use Rattle.cast_box.proofs.ends.Putter.put.Goals.{in-Ok, in-Err}

pub push_as-requires-clause-rule : goal.push_as-requires-clause-rule
push_as-requires-clause-rule g c =
    let is = c.self.invariant.1 in
    (puts_as _ _ _ _ _ (ap (λ v. v.role) is) (ap (λ v. v.size) is ∙ sym (ap (λ q. ruled_capacity q) c.deref.ensures)) (ap (λ v. v.number) is), shows_putter _ _ (ap (λ v. v.role) is))

pub returns-clause-sole : goal.returns-clause-sole
returns-clause-sole g c =
    elim c.match-push_as.branch [
      | in-Ok w ↦ rw w.result-is tt
      | in-Err w ↦ rw w.result-is (λ one.
          let is = c.self.invariant.1 in
          let below = c.self.invariant.2 in
          let number = ap (λ v. v.number) is in
          let size = ap (λ q. ruled_capacity q) c.deref.ensures ∙ ap (λ p. p.size) c.self.view_is in
          let put = ap (λ p. length p.put) c.self.view_is in
          let most = sole_full (known c.self.inside.pass) _ (omega arith) w.in-Err.ensures.rule.2 (ap (λ p. p.putters) c.self.view_is ∙ one) in
          omega arith)
    ]
