use Rattle.std.proofs.Common.{subst, sym, [], List, ℕ}
use Rattle.cast_judge.specs.Judged.{IsReading}
use Rattle.cast_judge.proofs.JudgedLemmas.{started}
use Rattle.cast_judge.proofs.judging.Judging.new.Goals as goal

pub returns-clause-stands : goal.returns-clause-stands
returns-clause-stands c = subst (λ (tail : List ℕ). IsReading [] c.new.result tail 0) (sym c.new-2.ensures.items) (started c.new.result c.new.ensures)
