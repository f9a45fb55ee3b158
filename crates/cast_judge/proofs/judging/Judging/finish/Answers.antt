use Rattle.std.proofs.Common.{◌≡◌, ◌+◌, ◌&&◌, true, false, cond, nat_eq, length, ap, sym, ◌∙◌, arith}
use Rattle.std.proofs.lemmas.Bool.Decides.{nat_tests}
use Rattle.std.proofs.lemmas.Grind.{common_steps}
use Rattle.cast_record.specs.declared.verdict.Verdict.TheVariants.{Good, Bad}
use Rattle.cast_judge.specs.Kept.{is_ended_at}
use Rattle.cast_judge.specs.Judged.{is_reading_state}
use Rattle.cast_judge.proofs.JudgedLemmas.{was_reading, finished, offended_said}
use Rattle.cast_judge.proofs.judging.Judging.finish.Goals as goal
use Rattle.cast_judge.proofs.judging.Judging.finish.Goals.{else-is_ended-via-then-is_ended+else-is_empty, else-is_ended-via-else-is_ended}

pub returns-then-is_empty-clause-said : goal.returns-then-is_empty-clause-said
returns-then-is_empty-clause-said c text st =
    let self = c.args.self in
    let test : (is_ended_at c.args.self.kept.stage && nat_eq (length c.args.self.tail.items) 0) ≡ true = grind (arith, nat_tests, common_steps) in
    let h = was_reading self.state text self.kept self.tail.items self.lines (ap is_reading_state c.in-Reading.is) st in
    sym (finished text self.tail.items self.kept self.lines h ∙ ap (λ b. cond b Good (Bad (self.lines + 1) 0)) test)

pub returns-in-Reading-clause-said : goal.returns-in-Reading-clause-said
returns-in-Reading-clause-said c text st =
    let self = c.args.self in
    let test : (is_ended_at c.args.self.kept.stage && nat_eq (length c.args.self.tail.items) 0) ≡ false = elim c.else-is_ended.branch [
      | else-is_ended-via-then-is_ended+else-is_empty w ↦ grind (arith, nat_tests, common_steps)
      | else-is_ended-via-else-is_ended w ↦ grind (arith, nat_tests, common_steps)
    ] in
    let h = was_reading self.state text self.kept self.tail.items self.lines (ap is_reading_state c.in-Reading.is) st in
    sym (finished text self.tail.items self.kept self.lines h ∙ ap (λ b. cond b Good (Bad (self.lines + 1) 0)) test)

pub returns-in-Offended-clause-said : goal.returns-in-Offended-clause-said
returns-in-Offended-clause-said c text st =
    let self = c.args.self in
    sym (offended_said self.state text self.kept self.tail.items self.lines c.in-Offended.rule c.in-Offended.is st)
