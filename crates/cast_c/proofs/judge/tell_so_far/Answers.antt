use Rattle.std.proofs.Common.{rules, refl, subst, ◌≡◌, ◌++◌, Option, IfSome}
use Rattle.cast_record.specs.Verdicts.{verdict}
use Rattle.cast_record.specs.declared.verdict.Verdict.TheVariants.{Bad}
use Rattle.cast_judge.specs.declared.judging.Offence.{Offence}
use Rattle.cast_c.proofs.judge.tell_so_far.Goals as goal

pub returns-in-Ok-Some : goal.returns-in-Ok-Some
returns-in-Ok-Some c = record {
  lines_are = refl;
  known = search rules;
  good = λ e. absurd cc;
  bad = λ text more st e.
      let F : Option Offence → Type 0 = λ found. IfSome found (λ o. verdict (text ++ more) ≡ Bad o.line o.rule) in
      subst F c.in-Ok-Some.field-0-is (c.in-Ok-Some.ensures.found text more st);
  memory = λ e. absurd cc;
}
