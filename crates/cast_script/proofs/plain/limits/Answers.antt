use Rattle.std.proofs.Common.{◌≡◌, [], Some, true, codes, map, sym, ap, ◌∙◌, arith}
use Rattle.std.proofs.lemmas.Grind.{common_steps}
use Rattle.serde_json.specs.View.{view}
use Rattle.cast_script.specs.Members.{has_known_members, list_of}
use Rattle.cast_script.proofs.PlainLemmas.{plain_script}
use Rattle.cast_script.proofs.plain.limits.Goals as goal

pub returns-in-Ok : goal.returns-in-Ok
returns-in-Ok c = λ found events like.
    let shown = view c.args.others.now in
    let known : has_known_members shown ≡ true = grind (arith, common_steps) in
    let no_plan : c.in_ok-plan.plan.now ≡ [] = grind (arith, common_steps) in
    let no_jobs : c.in_ok-jobs.jobs.now ≡ [] = grind (arith, common_steps) in
    let plan : list_of (codes "plan") shown ≡ Some [] = sym c.in_ok-plan.ensures ∙ ap (λ l. Some (map view l)) no_plan in
    let jobs : list_of (codes "jobs") shown ≡ Some [] = sym c.in_ok-jobs.ensures ∙ ap (λ l. Some (map view l)) no_jobs in
    plain_script found shown events c.in_ok-settings.settings _ like known (sym c.in_ok-settings.ensures) plan jobs c.in-Ok.ensures
