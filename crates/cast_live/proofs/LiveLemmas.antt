-- Running the group of a script, and what its faults mean.
use Rattle.std.proofs.Common.{◌≡◌, ℕ, zero, suc, ◌==◌, ◌<◌, ◌≤◌, Bool, true, false, cond, List, [], ◌∷◌, ◌++◌, length, map, Option, Result, Err, slice_get, Some, refl, sym, ap, subst, ◌∙◌, arith, append_assoc}
use Rattle.std.proofs.lemmas.List.{map-append}
use Rattle.cast_run.specs.declared.submit_all.SubmitAll.{SubmitAll}
use Rattle.cast_message.specs.declared.message.Item.{Item}
use Rattle.cast_box.specs.Lists.{of}
use Rattle.cast_message.specs.declared.live_fault.LiveFault.{LiveFault}
use Rattle.cast_message.specs.declared.live_fault.LiveFault.TheVariants as lives
use Rattle.cast_run.specs.Faults.{JobsFit, IsFaultOf}
use Rattle.cast_run.specs.Jobs.{told_job, replies_in}
use Rattle.cast_run.specs.SubmitAll.{SubmitsGiven}
use Rattle.cast_script.specs.declared.script.Script.{Script}
use Rattle.cast_text.specs.Text.{fault_of_live}
use Rattle.cast_live.specs.Live.{IsNewJob, AreNewJobs, items_of, IsOfRunning}

pub new_more : (all : List (ℕ × SubmitAll)) (x : ℕ × SubmitAll) → AreNewJobs all → IsNewJob x.1 → AreNewJobs (all ++ x ∷ [])
new_more [] x each new zero a at = let same : x ≡ a = cc in subst (λ (b : ℕ × SubmitAll). IsNewJob b.1) same new
new_more [] x each new (suc i) a at = absurd cc
new_more (y ∷ ys) x each new zero a at = each zero a at
new_more (y ∷ ys) x each new (suc i) a at = new_more ys x (λ j. each (suc j)) new i a at

-- what a new job's fact says before its first turn
pub new_fact : (job : SubmitAll) → IsNewJob job → SubmitsGiven job job [] [] false
unfolding replies_in
new_fact job new =
    let none = new.1 in
    record { count = (refl, new.0); first = refl; replies = (sym none, omega (arith, none)); all = λ e. absurd cc }

-- ---- the jobs that are handed in are those of the script

pub items_more : (jobs : List (ℕ × List Item)) (more : List (ℕ × SubmitAll)) (node : ℕ) (job : SubmitAll) (items : List Item) (handed : List (ℕ × SubmitAll)) (rest : List (ℕ × List Item))
    → map items_of handed ++ (node, items) ∷ rest ≡ jobs → job.left ≡ items → more ≡ handed ++ told_job node job ∷ [] → map items_of more ++ rest ≡ jobs
items_more jobs more node job items handed rest whole same is =
    ap (λ xs. map items_of xs ++ rest) is ∙ ap (λ xs. xs ++ rest) (map-append items_of handed (told_job node job ∷ []))
    ∙ append_assoc (map items_of handed) ((node, job.left) ∷ []) rest ∙ ap (λ x. map items_of handed ++ (node, x) ∷ rest) same ∙ whole

length-of : (p : ℕ) (handed : List (ℕ × SubmitAll)) → length (of p (map items_of handed)) ≡ length (of p handed)
length-of p [] = refl
length-of p (job ∷ handed) = by_test (p == job.0) (length-of p handed)
  where
    by_test : (b : Bool) → length (of p (map items_of handed)) ≡ length (of p handed)
        → length (cond b (job.1.left ∷ of p (map items_of handed)) (of p (map items_of handed))) ≡ length (cond b (job.1 ∷ of p handed) (of p handed))
    by_test true e = ap suc e
    by_test false e = e

placed_at : (nodes : ℕ) (handed : List (ℕ × SubmitAll)) → ((i : ℕ) (job : ℕ × SubmitAll) → slice_get handed i ≡ Some job → job.0 < nodes)
    → (i : ℕ) (job : ℕ × List Item) → slice_get (map items_of handed) i ≡ Some job → job.0 < nodes
placed_at nodes [] each i job at = absurd cc
placed_at nodes (h ∷ handed) each zero job at = let same : items_of h ≡ job = cc in subst (λ (j : ℕ × List Item). j.0 < nodes) same (each zero h refl)
placed_at nodes (h ∷ handed) each (suc i) job at = placed_at nodes handed (λ k. each (suc k)) i job at

placed_back : (nodes : ℕ) (handed : List (ℕ × SubmitAll)) → ((i : ℕ) (job : ℕ × List Item) → slice_get (map items_of handed) i ≡ Some job → job.0 < nodes)
    → (i : ℕ) (job : ℕ × SubmitAll) → slice_get handed i ≡ Some job → job.0 < nodes
placed_back nodes [] each i job at = absurd cc
placed_back nodes (h ∷ handed) each zero job at = let same : h ≡ job = cc in subst (λ (j : ℕ × SubmitAll). j.0 < nodes) same (each zero (items_of h) refl)
placed_back nodes (h ∷ handed) each (suc i) job at = placed_back nodes handed (λ k. each (suc k)) i job at

fit_items : (nodes : ℕ) (handed : List (ℕ × SubmitAll)) → JobsFit nodes handed → JobsFit nodes (map items_of handed)
fit_items nodes handed fit = record { placed = placed_at nodes handed fit.placed; few = λ p l. subst (λ n. n ≤ 4) (sym (length-of p handed)) (fit.few p l) }

fit_handed : (nodes : ℕ) (handed : List (ℕ × SubmitAll)) → JobsFit nodes (map items_of handed) → JobsFit nodes handed
fit_handed nodes handed fit = record { placed = placed_back nodes handed fit.placed; few = λ p l. subst (λ n. n ≤ 4) (length-of p handed) (fit.few p l) }

module _ (script : Script) (handed : List (ℕ × SubmitAll)) (same : map items_of handed ≡ script.jobs) (gates : ℕ) (many : gates ≡ script.config.nodes) where
  pub fits : JobsFit script.config.nodes handed → JobsFit script.config.nodes script.jobs
  fits fit = subst (JobsFit script.config.nodes) same (fit_items script.config.nodes handed fit)

  pub refused_for : (why : LiveFault) → IsFaultOf script.config.nodes handed gates script.plan.faults why → IsOfRunning script (fault_of_live why)
  refused_for lives.Jobs is = λ fit. is (fit_handed script.config.nodes handed (subst (JobsFit script.config.nodes) (sym same) fit))
  refused_for lives.Gates is = absurd (is.1 many)
  refused_for lives.Plan is = (fits is.0, is.2)
  refused_for lives.Memory is = record { jobs = fits is.jobs_fit; plan = is.plan_fits }
  refused_for lives.Threads is = record { jobs = fits is.jobs_fit; plan = is.plan_fits }
