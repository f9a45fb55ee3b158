-- How a summary is written in parts.
use Rattle.std.proofs.Common.{◌≡◌, ℕ, suc, ◌+◌, ◌-◌, ◌<◌, ◌≤◌, List, [], ◌∷◌, ◌++◌, length, codes, decimal, get_or, drop, append_assoc, sym, ap, subst, ◌∙◌, arith}
use Rattle.std.specs.List.{range_with_len}
use Rattle.std.proofs.lemmas.List.{drop_all}
use Rattle.cast_message.proofs.Lists.{drop-next}
use Rattle.cast_message.specs.declared.config.Config.{Config}
use Rattle.cast_model.specs.History.{History}
use Rattle.cast_model.specs.Delivery.{delivered}
use Rattle.cast_node.specs.declared.report.NodeReport.{NodeReport}
use Rattle.cast_model.specs.Replies.{history}
use Rattle.cast_world.specs.Group.{Stands}
use Rattle.cast_record.specs.VerdictText.{verdict_text}
use Rattle.cast_live.specs.declared.live.FinishedRun.{FinishedRun}
use Rattle.cast_live.specs.declared.summary.Summary.{Summary}
use Rattle.cast_live.specs.Live.{IsFinished, counts_text, node_text, nodes_text, rest_text, summary_text, ends_of, events_of}

-- the numbers from a on, below n
range-next : (a n : ℕ) → a < n → range_with_len a (n - a) ≡ a ∷ range_with_len (a + 1) (n - (a + 1))
range-next a n l = ap (range_with_len a) (let e : n - a ≡ suc (n - (a + 1)) = omega (arith, l) in e)

range-end : (a n : ℕ) → n ≤ a → range_with_len a (n - a) ≡ []
range-end a n l = ap (range_with_len a) (let e : n - a ≡ 0 = omega (arith, l) in e)

pub all_counts : (config : Config) (past : History) (p n : ℕ) → counts_text config past p (range_with_len 0 n) ≡ counts_text config past p (range_with_len 0 (n - 0))
all_counts config past p n = ap (λ k. counts_text config past p (range_with_len 0 k)) (let e : n ≡ n - 0 = omega arith in e)

pub counts-next : (config : Config) (past : History) (p a n count : ℕ) → a < n → count ≡ length (delivered config past p a)
    → (after : List ℕ) → counts_text config past p (range_with_len a (n - a)) ++ after
    ≡ (codes " " ++ decimal count) ++ (counts_text config past p (range_with_len (a + 1) (n - (a + 1))) ++ after)
counts-next config past p a n count l is after =
    ap (λ numbers. counts_text config past p numbers ++ after) (range-next a n l)
    ∙ ap (λ c. ((codes " " ++ decimal c) ++ counts_text config past p (range_with_len (a + 1) (n - (a + 1)))) ++ after) (sym is)
    ∙ append_assoc (codes " " ++ decimal count) (counts_text config past p (range_with_len (a + 1) (n - (a + 1)))) after

pub counts-end : (config : Config) (past : History) (p a n : ℕ) → n ≤ a → (after : List ℕ) → counts_text config past p (range_with_len a (n - a)) ++ after ≡ after
counts-end config past p a n l after = ap (λ numbers. counts_text config past p numbers ++ after) (range-end a n l)

pub nodes-next : (config : Config) (past : History) (reports : List NodeReport) (i : ℕ) (report : NodeReport) → i < length reports → report ≡ get_or reports i report
    → nodes_text config past i (ends_of (drop i reports)) ≡ node_text config past i report.ended ++ nodes_text config past (i + 1) (ends_of (drop (i + 1) reports))
unfolding nodes_text
nodes-next config past reports i report l is = ap (λ rs. nodes_text config past i (ends_of rs)) (drop-next reports i report l is)

pub nodes-end : (config : Config) (past : History) (reports : List NodeReport) (i : ℕ) → length reports ≤ i → nodes_text config past i (ends_of (drop i reports)) ≡ []
unfolding nodes_text
nodes-end config past reports i l = ap (λ rs. nodes_text config past i (ends_of rs)) (drop_all i reports l)

-- ---- the summary of a run, in other words for its configuration, its reports and whether it is at rest

pub nodes_named : (run : FinishedRun) (said : Summary) (config : Config) (reports : List NodeReport) → config ≡ run.report.config → reports ≡ run.report.reports
    → summary_text run.report.config (history run.report.config (events_of run)) (ends_of run.report.reports) said
    ≡ nodes_text config (history run.report.config (events_of run)) 0 (ends_of reports) ++ (rest_text said.rest ++ (codes "verdict " ++ (verdict_text said.verdict ++ 10 ∷ [])))
nodes_named run said config reports c r =
    let after = rest_text said.rest ++ (codes "verdict " ++ (verdict_text said.verdict ++ 10 ∷ [])) in
    let past = history run.report.config (events_of run) in
    ap (λ x. nodes_text x past 0 (ends_of run.report.reports) ++ after) (sym c) ∙ ap (λ x. nodes_text config past 0 (ends_of x) ++ after) (sym r)

pub rest_named : (said : Summary) (line : List ℕ) → line ≡ rest_text said.rest
    → rest_text said.rest ++ (codes "verdict " ++ (verdict_text said.verdict ++ 10 ∷ [])) ≡ line ++ (codes "verdict " ++ (verdict_text said.verdict ++ 10 ∷ []))
rest_named said line e = ap (λ x. x ++ (codes "verdict " ++ (verdict_text said.verdict ++ 10 ∷ []))) (sym e)

pub stands_named : (run : FinishedRun) (config : Config) → config ≡ run.report.config → IsFinished run → Stands config (history run.report.config (events_of run)) run.world
stands_named run config c finished = subst (λ x. Stands x (history run.report.config (events_of run)) run.world) (sym c) finished.stands
