use Rattle.std.proofs.Common.{◌≡◌, List, [], ◌∷◌, ◌++◌, ◌∙◌, ap, refl, sym, subst, append-nil}
use Rattle.cast_message.specs.declared.event.Event.{Event}
use Rattle.cast_merge.specs.ByStamp.{merged_events}
use Rattle.cast_model.specs.Replies.{after, reply}
use Rattle.cast_record.specs.declared.line.Line.TheVariants.{End}
use Rattle.cast_record.specs.Lines.{head_of}
use Rattle.cast_record.specs.Text.{record_text}
use Rattle.cast_record.specs.Verdicts.{verdict}
use Rattle.cast_world.specs.Group.{Stands}
use Rattle.cast_live.specs.Replayed.{record_of_accepted}
use Rattle.cast_live.specs.Walk.{IsWalk}
use Rattle.cast_live.proofs.Replaying.{good_replay}
use Rattle.cast_live.proofs.VerdictLemmas.{IsFed, fed_none, fed_more}
use Rattle.cast_live.proofs.Walking.{rest_text, text_begins, text_next, text_ends, took, took_none, walk_begins, walk_next, walk_ends, all_ranges, few_events}
use Rattle.cast_live.proofs.verdict.judge_run.Goals as goal

pub events-init : goal.events-init
events-init c =
    let config = c.args.report.now.config in
    let events = merged_events c.args.report.now.reports in
    let whole = record_text (record_of_accepted config events) in
    let judging = c.feed_lines.new.judging in
    let head : c.head.result ≡ head_of config = c.head.ensures ∙ ap head_of c.config-config.ensures in
    let stands = subst (λ k. Stands k [] c.in_ok-world.world) c.config-config.ensures c.in_ok-world.ensures in
    let fed = fed_more whole (record_text (c.head.result ∷ [])) (rest_text config 0 [] events) whole c.new-judging.result judging (fed_none whole c.new-judging.result c.new-judging.ensures.stands)
    (text_begins config events ∙ ap (λ h. record_text (h ∷ []) ++ rest_text config 0 [] events) (sym head)) c.in_ok-feed_lines.ensures in
    let P : List Event → Type 0 = λ left. (w : IsWalk config events 0 left c.in_ok-world.world) × IsFed whole (rest_text config 0 w.past left) judging in
    subst P (sym c.in_ok-merged.ensures) (walk_begins config events c.in_ok-world.world stands, fed)

pub events-preserved : goal.events-preserved
events-preserved c =
    let config = c.args.report.now.config in
    let events = merged_events c.args.report.now.reports in
    let l = c.events in
    let w = l.invariant.0 in
    let event = c.in-Some.event in
    let rest = c.take_next.new.self in
    let later = c.judge_event.new.world in
    let answered = reply config w.past event in
    let step : (answered ≡ reply config w.past event) × Stands config (after config w.past event) later = (refl, c.in_ok-judge_event.ensures.stands config w.past w.stands) in
    let is = took _ l.merged rest event c.in_ok-event.ensures c.in-Some.is in (
      walk_next config events l.index l.merged l.world w event rest is later answered step _ c.in_ok-index.ensures c.in_ok-judge_event.ensures.range,
      fed_more _ _ _ _ l.judging c.judge_event.new.judging l.invariant.1 (text_next config events l.index l.merged l.world w event rest is later answered step _ c.in_ok-index.ensures) (c.in_ok-judge_event.ensures.judged config w.past w.stands),
    )

pub returns-clause-stands : goal.returns-clause-stands
returns-clause-stands c =
    let l = c.events in
    walk_ends c.args.report.now.config (merged_events c.args.report.now.reports) l.index l.merged l.world l.invariant.0 (took_none _ l.merged _ c.in_ok-event.ensures c.in_default.is)

pub returns-clause-good : goal.returns-clause-good
returns-clause-good c =
    let config = c.args.report.now.config in
    let events = merged_events c.args.report.now.reports in
    let l = c.events in
    let w = l.invariant.0 in
    let last = record_text (End ∷ []) in
    let none = (took_none _ l.merged _ c.in_ok-event.ensures c.in_default.is) in
    let fed = fed_more _ last [] _ l.judging c.feed_lines-2.new.judging l.invariant.1 (text_ends config events l.index l.merged l.world w none ∙ sym (append-nil last)) c.in_ok-feed_lines-2.ensures in
    c.in_ok-verdict.ensures.said fed.fed fed.stands ∙ sym (ap (λ t. verdict t) (fed.parts ∙ append-nil fed.fed))
    ∙ good_replay config events (all_ranges config events l.index l.merged l.world w none) (few_events config events l.index l.merged l.world w none)
