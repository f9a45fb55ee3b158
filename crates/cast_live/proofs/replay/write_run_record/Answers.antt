use Rattle.std.proofs.Common.{◌≡◌, ℕ, List, [], ◌∷◌, ◌++◌, ◌∙◌, ◌+◌, Err, ap, sym, subst, Option}
use Rattle.std.proofs.lemmas.Result.{err_from_is_err_and}
use Rattle.cast_message.specs.declared.event.Event.{Event}
use Rattle.cast_merge.specs.ByStamp.{merged_events}
use Rattle.cast_record.specs.declared.line.Line.TheVariants.{End}
use Rattle.cast_record.specs.Lines.{head_of, lines_for}
use Rattle.cast_record.specs.Text.{line_text, record_text}
use Rattle.cast_record.specs.Written.{WroteAll}
use Rattle.cast_text.specs.Text.{BreaksOff}
use Rattle.cast_record.proofs.WrittenLemmas.{IsGoing, going_start, going_again, going_more}
use Rattle.cast_world.specs.Group.{Stands}
use Rattle.cast_text.specs.RecordLaws.{wants_memory, breaks_longer}
use Rattle.cast_model.specs.Replies.{after}
use Rattle.cast_live.specs.Replayed.{record_of_accepted}
use Rattle.cast_live.specs.Walk.{IsWalk}
use Rattle.cast_live.proofs.Replaying.{writes_last}
use Rattle.cast_live.proofs.Walking.{rest_text, text_left, text_next, text_ends, took, took_none, walk_begins, walk_next, wants, going_wants}
use Rattle.cast_live.proofs.replay.write_run_record.Goals as goal

pub returns-in_err-world : goal.returns-in_err-world
returns-in_err-world g c = wants c.from_residual.result c.from_residual.ensures.1 (wants_memory _ c.requires)

pub returns-in_err-merged : goal.returns-in_err-merged
returns-in_err-merged g c = wants c.from_residual-in_err-merged.result c.from_residual-in_err-merged.ensures.1 (wants_memory _ c.requires)

pub returns-in_err-put_head : goal.returns-in_err-put_head
returns-in_err-put_head g c =
    let config = c.args.report.now.config in
    let events = merged_events c.args.report.now.reports in
    let p = err_from_is_err_and c.from_residual-in_err-put_head.result c.from_residual-in_err-put_head.ensures.1 in
    let rest = rest_text config 0 [] events in
    let why = c.in_err-put_head.field-0.0 in
    let old = g.W.Write.contents c.args.writer.now.inner in
    let new = g.W.Write.contents c.put_head.new.writer.inner in
    let broke = subst (λ k. BreaksOff why old new c.put_head.new.writer.failed (line_text (head_of k) ++ 10 ∷ [])) c.config-config.ensures c.in_err-put_head.ensures.text in
    rw (p.1, p.2) (breaks_longer why old new c.put_head.new.writer.failed (line_text (head_of config) ++ 10 ∷ []) rest broke)

pub events-init : goal.events-init
events-init g c =
    let config = c.args.report.now.config in
    let events = merged_events c.args.report.now.reports in
    let whole = record_text (record_of_accepted config events) in
    let stands = subst (λ k. Stands k [] c.in_ok-world.world) c.config-config.ensures c.in_ok-world.ensures in
    let old = g.W.Write.contents c.args.writer.now.inner in
    let new = g.W.Write.contents c.put_head.new.writer.inner in
    let wrote = subst (λ k. WroteAll old new c.put_head.new.writer.failed (line_text (head_of k) ++ 10 ∷ [])) c.config-config.ensures c.in_ok-put_head.ensures.text in
    let start : IsGoing old old c.args.writer.now.failed whole ((line_text (head_of config) ++ 10 ∷ []) ++ rest_text config 0 [] events) = going_start c.requires in
    let going = going_more start wrote in
    let P : List Event → Type 0 = λ left. (w : IsWalk config events 0 left c.in_ok-world.world) × IsGoing old new c.put_head.new.writer.failed whole (rest_text config 0 w.past left) in
    subst P (sym c.in_ok-merged.ensures) (walk_begins config events c.in_ok-world.world stands, going)

pub returns-in_err-event : goal.returns-in_err-event
returns-in_err-event g c = wants c.from_residual-in_err-event.result c.from_residual-in_err-event.ensures.1 (going_wants c.events.invariant.1)

pub returns-in_err-reply : goal.returns-in_err-reply
returns-in_err-reply g c = wants c.from_residual-in_err-reply.result c.from_residual-in_err-reply.ensures.1 (going_wants c.events.invariant.1)

pub returns-in_err-put_lines : goal.returns-in_err-put_lines
returns-in_err-put_lines g c =
    let config = c.args.report.now.config in
    let events = merged_events c.args.report.now.reports in
    let l = c.events in
    let w = l.invariant.0 in
    let event = c.in-Some.event in
    let rest = c.take_next.new.self in
    let reply = c.in_ok-reply.reply in
    let p = err_from_is_err_and c.from_residual-in_err-put_lines.result c.from_residual-in_err-put_lines.ensures.1 in
    let why = c.in_err-put_lines.field-0.0 in
    let lines = record_text (lines_for l.index event reply) in
    let left = rest_text config (l.index + 1) (after config w.past event) rest in
    let next = text_left config events l.index l.merged l.world w event rest (took _ l.merged c.take_next.new.self c.in-Some.event c.in_ok-event.ensures c.in-Some.is) c.take_step.new.world reply (c.in_ok-reply.ensures.step config w.past w.stands) in
    rw (p.1, p.2) (writes_last _ _ (Err why) (lines ++ left) (going_again l.invariant.1 next) (breaks_longer why _ _ _ lines left c.in_err-put_lines.ensures.text))

pub returns-in_err-index : goal.returns-in_err-index
returns-in_err-index g c =
    let l = c.events in
    let next = text_left c.args.report.now.config (merged_events c.args.report.now.reports) l.index l.merged l.world l.invariant.0 c.in-Some.event c.take_next.new.self (took _ l.merged c.take_next.new.self c.in-Some.event c.in_ok-event.ensures c.in-Some.is) c.take_step.new.world c.in_ok-reply.reply (c.in_ok-reply.ensures.step c.args.report.now.config l.invariant.0.past l.invariant.0.stands) in
    wants c.from_residual-in_err-index.result c.from_residual-in_err-index.ensures.1 (going_wants (going_more (going_again l.invariant.1 next) c.in_ok-put_lines.ensures.text))

pub events-preserved : goal.events-preserved
events-preserved g c =
    let config = c.args.report.now.config in
    let events = merged_events c.args.report.now.reports in
    let l = c.events in
    let w = l.invariant.0 in
    let event = c.in-Some.event in
    let rest = c.take_next.new.self in
    let later = c.take_step.new.world in
    let reply = c.in_ok-reply.reply in
    let is = took _ l.merged rest event c.in_ok-event.ensures c.in-Some.is in (
      walk_next config events l.index l.merged l.world w event rest is later reply (c.in_ok-reply.ensures.step config w.past w.stands) _ c.in_ok-index.ensures c.in_ok-reply.ensures.range,
      going_more (going_again l.invariant.1 (text_next config events l.index l.merged l.world w event rest is later reply (c.in_ok-reply.ensures.step config w.past w.stands) _ c.in_ok-index.ensures)) c.in_ok-put_lines.ensures.text,
    )

pub returns : goal.returns
returns g c =
    let l = c.events in
    writes_last _ _ c.put_line.result (line_text End ++ 10 ∷ [])
    (going_again l.invariant.1 (text_ends c.args.report.now.config (merged_events c.args.report.now.reports) l.index l.merged l.world l.invariant.0 (took_none _ l.merged _ c.in_ok-event.ensures c.in_default.is))) c.put_line.ensures.text
