use Rattle.std.proofs.Common.{◌∙◌, ◌++◌, ◌∷◌, [], take, sym, ap, subst}
use Rattle.cast_message.specs.declared.message.Item.TheVariants.{Propose}
use Rattle.cast_model.specs.Replies.{history, replies}
use Rattle.cast_model.specs.Headline.{DeliversPrefixes, DeliversNothingAfterClose, DecidesProposals, DecidesFewValues, DecidesWithinFaults}
use Rattle.cast_model.proofs.Members.{Member-Contains, Contains-Member}
use Rattle.cast_model.proofs.Answered.{answered_is_prefix}
use Rattle.cast_model.proofs.Closed.{answered_closed}
use Rattle.cast_model.proofs.Agreement.{decided_in_stream, decided_at_most_choices, decided_at_most_one_more}
use Rattle.cast_world.specs.Group.{Stands}
use Rattle.cast_world.proofs.Running.{run_begun, settled, replies_more, history_more, whole_replies}
use Rattle.cast_world.proofs.run.run_events.Goals as goal

pub loop-event-init : goal.loop-event-init
loop-event-init c = run_begun c.args.config c.in_ok-world.world c.in_ok-replies.replies c.in_ok-replies.ensures c.in_ok-world.ensures

pub loop-event-preserved : goal.loop-event-preserved
loop-event-preserved c =
    let i = c.loop-event.event-index in
    let events = c.args.events.now in
    let before = history c.args.config (take i events) in
    let step = settled c.args.config before c.event-item.result c.step-reply.result c.step-reply.new.self (c.step-reply.ensures.stands c.args.config before c.loop-event.invariant.stands) (sym c.is_want_of_memory.ensures ∙ c.if-is_want_of_memory.false) in
    record {
      replied = c.in_ok-push.ensures.ok ∙ ap (λ rs. rs ++ c.step-reply.result ∷ []) c.loop-event.invariant.replied ∙ ap (λ r. replies c.args.config (take i events) ++ r ∷ []) step.0 ∙ sym (replies_more c.args.config events i c.event-item.result c.loop-event-test.true c.event-item.is);
      stands = subst (λ h. Stands c.args.config h c.step-reply.new.self) (sym (history_more c.args.config events i c.event-item.result c.loop-event-test.true c.event-item.is)) step.1;
    }

pub returns-clause-prefix : goal.returns-clause-prefix
returns-clause-prefix c =
    subst (DeliversPrefixes c.args.config c.args.events.now) (sym (whole_replies c.args.config c.args.events.now c.loop-event.event-index c.loop-event.replies c.loop-event-test.false c.loop-event.invariant.replied)) (answered_is_prefix c.args.config c.args.events.now)

pub returns-clause-closed : goal.returns-clause-closed
returns-clause-closed c =
    subst (DeliversNothingAfterClose c.args.events.now) (sym (whole_replies c.args.config c.args.events.now c.loop-event.event-index c.loop-event.replies c.loop-event-test.false c.loop-event.invariant.replied)) (answered_closed c.args.config c.args.events.now)

pub returns-clause-proposed : goal.returns-clause-proposed
returns-clause-proposed c =
    subst (DecidesProposals c.args.config c.args.events.now) (sym (whole_replies c.args.config c.args.events.now c.loop-event.event-index c.loop-event.replies c.loop-event-test.false c.loop-event.invariant.replied))
    (λ j v in_values.
    let r = decided_in_stream c.args.config c.args.events.now j v (Contains-Member v _ in_values) in
    (r.0, r.1, Member-Contains (Propose j v) _ r.2))

pub returns-clause-few : goal.returns-clause-few
returns-clause-few c =
    subst (DecidesFewValues c.args.config) (sym (whole_replies c.args.config c.args.events.now c.loop-event.event-index c.loop-event.replies c.loop-event-test.false c.loop-event.invariant.replied)) (λ fewer. decided_at_most_choices c.args.config fewer c.args.events.now)

pub returns-clause-within : goal.returns-clause-within
returns-clause-within c =
    subst (DecidesWithinFaults c.args.config) (sym (whole_replies c.args.config c.args.events.now c.loop-event.event-index c.loop-event.replies c.loop-event-test.false c.loop-event.invariant.replied)) (decided_at_most_one_more c.args.config c.args.events.now)
