use Rattle.cast_message.specs.declared.message.Item.TheVariants.{Propose}
use Rattle.cast_model.proofs.Members.{Member-Contains, Contains-Member}
use Rattle.cast_model.proofs.Answered.{answered_is_prefix, answered-delivered}
use Rattle.cast_model.proofs.Shown.{answered-decided}
use Rattle.cast_model.proofs.AtRest.{acked_taken}
use Rattle.cast_model.proofs.Sound.{sound}
use Rattle.cast_model.proofs.Closed.{answered_closed}
use Rattle.cast_model.proofs.Agreement.{decided_in_stream, decided_at_most_choices, decided_at_most_one_more, shown_in_stream, shown_at_most_choices}
use Rattle.cast_model.proofs.NoFaults.{no_faults_no_modes}
use Rattle.cast_model.proofs.keeps_order_and_agrees.Goals as goal

pub returns-clause-prefix : goal.returns-clause-prefix
returns-clause-prefix c = answered_is_prefix

pub returns-clause-closed : goal.returns-clause-closed
returns-clause-closed c = answered_closed

pub returns-clause-proposed : goal.returns-clause-proposed
returns-clause-proposed c config events j v in_values =
    let r = decided_in_stream config events j v (Contains-Member v _ in_values) in
    (r.0, r.1, Member-Contains (Propose j v) _ r.2)

pub returns-clause-few : goal.returns-clause-few
returns-clause-few c config events fewer = decided_at_most_choices config fewer events

pub returns-clause-within : goal.returns-clause-within
returns-clause-within c = decided_at_most_one_more

pub returns-clause-shown : goal.returns-clause-shown
returns-clause-shown c = answered-delivered

pub returns-clause-shown_decided : goal.returns-clause-shown_decided
returns-clause-shown_decided c = answered-decided

pub returns-clause-shown_proposed : goal.returns-clause-shown_proposed
returns-clause-shown_proposed c config past accepted q j v shown =
    let r = shown_in_stream config past accepted q j v shown in
    (r.0, r.1, Member-Contains (Propose j v) _ r.2)

pub returns-clause-shown_few : goal.returns-clause-shown_few
returns-clause-shown_few c = shown_at_most_choices

pub returns-clause-acknowledged : goal.returns-clause-acknowledged
returns-clause-acknowledged c config past accepted = acked_taken past (sound config past accepted)

pub returns-clause-modes : goal.returns-clause-modes
returns-clause-modes c = no_faults_no_modes
