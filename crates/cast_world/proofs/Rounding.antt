-- A round comes together slot by slot: its events are those of the plan.
use Rattle.std.proofs.Common.{◌≡◌, ℕ, ◌+◌, ◌*◌, ◌<◌, refl, sym, ◌∙◌, ap, subst, List, [], ◌∷◌, ◌++◌, length, drop, get_or, Some, None, Result, Ok, Err, IfOk, inl, inr, ◌⊎◌, append_assoc, append-nil}
use Rattle.cast_message.proofs.Lists.{drop-next}
use Rattle.cast_message.specs.declared.config.Config.{Config}
use Rattle.cast_message.specs.declared.event.Event.{Event}
use Rattle.cast_message.specs.declared.event.Event.TheVariants.{Send, Ack, Arrive}
use Rattle.cast_message.specs.declared.event.Answer.{Answer}
use Rattle.cast_message.specs.declared.event.StepFault.{StepFault}
use Rattle.cast_message.specs.declared.event.StepFault.TheVariants.{FramesFull}
use Rattle.cast_model.specs.History.{History}
use Rattle.cast_model.specs.Replies.{IsAccepted, IsRefused, fault, answer, history_from}
use Rattle.cast_model.specs.Rounds.{Due, AreAccepted, due, events_for, plan_from, plan, after_round}
use Rattle.cast_model.proofs.Round.{with_all, with_all-append, Counted}
use Rattle.cast_model.proofs.RoundFaults.{Going, Going-next, Going-start, plan_fault, accepted_all, all_accepted, history_from-with_all}
use Rattle.cast_model.proofs.TwoRounds.{round_frames, holds_all, holds_no_more}
use Rattle.cast_world.specs.Group.{State, Stands, Continues}
use Rattle.cast_world.specs.Plans.{events_from}
use Rattle.cast_world.specs.Settled.{SettlesSilently, SettlesFront}
use Rattle.cast_world.specs.Rounds.{Stops, TakesAll, TakesSilently, StopsFor, StopsRound, EndsRound, TakesRound, Spreads}
use Rattle.cast_world.proofs.Stepping.{made_count}

-- after events that were silent
stands_after : (config : Config) (now : History) (events : List Event) (world : State) → TakesSilently config now events world → Stands config (with_all now events) world
unfolding TakesSilently
stands_after config now [] world st = st
stands_after config now (event ∷ events) world took = stands_after config (event ∷ now) events world took.1

silent_taken : (config : Config) (now : History) (events : List Event) (world : State) → TakesSilently config now events world → TakesAll config now events (Ok tt) world
silent_taken config now events world took =
    let st = stands_after config now events world took in
    (all_accepted config now events st.accepted, subst (λ h. Stands config h world) (sym (history_from-with_all config now events st.accepted)) st)

module _ (config : Config) (past : History) where
  -- the events in front were taken, and these are left
  pub record IsTaking (events left : List Event) (world : State) : Type 0 where
    pub front : List Event
    pub split : events ≡ front ++ left
    pub stands : Stands config (with_all past front) world

  pub taking_next : (events : List Event) (world : State) (i : ℕ) (event : Event) → i < length events → event ≡ get_or events i event → IsTaking events (drop i events) world → IsTaking events (event ∷ drop (i + 1) events) world
  taking_next events world i event within is taking = subst (λ left. IsTaking events left world) (drop-next events i event within is) taking

  module _ (events left : List Event) (event : Event) (world new : State) (taking : IsTaking events (event ∷ left) world) where
    pub taking_more : (answer : Answer) → Continues config (with_all past taking.front) event (Ok answer) new → IsTaking events left new
    taking_more answer on = record {
      front = taking.front ++ event ∷ [];
      split = taking.split ∙ sym (append_assoc taking.front (event ∷ []) left);
      stands = subst (λ h. Stands config h new) (sym (with_all-append past past taking.front (event ∷ []))) on.1;
    }

    pub taking_stops : (refusal : StepFault) → Continues config (with_all past taking.front) event (Err refusal) new → Stops config past events refusal new
    taking_stops refusal on =
        let now_is = sym (history_from-with_all config past taking.front taking.stands.accepted) in
        record {
          front = taking.front;
          event = event;
          rest = left;
          split = taking.split;
          accepted = all_accepted config past taking.front taking.stands.accepted;
          refused = subst (λ h. IsRefused (fault config h event) refusal) now_is on.0;
          stands = subst (λ h. Stands config h new) now_is on.1;
        }

  pub taking_done : (events left : List Event) (world : State) → left ≡ [] → IsTaking events left world → TakesAll config past events (Ok tt) world
  taking_done events left world none taking =
      let whole : events ≡ taking.front = taking.split ∙ ap (λ rest. taking.front ++ rest) none ∙ append-nil taking.front in
      let stands : Stands config (with_all past events) world = subst (λ all. Stands config (with_all past all) world) (sym whole) taking.stands in (
        all_accepted config past events stands.accepted,
        subst (λ h. Stands config h world) (sym (history_from-with_all config past events stands.accepted)) stands,
      )

  -- the slots before were settled, and these are left
  pub record IsLeft (left : List Due) (world : State) : Type 0 where
    pub before : List Due
    pub front : List Event
    pub split : plan config past ≡ front ++ plan_from past before left
    pub stands : Stands config (with_all past front) world
    pub going : Going config past (with_all past front) before left

  pub left_first : (ds : List Due) (world : State) → ds ≡ due config past → Stands config past world → IsLeft ds world
  unfolding plan
  left_first ds world is st = subst (λ all. IsLeft all world) (sym is) (record { before = []; front = []; split = refl; stands = st; going = Going-start config past })

  plan_next : (before ds : List Due) (d : Due) → plan_from past before (d ∷ ds) ≡ events_for past before d ++ plan_from past (before ++ d ∷ []) ds
  unfolding plan_from
  plan_next before ds d = refl

  module _ (ds : List Due) (d : Due) (world : State) (round : IsLeft (d ∷ ds) world) where
    abbrev before : List Due
    before = round.before

    abbrev now : History
    now = with_all past round.front

    -- the events that settle the next slot are the plan's
    slot_events : events_from world d ≡ events_for past before d
    unfolding events_for Counted
    slot_events =
        λ k. Send d.from d.to d.slot
        ∷ Arrive d.from ((made_count config now world round.stands d.from ∙ round.going.counted d.from) k)
        ∷ Ack d.to d.from d.slot
        ∷ Arrive d.to ((made_count config now world round.stands d.to ∙ round.going.counted d.to) k)
        ∷ []

    split_next : plan config past ≡ round.front ++ (events_for past before d ++ plan_from past (before ++ d ∷ []) ds)
    split_next = round.split ∙ ap (λ events. round.front ++ events) (plan_next before ds d)

    module _ (new : State) where
      pub slot_settled : TakesAll config now (events_from world d) (Ok tt) new → IsLeft ds new
      slot_settled takes =
          let all = subst (λ es. TakesAll config now es (Ok tt) new) slot_events takes in
          let accepted = accepted_all config now (events_for past before d) round.stands.accepted all.0 in
          let after = history_from-with_all config now (events_for past before d) accepted in
          let joined = with_all-append past past round.front (events_for past before d) in
          record {
            before = before ++ d ∷ [];
            front = round.front ++ events_for past before d;
            split = split_next ∙ sym (append_assoc round.front (events_for past before d) (plan_from past (before ++ d ∷ []) ds));
            stands = subst (λ h. Stands config h new) (after ∙ sym joined) all.1;
            going = subst (λ h. Going config past h (before ++ d ∷ []) ds) (sym joined) (Going-next config past now before d ds round.going);
          }

      pub slot_stops : (refusal : StepFault) → TakesAll config now (events_from world d) (Err refusal) new → StopsRound config past refusal new
      slot_stops refusal takes =
          let stop = subst (λ es. TakesAll config now es (Err refusal) new) slot_events takes in
          let accepted = accepted_all config now stop.front round.stands.accepted stop.accepted in
          let whole = round.front ++ stop.front in
          let later = stop.rest ++ plan_from past (before ++ d ∷ []) ds in
          let joined = with_all-append past past round.front stop.front in
          let whole_accepted : IsAccepted config (with_all past whole) = subst (IsAccepted config) (sym joined) accepted in
          let now_is : history_from config now stop.front ≡ history_from config past whole =
          history_from-with_all config now stop.front accepted ∙ sym joined ∙ sym (history_from-with_all config past whole whole_accepted) in
          let split : plan config past ≡ whole ++ stop.event ∷ later =
          split_next ∙ ap (λ es. round.front ++ (es ++ plan_from past (before ++ d ∷ []) ds)) stop.split
          ∙ ap (λ es. round.front ++ es) (append_assoc stop.front (stop.event ∷ stop.rest) (plan_from past (before ++ d ∷ []) ds))
          ∙ sym (append_assoc round.front stop.front (stop.event ∷ later)) in
          record {
            front = whole;
            rest = stop.event ∷ later;
            split = split;
            accepted = all_accepted config past whole whole_accepted;
            cause = stops_for (history_from config past whole) stop.event later refusal
                (subst (λ h. (fault config h stop.event ≡ None) ⊎ (fault config h stop.event ≡ Some FramesFull)) (sym (history_from-with_all config past whole whole_accepted)) (plan_fault config past whole stop.event later split whole_accepted))
                (subst (λ h. IsRefused (fault config h stop.event) refusal) now_is stop.refused);
            stands = subst (λ h. Stands config h new) now_is stop.stands;
          }
        where
          stops_for : (h : History) (event : Event) (later : List Event) (refusal : StepFault) → (fault config h event ≡ None) ⊎ (fault config h event ≡ Some FramesFull) → IsRefused (fault config h event) refusal → StopsFor config h (event ∷ later) refusal
          stops_for h event later refusal (inl none) refused = subst (StopsFor config h (event ∷ later)) (sym (subst (λ o. IsRefused o refusal) none refused)) none
          stops_for h event later refusal (inr full) refused = subst (StopsFor config h (event ∷ later)) (sym (subst (λ o. IsRefused o refusal) full refused)) full

  -- the first of them were settled without news
  left_after : (front rest : List Due) (world new : State) → IsLeft (front ++ rest) world → SettlesSilently world front new → IsLeft rest new
  unfolding SettlesSilently
  left_after [] rest world new left same = subst (IsLeft rest) (sym same) left
  left_after (d ∷ front) rest world new left settles =
      let now = with_all past left.front in
      left_after front rest settles.0 new (slot_settled (front ++ rest) d world left settles.0 (silent_taken config now (events_from world d) settles.0 (settles.1 config now left.stands))) settles.2

  pub left_settled : (ds rest : List Due) (world new : State) → IsLeft ds world → SettlesFront world ds rest new → IsLeft rest new
  left_settled ds rest world new left settled = left_after settled.front rest world new (subst (λ all. IsLeft all world) settled.split left) settled.settles

  -- no slot is left
  pub round_ends : (ds left : List Due) (world : State) (made : ℕ) → ds ≡ due config past → made ≡ 2 * length ds → left ≡ [] → IsLeft left world → EndsRound config past made world
  unfolding plan_from after_round
  round_ends ds left world made is count none round =
      let whole : plan config past ≡ round.front = round.split ∙ ap (λ rest. round.front ++ plan_from past round.before rest) none ∙ append-nil round.front in
      let stands : Stands config (with_all past (plan config past)) world = subst (λ all. Stands config (with_all past all) world) (sym whole) round.stands in
      record {
        accepted = all_accepted config past (plan config past) stands.accepted;
        frames = count ∙ ap (λ all. 2 * length all) is ∙ sym (round_frames config past);
        stands = subst (λ h. Stands config h world) (sym (history_from-with_all config past (plan config past) stands.accepted)) stands;
      }

  -- what such a round brings
  pub round_spreads : (accepted : IsAccepted config past) → AreAccepted config past (plan config past) → Spreads config past
  round_spreads accepted all = record { all = holds_all config past accepted all; no_more = holds_no_more config past accepted all }

  -- what a round brings that was taken whole
  pub where_taken : (C : Type 0) (result : Result ℕ StepFault) (world : State) → TakesRound config past result world → (AreAccepted config past (plan config past) → C) → IfOk result (λ _. C)
  where_taken C (Ok made) world ends brings = brings ends.accepted
  where_taken C (Err refusal) world stops brings = tt
