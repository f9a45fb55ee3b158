-- A node that gives what its parts give goes on as the definitions say, and shows what they say.
use Rattle.std.proofs.Common.{◌≡◌, ◌≢◌, ℕ, ◌<◌, refl, sym, ◌∙◌, ap, subst, Bool, true, false, not, ◌&&◌, ◌||◌, ◌∷◌, length, None}
use Rattle.std.specs.Prelude.{◌*◌, ◌==◌, nat_lt, is_some, if◌then◌else◌, Result, Ok, Err}
use Rattle.std.proofs.lemmas.Bool.{and_parts, not-false, ltb-true, eq-eqb, false≢true}
use Rattle.cast_message.proofs.Booleans.{and_alike}
use Rattle.cast_message.specs.declared.config.Config.{Config}
use Rattle.cast_message.specs.declared.event.Answer.{Answer}
use Rattle.cast_message.specs.declared.event.Answer.TheVariants.{Ordered as AnswerOrdered, Sent as AnswerSent, Arrived as AnswerArrived}
use Rattle.cast_message.specs.declared.event.StepFault.{StepFault}
use Rattle.cast_message.specs.declared.message.Frame.{Frame}
use Rattle.cast_message.specs.declared.message.FrameBody.{FrameBody}
use Rattle.cast_message.specs.declared.message.FrameBody.TheVariants.{Carry, Took}
use Rattle.cast_model.specs.Replies.{IsRefused, reply_by}
use Rattle.cast_model.specs.Steps.{Step, Ordered, Sent, Acknowledged, Arrived, Stopped, Steps}
use Rattle.cast_model.specs.OwnSteps.{own_given, own_fault, own_answer, node_reply, node_after, nothing, is_ignored, is_possible, is_possible_body, IsOwnAccepted}
use Rattle.cast_node.specs.Kept.{Kept}
use Rattle.cast_node.specs.Turns.{arrived, arrived_body, unmoved, may_arrive, may_bring, kept_answer, kept_after, Gives}
use Rattle.cast_node.specs.Stands.{Stands, Continues}
use Rattle.cast_node.proofs.Refusals.{faults_are}
use Rattle.cast_node.proofs.Telling.{ToldRight}
use Rattle.cast_node.proofs.Stepping.{sent_stands, acknowledged_stands, stopped_stands, ordered_right, carried_right, acknowledged_right}

module _ (config : Config) (me : ℕ) (steps : Steps) (kept : Kept) (st : Stands config me steps kept) where
  not-true : (b : Bool) → not b ≡ true → b ≡ false
  not-true true h = sym h
  not-true false h = refl

  -- a frame that no node could have made is the same to both
  may_bring-is : (from : ℕ) (body : FrameBody) → from < config.nodes → from ≢ me → may_bring kept from body ≡ is_possible_body config me steps from body
  may_bring-is from (Carry slot message) l e = λ k. nat_lt message.sender (st.same_config k).nodes && not (message.sender == st.same_me k) && nat_lt message.number (st.same_config k).item_limit && nat_lt slot ((st.same_config k).nodes * (st.same_config k).item_limit)
  may_bring-is from (Took slot) l e = ap (nat_lt slot) (st.out from l e).given

  may_arrive-is : (frame : Frame) → may_arrive kept frame ≡ is_possible config me steps frame
  unfolding is_possible
  may_arrive-is frame =
      (λ k. nat_lt frame.from (st.same_config k).nodes && not (frame.from == st.same_me k) && may_bring kept frame.from frame.body)
      ∙ and_alike (nat_lt frame.from config.nodes && not (frame.from == me)) _ _ (λ e.
      let p = and_parts (nat_lt frame.from config.nodes) (not (frame.from == me)) e in
      may_bring-is frame.from frame.body (ltb-true frame.from config.nodes p.0) (λ z. false≢true (sym (not-true (frame.from == me) p.1) ∙ eq-eqb frame.from me z)))

  -- what a frame that could have been made brings
  body_right : (from seq to : ℕ) (body : FrameBody) → IsOwnAccepted config me (Arrived (record { from = from; seq = seq; to = to; body = body }) ∷ steps) → from < config.nodes → from ≢ me → is_possible_body config me steps from body ≡ true →
      ToldRight config me (Arrived (record { from = from; seq = seq; to = to; body = body })) steps (arrived_body kept from body)
  body_right from seq to (Carry slot message) accepted l e possible =
      let near = and_parts (nat_lt message.sender config.nodes && not (message.sender == me) && nat_lt message.number config.item_limit) (nat_lt slot (config.nodes * config.item_limit)) possible in
      let in_group = and_parts (nat_lt message.sender config.nodes && not (message.sender == me)) (nat_lt message.number config.item_limit) near.0 in
      let q = and_parts (nat_lt message.sender config.nodes) (not (message.sender == me)) in_group.0 in
      carried_right config me steps kept st from seq to slot message accepted l (ltb-true message.sender config.nodes q.0)
  body_right from seq to (Took slot) accepted l e possible = acknowledged_right config me steps kept st from seq to slot accepted l e (ltb-true slot (length (own_given me steps from)) possible)

  -- a step that isn't refused, and brings what could be
  record Right (step : Step) : Type 0 where
    answer : kept_answer kept step ≡ own_answer config me steps step
    stands : Stands config me (step ∷ steps) (kept_after kept step)

  right : (step : Step) → is_ignored config me steps step ≡ false → IsOwnAccepted config me (step ∷ steps) → Right step
  unfolding is_possible own_answer
  right (Ordered item) seen accepted =
      let t = ordered_right config me steps kept st item accepted in
      record { answer = λ k. AnswerOrdered (length (st.stream k)) (t.outcome k); stands = t.stands }
  right (Sent to slot) seen accepted = record { answer = λ k. AnswerSent (st.frames k); stands = sent_stands config me steps kept st to slot accepted }
  right (Acknowledged to slot) seen accepted = record { answer = λ k. AnswerSent (st.frames k); stands = acknowledged_stands config me steps kept st to slot accepted }
  right (Arrived frame) seen accepted =
      let possible = not-false (is_possible config me steps frame) seen in
      let p = and_parts (nat_lt frame.from config.nodes && not (frame.from == me)) _ possible in
      let q = and_parts (nat_lt frame.from config.nodes) (not (frame.from == me)) p.0 in
      let t = body_right frame.from frame.seq frame.to frame.body accepted (ltb-true frame.from config.nodes q.0) (λ z. false≢true (sym (not-true (frame.from == me) q.1) ∙ eq-eqb frame.from me z)) p.1 in
      let all : arrived kept frame ≡ arrived_body kept frame.from frame.body = ap (λ b. if b then arrived_body kept frame.from frame.body else unmoved kept) (may_arrive-is frame ∙ possible) in
      record {
        answer = λ k. AnswerArrived (st.same_me k) ((ap (λ t. t.outcome) all ∙ t.outcome) k);
        stands = subst (λ t. Stands config me (Arrived frame ∷ steps) t.kept) (sym all) t.stands;
      }
  right Stopped seen accepted = record { answer = refl; stands = stopped_stands config me steps kept st accepted }

  -- a frame that no node could have made
  record Ignored (step : Step) : Type 0 where
    answer : kept_answer kept step ≡ AnswerArrived me nothing
    same : kept_after kept step ≡ kept

  ignored : (step : Step) → is_ignored config me steps step ≡ true → Ignored step
  ignored (Arrived frame) e =
      let all : arrived kept frame ≡ unmoved kept = ap (λ b. if b then arrived_body kept frame.from frame.body else unmoved kept) (may_arrive-is frame ∙ not-true (is_possible config me steps frame) e) in
      record { answer = λ k. AnswerArrived (st.same_me k) (all k).outcome; same = ap (λ t. t.kept) all }
  ignored step e = absurd (false≢true e)

  pub continues : (step : Step) (reply : Result Answer StepFault) (new : Kept) → Gives kept step reply new → Continues config me steps step reply new
  unfolding node_reply node_after IsOwnAccepted
  continues step (Err refusal) new g = (subst (λ f. IsRefused f refusal) (faults_are config me steps kept st step) g.0, subst (Stands config me steps) (sym g.1) st)
  continues step (Ok answer) new g = by_ignored (is_ignored config me steps step) refl
    where
      none : own_fault config me steps step ≡ None
      none = sym (faults_are config me steps kept st step) ∙ g.0

      by_ignored : (b : Bool) → is_ignored config me steps step ≡ b → Continues config me steps step (Ok answer) new
      by_ignored true e =
          let i = ignored step e in (
            (λ k. reply_by (none k) (if e k then AnswerArrived me nothing else own_answer config me steps step)) ∙ ap (λ a. let r : Result Answer StepFault = Ok a in r) (sym i.answer ∙ sym g.1),
            subst (λ s. Stands config me s new) (sym (λ k. if is_some (none k) || e k then steps else step ∷ steps)) (subst (Stands config me steps) (sym (g.2 ∙ i.same)) st),
          )
      by_ignored false e =
          let r = right step e (st.accepted, none, e) in (
            (λ k. reply_by (none k) (if e k then AnswerArrived me nothing else own_answer config me steps step)) ∙ ap (λ a. let r : Result Answer StepFault = Ok a in r) (sym r.answer ∙ sym g.1),
            subst (λ s. Stands config me s new) (sym (λ k. if is_some (none k) || e k then steps else step ∷ steps)) (subst (Stands config me (step ∷ steps)) (sym g.2) r.stands),
          )
