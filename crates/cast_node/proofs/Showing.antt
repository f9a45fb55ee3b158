-- What a node shows is what the definitions say of its steps, and the frames that it makes are those.
use Rattle.std.proofs.Common.{◌≡◌, ◌≢◌, ℕ, ◌<◌, refl, sym, ◌∙◌, ap, Bool, true, false, not, ◌&&◌, cond, List, [], ◌∷◌, length, map, Some, None, arith}
use Rattle.std.specs.Prelude.{nat_lt, nat_le, slice_index_or, unwrap_or, if◌then◌else◌}
use Rattle.std.specs.FinSet as set
use Rattle.std.specs.FinMap as finite
use Rattle.std.proofs.lemmas.Bool.{not-false, ltb-true, eq-eqb, false≢true}
use Rattle.std.proofs.lemmas.Bool.Decides.{nat_tests}
use Rattle.cast_message.specs.declared.config.Config.{Config}
use Rattle.cast_message.specs.declared.message.Item.TheVariants.{Close}
use Rattle.cast_message.specs.declared.message.FrameBody.TheVariants.{Carry, Took}
use Rattle.cast_model.specs.Refusals.{Cause, first_fault}
use Rattle.cast_model.specs.Steps.{Sent, Acknowledged, Steps}
use Rattle.cast_model.specs.OwnSteps.{own_given, own_acked, own_owed, own_delivered, own_decision, own_known_by, own_made, own_fault, message_in}
use Rattle.cast_model.proofs.OwnFronts.{own_log-front}
use Rattle.cast_agree.specs.Counted.{decision}
use Rattle.cast_node.specs.Kept.{Kept, link_to, knowers_of}
use Rattle.cast_node.specs.Turns.{carry_of, took_of, message_owed}
use Rattle.cast_model.specs.Shown.{item_of}
use Rattle.cast_node.specs.Stands.{Stands}
use Rattle.cast_node.proofs.HolderSets.{known_by-is}
use Rattle.cast_node.proofs.Counting.{decision_is}

module _ (config : Config) (me : ℕ) (steps : Steps) (kept : Kept) (st : Stands config me steps kept) where
  pub shows_delivered : (s : ℕ) → s < config.nodes → slice_index_or kept.deliveries.delivered s [] ≡ map item_of (own_delivered config me steps s)
  shows_delivered s l = st.delivers s l ∙ ap (map item_of) (own_log-front config me steps st.accepted s)

  pub shows_decision : (j : ℕ) → decision kept.deliveries.agree j ≡ own_decision config me steps j
  unfolding own_decision
  shows_decision j = ap (λ counted. decision counted j) st.agrees ∙ decision_is config _ j

  pub shows_known_by : (s i : ℕ) → s < config.nodes → set.len (knowers_of kept s i) ≡ own_known_by config me steps s i
  shows_known_by s i l = known_by-is config me steps kept.deliveries.knowers st.knows s i l

  pub shows_owed : (q : ℕ) → q < config.nodes → q ≢ me → finite.len (link_to kept q).owed ≡ length (own_owed me steps q)
  shows_owed q l e = (st.out q l e).count

  -- the causes of no refusal
  record Clear (cause : Cause) (causes : List Cause) : Type 0 where
    here : cause.holds ≡ false
    rest : first_fault causes ≡ None

  clear : (cause : Cause) (causes : List Cause) → first_fault (cause ∷ causes) ≡ None → Clear cause causes
  unfolding first_fault
  clear cause causes e = by_test cause.holds refl e
    where
      by_test : (b : Bool) → cause.holds ≡ b → cond b (Some cause.refusal) (first_fault causes) ≡ None → Clear cause causes
      by_test true h f = absurd (cc)
      by_test false h f = record { here = h; rest = f }

  -- the frame of a Send
  pub carries : (to slot : ℕ) → own_fault config me steps (Sent to slot) ≡ None → own_made me steps (Sent to slot) ≡ carry_of kept to slot ∷ []
  unfolding own_fault own_made
  carries to slot e =
      let a = clear _ _ e in
      let b = clear _ _ a.rest in
      let c = clear _ _ b.rest in
      let d = clear _ _ c.rest in
      let f = clear _ _ d.rest in
      λ k. record { from = sym st.same_me k; seq = sym st.frames k; to = to; body = Carry slot (sym (owed_is (ltb-true to config.nodes (not-false _ a.here)) (λ z. false≢true (sym b.here ∙ eq-eqb me to (sym z))) d.here f.here) k) } ∷ []
    where
      owed_is : to < config.nodes → to ≢ me → nat_le (length (own_given me steps to)) slot ≡ false → own_acked steps to slot ≡ false → message_owed kept to slot ≡ message_in (own_given me steps to) slot
      owed_is l apart inside waiting =
          ap (λ o. unwrap_or o (record { sender = 0; number = 0; item = Close })) ((st.out to l apart).owed slot
          ∙ (λ k. if (let t : nat_lt slot (length (own_given me steps to)) ≡ true = grind (arith, nat_tests, inside) in t) k && not (waiting k) then Some (message_in (own_given me steps to) slot) else None))

  -- and of an Ack
  pub tells_taken : (to slot : ℕ) → own_made me steps (Acknowledged to slot) ≡ took_of kept to slot ∷ []
  unfolding own_made
  tells_taken to slot = λ k. record { from = sym st.same_me k; seq = sym st.frames k; to = to; body = Took slot } ∷ []
