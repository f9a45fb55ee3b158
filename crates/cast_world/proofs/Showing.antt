-- What the readers of a world show.
use Rattle.std.proofs.Common.{◌≡◌, ◌≢◌, ◌⊎◌, ℕ, ◌<◌, ◌≤◌, refl, sym, ◌∙◌, ap, subst, Bool, true, false, cond, [], ◌∷◌, length, map, Some, None, inl, inr, arith}
use Rattle.std.specs.Prelude.{◌==◌, not, if◌then◌else◌, ◌&&◌, ◌-◌, max, take, nat_lt, slice_get, slice_index_or}
use Rattle.std.proofs.lemmas.Bool.{cases_lt, cases_eq, lt-ltb, ltb-true, lt-leb, and_parts, eq-eqb, ne_eqb, false≢true}
use Rattle.std.proofs.lemmas.Option.{slice_get-get_or, slice_get_past}
use Rattle.std.specs.FinMap as finite
use Rattle.cast_message.specs.declared.config.Config.{Config}
use Rattle.cast_message.specs.declared.event.Event.{Event}
use Rattle.cast_model.specs.History.{History, stream, is_live, frames}
use Rattle.cast_model.specs.Delivery.{delivered, decision, least}
use Rattle.cast_model.specs.Replies.{IsAccepted, causes, fault}
use Rattle.cast_model.specs.Rounds.{owed}
use Rattle.cast_model.specs.Shown.{item_of, ShowsDelivered, ShowsOwed}
use Rattle.cast_model.specs.Steps.{Step, steps_of}
use Rattle.cast_model.specs.OwnSteps.{own_decision, own_log, first_votes, IsStep, orders, sends, acknowledges, takes, stops}
use Rattle.cast_model.proofs.Members.{Member-slice_get}
use Rattle.cast_model.proofs.Projected.{own_items-steps_of}
use Rattle.cast_model.proofs.OwnHeld.{own_live-steps_of, step_cases, steps_same}
use Rattle.cast_model.proofs.OwnTurns.{own_decision-steps_of, own_delivered-steps_of}
use Rattle.cast_model.proofs.OwnReplies.{own_owed-steps_of, frame_ends}
use Rattle.cast_agree.specs.Counted.{decision as decision_counted}
use Rattle.cast_node.specs.Kept.{link_to}
use Rattle.cast_node.specs.Calls.{is_peer}
use Rattle.cast_node.specs.Stands.{Stands as NodeStands}
use Rattle.cast_node.proofs.Showing.{shows_delivered, shows_decision, shows_owed}
use Rattle.cast_world.specs.Group.{State, node_at, Stands}
use Rattle.cast_world.proofs.Sounding.{in_group}

module _ (config : Config) (past : History) (world : State) (st : Stands config past world) where
  pub stream_shown : (p : ℕ) → p < config.nodes → (node_at world p).stream ≡ stream past p
  stream_shown p l = (st.nodes p l).stream ∙ own_items-steps_of past p

  pub live_shown : (p : ℕ) → p < config.nodes → (node_at world p).live ≡ is_live past p
  live_shown p l = (st.nodes p l).live ∙ own_live-steps_of past p

  pub decision_shown : (p j : ℕ) → p < config.nodes → decision_counted (node_at world p).deliveries.agree j ≡ decision config past p j
  decision_shown p j l = shows_decision config p (steps_of past p) (node_at world p) (st.nodes p l) j ∙ own_decision-steps_of config past st.accepted p j

  pub owed_shown : (p q : ℕ) → p < config.nodes → q < config.nodes → q ≢ p → finite.len (link_to (node_at world p) q).owed ≡ length (owed past p q)
  owed_shown p q l m e = shows_owed config p (steps_of past p) (node_at world p) (st.nodes p l) q m e ∙ ap length (own_owed-steps_of past p q)

  pub delivered_shown : (q s : ℕ) → q < config.nodes → s < config.nodes → slice_index_or (node_at world q).deliveries.delivered s [] ≡ map item_of (delivered config past q s)
  delivered_shown q s l m = shows_delivered config q (steps_of past q) (node_at world q) (st.nodes q l) s m ∙ ap (map item_of) (own_delivered-steps_of config past st.accepted q s)

  -- a reader that asks a node of the group
  pub shown_delivered : (q s : ℕ) → q < length world.nodes → ShowsDelivered config past q s (slice_get (node_at world q).deliveries.delivered s)
  shown_delivered q s within = elim (cases_lt s config.nodes) [
    | inl l ↦ subst (ShowsDelivered config past q s) (sym (slice_get-get_or (node_at world q).deliveries.delivered s [] (subst (λ n. s < n) (sym node.senders_delivered) l))) (omega (arith, q_in, l), delivered_shown q s q_in l)
    | inr l ↦ subst (ShowsDelivered config past q s) (sym (slice_get_past (node_at world q).deliveries.delivered s (subst (λ n. n ≤ s) (sym node.senders_delivered) l))) (omega (arith, l))
  ]
    where
      q_in : q < config.nodes
      q_in = subst (λ n. q < n) st.size within

      node : NodeStands config q (steps_of past q) (node_at world q)
      node = st.nodes q q_in

  pub shown_live : (p : ℕ) → p < length world.nodes → (node_at world p).live ≡ (nat_lt p config.nodes && is_live past p)
  shown_live p within = let l = subst (λ n. p < n) st.size within in live_shown p l ∙ sym (ap (λ b. b && is_live past p) (lt-ltb p config.nodes l))

  -- a number that is no node's has no steps
  step_in : (q : ℕ) (event : Event) (step : Step) (past : History) → IsAccepted config past → IsStep past q event step → fault config past event ≡ None → q < config.nodes
  unfolding fault causes
  step_in q event step past accepted (orders item) e = in_group config q _ e
  step_in q event step past accepted (sends to slot) e = in_group config q _ e
  step_in q event step past accepted (acknowledges to slot) e = in_group config q _ e
  step_in q event step past accepted (takes from seq frame at to) e = subst (λ p. p < config.nodes) to (frame_ends config past accepted from frame (Member-slice_get (frames past from) seq frame at)).target_in
  step_in q event step past accepted stops e = in_group config q _ e

  no_steps : (q : ℕ) → config.nodes ≤ q → (past : History) → IsAccepted config past → steps_of past q ≡ []
  unfolding steps_of IsAccepted
  no_steps q l [] accepted = refl
  no_steps q l (event ∷ past) accepted = elim (step_cases past q event) [
    | inl mine ↦ (let inside = step_in q event mine.0 past accepted.0 mine.1 accepted.1 in absurd (omega (arith, l, inside)))
    | inr elsewhere ↦ steps_same past q event elsewhere ∙ no_steps q l past accepted.0
  ]

  pub decision_nowhere : (q j : ℕ) → length world.nodes ≤ q → None ≡ decision config past q j
  unfolding own_decision own_log first_votes
  decision_nowhere q j outside =
      let few = config.faults_in_range in
      sym (ap (λ b. cond b (Some (least (take (config.nodes - config.faults) []))) None) (lt-leb (config.nodes - config.faults) 0 (omega (arith, few))))
      ∙ ap (λ steps. own_decision config q steps j) (sym (no_steps q (subst (λ n. n ≤ q) st.size outside) past st.accepted))
      ∙ own_decision-steps_of config past st.accepted q j

  pub shown_owed : (p q : ℕ) → p < length world.nodes → ShowsOwed config past p q (if is_peer (node_at world p) q then Some (finite.len (link_to (node_at world p) q).owed) else None)
  shown_owed p q within = by_test (is_peer (node_at world p) q) refl
    where
      p_in : p < config.nodes
      p_in = subst (λ n. p < n) st.size within

      test_is : is_peer (node_at world p) q ≡ (nat_lt q config.nodes && not (q == p))
      test_is = λ k. nat_lt q ((st.nodes p p_in).same_config k).nodes && not (q == (st.nodes p p_in).same_me k)

      outside : (nat_lt q config.nodes && not (q == p)) ≡ false → (config.nodes ≤ max p q) ⊎ (p ≡ q)
      outside e = elim (cases_eq p q) [
        | inl same ↦ inr same
        | inr differs ↦ inl (elim (cases_lt q config.nodes) [
          | inl l ↦ absurd (false≢true (sym e ∙ (λ k. lt-ltb q config.nodes l k && not (ne_eqb q p (λ z. differs (sym z)) k))))
          | inr l ↦ omega (arith, l)
        ])
      ]

      inside : (nat_lt q config.nodes && not (q == p)) ≡ true → (max p q < config.nodes) × (p ≢ q) × (finite.len (link_to (node_at world p) q).owed ≡ length (owed past p q))
      inside e =
          let h = and_parts (nat_lt q config.nodes) (not (q == p)) e in
          let q_in = ltb-true q config.nodes h.0 in
          let differs : q ≢ p = λ z. false≢true (ap not (sym (eq-eqb q p z)) ∙ h.1) in
          (omega (arith, p_in, q_in), (λ z. differs (sym z)), owed_shown p q p_in q_in differs)

      by_test : (b : Bool) → is_peer (node_at world p) q ≡ b → ShowsOwed config past p q (if b then Some (finite.len (link_to (node_at world p) q).owed) else None)
      by_test true e = inside (sym test_is ∙ e)
      by_test false e = outside (sym test_is ∙ e)
