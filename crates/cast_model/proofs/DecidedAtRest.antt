-- At rest, in both modes, all live nodes have delivered the same, with the whole stream of each live sender, and
-- decided the same instances.
use Rattle.std.proofs.Common.{◌≡◌, ℕ, ◌-◌, ◌≤◌, refl, sym, ◌∙◌, ap, subst, Bool, true, [], length, Some, None, arith}
use Rattle.std.specs.Prelude.{is_some, nat_le, ◌==◌}
use Rattle.std.specs.List.{filter, list_any, take_while}
use Rattle.std.proofs.lemmas.List.{append-nil}
use Rattle.std.proofs.lemmas.List.Sums.{length-filter}
use Rattle.std.proofs.lemmas.Bool.{eq-eqb, eqb-true, cond-true, le-leb}
use Rattle.cast_message.specs.declared.config.Config.{Config}
use Rattle.cast_message.specs.declared.config.Mode.{Mode}
use Rattle.cast_message.specs.declared.config.Mode.TheVariants.{Basic, Uniform}
use Rattle.cast_message.specs.declared.message.Item.{Item}
use Rattle.cast_message.specs.declared.message.Item.TheVariants.{Data, Propose, Close}
use Rattle.cast_message.specs.declared.message.Message.{Message}
use Rattle.cast_message.specs.Items.{proposes_in}
use Rattle.cast_model.specs.History.{History, stream, numbered, broadcast}
use Rattle.cast_model.specs.Delivery.{nodes_of, is_ready, delivered, delivery_log, votes, value_in, decision}
use Rattle.cast_model.specs.Headline.{is_from}
use Rattle.cast_model.specs.Replies.{IsAccepted}
use Rattle.cast_model.specs.Rounds.{Rest, Live, FewCrashedIn, proposers}
use Rattle.cast_model.proofs.Members.{Member, Member-filter, filter-Member, Member-list_any}
use Rattle.cast_model.proofs.Ready.{both_same}
use Rattle.cast_model.proofs.Sound.{sound}
use Rattle.cast_model.proofs.Prefix.{delivery_log-front}
use Rattle.cast_model.proofs.AtRest.{same_pairs, same_delivered}
use Rattle.cast_model.proofs.Rested.{whole_stream, take_while_all, numbered_below, Member-voters, is_some-cond}
use Rattle.cast_model.proofs.UniformRest.{held_ready, ready_as_well}
use Rattle.cast_model.proofs.Votes.{voters, length-voters}
use Rattle.cast_model.proofs.Agreement.{pigeonhole, distinct, voter_message}
use Rattle.cast_model.proofs.Dues.{Once-filter, Once-range, Once-distinct}

module _ (config : Config) (past : History) (accepted : IsAccepted config past) (rest : Rest config past) (few : FewCrashedIn config.mode config past) where
  -- all live nodes have delivered the same from each sender
  pub all_delivered_same : (p q s : ℕ) → Live config past p → Live config past q → delivered config past p s ≡ delivered config past q s
  unfolding delivered
  all_delivered_same p q s p_live q_live = by_mode config.mode refl few
    where
      by_mode : (mode : Mode) → config.mode ≡ mode → FewCrashedIn mode config past → take_while (λ (message : Message). is_ready config past p s message.number) (broadcast past s) ≡ take_while (λ (message : Message). is_ready config past q s message.number) (broadcast past s)
      by_mode Basic basic few = same_delivered config past accepted rest basic p q p_live.in_group q_live.in_group p_live.alive q_live.alive s
      by_mode Uniform uniform few =
          let same : (λ (message : Message). is_ready config past p s message.number) ≡ (λ (message : Message). is_ready config past q s message.number) =
          λ j message. both_same (is_ready config past p s message.number) (is_ready config past q s message.number)
          (ready_as_well config past accepted rest uniform few q q_live.in_group q_live.alive p s message.number p_live.in_group p_live.alive)
          (ready_as_well config past accepted rest uniform few p p_live.in_group p_live.alive q s message.number q_live.in_group q_live.alive) j in
          ap (λ f. take_while f (broadcast past s)) same

  -- and the whole stream of a live sender
  pub live_stream_delivered : (p s : ℕ) → Live config past p → Live config past s → delivered config past p s ≡ broadcast past s
  unfolding delivered broadcast
  live_stream_delivered p s p_live s_live = by_mode config.mode refl few
    where
      by_mode : (mode : Mode) → config.mode ≡ mode → FewCrashedIn mode config past → take_while (λ (message : Message). is_ready config past p s message.number) (numbered s 0 (stream past s)) ≡ numbered s 0 (stream past s)
      by_mode Basic basic few = whole_stream config past accepted rest basic p s p_live.in_group s_live.in_group p_live.alive s_live.alive
      by_mode Uniform uniform few =
          take_while_all (λ (message : Message). is_ready config past p s message.number) (numbered s 0 (stream past s)) (λ message m.
          let below = numbered_below s 0 (stream past s) message m in
          let own = (sound config past accepted).own_held s message.number (omega (arith, below)) in
          held_ready config past accepted rest uniform few p p_live.in_group p_live.alive s message.number
          (same_pairs config past accepted rest p s p_live.in_group s_live.in_group p_live.alive s_live.alive s message.number ∙ own))

  -- what p delivered stands in q's log
  in_log : (p q s : ℕ) → Live config past p → Live config past q → (message : Message) → Member message (delivered config past p s) → Member message (delivery_log config past q) × (message.sender ≡ s)
  in_log p q s p_live q_live message m =
      let own : Member message (filter (is_from s) (delivery_log config past q)) = subst (λ all. Member message all) (all_delivered_same p q s p_live q_live ∙ sym (delivery_log-front config past accepted q s)) m in
      let r = Member-filter (is_from s) message (delivery_log config past q) own in
      (r.0, eqb-true message.sender s r.1)

  -- no node has more votes than another
  fewer_votes : (p q j : ℕ) → Live config past p → Live config past q → length (votes j (delivery_log config past p)) ≤ length (votes j (delivery_log config past q))
  fewer_votes p q j p_live q_live =
      let at_p = delivery_log config past p in
      let at_q = delivery_log config past q in
      let within : (s : ℕ) → Member s (voters j at_p) → Member s (voters j at_q) = λ s m.
      (let found = voter_message j s at_p m in
      let own = filter-Member (is_from s) found.0 at_p found.2 (eq-eqb found.0.sender s found.3) in
      let there_too = in_log p q s p_live q_live found.0 (subst (λ all. Member found.0 all) (delivery_log-front config past accepted p s) own) in
      subst (λ x. Member x (voters j at_q)) found.3 (Member-voters j found.1 found.0 at_q there_too.0 found.4)) in
      let h = pigeonhole (voters j at_p) (voters j at_q) (distinct config past accepted p j at_p [] (sym (append-nil at_p))) within in
      omega (arith, h, length-voters j at_p, length-voters j at_q)

  decides : (q j : ℕ) → is_some (decision config past q j) ≡ nat_le (config.nodes - config.faults) (length (votes j (delivery_log config past q)))
  unfolding decision
  decides q j = is_some-cond _ _

  -- an instance that one live node decided is decided by every live node
  pub all_decided_same : (p q j : ℕ) → Live config past p → Live config past q → is_some (decision config past p j) ≡ is_some (decision config past q j)
  all_decided_same p q j p_live q_live =
      let pq = fewer_votes p q j p_live q_live in
      let qp = fewer_votes q p j q_live p_live in
      let same : length (votes j (delivery_log config past p)) ≡ length (votes j (delivery_log config past q)) = omega (arith, pq, qp) in
      decides p j ∙ ap (λ n. nat_le (config.nodes - config.faults) n) same ∙ sym (decides q j)

  -- an item that proposes has a value
  value_of : (j : ℕ) (item : Item) → proposes_in j item ≡ true → (v : ℕ) × (value_in j item ≡ Some v)
  value_of j (Data bytes) e = absurd (cc)
  value_of j Close e = absurd (cc)
  value_of j (Propose instance value) e = (value, cond-true (instance == j) (Some value) None e)

  -- an instance of which proposals of enough senders stand in the common delivery is decided by every live node
  pub decided_where_proposed : (p q j : ℕ) → Live config past p → Live config past q → config.nodes - config.faults ≤ proposers config past p j → is_some (decision config past q j) ≡ true
  unfolding proposers
  decided_where_proposed p q j p_live q_live enough =
      let test : ℕ → Bool = λ s. list_any (λ (message : Message). proposes_in j message.item) (delivered config past p s) in
      let at_q = delivery_log config past q in
      let within : (s : ℕ) → Member s (filter test (nodes_of config)) → Member s (voters j at_q) = λ s m.
      (let passes = (Member-filter test s (nodes_of config) m).1 in
      let found = Member-list_any (λ (message : Message). proposes_in j message.item) (delivered config past p s) passes in
      let there_too = in_log p q s p_live q_live found.0 found.1 in
      let v = value_of j found.0.item found.2 in
      subst (λ x. Member x (voters j at_q)) there_too.1 (Member-voters j v.0 found.0 at_q there_too.0 v.1)) in
      let h = pigeonhole (filter test (nodes_of config)) (voters j at_q) (Once-distinct (filter test (nodes_of config)) (Once-filter test (nodes_of config) (Once-range config.nodes 0))) within in
      decides q j ∙ le-leb (config.nodes - config.faults) (length (votes j at_q)) (omega (arith, h, length-voters j at_q, length-filter test (nodes_of config), enough))
