-- What a log tells a client of decisions is what its node decided.
use Rattle.std.proofs.Common.{◌≡◌, ℕ, List, [], ◌∷◌, ◌++◌, map, Option, Some, None, refl, sym, ap, ◌∙◌, subst, arith, append_assoc}
use Rattle.std.specs.List.{filter_map, cons_option, Contains}
use Rattle.std.proofs.lemmas.List.{append-nil}
use Rattle.std.proofs.lemmas.List.Elements.{filter_map-append, All-weaker}
use Rattle.cast_message.specs.declared.config.Config.{Config}
use Rattle.cast_message.specs.declared.event.Outcome.{Outcome}
use Rattle.cast_message.specs.declared.message.Item.TheVariants.{Propose}
use Rattle.cast_message.specs.declared.message.Message.{Message}
use Rattle.cast_message.specs.declared.message.Decision.{Decision}
use Rattle.cast_model.specs.History.{History}
use Rattle.cast_model.specs.Delivery.{nodes_of, decision}
use Rattle.cast_model.specs.Headline.{IsPrefixOf, value_for}
use Rattle.cast_model.specs.RunLaws.{decisions_shown}
use Rattle.cast_model.specs.Steps.{Step, Ordered, Sent, Acknowledged, Arrived, Stopped, Steps, steps_of}
use Rattle.cast_model.specs.OwnSteps.{own_log, own_deliveries, own_outcome, own_answer, own_decision, own_decision_on, own_decisions_of}
use Rattle.cast_model.proofs.Members.{Member, Member-append_left, Member-one, Member-Contains, Contains-Member}
use Rattle.cast_model.proofs.Agreement.{filter_map-Member, shown_in_stream, shown_at_most_choices}
use Rattle.cast_model.proofs.AtRest.{Member-range_with_len}
use Rattle.cast_model.proofs.OwnTurns.{own_decision-steps_of}
use Rattle.cast_model.proofs.Shown.{own_decisions-shown}
use Rattle.cast_node.specs.Stands.{Stands as NodeStands}
use Rattle.cast_node.proofs.Showing.{shows_decision}
use Rattle.cast_desk.specs.declared.notice.Notice.{Notice}
use Rattle.cast_desk.specs.declared.notice.Notice.TheVariants.{Delivered, Decided}
use Rattle.cast_desk.specs.Feed.{news_of}
use Rattle.cast_node.specs.Linked.{steps_in, outcome_in_answer}
use Rattle.cast_world.specs.Group.{State, Stands}
use Rattle.cast_merge.specs.Told.{HasGot, IsValueTold, decision_told, values_told, TellsDecisions, TellsProposals, TellsFewValues}
use Rattle.cast_merge.proofs.Feeds.{front_read}

-- ---- what a node decides by its deliveries

decisions_of_delivered : (messages : List Message) → filter_map decision_told (map Delivered messages) ≡ []
decisions_of_delivered [] = refl
decisions_of_delivered (m ∷ ms) = decisions_of_delivered ms

decisions_of_decided : (decisions : List Decision) → filter_map decision_told (map Decided decisions) ≡ decisions
decisions_of_decided [] = refl
decisions_of_decided (d ∷ ds) = ap (λ rest. d ∷ rest) (decisions_of_decided ds)

decisions_of_news : (outcome : Outcome) → filter_map decision_told (news_of outcome) ≡ outcome.decisions
decisions_of_news outcome =
    filter_map-append decision_told (map Delivered outcome.deliveries) (map Decided outcome.decisions)
    ∙ (λ i. decisions_of_delivered outcome.deliveries i ++ decisions_of_decided outcome.decisions i)

own_decisions-append : (config : Config) (log xs ys : List Message) → own_decisions_of config log (xs ++ ys) ≡ own_decisions_of config log xs ++ own_decisions_of config (log ++ xs) ys
unfolding own_decisions_of
own_decisions-append config log [] ys = ap (λ all. own_decisions_of config all ys) (sym (append-nil log))
own_decisions-append config log (x ∷ xs) ys =
    let onto = log ++ x ∷ [] in
    ap (λ rest. own_decision_on config log x x.item ++ rest)
    (own_decisions-append config onto xs ys ∙ ap (λ all. own_decisions_of config onto xs ++ own_decisions_of config all ys) (append_assoc log (x ∷ []) xs))
    ∙ sym (append_assoc (own_decision_on config log x x.item) (own_decisions_of config onto xs) (own_decisions_of config (log ++ x ∷ xs) ys))

module _ (config : Config) (p : ℕ) where
  -- all that the node decided after these steps, in order
  decisions_by : Steps → List Decision
  decisions_by steps = own_decisions_of config [] (own_log config p steps)

  begins : decisions_by [] ≡ []
  unfolding own_log own_decisions_of decisions_by
  begins = refl

  by_answer : (steps : Steps) (step : Step) → own_decisions_of config (own_log config p steps) (own_deliveries config p steps step) ≡ (outcome_in_answer (own_answer config p steps step)).decisions
  unfolding own_deliveries own_answer own_outcome own_decisions_of
  by_answer steps (Ordered item) = refl
  by_answer steps (Sent to slot) = refl
  by_answer steps (Acknowledged to slot) = refl
  by_answer steps (Arrived frame) = refl
  by_answer steps Stopped = refl

  grows : (steps : Steps) (step : Step) → decisions_by (step ∷ steps) ≡ decisions_by steps ++ (outcome_in_answer (own_answer config p steps step)).decisions
  unfolding own_log decisions_by
  grows steps step =
      own_decisions-append config [] (own_log config p steps) (own_deliveries config p steps step)
      ∙ ap (λ more. decisions_by steps ++ more) (by_answer steps step)

-- ---- of one instance

front_of_instance : (j : ℕ) (xs ys : List Decision) → IsPrefixOf xs ys → IsPrefixOf (filter_map (value_for j) xs) (filter_map (value_for j) ys)
front_of_instance j xs ys front = (
  filter_map (value_for j) front.0,
  sym (filter_map-append (value_for j) xs front.0) ∙ ap (filter_map (value_for j)) front.1,
)

module _ (config : Config) (past : History) (world : State) (stands : Stands config past world) where
  -- the log's node shows the decisions of the world's
  same_decision : (p c : ℕ) (got : List Notice) (has : HasGot config world p c got) (j : ℕ) → own_decision config p (steps_in config p has.trail) j ≡ decision config past p j
  same_decision p c got has j =
      let is = has.tells in
      let node = subst (NodeStands config p (steps_of past p)) has.same (stands.nodes p is.stands.place) in
      sym (shows_decision config p (steps_in config p has.trail) has.report.node is.stands j)
      ∙ shows_decision config p (steps_of past p) has.report.node node j
      ∙ own_decision-steps_of config past stands.accepted p j

  told_decision : (p c : ℕ) (got : List Notice) (has : HasGot config world p c got) (j : ℕ) → IsPrefixOf (values_told j got) (cons_option (decision config past p j) [])
  unfolding decisions_by
  told_decision p c got has j =
      let steps = steps_in config p has.trail in
      let front = front_read decision_told (λ outcome. outcome.decisions) (λ ticket outcome. refl) decisions_of_news config p (decisions_by config p) (begins config p) (grows config p)
      c has.trail has.report.log has.report.node got has.tells has.begins in
      subst (IsPrefixOf (values_told j got))
      (own_decisions-shown config j p steps ∙ ap (λ o. cons_option o []) (same_decision p c got has j))
      (front_of_instance j (filter_map decision_told got) (decisions_by config p steps) front)

  -- a value that is told is the node's
  is_decision : (p c : ℕ) (got : List Notice) → HasGot config world p c got → (j v : ℕ) → Member v (values_told j got) → decision config past p j ≡ Some v
  is_decision p c got has j v m =
      let front = told_decision p c got has j in
      of_one (decision config past p j) (subst (Member v) front.1 (Member-append_left v (values_told j got) front.0 m))
    where
      of_one : (o : Option ℕ) → Member v (cons_option o []) → o ≡ Some v
      of_one None m = elim m [ ]
      of_one (Some w) m = ap Some (sym (Member-one v w m))

  is_shown : (j v : ℕ) → IsValueTold config world j v → Member v (decisions_shown config past j)
  is_shown j v is =
      let within = is.has.tells.stands.place in
      filter_map-Member (λ q. decision config past q j) is.node v (nodes_of config)
      (Member-range_with_len config.nodes 0 is.node (omega arith) (omega (arith, within)))
      (is_decision is.node is.client is.got is.has j v (Contains-Member v (values_told j is.got) is.there))

pub tells_decisions : TellsDecisions
tells_decisions config past world p c got stands has j = told_decision config past world stands p c got has j

pub tells_proposals : TellsProposals
tells_proposals config past world p c got stands has j v at =
    let r = shown_in_stream config past stands.accepted p j v (is_decision config past world stands p c got has j v (Contains-Member v (values_told j got) at)) in
    (r.0, r.1, Member-Contains (Propose j v) _ r.2)

pub tells_few_values : TellsFewValues
tells_few_values config past world stands fewer j values distinct each =
    shown_at_most_choices config past stands.accepted fewer j values distinct
    (All-weaker (IsValueTold config world j) (Contains (decisions_shown config past j))
    (λ v is. Member-Contains v (decisions_shown config past j) (is_shown config past world stands j v is)) values each)
