-- What the replies to any list of events say that a node decided is what it shows as decided, each value once.
use Rattle.std.proofs.Common.{◌≡◌, ℕ, ◌+◌, ◌-◌, ◌<◌, refl, sym, ◌∙◌, ap, subst, Bool, true, false, cond, List, [], ◌∷◌, ◌++◌, length, take, Option, Some, None, inl, inr, arith, append_assoc, length-append}
use Rattle.std.specs.Prelude.{◌==◌, nat_le, if◌then◌else◌, slice_get}
use Rattle.std.specs.List.{filter_map, cons_option}
use Rattle.std.proofs.lemmas.List.{append-nil, take_all, take-append-le}
use Rattle.std.proofs.lemmas.List.Elements.{filter_map-append}
use Rattle.std.proofs.lemmas.Bool.{eq-eqb, eqb-true, ne_eqb, cases_eq, cases_lt, cond-true, le-leb, lt-leb}
use Rattle.cast_message.specs.declared.config.Config.{Config}
use Rattle.cast_message.specs.declared.event.Event.{Event}
use Rattle.cast_message.specs.declared.event.Event.TheVariants.{Order, Send, Ack, Arrive, Crash}
use Rattle.cast_message.specs.declared.event.StepFault.{StepFault}
use Rattle.cast_message.specs.declared.message.Item.{Item}
use Rattle.cast_message.specs.declared.message.Item.TheVariants.{Data, Propose, Close}
use Rattle.cast_message.specs.declared.message.Message.{Message}
use Rattle.cast_message.specs.declared.message.Decision.{Decision}
use Rattle.cast_message.specs.declared.message.Frame.{Frame}
use Rattle.cast_model.specs.History.{History, frames}
use Rattle.cast_model.specs.Delivery.{concerned, concerned_by, turns_of, deliveries, delivery_log, value_in, votes, least, decision, decision_by, decisions_of, log_of, outcome}
use Rattle.cast_model.specs.Steps.{Steps}
use Rattle.cast_model.specs.OwnSteps.{is_first_vote, first_votes, own_decision_on, own_decisions_of, own_log, own_decision}
use Rattle.cast_model.specs.Headline.{deliveries_at, deliveries_for, decisions_at, decisions_for, value_for, decided_at}
use Rattle.cast_model.specs.Replies.{IsAccepted, fault, answer, reply, reply_by, after, history_from, history, replies_from, replies, target_of}
use Rattle.cast_model.proofs.Answered.{IsAccepted-history_from, delivery_log-after}
use Rattle.cast_model.proofs.FirstVotes.{VotesOnce, once_front, first_votes-last, first_votes-all, own_decisions-all, log_votes_once}

-- what so many votes settle, where an instance asks for k
abbrev settled : ℕ → List ℕ → Option ℕ
settled k votes = if nat_le k (length votes) then Some (least (take k votes)) else None

abbrev values : ℕ → List Decision → List ℕ
values j decisions = filter_map (value_for j) decisions

-- a vote more settles the instance where it is the k-th, and else changes nothing
vote_more : (k : ℕ) (old : List ℕ) (v : ℕ) →
    cons_option (settled k (old ++ v ∷ [])) [] ≡ cons_option (settled k old) [] ++ (if length (old ++ v ∷ []) == k then least (old ++ v ∷ []) ∷ [] else [])
vote_more k old v = elim (cases_lt (length old) k) [
  | inl below ↦ elim (cases_lt (length old + 1) k) [
    | inl still ↦
        both (nat_le k (length new)) false (nat_le k (length old)) false (length new == k) false
        (lt-leb k (length new) (omega (arith, still, long))) (lt-leb k (length old) below)
        (ne_eqb (length new) k (λ e. omega (arith, e, still, long))) refl
    | inr done ↦
        both (nat_le k (length new)) true (nat_le k (length old)) false (length new == k) true
        (le-leb k (length new) (omega (arith, done, long))) (lt-leb k (length old) below)
        (eq-eqb (length new) k (omega (arith, below, done, long))) (ap (λ l. least l ∷ []) (take_all k new (omega (arith, below, long))))
  ]
  | inr above ↦
      both (nat_le k (length new)) true (nat_le k (length old)) true (length new == k) false
      (le-leb k (length new) (omega (arith, above, long))) (le-leb k (length old) above)
      (ne_eqb (length new) k (λ e. omega (arith, e, above, long))) (ap (λ l. least l ∷ []) (take-append-le k old (v ∷ []) above))
]
  where
    new : List ℕ
    new = old ++ v ∷ []

    long : length new ≡ length old + 1
    long = length-append old (v ∷ [])

    -- the three tests by what they are
    both : (a a' b b' c c' : Bool) → a ≡ a' → b ≡ b' → c ≡ c' →
        cons_option (if a' then Some (least (take k new)) else None) [] ≡ cons_option (if b' then Some (least (take k old)) else None) [] ++ (if c' then least new ∷ [] else []) →
        cons_option (if a then Some (least (take k new)) else None) [] ≡ cons_option (if b then Some (least (take k old)) else None) [] ++ (if c then least new ∷ [] else [])
    both a a' b b' c c' p q r h =
        ap (λ t. cons_option (cond t (Some (least (take k new))) None) []) p ∙ h
        ∙ sym (λ i. cons_option (cond (q i) (Some (least (take k old))) None) [] ++ cond (r i) (least new ∷ []) [])

-- a decision in the instance, and one in another
told_here : (b : Bool) (j w : ℕ) → values j (if b then record { instance = j; value = w } ∷ [] else []) ≡ (if b then w ∷ [] else [])
told_here true j w = ap (λ t. cons_option (cond t (Some w) None) []) (eq-eqb j j refl)
told_here false j w = refl

told_elsewhere : (b : Bool) (j i w : ℕ) → (i == j) ≡ false → values j (if b then record { instance = i; value = w } ∷ [] else []) ≡ []
told_elsewhere true j i w e = ap (λ t. cons_option (cond t (Some w) None) []) e
told_elsewhere false j i w e = refl

-- one delivery more
module _ (config : Config) (j : ℕ) (log : List Message) (message : Message) where
  abbrev k : ℕ
  k = config.nodes - config.faults

  abbrev first : List Message → List ℕ
  first seen = first_votes j [] seen

  abbrev onto : List Message
  onto = log ++ message ∷ []

  abbrev is_first : Bool
  is_first = is_first_vote j log message.sender

  first_onto : (o : Option ℕ) → value_in j message.item ≡ o → first onto ≡ first log ++ cond is_first (cons_option o []) []
  unfolding votes
  first_onto o e = first_votes-last j [] log message ∙ ap (λ o. first log ++ cond is_first (cons_option o []) []) e

  no_vote : first onto ≡ first log ++ [] → (news : List Decision) → values j news ≡ [] →
      cons_option (settled k (first onto)) [] ≡ cons_option (settled k (first log)) [] ++ values j news
  no_vote e news none =
      ap (λ vs. cons_option (settled k vs) []) (e ∙ append-nil (first log))
      ∙ sym (append-nil (cons_option (settled k (first log)) []))
      ∙ ap (λ l. cons_option (settled k (first log)) [] ++ l) (sym none)

  no_value : value_in j message.item ≡ None → first onto ≡ first log ++ []
  no_value e = first_onto None e ∙ ap (λ vs. first log ++ vs) (either is_first)
    where
      either : (b : Bool) → ◌≡◌ {A = List ℕ} (cond b [] []) []
      either true = refl
      either false = refl

  -- a decision of another instance
  elsewhere : (b : Bool) (i : ℕ) (vs : List ℕ) → (i == j) ≡ false → values j (cond b (decision_by config i vs) []) ≡ []
  elsewhere true i vs apart = told_elsewhere (length vs == k) j i (least vs) apart
  elsewhere false i vs apart = refl

  one_more : cons_option (settled k (first onto)) [] ≡ cons_option (settled k (first log)) [] ++ values j (own_decision_on config log message message.item)
  one_more = by_item message.item refl
    where
      -- a proposal in this instance
      here : (v : ℕ) → value_in j message.item ≡ Some v → (b : Bool) → is_first ≡ b →
          cons_option (settled k (first onto)) [] ≡ cons_option (settled k (first log)) [] ++ values j (cond b (decision_by config j (first onto)) [])
      here v e false again = no_vote (first_onto (Some v) e ∙ ap (λ b. first log ++ cond b (v ∷ []) []) again) [] refl
      here v e true new =
          let is : first onto ≡ first log ++ v ∷ [] = first_onto (Some v) e ∙ ap (λ b. first log ++ cond b (v ∷ []) []) new in
          ap (λ vs. cons_option (settled k vs) []) is
          ∙ vote_more k (first log) v
          ∙ ap (λ l. cons_option (settled k (first log)) [] ++ l) (sym (
          ap (λ vs. values j (decision_by config j vs)) is
          ∙ told_here (length (first log ++ v ∷ []) == k) j (least (first log ++ v ∷ []))))

      by_item : (item : Item) → message.item ≡ item → cons_option (settled k (first onto)) [] ≡ cons_option (settled k (first log)) [] ++ values j (own_decision_on config log message item)
      by_item (Data bytes) e = no_vote (no_value (ap (value_in j) e)) [] refl
      by_item Close e = no_vote (no_value (ap (value_in j) e)) [] refl
      by_item (Propose instance value) e = elim (cases_eq instance j) [
        | inl same ↦
            here value (ap (value_in j) e ∙ cond-true (instance == j) (Some value) None (eq-eqb instance j same)) is_first refl
            ∙ ap (λ i. cons_option (settled k (first log)) [] ++ values j (cond (is_first_vote i log message.sender) (decision_by config i (first_votes i [] onto)) [])) (sym same)
        | inr differs ↦
            (let apart : (instance == j) ≡ false = ne_eqb instance j differs in
            no_vote (no_value (ap (value_in j) e ∙ ap (λ b. cond b (Some value) None) apart)) _
            (elsewhere (is_first_vote instance log message.sender) instance (first_votes instance [] onto) apart))
      ]

-- So many deliveries more. This holds of any deliveries: of a sender that proposes twice the first counts.
module _ (config : Config) (j : ℕ) where
  abbrev shown : List Message → List ℕ
  shown log = cons_option (settled (config.nodes - config.faults) (first_votes j [] log)) []

  more : (log news : List Message) → shown (log ++ news) ≡ shown log ++ values j (own_decisions_of config log news)
  unfolding own_decisions_of
  more log [] = ap shown (append-nil log) ∙ sym (append-nil (shown log))
  more log (message ∷ messages) =
      let onto = log ++ message ∷ [] in
      let now = own_decision_on config log message message.item in
      let later = own_decisions_of config onto messages in
      ap shown (sym (append_assoc log (message ∷ []) messages))
      ∙ more onto messages
      ∙ ap (λ front. front ++ values j later) (one_more config j log message)
      ∙ append_assoc (shown log) (values j now) (values j later)
      ∙ ap (λ l. shown log ++ l) (sym (filter_map-append (value_for j) now later))

  -- with no deliveries
  shown-nil : shown [] ≡ []
  unfolding first_votes
  shown-nil =
      let few : 0 < config.nodes - config.faults = (let f = config.faults_in_range in omega (arith, f)) in
      ap (λ b. cons_option (cond b (Some (least (take (config.nodes - config.faults) []))) None) []) (lt-leb (config.nodes - config.faults) 0 few)

  -- what a node decides by its deliveries, one after another, is what it shows, once, or nothing
  pub own_decisions-shown : (me : ℕ) (steps : Steps) →
      filter_map (value_for j) (own_decisions_of config [] (own_log config me steps)) ≡ cons_option (own_decision config me steps j) []
  unfolding own_decision
  own_decisions-shown me steps =
      let log = own_log config me steps in
      sym (more [] log ∙ ap (λ front. front ++ values j (own_decisions_of config [] log)) shown-nil)

-- at a node that is q, or is another
at_node : (config : Config) (past : History) (q : ℕ) (b : Bool) (p : ℕ) (news : List Message) → (b ≡ true → p ≡ q) →
    cond b (decisions_of config (delivery_log config past p) news) [] ≡ decisions_of config (delivery_log config past q) (cond b news [])
unfolding decisions_of
at_node config past q true p news same = ap (λ p. decisions_of config (delivery_log config past p) news) (same refl)
at_node config past q false p news same = refl

-- what an answer decides at q is by what it delivers there
decided_by_answer : (config : Config) (past : History) (event : Event) (q : ℕ) →
    decisions_at q event (answer config past event) ≡ decisions_of config (delivery_log config past q) (deliveries_at q event (answer config past event))
unfolding concerned deliveries answer outcome decisions_of
decided_by_answer config past (Order node item) q = at_node config past q (node == q) node (turns_of config past (Order node item) (Some (record { node = node; sender = node }))) (eqb-true node q)
decided_by_answer config past (Send from to slot) q = refl
decided_by_answer config past (Ack from to slot) q = refl
decided_by_answer config past (Crash node) q = refl
decided_by_answer config past (Arrive from seq) q = by_frame (slice_get (frames past from) seq)
  where
    nothing : (b : Bool) → cond b (decisions_of config [] []) [] ≡ decisions_of config (delivery_log config past q) (cond b [] [])
    nothing true = refl
    nothing false = refl

    by_frame : (o : Option Frame) →
        cond (target_of o == q) (decisions_of config (log_of config past (concerned_by past o)) (turns_of config past (Arrive from seq) (concerned_by past o))) []
        ≡ decisions_of config (delivery_log config past q) (cond (target_of o == q) (turns_of config past (Arrive from seq) (concerned_by past o)) [])
    by_frame None = nothing (0 == q)
    by_frame (Some frame) = at_node config past q (frame.to == q) frame.to (turns_of config past (Arrive from seq) (concerned_by past (Some frame))) (eqb-true frame.to q)

decided_by_reply : (config : Config) (past : History) (event : Event) (q : ℕ) →
    decisions_for q event (reply config past event) ≡ decisions_of config (delivery_log config past q) (deliveries_for q event (reply config past event))
unfolding reply decisions_of
decided_by_reply config past event q = by_fault (fault config past event)
  where
    by_fault : (o : Option StepFault) → decisions_for q event (reply_by o (answer config past event)) ≡ decisions_of config (delivery_log config past q) (deliveries_for q event (reply_by o (answer config past event)))
    by_fault None = decided_by_answer config past event q
    by_fault (Some refusal) = refl

-- where no sender has two votes, all are counted
shown-votes : (config : Config) (j : ℕ) (log : List Message) → VotesOnce j log → cons_option (settled (config.nodes - config.faults) (votes j log)) [] ≡ shown config j log
shown-votes config j log once = ap (λ vs. cons_option (settled (config.nodes - config.faults) vs) []) (sym (first_votes-all j [] log once))

decision-after : (config : Config) (past : History) (event : Event) → IsAccepted config past → IsAccepted config (after config past event) → (q j : ℕ) →
    cons_option (decision config (after config past event) q j) [] ≡ cons_option (decision config past q j) [] ++ values j (decisions_for q event (reply config past event))
unfolding decision
decision-after config past event accepted later q j =
    let k = config.nodes - config.faults in
    let log = delivery_log config past q in
    let news = deliveries_for q event (reply config past event) in
    let log_is = delivery_log-after config past event q in
    let once : (i : ℕ) → VotesOnce i (log ++ news) = λ i. subst (VotesOnce i) log_is (log_votes_once config (after config past event) later q i) in
    ap (λ l. cons_option (settled k (votes j l)) []) log_is
    ∙ shown-votes config j (log ++ news) (once j)
    ∙ more config j log news
    ∙ (λ i. sym (shown-votes config j log (once_front j log news (once j))) i ++ values j (own_decisions-all config log news once i))
    ∙ ap (λ all. cons_option (settled k (votes j log)) [] ++ values j all) (sym (decided_by_reply config past event q))

decided_since : (config : Config) (past : History) (events : List Event) → IsAccepted config past → (q j : ℕ) →
    cons_option (decision config (history_from config past events) q j) [] ≡ cons_option (decision config past q j) [] ++ decided_at events (replies_from config past events) q j
unfolding history_from replies_from decided_at
decided_since config past [] accepted q j = sym (append-nil (cons_option (decision config past q j) []))
decided_since config past (event ∷ events) accepted q j =
    let later = IsAccepted-history_from config past (event ∷ []) accepted in
    let rest = decided_at events (replies_from config (after config past event) events) q j in
    decided_since config (after config past event) events later q j
    ∙ ap (λ front. front ++ rest) (decision-after config past event accepted later q j)
    ∙ append_assoc (cons_option (decision config past q j) []) (values j (decisions_for q event (reply config past event))) rest

-- whatever list of events a group takes, the replies say that q decided in instance j the value that it shows, once, or nothing
pub answered-decided : (config : Config) (events : List Event) (q j : ℕ) → decided_at events (replies config events) q j ≡ cons_option (decision config (history config events) q j) []
unfolding decision delivery_log votes first_votes IsAccepted
answered-decided config events q j =
    sym (decided_since config [] events tt q j ∙ ap (λ front. front ++ decided_at events (replies config events) q j) (shown-nil config j))
