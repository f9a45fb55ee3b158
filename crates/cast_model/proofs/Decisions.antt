-- Each decided value is the least of the votes in a front of some node's log, which are as many as a decision asks for.
use Rattle.std.proofs.Common.{◌≡◌, ◌≤◌, ℕ, zero, suc, ◌-◌, refl, sym, ◌∙◌, ap, subst, Bool, true, false, cond, List, [], ◌∷◌, ◌++◌, length, take, Option, Some, None, inl, inr, append_assoc, length-take-le, arith}
use Rattle.std.specs.Prelude.{◌==◌, nat_le}
use Rattle.std.specs.List.{filter_map, cons_option}
use Rattle.std.proofs.lemmas.Bool.{eq-eqb, eqb-true, leb-true, ne_eqb, cases_eq, cond-true}
use Rattle.cast_message.specs.declared.config.Config.{Config}
use Rattle.cast_message.specs.declared.event.Event.{Event}
use Rattle.cast_message.specs.declared.event.Event.TheVariants.{Order, Send, Ack, Arrive, Crash}
use Rattle.cast_message.specs.declared.event.StepFault.{StepFault}
use Rattle.cast_message.specs.declared.message.Item.{Item}
use Rattle.cast_message.specs.declared.message.Item.TheVariants.{Data, Propose, Close}
use Rattle.cast_message.specs.declared.message.Message.{Message}
use Rattle.cast_message.specs.declared.message.Decision.{Decision}
use Rattle.cast_model.specs.History.{History}
use Rattle.cast_model.specs.Delivery.{Concerned, concerned, turns_of, deliveries, is_node, delivery_log, value_in, votes, least, decision, decision_on, decisions_of, log_of, outcome}
use Rattle.cast_model.specs.Headline.{decisions_in, decisions_in_answer, value_for, decided}
use Rattle.cast_model.specs.Replies.{fault, answer, reply, reply_by, after, after_by, history_from, replies_from}
use Rattle.cast_model.proofs.Members.{Member, here, there, Member-append, Member-uncons, Member-if}

-- the evidence for a decided value
pub record DecidedBy (config : Config) (past : History) (j v : ℕ) : Type 0 where
  pub node : ℕ
  pub front : List Message
  pub rest : List Message
  pub log_is : delivery_log config past node ≡ front ++ rest
  pub complete : length (votes j front) ≡ config.nodes - config.faults
  pub value_is : v ≡ least (votes j front)

pub Member-filter_map : {X Y : Type 0} (h : X → Option Y) (y : Y) (xs : List X) → Member y (filter_map h xs) → (x : X) × Member x xs × (h x ≡ Some y)
Member-filter_map h y [] m = elim m [ ]
Member-filter_map {X} {Y} h y (x ∷ xs) m = by_option (h x) refl m (Member-filter_map h y xs)
  where
    by_option : (o : Option Y) → h x ≡ o → Member y (cons_option o (filter_map h xs)) → (Member y (filter_map h xs) → (z : X) × Member z xs × (h z ≡ Some y)) → (z : X) × Member z (x ∷ xs) × (h z ≡ Some y)
    by_option None e m ih = let r = ih m in (r.0, there r.1, r.2)
    by_option (Some z) e m ih = elim (Member-uncons y z (filter_map h xs) m) [
      | inl same ↦ (x, here, e ∙ ap (λ w. Some w) (sym same))
      | inr later ↦ (let r = ih later in (r.0, there r.1, r.2))
    ]

-- a decision among those by some deliveries comes with the delivery that completes its votes
pub record Completed (config : Config) (log news : List Message) (decision : Decision) : Type 0 where
  pub before : List Message
  pub behind : List Message
  pub news_is : news ≡ before ++ behind
  pub complete : length (votes decision.instance (log ++ before)) ≡ config.nodes - config.faults
  pub value_is : decision.value ≡ least (votes decision.instance (log ++ before))

completed : (config : Config) (log news : List Message) (decision : Decision) → Member decision (decisions_of config log news) → Completed config log news decision
unfolding decisions_of
completed config log [] decision m = elim m [ ]
completed config log (message ∷ messages) decision m =
    elim (Member-append decision (decision_on config (log ++ message ∷ []) message.item) (decisions_of config (log ++ message ∷ []) messages) m) [
      | inl now ↦ by_item message.item now
      | inr later ↦ onward (completed config (log ++ message ∷ []) messages decision later)
    ]
  where
    by_item : (item : Item) → Member decision (decision_on config (log ++ message ∷ []) item) → Completed config log (message ∷ messages) decision
    by_item (Data bytes) m = elim m [ ]
    by_item Close m = elim m [ ]
    by_item (Propose instance value) m =
        let values = votes instance (log ++ message ∷ []) in
        let r = Member-if (length values == config.nodes - config.faults) decision (record { instance = instance; value = least values }) m in
        let at : decision.instance ≡ instance = ap (λ d. d.instance) r.1 in
        record {
          before = message ∷ [];
          behind = messages;
          news_is = refl;
          complete = ap (λ k. length (votes k (log ++ message ∷ []))) at ∙ eqb-true _ _ r.0;
          value_is = ap (λ d. d.value) r.1 ∙ ap (λ k. least (votes k (log ++ message ∷ []))) (sym at);
        }

    onward : Completed config (log ++ message ∷ []) messages decision → Completed config log (message ∷ messages) decision
    onward c =
        let same : log ++ (message ∷ c.before) ≡ (log ++ message ∷ []) ++ c.before = sym (append_assoc log (message ∷ []) c.before) in
        record {
          before = message ∷ c.before;
          behind = c.behind;
          news_is = ap (λ r. message ∷ r) c.news_is;
          complete = ap (λ all. length (votes decision.instance all)) same ∙ c.complete;
          value_is = c.value_is ∙ ap (λ all. least (votes decision.instance all)) (sym same);
        }

no_news : (config : Config) (log : List Message) (decision : Decision) → Member decision (decisions_of config log []) → ⊥
unfolding decisions_of
no_news config log decision m = elim m [ ]

-- the decisions by an event, in the log after it
decided_now : (config : Config) (past : History) (event : Event) (decision : Decision) → Member decision (decisions_of config (log_of config past (concerned past event)) (deliveries config past event)) → DecidedBy config (event ∷ past) decision.instance decision.value
unfolding deliveries delivery_log
decided_now config past event decision m = by_concerned (concerned past event) refl m
  where
    by_concerned : (o : Option Concerned) → concerned past event ≡ o → Member decision (decisions_of config (log_of config past o) (turns_of config past event o)) → DecidedBy config (event ∷ past) decision.instance decision.value
    by_concerned None e m = absurd (no_news config [] decision m)
    by_concerned (Some which) e m =
        let log = delivery_log config past which.node in
        let news = turns_of config past event (Some which) in
        let c = completed config log news decision m in
        let added : cond (is_node (concerned past event) which.node) (turns_of config past event (concerned past event)) [] ≡ news =
        ap (λ o. cond (is_node o which.node) (turns_of config past event o) []) e ∙ cond-true (which.node == which.node) news [] (eq-eqb which.node which.node refl) in
        record {
          node = which.node;
          front = log ++ c.before;
          rest = c.behind;
          log_is = ap (λ all. log ++ all) (added ∙ c.news_is) ∙ sym (append_assoc log c.before c.behind);
          complete = c.complete;
          value_is = c.value_is;
        }

-- the evidence lasts
DecidedBy-kept : (config : Config) (event : Event) (past : History) (j v : ℕ) → DecidedBy config past j v → DecidedBy config (event ∷ past) j v
unfolding delivery_log
DecidedBy-kept config event past j v d =
    let news = cond (is_node (concerned past event) d.node) (deliveries config past event) [] in
    record {
      node = d.node;
      front = d.front;
      rest = d.rest ++ news;
      log_is = ap (λ log. log ++ news) d.log_is ∙ append_assoc d.front d.rest news;
      complete = d.complete;
      value_is = d.value_is;
    }

DecidedBy-later : (config : Config) (past : History) (events : List Event) (j v : ℕ) → DecidedBy config past j v → DecidedBy config (history_from config past events) j v
unfolding history_from after
DecidedBy-later config past [] j v d = d
DecidedBy-later config past (event ∷ events) j v d = DecidedBy-later config (after config past event) events j v (by_fault (fault config past event))
  where
    by_fault : (o : Option StepFault) → DecidedBy config (after_by o past event) j v
    by_fault None = DecidedBy-kept config event past j v d
    by_fault (Some refusal) = d

decisions_by : (config : Config) (past : History) (event : Event) (decision : Decision) → Member decision (decisions_in_answer (answer config past event)) → DecidedBy config (event ∷ past) decision.instance decision.value
unfolding answer outcome
decisions_by config past (Order node item) decision m = decided_now config past (Order node item) decision m
decisions_by config past (Arrive from seq) decision m = decided_now config past (Arrive from seq) decision m
decisions_by config past (Send from to slot) decision m = elim m [ ]
decisions_by config past (Ack from to slot) decision m = elim m [ ]
decisions_by config past (Crash node) decision m = elim m [ ]

-- a value decided in instance j
value_of : (j v : ℕ) (decision : Decision) → value_for j decision ≡ Some v → (decision.instance ≡ j) × (decision.value ≡ v)
value_of j v decision e = elim (cases_eq decision.instance j) [
  | inl same ↦ (same, (let f : Some decision.value ≡ Some v = sym (cond-true _ _ _ (eq-eqb decision.instance j same)) ∙ e in cc))
  | inr differs ↦ (let f : cond false (Some decision.value) None ≡ Some v = ap (λ b. cond b (Some decision.value) None) (sym (ne_eqb decision.instance j differs)) ∙ e in absurd (cc))
]

-- each decided value has its evidence
pub decided_from : (config : Config) (past : History) (events : List Event) (j v : ℕ) → Member v (decided (replies_from config past events) j) → DecidedBy config (history_from config past events) j v
unfolding replies_from history_from decided reply after
decided_from config past [] j v m = elim m [ ]
decided_from config past (event ∷ events) j v m =
    elim (Member-append v (filter_map (value_for j) (decisions_in (reply config past event))) (decided (replies_from config (after config past event) events) j) m) [
      | inl now ↦ DecidedBy-later config (after config past event) events j v (by_fault (fault config past event) (Member-filter_map (value_for j) v (decisions_in (reply config past event)) now))
      | inr later ↦ decided_from config (after config past event) events j v later
    ]
  where
    by_fault : (o : Option StepFault) → ((d : Decision) × Member d (decisions_in (reply_by o (answer config past event))) × (value_for j d ≡ Some v)) → DecidedBy config (after_by o past event) j v
    by_fault None found =
        let is = value_of j v found.0 found.2 in
        subst (λ w. DecidedBy config (event ∷ past) j w) is.1 (subst (λ k. DecidedBy config (event ∷ past) k found.0.value) is.0 (decisions_by config past event found.0 found.1))
    by_fault (Some refusal) found = elim found.1 [ ]

-- ---- what a node shows as decided

-- so many votes are those in a front of the messages
cut : (j k : ℕ) (messages : List Message) → k ≤ length (votes j messages) → (front : List Message) × (rest : List Message) × (messages ≡ front ++ rest) × (votes j front ≡ take k (votes j messages))
unfolding votes
cut j zero messages many = ([], messages, refl, refl)
cut j (suc k) [] many = absurd (omega (arith, many))
cut j (suc k) (message ∷ messages) many = by_value (value_in j message.item) refl many (λ n more. cut j n messages more)
  where
    by_value : (o : Option ℕ) → value_in j message.item ≡ o → suc k ≤ length (cons_option o (votes j messages))
        → ((n : ℕ) → n ≤ length (votes j messages) → (front : List Message) × (rest : List Message) × (messages ≡ front ++ rest) × (votes j front ≡ take n (votes j messages)))
        → (front : List Message) × (rest : List Message) × (message ∷ messages ≡ front ++ rest) × (votes j front ≡ take (suc k) (cons_option o (votes j messages)))
    by_value None e more ih =
        let r = ih (suc k) more in
        (message ∷ r.0, r.1, ap (λ l. message ∷ l) r.2, ap (λ o. cons_option o (votes j r.0)) e ∙ r.3)
    by_value (Some v) e more ih =
        let r = ih k (omega (arith, more)) in
        (message ∷ r.0, r.1, ap (λ l. message ∷ l) r.2, ap (λ o. cons_option o (votes j r.0)) e ∙ ap (λ l. v ∷ l) r.3)

pub shown_by_votes : (config : Config) (past : History) (q j v : ℕ) → decision config past q j ≡ Some v → DecidedBy config past j v
unfolding decision
shown_by_votes config past q j v e = by_test (nat_le k (length values)) refl e
  where
    k : ℕ
    k = config.nodes - config.faults

    values : List ℕ
    values = votes j (delivery_log config past q)

    by_test : (b : Bool) → nat_le k (length values) ≡ b → cond b (Some (least (take k values))) None ≡ Some v → DecidedBy config past j v
    by_test true many is =
        let enough = leb-true k (length values) many in
        let r = cut j k (delivery_log config past q) enough in
        let value : least (take k values) ≡ v = cc in
        record {
          node = q;
          front = r.0;
          rest = r.1;
          log_is = r.2;
          complete = ap length r.3 ∙ length-take-le k values enough;
          value_is = sym value ∙ ap least (sym r.3);
        }
    by_test false few is = absurd (cc)
