-- The votes that a node has delivered in an instance: one at most of each node, each proposed by its voter.
use Rattle.std.proofs.Common.{◌≡◌, ℕ, suc, ◌+◌, ◌≤◌, refl, sym, ◌∙◌, ap, subst, Bool, true, false, ◌||◌, cond, List, [], ◌∷◌, ◌++◌, length, Option, Some, None, inl, inr, ◌⊎◌, arith, length-append, append_assoc}
use Rattle.std.specs.Prelude.{◌==◌, nat_eq}
use Rattle.std.specs.List.{filter, filter_map, cons_option, list_any, AllByRecursion, IsDistinct}
use Rattle.std.proofs.lemmas.List.{nil_from_length}
use Rattle.std.proofs.lemmas.List.Elements.{filter-append, filter_map-append}
use Rattle.std.proofs.lemmas.Bool.{eq-eqb, eqb-true, ne_eqb, cases_eq, cond-true, false≢true}
use Rattle.cast_message.specs.declared.config.Config.{Config}
use Rattle.cast_message.specs.declared.event.Event.{Event}
use Rattle.cast_message.specs.declared.event.Event.TheVariants.{Order, Send, Ack, Arrive, Crash}
use Rattle.cast_message.specs.declared.message.Item.{Item}
use Rattle.cast_message.specs.declared.message.Item.TheVariants.{Data, Propose, Close}
use Rattle.cast_message.specs.declared.message.Message.{Message}
use Rattle.cast_message.specs.Items.{proposes_in}
use Rattle.cast_model.specs.History.{History, items_ordered, stream, numbered, broadcast}
use Rattle.cast_model.specs.Delivery.{value_in, votes, delivery_log}
use Rattle.cast_model.specs.Refusals.{is_second_proposal}
use Rattle.cast_model.specs.Headline.{is_from, IsPrefixOf}
use Rattle.cast_model.specs.Replies.{causes, fault, IsAccepted}
use Rattle.cast_model.proofs.Members.{here, there}
use Rattle.cast_model.proofs.Accepted.{no_cause}
use Rattle.cast_model.proofs.Prefix.{delivery_log-front, delivered_is_prefix}

-- what s proposed in instance j
unfoldable pub proposals : History → ℕ → ℕ → List ℕ
proposals past j s = filter_map (value_in j) (stream past s)

Order-new : (config : Config) (past : History) (p : ℕ) (item : Item) → fault config past (Order p item) ≡ None → is_second_proposal (stream past p) item ≡ false
unfolding fault causes
Order-new config past p item e = no_cause _ (causes config past (Order p item)) e (there (there (there (there here))))

-- where no item proposes in the instance, there is no value
no_values : (j : ℕ) (items : List Item) → list_any (proposes_in j) items ≡ false → filter_map (value_in j) items ≡ []
no_values j [] e = refl
no_values j (Data bytes ∷ items) e = no_values j items e
no_values j (Close ∷ items) e = no_values j items e
no_values j (Propose instance value ∷ items) e = by_test (instance == j) e (no_values j items)
  where
    by_test : (b : Bool) → (b || list_any (proposes_in j) items) ≡ false → (list_any (proposes_in j) items ≡ false → filter_map (value_in j) items ≡ []) → cons_option (cond b (Some value) None) (filter_map (value_in j) items) ≡ []
    by_test true e ih = absurd (false≢true (sym e))
    by_test false e ih = ih e

-- a node proposes at most once in an instance
added_values : (config : Config) (past : History) (event : Event) → fault config past event ≡ None → (j s : ℕ) →
    (filter_map (value_in j) (items_ordered event s) ≡ []) ⊎ ((filter_map (value_in j) (stream past s) ≡ []) × (length (filter_map (value_in j) (items_ordered event s)) ≤ 1))
added_values config past (Order node item) e j s = by_test (node == s) refl
  where
    by_item : (item : Item) → is_second_proposal (stream past s) item ≡ false →
        (filter_map (value_in j) (item ∷ []) ≡ []) ⊎ ((filter_map (value_in j) (stream past s) ≡ []) × (length (filter_map (value_in j) (item ∷ [])) ≤ 1))
    by_item (Data bytes) new = inl refl
    by_item Close new = inl refl
    by_item (Propose instance value) new = elim (cases_eq instance j) [
      | inl same ↦ inr (no_values j (stream past s) (subst (λ k. list_any (proposes_in k) (stream past s) ≡ false) same new), rw (eq-eqb instance j same) (omega arith))
      | inr differs ↦ inl (ap (λ b. cons_option (cond b (Some value) None) []) (ne_eqb instance j differs))
    ]

    by_test : (b : Bool) → (node == s) ≡ b → (filter_map (value_in j) (cond b (item ∷ []) []) ≡ []) ⊎ ((filter_map (value_in j) (stream past s) ≡ []) × (length (filter_map (value_in j) (cond b (item ∷ []) [])) ≤ 1))
    by_test false differs = inl refl
    by_test true same = by_item item (subst (λ p. is_second_proposal (stream past p) item ≡ false) (eqb-true node s same) (Order-new config past node item e))
added_values config past (Send from to slot) e j s = inl refl
added_values config past (Ack from to slot) e j s = inl refl
added_values config past (Arrive from seq) e j s = inl refl
added_values config past (Crash node) e j s = inl refl

pub proposes_once : (config : Config) (past : History) → IsAccepted config past → (j s : ℕ) → length (proposals past j s) ≤ 1
unfolding IsAccepted proposals stream
proposes_once config [] accepted j s = omega arith
proposes_once config (event ∷ past) accepted j s =
    let before = proposes_once config past accepted.0 j s in
    let old = filter_map (value_in j) (stream past s) in
    let new = filter_map (value_in j) (items_ordered event s) in
    let total : length (filter_map (value_in j) (stream past s ++ items_ordered event s)) ≡ length old + length new =
    ap length (filter_map-append (value_in j) (stream past s) (items_ordered event s)) ∙ length-append old new in
    elim (added_values config past event accepted.1 j s) [
      | inl none ↦ (let n : length new ≡ 0 = ap length none in omega (arith, total, before, n))
      | inr one ↦ (let n : length old ≡ 0 = ap length one.0 in omega (arith, total, n, one.1))
    ]

-- the votes in what s broadcast are its proposals
votes-numbered : (j s i : ℕ) (items : List Item) → votes j (numbered s i items) ≡ filter_map (value_in j) items
unfolding votes numbered
votes-numbered j s i [] = refl
votes-numbered j s i (item ∷ items) = ap (cons_option (value_in j item)) (votes-numbered j s (suc i) items)

pub votes-append : (j : ℕ) (xs ys : List Message) → votes j (xs ++ ys) ≡ votes j xs ++ votes j ys
unfolding votes
votes-append j xs ys = filter_map-append (λ message. value_in j message.item) xs ys

-- what stands in front of a log, from one sender, stands in front of what it broadcast
pub front_from : (config : Config) (past : History) → IsAccepted config past → (q s : ℕ) (front rest : List Message) → delivery_log config past q ≡ front ++ rest → IsPrefixOf (filter (is_from s) front) (broadcast past s)
front_from config past accepted q s front rest e =
    let whole = delivered_is_prefix config past q s in
    let later = filter (is_from s) rest in (
      later ++ whole.0,
      sym (append_assoc (filter (is_from s) front) later whole.0)
          ∙ ap (λ all. all ++ whole.0) (sym (filter-append (is_from s) front rest) ∙ ap (filter (is_from s)) (sym e) ∙ delivery_log-front config past accepted q s)
          ∙ whole.1,
    )

pub votes_from : (config : Config) (past : History) → IsAccepted config past → (q j s : ℕ) (front rest : List Message) → delivery_log config past q ≡ front ++ rest → IsPrefixOf (votes j (filter (is_from s) front)) (proposals past j s)
unfolding proposals broadcast
votes_from config past accepted q j s front rest e =
    let p = front_from config past accepted q s front rest e in
    (votes j p.0, sym (votes-append j (filter (is_from s) front) p.0) ∙ ap (votes j) p.1 ∙ votes-numbered j s 0 (stream past s))

-- the voters of an instance among these messages
abbrev pub voter_in : ℕ → Message → Option ℕ → Option ℕ
voter_in j message None = None
voter_in j message (Some value) = Some message.sender

unfoldable pub voters : ℕ → List Message → List ℕ
voters j [] = []
voters j (message ∷ messages) = cons_option (voter_in j message (value_in j message.item)) (voters j messages)

pub length-voters : (j : ℕ) (messages : List Message) → length (voters j messages) ≡ length (votes j messages)
unfolding voters votes
length-voters j [] = refl
length-voters j (message ∷ messages) = by_value (value_in j message.item) (length-voters j messages)
  where
    by_value : (o : Option ℕ) → length (voters j messages) ≡ length (votes j messages) → length (cons_option (voter_in j message o) (voters j messages)) ≡ length (cons_option o (votes j messages))
    by_value None ih = ih
    by_value (Some value) ih = ap suc ih

-- where s has no vote, it is no voter
not_voter : (j s : ℕ) (messages : List Message) → votes j (filter (is_from s) messages) ≡ [] → AllByRecursion (λ y. nat_eq s y ≡ false) (voters j messages)
unfolding voters votes
not_voter j s [] e = tt
not_voter j s (message ∷ messages) e = by_both (message.sender == s) refl (value_in j message.item) refl e (not_voter j s messages)
  where
    by_both : (b : Bool) → (message.sender == s) ≡ b → (o : Option ℕ) → value_in j message.item ≡ o →
        votes j (cond b (message ∷ filter (is_from s) messages) (filter (is_from s) messages)) ≡ [] →
        (votes j (filter (is_from s) messages) ≡ [] → AllByRecursion (λ y. nat_eq s y ≡ false) (voters j messages)) →
        AllByRecursion (λ y. nat_eq s y ≡ false) (cons_option (voter_in j message o) (voters j messages))
    by_both true same None v e ih = ih (ap (λ o. cons_option o (votes j (filter (is_from s) messages))) (sym v) ∙ e)
    by_both true same (Some value) v e ih = let clash : value ∷ votes j (filter (is_from s) messages) ≡ [] = ap (λ o. cons_option o (votes j (filter (is_from s) messages))) (sym v) ∙ e in absurd (cc)
    by_both false differs None v e ih = ih e
    by_both false differs (Some value) v e ih = (ne_eqb s message.sender (λ x. false≢true (sym differs ∙ eq-eqb message.sender s (sym x))), ih e)

-- each voter stands there once
pub voters_distinct : (j : ℕ) (messages : List Message) → ((s : ℕ) → length (votes j (filter (is_from s) messages)) ≤ 1) → IsDistinct nat_eq (voters j messages)
unfolding voters votes IsDistinct
voters_distinct j [] once = tt
voters_distinct j (message ∷ messages) once = by_value (value_in j message.item) refl (voters_distinct j messages (λ s. fewer s (once s)))
  where
    fewer : (s : ℕ) → length (votes j (cond (message.sender == s) (message ∷ filter (is_from s) messages) (filter (is_from s) messages))) ≤ 1 → length (votes j (filter (is_from s) messages)) ≤ 1
    fewer s h = by_test (message.sender == s) h
      where
        by_test : (b : Bool) → length (votes j (cond b (message ∷ filter (is_from s) messages) (filter (is_from s) messages))) ≤ 1 → length (votes j (filter (is_from s) messages)) ≤ 1
        by_test false h = h
        by_test true h = by_option (value_in j message.item) h
          where
            by_option : (o : Option ℕ) → length (cons_option o (votes j (filter (is_from s) messages))) ≤ 1 → length (votes j (filter (is_from s) messages)) ≤ 1
            by_option None h = h
            by_option (Some value) h = omega arith

    by_value : (o : Option ℕ) → value_in j message.item ≡ o → IsDistinct nat_eq (voters j messages) → IsDistinct nat_eq (cons_option (voter_in j message o) (voters j messages))
    by_value None e ih = ih
    by_value (Some value) e ih =
        let s = message.sender in
        let all : votes j (filter (is_from s) (message ∷ messages)) ≡ value ∷ votes j (filter (is_from s) messages) =
        ap (votes j) (cond-true (message.sender == s) (message ∷ filter (is_from s) messages) (filter (is_from s) messages) (eq-eqb s s refl)) ∙ ap (λ o. cons_option o (votes j (filter (is_from s) messages))) e in
        let one = once s in
        let long : length (votes j (filter (is_from s) (message ∷ messages))) ≡ suc (length (votes j (filter (is_from s) messages))) = ap length all in
        let none : length (votes j (filter (is_from s) messages)) ≡ 0 = omega (arith, one, long) in
        (not_voter j s messages (nil_from_length (votes j (filter (is_from s) messages)) none), ih)
