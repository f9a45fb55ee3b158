-- Where no sender proposes twice in an instance, all its votes are counted.
use Rattle.std.proofs.Common.{◌≡◌, ℕ, ◌≤◌, refl, sym, ◌∙◌, ap, subst, Bool, true, false, ◌&&◌, cond, List, [], ◌∷◌, ◌++◌, length, Option, Some, None, arith, length-append, append_assoc}
use Rattle.std.specs.Prelude.{◌==◌, is_some}
use Rattle.std.specs.List.{filter, cons_option}
use Rattle.std.proofs.lemmas.List.{append-nil}
use Rattle.std.proofs.lemmas.List.Elements.{filter-append}
use Rattle.std.proofs.lemmas.Bool.{and_parts, eq-eqb, cond-true, not_from_false, false_from_ne_true}
use Rattle.cast_message.specs.declared.config.Config.{Config}
use Rattle.cast_message.specs.declared.message.Item.{Item}
use Rattle.cast_message.specs.declared.message.Item.TheVariants.{Data, Propose, Close}
use Rattle.cast_message.specs.declared.message.Message.{Message}
use Rattle.cast_model.specs.History.{History}
use Rattle.cast_model.specs.Delivery.{value_in, votes, decision_by, decision_on, decisions_of, delivery_log}
use Rattle.cast_model.specs.Headline.{is_from}
use Rattle.cast_model.specs.Replies.{IsAccepted}
use Rattle.cast_model.specs.OwnSteps.{is_first_vote, first_votes, own_decision_on, own_decisions_of}
use Rattle.cast_model.proofs.Members.{some-Member, Member-list_any, filter-Member}
use Rattle.cast_model.proofs.Votes.{votes_from, votes-append, proposes_once}
use Rattle.cast_model.proofs.Agreement.{filter_map-Member}

-- no sender has two votes in the instance
abbrev pub VotesOnce : ℕ → List Message → Type 0
VotesOnce j log = (s : ℕ) → length (votes j (filter (is_from s) log)) ≤ 1

pub once_front : (j : ℕ) (xs ys : List Message) → VotesOnce j (xs ++ ys) → VotesOnce j xs
once_front j xs ys once s =
    let h = once s in
    let e = ap length (ap (votes j) (filter-append (is_from s) xs ys) ∙ votes-append j (filter (is_from s) xs) (filter (is_from s) ys)) ∙ length-append (votes j (filter (is_from s) xs)) (votes j (filter (is_from s) ys)) in
    omega (arith, h, e)

some_value : (o : Option ℕ) → is_some o ≡ true → (v : ℕ) × (o ≡ Some v)
some_value None e = absurd (cc)
some_value (Some v) e = (v, refl)

first_from_once : (j : ℕ) (seen : List Message) (message : Message) (v : ℕ) → VotesOnce j (seen ++ message ∷ []) → value_in j message.item ≡ Some v → is_first_vote j seen message.sender ≡ true
unfolding votes
first_from_once j seen message v once e = not_from_false _ (false_from_ne_true _ (λ again.
    let s = message.sender in
    let found = Member-list_any (λ (x : Message). x.sender == s && is_some (value_in j x.item)) seen again in
    let parts = and_parts (found.0.sender == s) _ found.2 in
    let w = some_value (value_in j found.0.item) parts.1 in
    let old = some-Member w.0 (votes j (filter (is_from s) seen)) (filter_map-Member (λ (x : Message). value_in j x.item) found.0 w.0 (filter (is_from s) seen) (filter-Member (is_from s) found.0 seen found.1 parts.0) w.1) in
    let last : votes j (filter (is_from s) (message ∷ [])) ≡ v ∷ [] = ap (votes j) (cond-true (message.sender == s) (message ∷ []) [] (eq-eqb s s refl)) ∙ ap (λ o. cons_option o []) e in
    let total = ap length (ap (votes j) (filter-append (is_from s) seen (message ∷ [])) ∙ votes-append j (filter (is_from s) seen) (filter (is_from s) (message ∷ []))) ∙ length-append (votes j (filter (is_from s) seen)) (votes j (filter (is_from s) (message ∷ []))) in
    let one : length (votes j (filter (is_from s) (message ∷ []))) ≡ 1 = ap length last in
    let h = once s in
    omega (arith, old, total, one, h)))

-- with one message more
pub first_votes-last : (j : ℕ) (seen xs : List Message) (m : Message) →
    first_votes j seen (xs ++ m ∷ []) ≡ first_votes j seen xs ++ cond (is_first_vote j (seen ++ xs) m.sender) (votes j (m ∷ [])) []
unfolding first_votes
first_votes-last j seen [] m = append-nil _ ∙ ap (λ all. cond (is_first_vote j all m.sender) (votes j (m ∷ [])) []) (sym (append-nil seen))
first_votes-last j seen (x ∷ xs) m =
    let first : List ℕ = cond (is_first_vote j seen x.sender) (votes j (x ∷ [])) [] in
    ap (λ rest. first ++ rest)
    (first_votes-last j (seen ++ x ∷ []) xs m ∙ ap (λ all. first_votes j (seen ++ x ∷ []) xs ++ cond (is_first_vote j all m.sender) (votes j (m ∷ [])) []) (append_assoc seen (x ∷ []) xs))
    ∙ sym (append_assoc first (first_votes j (seen ++ x ∷ []) xs) (cond (is_first_vote j (seen ++ x ∷ xs) m.sender) (votes j (m ∷ [])) []))

pub first_votes-all : (j : ℕ) (seen messages : List Message) → VotesOnce j (seen ++ messages) → first_votes j seen messages ≡ votes j messages
unfolding first_votes votes
first_votes-all j seen [] once = refl
first_votes-all j seen (message ∷ messages) once =
    let whole : VotesOnce j ((seen ++ message ∷ []) ++ messages) = subst (VotesOnce j) (sym (append_assoc seen (message ∷ []) messages)) once in
    ap (λ rest. cond (is_first_vote j seen message.sender) (votes j (message ∷ [])) [] ++ rest) (first_votes-all j (seen ++ message ∷ []) messages whole)
    ∙ by_value (value_in j message.item) refl (once_front j (seen ++ message ∷ []) messages whole)
  where
    none : (b : Bool) → ◌≡◌ {A = List ℕ} (cond b [] []) []
    none true = refl
    none false = refl

    by_value : (o : Option ℕ) → value_in j message.item ≡ o → VotesOnce j (seen ++ message ∷ []) → cond (is_first_vote j seen message.sender) (cons_option (value_in j message.item) []) [] ++ votes j messages ≡ cons_option (value_in j message.item) (votes j messages)
    by_value None e front =
        ap (λ o. cond (is_first_vote j seen message.sender) (cons_option o []) [] ++ votes j messages) e
        ∙ ap (λ xs. xs ++ votes j messages) (none (is_first_vote j seen message.sender))
        ∙ sym (ap (λ o. cons_option o (votes j messages)) e)
    by_value (Some v) e front =
        ap (λ xs. xs ++ votes j messages) (cond-true (is_first_vote j seen message.sender) (cons_option (value_in j message.item) []) [] (first_from_once j seen message v front e))
        ∙ ap (λ o. cons_option o [] ++ votes j messages) e
        ∙ sym (ap (λ o. cons_option o (votes j messages)) e)

pub own_decisions-all : (config : Config) (log news : List Message) → ((j : ℕ) → VotesOnce j (log ++ news)) → own_decisions_of config log news ≡ decisions_of config log news
unfolding own_decisions_of decisions_of
own_decisions-all config log [] once = refl
own_decisions-all config log (message ∷ messages) once =
    let whole : (j : ℕ) → VotesOnce j ((log ++ message ∷ []) ++ messages) = λ j. subst (VotesOnce j) (sym (append_assoc log (message ∷ []) messages)) (once j) in
    ap (λ rest. own_decision_on config log message message.item ++ rest) (own_decisions-all config (log ++ message ∷ []) messages whole)
    ∙ ap (λ now. now ++ decisions_of config (log ++ message ∷ []) messages) (by_item message.item refl (λ j. once_front j (log ++ message ∷ []) messages (whole j)))
  where
    by_item : (item : Item) → message.item ≡ item → ((j : ℕ) → VotesOnce j (log ++ message ∷ [])) → own_decision_on config log message item ≡ decision_on config (log ++ message ∷ []) item
    by_item (Data bytes) e front = refl
    by_item Close e front = refl
    by_item (Propose instance value) e front =
        cond-true (is_first_vote instance log message.sender) _ [] (first_from_once instance log message value (front instance) (ap (value_in instance) e ∙ cond-true (instance == instance) (Some value) None (eq-eqb instance instance refl)))
        ∙ ap (decision_by config instance) (first_votes-all instance [] (log ++ message ∷ []) (front instance))

-- so it is of what a node delivered
pub log_votes_once : (config : Config) (past : History) → IsAccepted config past → (q j : ℕ) → VotesOnce j (delivery_log config past q)
log_votes_once config past accepted q j s =
    let log = delivery_log config past q in
    let p = votes_from config past accepted q j s log [] (sym (append-nil log)) in
    let once = proposes_once config past accepted j s in
    let whole = sym (length-append (votes j (filter (is_from s) log)) p.0) ∙ ap length p.1 in
    omega (arith, once, whole)
