-- At rest, in basic mode: the whole stream of a live sender, and the same instances decided.
use Rattle.std.proofs.Common.{◌≡◌, ℕ, suc, ◌+◌, ◌<◌, ◌≤◌, refl, sym, ◌∙◌, subst, Bool, true, false, cond, List, [], ◌∷◌, length, Option, Some, None, arith}
use Rattle.std.specs.Prelude.{IsTrue, is_some}
use Rattle.std.specs.List.{filter, prefix_len, take_while, cons_option}
use Rattle.std.proofs.lemmas.List.{take_all, append-nil}
use Rattle.std.proofs.lemmas.Bool.{and_from, eq-eqb}
use Rattle.cast_message.specs.declared.config.Config.{Config}
use Rattle.cast_message.specs.declared.config.Mode.{Mode}
use Rattle.cast_message.specs.declared.config.Mode.TheVariants.{Basic, Uniform}
use Rattle.cast_message.specs.declared.message.Item.{Item}
use Rattle.cast_message.specs.declared.message.Message.{Message}
use Rattle.cast_model.specs.History.{History, is_live, stream, numbered, broadcast}
use Rattle.cast_model.specs.Delivery.{is_ready, is_known_enough, delivered, delivery_log, votes, value_in}
use Rattle.cast_model.specs.Headline.{is_from}
use Rattle.cast_model.specs.Replies.{IsAccepted}
use Rattle.cast_model.specs.Rounds.{Rest}
use Rattle.cast_model.proofs.Members.{Member, here, there, Member-filter, filter-Member}
use Rattle.cast_model.proofs.Sound.{sound}
use Rattle.cast_model.proofs.Prefix.{delivery_log-front}
use Rattle.cast_model.proofs.AtRest.{same_pairs, same_delivered}
use Rattle.cast_model.proofs.Votes.{voters, voter_in, length-voters}
use Rattle.cast_model.proofs.Agreement.{pigeonhole, distinct, voter_message}

pub take_while_all : {A : Type 0} (p : A → Bool) (xs : List A) → ((x : A) → Member x xs → p x ≡ true) → take_while p xs ≡ xs
take_while_all p xs all = take_all (prefix_len p xs) xs (whole p xs all)
  where
    whole : {B : Type 0} (q : B → Bool) (ys : List B) → ((y : B) → Member y ys → q y ≡ true) → length ys ≤ prefix_len q ys
    whole q [] all = omega arith
    whole q (y ∷ ys) all = rw (all y here) (let h = whole q ys (λ z m. all z (there m)) in omega (arith, h))

pub numbered_below : (s i : ℕ) (items : List Item) (message : Message) → Member message (numbered s i items) → message.number < i + length items
unfolding numbered
numbered_below s i [] message m = elim m [ ]
numbered_below s i (item ∷ items) message here = omega arith
numbered_below s i (item ∷ items) message (there m) = let h = numbered_below s (suc i) items message m in omega (arith, h)

-- a voter stands among the voters
pub Member-voters : (j v : ℕ) (message : Message) (messages : List Message) → Member message messages → value_in j message.item ≡ Some v → Member message.sender (voters j messages)
unfolding voters
Member-voters j v message [] m e = elim m [ ]
Member-voters j v message (other ∷ messages) here e = subst (λ o. Member other.sender (cons_option (voter_in j other o) (voters j messages))) (sym e) here
Member-voters j v message (other ∷ messages) (there m) e = behind (value_in j other.item) (Member-voters j v message messages m e)
  where
    behind : (o : Option ℕ) → Member message.sender (voters j messages) → Member message.sender (cons_option (voter_in j other o) (voters j messages))
    behind None m = m
    behind (Some w) m = there m

module _ (config : Config) (past : History) (accepted : IsAccepted config past) (rest : Rest config past) (basic : config.mode ≡ Basic) where
  enough : (mode : Mode) → mode ≡ Basic → (x s i : ℕ) → is_known_enough mode config past x s i ≡ true
  unfolding is_known_enough
  enough Basic e x s i = refl
  enough Uniform e x s i = absurd (cc)

  -- a live node has delivered the whole stream of a live sender
  pub whole_stream : (p s : ℕ) → p < config.nodes → s < config.nodes → IsTrue (is_live past p) → IsTrue (is_live past s) → delivered config past p s ≡ broadcast past s
  unfolding delivered is_ready broadcast
  whole_stream p s p_in s_in p_live s_live =
      take_while_all (λ (message : Message). is_ready config past p s message.number) (numbered s 0 (stream past s)) (λ message m.
      let below = numbered_below s 0 (stream past s) message m in
      let own = (sound config past accepted).own_held s message.number (omega (arith, below)) in
      and_from _ _ (same_pairs config past accepted rest p s p_in s_in p_live s_live s message.number ∙ own) (enough config.mode basic p s message.number))

  module _ (p q j : ℕ) (p_in : p < config.nodes) (q_in : q < config.nodes) (p_live : IsTrue (is_live past p)) (q_live : IsTrue (is_live past q)) where
    fewer_votes : length (votes j (delivery_log config past p)) ≤ length (votes j (delivery_log config past q))
    fewer_votes =
        let at_p = delivery_log config past p in
        let at_q = delivery_log config past q in
        let within : (s : ℕ) → Member s (voters j at_p) → Member s (voters j at_q) = λ s m.
        (let found = voter_message j s at_p m in
        let own = filter-Member (is_from s) found.0 at_p found.2 (eq-eqb found.0.sender s found.3) in
        let same : filter (is_from s) at_p ≡ filter (is_from s) at_q =
        delivery_log-front config past accepted p s ∙ same_delivered config past accepted rest basic p q p_in q_in p_live q_live s ∙ sym (delivery_log-front config past accepted q s) in
        let there_too = Member-filter (is_from s) found.0 at_q (subst (λ all. Member found.0 all) same own) in
        subst (λ x. Member x (voters j at_q)) found.3 (Member-voters j found.1 found.0 at_q there_too.0 found.4)) in
        let h = pigeonhole (voters j at_p) (voters j at_q) (distinct config past accepted p j at_p [] (sym (append-nil at_p))) within in
        omega (arith, h, length-voters j at_p, length-voters j at_q)

pub is_some-cond : (b : Bool) (v : ℕ) → is_some (cond b (Some v) None) ≡ b
is_some-cond true v = refl
is_some-cond false v = refl
