-- What a node delivers from a sender is the front of what that sender broadcast, up to the next number.
use Rattle.std.proofs.Common.{◌≡◌, ℕ, ◌+◌, refl, sym, ◌∙◌, ap, subst, Bool, true, false, cond, List, [], ◌∷◌, ◌++◌, length, Option, Some, None, inl, inr, arith, take, drop}
use Rattle.std.specs.Prelude.{slice_range}
use Rattle.std.specs.List.{filter, prefix_len, take_while}
use Rattle.std.proofs.lemmas.List.{take-append-drop}
use Rattle.std.proofs.lemmas.List.Elements.{filter-append}
use Rattle.std.proofs.lemmas.List.{append-nil}
use Rattle.std.proofs.lemmas.Bool.{eq-eqb, ne_eqb, cases_eq, cond-true, cond-false, false_from_ne_true, and_parts}
use Rattle.cast_message.specs.declared.config.Config.{Config}
use Rattle.cast_message.specs.declared.event.Event.{Event}
use Rattle.cast_message.specs.declared.message.Message.{Message}
use Rattle.cast_model.specs.History.{History, items_ordered, stream, numbered, broadcast, has_pair, first}
use Rattle.cast_model.specs.Delivery.{is_ready, next, delivered, Concerned, concerned, turns, turns_of, deliveries, is_node, delivery_log}
use Rattle.cast_model.specs.Headline.{is_from, IsPrefixOf}
use Rattle.cast_model.specs.Replies.{IsAccepted}
use Rattle.cast_model.proofs.Members.{Member}
use Rattle.cast_model.proofs.Growth.{stream-more}
use Rattle.cast_model.proofs.Sound.{Sound, sound, held_in_stream}
use Rattle.cast_model.proofs.Fronts.{take_while-more, take_while-same, filter_all, filter_none, Member-range, numbered-append, numbered_sender, numbered_from}
use Rattle.cast_model.proofs.Ready.{Concerns, ready_kept, ready_same}

pub broadcast-more : (event : Event) (past : History) (s : ℕ) → broadcast (event ∷ past) s ≡ broadcast past s ++ numbered s (length (stream past s)) (items_ordered event s)
unfolding broadcast
broadcast-more event past s =
    ap (numbered s 0) (stream-more event past s)
    ∙ numbered-append s 0 (stream past s) (items_ordered event s)
    ∙ ap (λ k. numbered s 0 (stream past s) ++ numbered s k (items_ordered event s)) (let e : 0 + length (stream past s) ≡ length (stream past s) = omega arith in e)

pub broadcast_sender : (past : History) (s : ℕ) (message : Message) → Member message (broadcast past s) → message.sender ≡ s
unfolding broadcast
broadcast_sender past s message m = numbered_sender s 0 (stream past s) message m

-- the test that a message of s may be delivered at q
abbrev may : Config → History → ℕ → ℕ → Message → Bool
may config past q s message = is_ready config past q s message.number

-- what q delivers from s by an event that concerns them
delivered-turns : (config : Config) (event : Event) (past : History) → Sound past → (q s : ℕ) → delivered config (event ∷ past) q s ≡ delivered config past q s ++ turns config past event q s
unfolding delivered turns next
delivered-turns config event past ok q s =
    let weaker : (message : Message) → may config past q s message ≡ true → may config (event ∷ past) q s message ≡ true = λ message e. ready_kept config event past ok q s message.number e in
    let news = numbered s (length (stream past s)) (items_ordered event s) in
    subst
    (λ all. take_while (may config (event ∷ past) q s) all ≡ take_while (may config past q s) (broadcast past s) ++ slice_range all (prefix_len (may config past q s) (broadcast past s)) (prefix_len (may config (event ∷ past) q s) all))
    (sym (broadcast-more event past s))
    (take_while-more (may config past q s) (may config (event ∷ past) q s) weaker (broadcast past s) news)

-- and by one that does not
delivered-same : (config : Config) (event : Event) (past : History) → IsAccepted config past → (q s : ℕ) → ¬ Concerns past event q s → delivered config (event ∷ past) q s ≡ delivered config past q s
unfolding delivered is_ready
delivered-same config event past accepted q s apart =
    let ok = sound config past accepted in
    let news = numbered s (length (stream past s)) (items_ordered event s) in
    let same : (message : Message) → may config (event ∷ past) q s message ≡ may config past q s message = λ message. ready_same config event past ok q s message.number apart in
    let fails : (message : Message) → Member message news → may config (event ∷ past) q s message ≡ false =
    λ message m. same message ∙ false_from_ne_true _ (λ e.
    let inside = held_in_stream config past accepted q s message.number (and_parts (has_pair (first past q) s message.number) _ e).0 in
    let outside = numbered_from s (length (stream past s)) (items_ordered event s) message m in
    omega (arith, inside, outside)) in
    ap (take_while (may config (event ∷ past) q s)) (broadcast-more event past s)
    ∙ take_while-same (may config past q s) (may config (event ∷ past) q s) same (broadcast past s) news fails

turns_sender : (config : Config) (past : History) (event : Event) (q s : ℕ) (message : Message) → Member message (turns config past event q s) → message.sender ≡ s
unfolding turns
turns_sender config past event q s message m =
    broadcast_sender (event ∷ past) s message (Member-range (next config past q s) (next config (event ∷ past) q s) (broadcast (event ∷ past) s) message m)

-- what one event adds to a log from one sender
module _ (config : Config) (event : Event) (past : History) (accepted : IsAccepted config past) (q s : ℕ) where
  news_of : Option Concerned → List Message
  news_of o = cond (is_node o q) (turns_of config past event o) []

  from_others : (o : Option Concerned) → ¬ Concerns past event q s → filter (is_from s) (news_of o) ≡ [] →
      delivered config past q s ++ filter (is_from s) (news_of o) ≡ delivered config (event ∷ past) q s
  from_others o apart none =
      ap (λ news. delivered config past q s ++ news) none ∙ append-nil _ ∙ sym (delivered-same config event past accepted q s apart)

  news_is : (o : Option Concerned) → concerned past event ≡ o → delivered config past q s ++ filter (is_from s) (news_of o) ≡ delivered config (event ∷ past) q s
  unfolding news_of
  news_is None e = from_others None (λ c. let clash : Some c.which ≡ None = sym c.is ∙ e in absurd (cc)) refl
  news_is (Some which) e = elim (cases_eq which.node q) [
    | inr elsewhere ↦ from_others (Some which)
        (λ c. let same : c.which ≡ which = (let both : Some c.which ≡ Some which = sym c.is ∙ e in cc) in elsewhere (sym (ap (λ w. w.node) same) ∙ c.node_is))
        (ap (filter (is_from s)) (cond-false _ _ _ (ne_eqb which.node q elsewhere)))
    | inl here ↦ (elim (cases_eq which.sender s) [
      | inr another ↦ from_others (Some which)
          (λ c. let same : c.which ≡ which = (let both : Some c.which ≡ Some which = sym c.is ∙ e in cc) in another (sym (ap (λ w. w.sender) same) ∙ c.sender_is))
          (ap (filter (is_from s)) (cond-true _ _ _ (eq-eqb which.node q here))
          ∙ filter_none (is_from s) (turns config past event which.node which.sender) (λ message m. ne_eqb message.sender s (λ x. another (sym (turns_sender config past event which.node which.sender message m) ∙ x))))
      | inl this ↦
          ap (λ news. delivered config past q s ++ filter (is_from s) news) (cond-true _ _ _ (eq-eqb which.node q here))
          ∙ ap (λ news. delivered config past q s ++ news) (filter_all (is_from s) (turns config past event which.node which.sender) (λ message m. eq-eqb message.sender s (turns_sender config past event which.node which.sender message m ∙ this)))
          ∙ ap (λ p. delivered config past q s ++ turns config past event p which.sender) here
          ∙ ap (λ p. delivered config past q s ++ turns config past event q p) this
          ∙ sym (delivered-turns config event past (sound config past accepted) q s)
    ])
  ]

-- what q delivered from s, in the order in which it did, is the front of what s broadcast
pub delivery_log-front : (config : Config) (past : History) → IsAccepted config past → (q s : ℕ) → filter (is_from s) (delivery_log config past q) ≡ delivered config past q s
unfolding IsAccepted delivery_log delivered deliveries broadcast stream numbered news_of
delivery_log-front config [] accepted q s = refl
delivery_log-front config (event ∷ past) accepted q s =
    filter-append (is_from s) (delivery_log config past q) (news_of config event past accepted.0 q s (concerned past event))
    ∙ ap (λ before. before ++ filter (is_from s) (news_of config event past accepted.0 q s (concerned past event))) (delivery_log-front config past accepted.0 q s)
    ∙ news_is config event past accepted.0 q s (concerned past event) refl

-- so it is a prefix of it, as long as the next number
pub delivered-take : (config : Config) (past : History) (q s : ℕ) → delivered config past q s ≡ take (next config past q s) (broadcast past s)
unfolding delivered next
delivered-take config past q s = refl

pub delivered_is_prefix : (config : Config) (past : History) (q s : ℕ) → IsPrefixOf (delivered config past q s) (broadcast past s)
delivered_is_prefix config past q s =
    (drop (next config past q s) (broadcast past s), ap (λ front. front ++ drop (next config past q s) (broadcast past s)) (delivered-take config past q s) ∙ take-append-drop (next config past q s) (broadcast past s))

pub delivery_log_is_prefix : (config : Config) (past : History) → IsAccepted config past → (q s : ℕ) → IsPrefixOf (filter (is_from s) (delivery_log config past q)) (broadcast past s)
delivery_log_is_prefix config past accepted q s = subst (λ front. IsPrefixOf front (broadcast past s)) (sym (delivery_log-front config past accepted q s)) (delivered_is_prefix config past q s)
