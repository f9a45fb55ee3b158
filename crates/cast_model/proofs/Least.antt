-- The next number is the least that may not be delivered yet.
use Rattle.std.proofs.Common.{◌≡◌, ℕ, zero, suc, ◌+◌, ◌<◌, ◌∙◌, subst, true, false, List, [], ◌∷◌, length, get_or, inl, inr, arith}
use Rattle.std.specs.List.{prefix_len}
use Rattle.std.proofs.lemmas.List.Sums.{prefix_len_passes, prefix_len_stops, prefix_len-le-length}
use Rattle.std.proofs.lemmas.Bool.{and_parts, cases_lt, false_from_ne_true}
use Rattle.cast_message.specs.declared.config.Config.{Config}
use Rattle.cast_message.specs.declared.message.Item.{Item}
use Rattle.cast_message.specs.declared.message.Item.TheVariants.{Close}
use Rattle.cast_message.specs.declared.message.Message.{Message}
use Rattle.cast_model.specs.History.{History, stream, numbered, broadcast, has_pair, first}
use Rattle.cast_model.specs.Delivery.{is_ready, next}
use Rattle.cast_model.specs.Replies.{IsAccepted}
use Rattle.cast_model.proofs.Fronts.{length-numbered}
use Rattle.cast_model.proofs.Sound.{held_in_stream}

numbered_at : (s i : ℕ) (items : List Item) (k : ℕ) (d : Message) → k < length items → (get_or (numbered s i items) k d).number ≡ i + k
unfolding numbered
numbered_at s i [] k d h = absurd (omega arith)
numbered_at s i (item ∷ items) zero d h = omega arith
numbered_at s i (item ∷ items) (suc k) d h = numbered_at s (suc i) items k d (omega arith) ∙ (let e : suc i + k ≡ i + suc k = omega arith in e)

abbrev unread : Message
unread = record { sender = 0; number = 0; item = Close }

module _ (config : Config) (past : History) (accepted : IsAccepted config past) (q s : ℕ) where
  pub below_next : (i : ℕ) → i < next config past q s → is_ready config past q s i ≡ true
  unfolding next broadcast
  below_next i h =
      let all = numbered s 0 (stream past s) in
      let inside = prefix_len-le-length (λ (message : Message). is_ready config past q s message.number) all in
      let at : (get_or all i unread).number ≡ i = numbered_at s 0 (stream past s) i unread (omega (arith, inside, h, length-numbered s 0 (stream past s))) ∙ (let e : 0 + i ≡ i = omega arith in e) in
      subst (λ k. is_ready config past q s k ≡ true) at (prefix_len_passes (λ (message : Message). is_ready config past q s message.number) all i unread h)

  pub not_at_next : is_ready config past q s (next config past q s) ≡ false
  unfolding next broadcast is_ready
  not_at_next =
      let test = λ (message : Message). is_ready config past q s message.number in
      let all = numbered s 0 (stream past s) in
      elim (cases_lt (prefix_len test all) (length (stream past s))) [
        | inl inside ↦
            (let at : (get_or all (prefix_len test all) unread).number ≡ prefix_len test all = numbered_at s 0 (stream past s) (prefix_len test all) unread inside ∙ (let e : 0 + prefix_len test all ≡ prefix_len test all = omega arith in e) in
            subst (λ k. is_ready config past q s k ≡ false) at (prefix_len_stops test all unread (omega (arith, inside, length-numbered s 0 (stream past s)))))
        | inr past_end ↦ false_from_ne_true _ (λ e.
            let h = held_in_stream config past accepted q s (prefix_len test all) (and_parts (has_pair (first past q) s (prefix_len test all)) _ e).0 in
            omega (arith, h, past_end))
      ]
