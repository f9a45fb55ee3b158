-- What holds at rest, and how rest is found.
use Rattle.std.proofs.Common.{◌≡◌, ℕ, ◌<◌, sym, ◌∙◌, ap, subst, Bool, true, length, Option, Some, None, false, true≢false, arith}
use Rattle.std.specs.Prelude.{◌≢◌, ◌↔◌, is_some, nat_lt, not, ◌&&◌}
use Rattle.std.specs.FinMap as finite
use Rattle.std.specs.FinMap.{empty_of_len, len-empty}
use Rattle.std.specs.FinSet as set
use Rattle.std.specs.FinSet.{contains-remove}
use Rattle.std.specs.Cmp.{nat_cmp_total}
use Rattle.std.proofs.lemmas.Bool.Decides.{nat_tests}
use Rattle.std.specs.Ordering.{nat_cmp, eq_by_cmp}
use Rattle.std.proofs.lemmas.List.{nil_from_length}
use Rattle.cast_message.specs.declared.config.Config.{Config}
use Rattle.cast_message.specs.declared.config.Mode.TheVariants.{Uniform}
use Rattle.cast_message.specs.declared.message.Message.{Message}
use Rattle.cast_model.specs.History.{History}
use Rattle.cast_model.specs.Replies.{IsAccepted}
use Rattle.cast_model.specs.Rounds.{Rest, HaveFewCrashed, FewCrashedIn, owed}
use Rattle.cast_model.proofs.DecidedAtRest.{all_delivered_same, live_stream_delivered, all_decided_same, decided_where_proposed}
use Rattle.cast_model.proofs.UniformRest.{all_have_it}
use Rattle.cast_node.specs.Kept.{link_to}
use Rattle.cast_world.specs.Group.{State, node_at, Stands}
use Rattle.cast_node.specs.Giving.{OwesNoneOf}
use Rattle.cast_world.specs.Plans.{AreLive}
use Rattle.cast_world.specs.Rounds.{AgreesAtRest, HaveWhatAnyDelivered, IsSettledWithAll, IsFirstGiver}
use Rattle.cast_world.proofs.Showing.{live_shown, owed_shown}

module _ (config : Config) (past : History) (accepted : IsAccepted config past) (rest : Rest config past) where
  pub agrees : FewCrashedIn config.mode config past → AgreesAtRest config past
  agrees few = record {
    same = all_delivered_same config past accepted rest few;
    whole = live_stream_delivered config past accepted rest few;
    decided = all_decided_same config past accepted rest few;
    proposed = decided_where_proposed config past accepted rest few;
  }

  pub have_all : config.mode ≡ Uniform → HaveFewCrashed config past → HaveWhatAnyDelivered config past
  have_all uniform few p q s live = all_have_it config past accepted rest uniform few p live.in_group live.alive q s

-- a live node is settled with all where it owes none of the other live ones
module _ (config : Config) (past : History) (world : State) (st : Stands config past world) (p : ℕ) (l : p < length world.nodes) where
  within : p < config.nodes
  within = subst (λ n. p < n) st.size l

  pub down_is_settled : (node_at world p).live ≡ false → IsSettledWithAll config past p
  down_is_settled down q m live_p live_q apart = absurd (true≢false (sym live_p ∙ sym (live_shown config past world st p within) ∙ down))

  pub owes_none : (live others : set.FinSet nat_cmp) → AreLive world live → others ≡ set.remove live p → (node_at world p).live ≡ true → OwesNoneOf (node_at world p).outgoing others ↔ IsSettledWithAll config past p
  owes_none live others are cut up = (settled, nothing)
    where
      other : (q : ℕ) → set.contains others q ≡ (not (eq_by_cmp nat_cmp q p) && (nat_lt q (length world.nodes) && (node_at world q).live))
      other q = ap (λ s. set.contains s q) cut ∙ contains-remove nat_cmp_total live p q ∙ ap (λ b. not (eq_by_cmp nat_cmp q p) && b) (are q)

      settled : OwesNoneOf (node_at world p).outgoing others → IsSettledWithAll config past p
      settled none q m live_p live_q apart =
          nil_from_length (owed past p q)
          (sym (owed_shown config past world st p q within m (λ e. apart (sym e)))
          ∙ ap finite.len (none q (other q ∙ in_others (length world.nodes) (node_at world q).live (subst (λ n. q < n) (sym st.size) m) (live_shown config past world st q m ∙ live_q) (λ e. apart (sym e))))
          ∙ len-empty nat_cmp Message)
        where
          in_others : (n : ℕ) (b : Bool) → q < n → b ≡ true → q ≢ p → (not (eq_by_cmp nat_cmp q p) && (nat_lt q n && b)) ≡ true
          in_others n b l e apart = grind (arith, nat_tests, l, e, apart)

      nothing : IsSettledWithAll config past p → OwesNoneOf (node_at world p).outgoing others
      nothing all q member =
          let parts = apart_and_up (length world.nodes) (node_at world q).live (sym (other q) ∙ member) in
          let m = subst (λ n. q < n) st.size parts.1 in
          empty_of_len (link_to (node_at world p) q).owed
          (owed_shown config past world st p q within m parts.0
          ∙ ap length (all q m (sym (live_shown config past world st p within) ∙ up) (sym (live_shown config past world st q m) ∙ parts.2) (λ e. parts.0 (sym e))))
        where
          apart_and_up : (n : ℕ) (b : Bool) → (not (eq_by_cmp nat_cmp q p) && (nat_lt q n && b)) ≡ true → (q ≢ p) × (q < n) × (b ≡ true)
          apart_and_up n b e = (λ f. grind (arith, nat_tests, e, f), grind (arith, nat_tests, e), grind (arith, nat_tests, e))

-- where no node owes a live one
pub rest_found : (config : Config) (past : History) (giver : Option ℕ) → is_some giver ≡ false → IsFirstGiver config past giver → Rest config past
rest_found config past None none rest = rest
rest_found config past (Some p) none first = absurd (true≢false none)
