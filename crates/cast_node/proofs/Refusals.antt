-- A node refuses what the definitions refuse.
use Rattle.std.proofs.Common.{◌≡◌, ◌≢◌, ℕ, ◌<◌, refl, sym, ◌∙◌, ap, Bool, true, false, not, ◌&&◌, cond, List, [], ◌∷◌, length, Some, None, arith}
use Rattle.std.specs.Prelude.{◌==◌, nat_lt, nat_le, is_some, if◌then◌else◌}
use Rattle.std.specs.FinMap as finite
use Rattle.std.proofs.lemmas.Bool.Decides.{nat_tests}
use Rattle.std.proofs.lemmas.Bool.{not-false, ltb-true, eq-eqb, false≢true}
use Rattle.cast_message.specs.declared.config.Config.{Config}
use Rattle.cast_message.specs.declared.event.StepFault.TheVariants.{NoSlot, Acked, NotTaken}
use Rattle.cast_model.specs.Refusals.{Cause, NodeView, no_node, self_link, crashed, frames_full, step_causes, first_fault}
use Rattle.cast_model.specs.Steps.{Step, Sent, Acknowledged, Steps, own_items, frame_count}
use Rattle.cast_model.specs.OwnSteps.{own_live, own_given, own_acked, message_in, own_fault}
use Rattle.cast_node.specs.Kept.{Kept, link_to}
use Rattle.cast_node.specs.Turns.{kept_view, kept_fault}
use Rattle.cast_node.specs.Stands.{Stands}

-- causes behind one that doesn't hold
skip : (cause : Cause) (xs ys : List Cause) → (cause.holds ≡ false → first_fault xs ≡ first_fault ys) → first_fault (cause ∷ xs) ≡ first_fault (cause ∷ ys)
unfolding first_fault
skip cause xs ys h = (elim cause.holds as (λ b. (b ≡ false → first_fault xs ≡ first_fault ys) → cond b (Some cause.refusal) (first_fault xs) ≡ cond b (Some cause.refusal) (first_fault ys)) [ true ↦ λ g. refl | false ↦ λ g. g refl ]) h

-- the causes that look at what a node shows of a peer
abbrev no_slot : ℕ → ℕ → Cause
no_slot given slot = record { holds = nat_le given slot; refusal = NoSlot }

abbrev acked_if : Bool → Cause
acked_if done = record { holds = done; refusal = Acked }

abbrev not_taken_if : Bool → Cause
not_taken_if took = record { holds = not took; refusal = NotTaken }

module _ (config : Config) (me : ℕ) (steps : Steps) (kept : Kept) (h : Stands config me steps kept) where
  within : (to : ℕ) → not (nat_lt to config.nodes) ≡ false → to < config.nodes
  within to e = ltb-true to config.nodes (not-false _ e)

  apart : (to : ℕ) → (me == to) ≡ false → to ≢ me
  apart to e same = false≢true (sym e ∙ eq-eqb me to (sym same))

  owed_test : (to slot : ℕ) → to < config.nodes → to ≢ me → nat_le (length (own_given me steps to)) slot ≡ false → not (finite.contains_key (link_to kept to).owed slot) ≡ own_acked steps to slot
  owed_test to slot l e inside =
      ap (λ o. not (is_some o)) ((h.out to l e).owed slot ∙ ap (λ b. if b && not (own_acked steps to slot) then Some (message_in (own_given me steps to) slot) else None) in_test)
      ∙ elim (own_acked steps to slot) as (λ c. not (is_some (if not c then Some (message_in (own_given me steps to) slot) else None)) ≡ c) [ true ↦ refl | false ↦ refl ]
    where
      in_test : nat_lt slot (length (own_given me steps to)) ≡ true
      in_test = grind (arith, nat_tests, inside)

  -- what the node shows by its steps, and of its peers by what it keeps
  abbrev seen : NodeView
  seen = record (kept_view kept) { live = own_live steps; stream = own_items steps; frames = frame_count steps }

  seen_is : kept_view kept ≡ seen
  seen_is = λ k. record (kept_view kept) { live = h.live k; stream = h.stream k; frames = h.frames k }

  by_seen : (step : Step) → kept_fault kept step ≡ first_fault (step_causes config me seen step)
  unfolding kept_fault
  by_seen step = λ k. first_fault (step_causes (h.same_config k) (h.same_me k) (seen_is k) step)

  -- causes behind those that no frame for a peer has
  for_peer : (to : ℕ) (xs ys : List Cause) → (to < config.nodes → to ≢ me → first_fault xs ≡ first_fault ys) →
      first_fault (no_node config to ∷ self_link me to ∷ crashed seen ∷ xs) ≡ first_fault (no_node config to ∷ self_link me to ∷ crashed seen ∷ ys)
  for_peer to xs ys same = skip (no_node config to) _ _ (λ in_group. skip (self_link me to) _ _ (λ other. skip (crashed seen) _ _ (λ up. same (within to in_group) (apart to other))))

  pub faults_are : (step : Step) → kept_fault kept step ≡ own_fault config me steps step
  unfolding own_fault
  faults_are (Sent to slot) =
      by_seen (Sent to slot)
      ∙ for_peer to _ _ (λ inside other.
      ap (λ given. first_fault (no_slot given slot ∷ acked_if (not (finite.contains_key (link_to kept to).owed slot)) ∷ frames_full seen ∷ [])) (h.out to inside other).given
      ∙ skip (no_slot (length (own_given me steps to)) slot) _ _ (λ given.
      ap (λ done. first_fault (acked_if done ∷ frames_full seen ∷ [])) (owed_test to slot inside other given)))
  faults_are (Acknowledged to slot) =
      by_seen (Acknowledged to slot)
      ∙ for_peer to _ _ (λ inside other. ap (λ took. first_fault (not_taken_if took ∷ frames_full seen ∷ [])) (h.taken to slot inside))
  faults_are step = by_seen step
