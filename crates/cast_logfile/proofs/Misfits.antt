-- One reply more is as was logged.
use Rattle.std.proofs.Common.{◌≡◌, ℕ, ◌+◌, ◌<◌, Bool, false, List, [], ◌∷◌, ◌++◌, length, map, take, get_or, Option, Some, None, Result, IsOk, sym, ap, ◌∙◌, subst, arith, inl, inr}
use Rattle.std.specs.Prelude.{is_some, IfNone, slice_get}
use Rattle.std.proofs.lemmas.Bool.{cases_lt}
use Rattle.std.proofs.lemmas.Option.{get_or_from_slice_get}
use Rattle.std.specs.List.{All}
use Rattle.std.proofs.lemmas.List.{take_more, map-append}
use Rattle.std.proofs.lemmas.List.Elements.{All-push}
use Rattle.cast_message.specs.declared.event.Answer.{Answer}
use Rattle.cast_message.specs.declared.event.StepFault.{StepFault}
use Rattle.cast_node.specs.Linked.{outcome_in}
use Rattle.cast_logfile.specs.declared.merging.StepPlace.{StepPlace}
use Rattle.cast_logfile.specs.declared.misfit.Misfit.{Misfit}
use Rattle.cast_logfile.specs.Merging.{Logs, outcome_at, IsAt}

pub of_none : {P : Type 0} (o : Option Misfit) → is_some o ≡ false → IfNone o P → P
of_none None none p = p
of_none (Some m) none p = absurd cc

module _ (logs : Logs) (order : List StepPlace) (replies : List (Result Answer StepFault)) (i : ℕ) (at : StepPlace) (reply : Result Answer StepFault)
    (lo : i < length order) (lr : i < length replies) (is_at : at ≡ get_or order i at) (is_reply : reply ≡ get_or replies i reply) where
  more_replies : take (i + 1) replies ≡ take i replies ++ reply ∷ []
  more_replies = take_more replies i reply lr ∙ ap (λ r. take i replies ++ r ∷ []) (sym is_reply)

  more_order : take (i + 1) order ≡ take i order ++ at ∷ []
  more_order = take_more order i at lo ∙ ap (λ x. take i order ++ x ∷ []) (sym is_at)

  pub accepted_more : All IsOk (take i replies) → IsOk reply → All IsOk (take (i + 1) replies)
  accepted_more all one = subst (All IsOk) (sym more_replies) (All-push IsOk (take i replies) reply all one)

  pub outcomes_more : map outcome_in (take i replies) ≡ map (outcome_at logs) (take i order) → outcome_in reply ≡ outcome_at logs at → map outcome_in (take (i + 1) replies) ≡ map (outcome_at logs) (take (i + 1) order)
  outcomes_more all one =
      ap (map outcome_in) more_replies ∙ map-append outcome_in (take i replies) (reply ∷ []) ∙ (λ t. all t ++ one t ∷ [])
      ∙ sym (ap (map (outcome_at logs)) more_order ∙ map-append (outcome_at logs) (take i order) (at ∷ []))

  pub places_more : ((k : ℕ) (x : StepPlace) (r : Result Answer StepFault) → k < i → slice_get order k ≡ Some x → slice_get replies k ≡ Some r → IsAt x.node r) → IsAt at.node reply →
      (k : ℕ) (x : StepPlace) (r : Result Answer StepFault) → k < i + 1 → slice_get order k ≡ Some x → slice_get replies k ≡ Some r → IsAt x.node r
  places_more before one k x r within at_x at_r = elim (cases_lt k i) [
    | inl l ↦ before k x r l at_x at_r
    | inr l ↦
        (let last : k ≡ i = omega (arith, l, within) in
        let same_x : at ≡ x = is_at ∙ get_or_from_slice_get order i x at (subst (λ n. slice_get order n ≡ Some x) last at_x) in
        let same_r : reply ≡ r = is_reply ∙ get_or_from_slice_get replies i r reply (subst (λ n. slice_get replies n ≡ Some r) last at_r) in
        subst (IsAt x.node) same_r (subst (λ y. IsAt y.node reply) same_x one))
  ]
