-- What is said of a step beside its reply: a slot that is too great for a mark was neither given nor taken; and what the world
-- stands for after an event that is taken silently.
use Rattle.std.proofs.Common.{◌≡◌, ◌∷◌, ℕ, refl, sym, ap, subst, true, Option, Some, None, arith, Result, Ok, Err}
use Rattle.std.specs.Prelude.{IfSome, is_ok, is_some}
use Rattle.std.proofs.lemmas.Bool.{false≢true}
use Rattle.cast_message.specs.declared.config.Config.{Config}
use Rattle.cast_message.specs.declared.event.Event.{Event}
use Rattle.cast_message.specs.declared.event.Event.TheVariants.{Order, Send, Ack, Arrive, Crash}
use Rattle.cast_message.specs.declared.event.Answer.{Answer}
use Rattle.cast_message.specs.declared.event.Answer.TheVariants.{Sent as AnswerSent, Arrived as AnswerArrived}
use Rattle.cast_message.specs.declared.event.StepFault.{StepFault}
use Rattle.cast_model.specs.History.{History}
use Rattle.cast_model.specs.OwnSteps.{nothing}
use Rattle.cast_model.specs.Replies.{IsAccepted, IsRefused, fault, reply, answer}
use Rattle.cast_model.proofs.Accepted.{Send-slot, Ack-taken}
use Rattle.cast_model.proofs.Ready.{took_in_given}
use Rattle.cast_model.proofs.Sound.{sound}
use Rattle.cast_node.specs.Calls.{number_reply, silent_reply}
use Rattle.cast_world.specs.Group.{State, Stands, Continues, IsFar, IsRefusedForCause}
use Rattle.cast_world.specs.Moves.{IsSilent, StepsTo}
use Rattle.cast_world.proofs.Owing.{gives_few}
use Rattle.cast_world.proofs.Stepping.{no_fault, continues_to}

module _ (config : Config) (past : History) (accepted : IsAccepted config past) where
  has_cause : (event : Event) → IsFar event → fault config past event ≡ None → ⊥
  has_cause (Send from to slot) far none =
      let given = Send-slot config past from to slot none in
      let few = gives_few config past accepted from to in
      absurd (omega (arith, far, given, few))
  has_cause (Ack from to slot) far none =
      let given = took_in_given past (sound config past accepted) from to slot (Ack-taken config past from to slot none) in
      let few = gives_few config past accepted to from in
      absurd (omega (arith, far, given, few))
  has_cause (Order node item) far none = far
  has_cause (Arrive from seq) far none = far
  has_cause (Crash node) far none = far

  pub refused_far : (event : Event) (reply : Result Answer StepFault) (new : State) → IsFar event → Continues config past event reply new → IsRefusedForCause config past event reply
  unfolding reply
  refused_far event (Ok answered) new far goes_on = has_cause event far (no_fault (fault config past event) (answer config past event) answered goes_on.0)
  refused_far event (Err refusal) new far goes_on = by_cause (fault config past event) (has_cause event far) goes_on.0
    where
      by_cause : (o : Option StepFault) → (o ≡ None → ⊥) → IsRefused o refusal → o ≡ Some refusal
      by_cause None cause refused = absurd (cause refl)
      by_cause (Some found) cause refused = ap Some (sym refused)

-- an event that is taken silently
module _ (config : Config) (past : History) (world : State) (st : Stands config past world) (event : Event) (new : State) where
  by_answer : (answer : Answer) → IsSilent (Ok answer) → StepsTo world event (Ok answer) new → IsSilent (reply config past event) × Stands config (event ∷ past) new
  by_answer answer silent t = let goes_on = continues_to config past world st event (Ok answer) new t in (subst IsSilent (sym goes_on.0) silent, goes_on.1)

  -- a frame is made
  pub made_silently : (made : Result ℕ StepFault) → StepsTo world event (number_reply made) new → is_ok made ≡ true → IsSilent (reply config past event) × Stands config (event ∷ past) new
  made_silently (Ok seq) t ok = by_answer (AnswerSent seq) tt t
  made_silently (Err refusal) t ok = absurd (false≢true ok)

  -- a frame arrives
  pub arrived_silently : (node : Option ℕ) → IfSome node (λ node. StepsTo world event (silent_reply node) new) → is_some node ≡ true → IsSilent (reply config past event) × Stands config (event ∷ past) new
  arrived_silently (Some node) t some = by_answer (AnswerArrived node nothing) refl t
  arrived_silently None t some = absurd (false≢true some)
