-- A run follows the definitions, step by step.
use Rattle.std.proofs.Common.{◌≡◌, ℕ, ◌+◌, ◌<◌, ◌≤◌, List, [], ◌∷◌, ◌++◌, length, take, get_or, false, Option, Some, None, Result, Ok, Err, refl, sym, ap, ◌∙◌, subst}
use Rattle.std.proofs.lemmas.List.{take_more, take_all}
use Rattle.cast_message.specs.declared.config.Config.{Config}
use Rattle.cast_message.specs.declared.event.Event.{Event}
use Rattle.cast_message.specs.declared.event.Answer.{Answer}
use Rattle.cast_message.specs.declared.event.StepFault.{StepFault}
use Rattle.cast_model.specs.History.{History}
use Rattle.cast_model.specs.Replies.{IsRefused, is_want_of_memory, fault, answer, reply, reply_by, after, after_by, history, replies, history_from, replies_from}
use Rattle.cast_model.proofs.Runs.{history_from-push, replies_from-push}
use Rattle.cast_world.specs.Group.{State, Stands, Continues}

after_answer : (past : History) (event : Event) (a b : Answer) (refusal : Option StepFault) → reply_by refusal a ≡ Ok b → after_by refusal past event ≡ event ∷ past
after_answer past event a b None e = refl
after_answer past event a b (Some fault) e = absurd (cc)

after_refusal : (config : Config) (past : History) (event : Event) (a : Answer) (world : State) (refusal : StepFault) (cause : Option StepFault) → IsRefused cause refusal → is_want_of_memory (Err refusal) ≡ false → Stands config past world →
    (Err refusal ≡ reply_by cause a) × Stands config (after_by cause past event) world
after_refusal config past event a world refusal None is had st = let never = subst (λ f. is_want_of_memory (Err f) ≡ false) is had in absurd (cc)
after_refusal config past event a world refusal (Some cause) is had st = (ap (λ f. Err f) is, st)

-- a step that had memory
pub settled : (config : Config) (past : History) (event : Event) (result : Result Answer StepFault) (world : State) → Continues config past event result world → is_want_of_memory result ≡ false →
    (result ≡ reply config past event) × Stands config (after config past event) world
unfolding reply after
settled config past event (Ok answered) world step had =
    (sym step.0, subst (λ h. Stands config h world) (sym (after_answer past event (answer config past event) answered (fault config past event) step.0)) step.1)
settled config past event (Err refusal) world step had = after_refusal config past event (answer config past event) world refusal (fault config past event) step.0 had step.1

-- one more event
pub replies_more : (config : Config) (events : List Event) (i : ℕ) (event : Event) → i < length events → event ≡ get_or events i event → replies config (take (i + 1) events) ≡ replies config (take i events) ++ reply config (history config (take i events)) event ∷ []
replies_more config events i event within is = ap (replies config) (take_more events i event within ∙ ap (λ e. take i events ++ e ∷ []) (sym is)) ∙ replies_from-push config [] (take i events) event

pub history_more : (config : Config) (events : List Event) (i : ℕ) (event : Event) → i < length events → event ≡ get_or events i event → history config (take (i + 1) events) ≡ after config (history config (take i events)) event
history_more config events i event within is = ap (history config) (take_more events i event within ∙ ap (λ e. take i events ++ e ∷ []) (sym is)) ∙ history_from-push config [] (take i events) event

-- at the start and at the end
pub run_begun : (config : Config) (world : State) (results : List (Result Answer StepFault)) → results ≡ [] → Stands config [] world →
    record { replied : results ≡ replies config (take 0 []); stands : Stands config (history config []) world }
unfolding replies_from history_from
run_begun config world results none st = record { replied = none; stands = st }

pub whole_replies : (config : Config) (events : List Event) (i : ℕ) (results : List (Result Answer StepFault)) → length events ≤ i → results ≡ replies config (take i events) → results ≡ replies config events
whole_replies config events i results past so_far = so_far ∙ ap (replies config) (take_all i events past)
