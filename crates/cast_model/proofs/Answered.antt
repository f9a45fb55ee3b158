-- What the replies to any list of events say that a node delivered.
use Rattle.std.proofs.Common.{◌≡◌, ℕ, refl, sym, ◌∙◌, ap, subst, Bool, true, false, cond, List, [], ◌∷◌, ◌++◌, Option, Some, None, append_assoc}
use Rattle.std.specs.Prelude.{◌==◌, slice_get}
use Rattle.std.specs.List.{filter}
use Rattle.std.proofs.lemmas.List.{append-nil}
use Rattle.std.proofs.lemmas.List.Elements.{filter-append}
use Rattle.cast_message.specs.declared.config.Config.{Config}
use Rattle.cast_message.specs.declared.event.Event.{Event}
use Rattle.cast_message.specs.declared.event.Event.TheVariants.{Order, Send, Ack, Arrive, Crash}
use Rattle.cast_message.specs.declared.event.StepFault.{StepFault}
use Rattle.cast_message.specs.declared.message.Message.{Message}
use Rattle.cast_message.specs.declared.message.Frame.{Frame}
use Rattle.cast_model.specs.History.{History, broadcast, frames}
use Rattle.cast_model.specs.Delivery.{concerned, concerned_by, turns_of, deliveries, is_node, delivery_log, delivered, outcome}
use Rattle.cast_model.specs.Headline.{deliveries_at, deliveries_for, is_from, answered, IsPrefixOf}
use Rattle.cast_model.specs.Replies.{fault, answer, reply, reply_by, after, after_by, history_from, history, replies_from, replies, IsAccepted, target_of}
use Rattle.cast_model.proofs.Prefix.{delivery_log-front, delivered_is_prefix}

-- what was accepted stays so
pub IsAccepted-history_from : (config : Config) (past : History) (events : List Event) → IsAccepted config past → IsAccepted config (history_from config past events)
unfolding history_from after IsAccepted
IsAccepted-history_from config past [] accepted = accepted
IsAccepted-history_from config past (event ∷ events) accepted = IsAccepted-history_from config (after config past event) events (step (fault config past event) refl)
  where
    step : (o : Option StepFault) → fault config past event ≡ o → IsAccepted config (after_by o past event)
    step None e = (accepted, e)
    step (Some refusal) e = accepted

-- the answer to an accepted event has what the log gains
log_answer : (config : Config) (past : History) (event : Event) (q : ℕ) → cond (is_node (concerned past event) q) (deliveries config past event) [] ≡ deliveries_at q event (answer config past event)
unfolding concerned deliveries answer outcome
log_answer config past (Order node item) q = refl
log_answer config past (Send from to slot) q = refl
log_answer config past (Ack from to slot) q = refl
log_answer config past (Crash node) q = refl
log_answer config past (Arrive from seq) q = by_frame (slice_get (frames past from) seq)
  where
    either : (b : Bool) → ◌≡◌ {A = List Message} [] (cond b [] [])
    either true = refl
    either false = refl

    by_frame : (o : Option Frame) → cond (is_node (concerned_by past o) q) (turns_of config past (Arrive from seq) (concerned_by past o)) [] ≡ cond (target_of o == q) (turns_of config past (Arrive from seq) (concerned_by past o)) []
    by_frame None = either (0 == q)
    by_frame (Some frame) = refl

pub delivery_log-after : (config : Config) (past : History) (event : Event) (q : ℕ) → delivery_log config (after config past event) q ≡ delivery_log config past q ++ deliveries_for q event (reply config past event)
unfolding after reply delivery_log
delivery_log-after config past event q = by_fault (fault config past event)
  where
    by_fault : (o : Option StepFault) → delivery_log config (after_by o past event) q ≡ delivery_log config past q ++ deliveries_for q event (reply_by o (answer config past event))
    by_fault None = ap (λ news. delivery_log config past q ++ news) (log_answer config past event q)
    by_fault (Some refusal) = sym (append-nil (delivery_log config past q))

answered_from : (config : Config) (past : History) (events : List Event) (q s : ℕ) →
    filter (is_from s) (delivery_log config (history_from config past events) q) ≡ filter (is_from s) (delivery_log config past q) ++ answered events (replies_from config past events) q s
unfolding history_from replies_from answered
answered_from config past [] q s = sym (append-nil (filter (is_from s) (delivery_log config past q)))
answered_from config past (event ∷ events) q s =
    let news = deliveries_for q event (reply config past event) in
    let rest = answered events (replies_from config (after config past event) events) q s in
    answered_from config (after config past event) events q s
    ∙ ap (λ log. filter (is_from s) log ++ rest) (delivery_log-after config past event q)
    ∙ ap (λ front. front ++ rest) (filter-append (is_from s) (delivery_log config past q) news)
    ∙ append_assoc (filter (is_from s) (delivery_log config past q)) (filter (is_from s) news) rest

-- whatever list of events a group takes, the replies say that q delivered from s what it may
pub answered-delivered : (config : Config) (events : List Event) (q s : ℕ) → answered events (replies config events) q s ≡ delivered config (history config events) q s
unfolding delivery_log IsAccepted
answered-delivered config events q s =
    sym (answered_from config [] events q s) ∙ delivery_log-front config (history config events) (IsAccepted-history_from config [] events tt) q s

-- and that is a prefix of what s broadcast
pub answered_is_prefix : (config : Config) (events : List Event) (q s : ℕ) → IsPrefixOf (answered events (replies config events) q s) (broadcast (history config events) s)
answered_is_prefix config events q s =
    subst (λ front. IsPrefixOf front (broadcast (history config events) s)) (sym (answered-delivered config events q s)) (delivered_is_prefix config (history config events) q s)
