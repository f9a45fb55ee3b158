-- The deliveries that a log reports to a client are those of its node.
use Rattle.std.proofs.Common.{◌≡◌, ℕ, List, [], ◌∷◌, ◌++◌, map, refl, sym, ap, ◌∙◌, subst, append_assoc}
use Rattle.std.proofs.lemmas.List.{append-nil, map-append}
use Rattle.std.proofs.lemmas.List.Elements.{filter-append, filter_map-append}
use Rattle.cast_message.specs.declared.config.Config.{Config}
use Rattle.cast_message.specs.declared.event.Outcome.{Outcome}
use Rattle.cast_message.specs.declared.message.Item.{Item}
use Rattle.cast_message.specs.declared.message.Message.{Message}
use Rattle.cast_message.specs.declared.message.Decision.{Decision}
use Rattle.cast_model.specs.History.{History, stream, broadcast}
use Rattle.cast_model.specs.Headline.{IsPrefixOf, is_from}
use Rattle.cast_model.specs.Replies.{IsAccepted}
use Rattle.cast_model.specs.Shown.{item_of}
use Rattle.cast_model.specs.Steps.{Step, Ordered, Sent, Acknowledged, Arrived, Stopped, Steps, steps_of}
use Rattle.cast_model.specs.OwnSteps.{own_log, own_deliveries, own_outcome, own_answer}
use Rattle.cast_model.proofs.OwnTurns.{own_log-steps_of}
use Rattle.cast_model.proofs.Prefix.{delivery_log_is_prefix}
use Rattle.cast_model.proofs.Fronts.{items_numbered}
use Rattle.cast_node.specs.Stands.{Stands as NodeStands}
use Rattle.cast_desk.specs.declared.notice.Notice.{Notice}
use Rattle.cast_desk.specs.declared.notice.Notice.TheVariants.{Delivered, Decided}
use Rattle.cast_desk.specs.Feed.{news_of}
use Rattle.cast_node.specs.Linked.{steps_in, outcome_in_answer}
use Rattle.cast_world.specs.Group.{State, Stands}
use Rattle.cast_merge.specs.Told.{message_told, told, of_sender, TellsPrefixes}
use Rattle.cast_merge.proofs.Feeds.{front_read}

-- one notice more
pub told_next : (old new : List (ℕ × Notice)) (from : ℕ) (notice : Notice) → new ≡ old ++ (from, notice) ∷ []
    → told (map (λ m. m.1) new) ≡ told (map (λ m. m.1) old) ++ told (notice ∷ [])
told_next old new from notice more =
    let snd : ℕ × Notice → Notice = λ m. m.1 in
    ap (λ all. told (map snd all)) more ∙ ap told (map-append snd old ((from, notice) ∷ [])) ∙ filter_map-append message_told (map snd old) (notice ∷ [])

told_delivered : (messages : List Message) → told (map Delivered messages) ≡ messages
told_delivered [] = refl
told_delivered (m ∷ ms) = ap (λ rest. m ∷ rest) (told_delivered ms)

told_decided : (decisions : List Decision) → told (map Decided decisions) ≡ []
told_decided [] = refl
told_decided (d ∷ ds) = told_decided ds

pub told_news : (outcome : Outcome) → told (news_of outcome) ≡ outcome.deliveries
told_news outcome =
    filter_map-append message_told (map Delivered outcome.deliveries) (map Decided outcome.decisions)
    ∙ (λ i. told_delivered outcome.deliveries i ++ told_decided outcome.decisions i)
    ∙ append-nil outcome.deliveries

own_news : (config : Config) (p : ℕ) (steps : Steps) (step : Step) → own_deliveries config p steps step ≡ (outcome_in_answer (own_answer config p steps step)).deliveries
unfolding own_deliveries own_answer own_outcome
own_news config p steps (Ordered item) = refl
own_news config p steps (Sent to slot) = refl
own_news config p steps (Acknowledged to slot) = refl
own_news config p steps (Arrived frame) = refl
own_news config p steps Stopped = refl

pub log_grows : (config : Config) (p : ℕ) (steps : Steps) (step : Step) → own_log config p (step ∷ steps) ≡ own_log config p steps ++ (outcome_in_answer (own_answer config p steps step)).deliveries
unfolding own_log
log_grows config p steps step = ap (λ more. own_log config p steps ++ more) (own_news config p steps step)

pub log_begins : (config : Config) (p : ℕ) → own_log config p [] ≡ []
unfolding own_log
log_begins config p = refl

pub front_of_sender : (s : ℕ) (xs ys : List Message) → IsPrefixOf xs ys → IsPrefixOf (map item_of (of_sender s xs)) (map item_of (of_sender s ys))
front_of_sender s xs ys front = (
  map item_of (of_sender s front.0),
  sym (map-append item_of (of_sender s xs) (of_sender s front.0))
      ∙ ap (map item_of) (sym (filter-append (is_from s) xs front.0))
      ∙ ap (λ all. map item_of (of_sender s all)) front.1,
)

items_broadcast : (past : History) (s : ℕ) → map item_of (broadcast past s) ≡ stream past s
unfolding broadcast
items_broadcast past s = items_numbered s 0 (stream past s)

pub front_of_stream : (config : Config) (past : History) (p s : ℕ) → IsAccepted config past
    → IsPrefixOf (map item_of (of_sender s (own_log config p (steps_of past p)))) (stream past s)
front_of_stream config past p s accepted =
    let front = delivery_log_is_prefix config past accepted p s in
    subst (λ log. IsPrefixOf (map item_of (of_sender s log)) (stream past s)) (sym (own_log-steps_of config past accepted p))
    (map item_of front.0, sym (map-append item_of _ front.0) ∙ ap (map item_of) front.1 ∙ items_broadcast past s)

pub prefix_of_prefix : (xs ys zs : List Item) → IsPrefixOf xs ys → IsPrefixOf ys zs → IsPrefixOf xs zs
prefix_of_prefix xs ys zs one more = (one.0 ++ more.0, sym (append_assoc xs one.0 more.0) ∙ ap (λ front. front ++ more.0) one.1 ∙ more.1)

-- A client's deliveries from a sender are a prefix of what that sender broadcast. The log of its node has what the node
-- delivered, and the node is the one in the world.
pub tells_prefixes : TellsPrefixes
tells_prefixes config past world p s client got stands has sender =
    let is = has.tells in
    let steps = steps_in config p has.trail in
    let within = is.stands.place in
    let there = subst (NodeStands config p (steps_of past p)) has.same (stands.nodes p within) in
    let equal = sym (is.stands.delivers s sender) ∙ there.delivers s sender in
    let front = front_read message_told (λ outcome. outcome.deliveries) (λ ticket outcome. refl) told_news config p (own_log config p) (log_begins config p) (log_grows config p)
    client has.trail has.report.log has.report.node got is has.begins in
    prefix_of_prefix _ (map item_of (of_sender s (own_log config p steps))) (stream past s)
    (front_of_sender s (told got) (own_log config p steps) front)
    (subst (λ items. IsPrefixOf items (stream past s)) (sym equal) (front_of_stream config past p s stands.accepted))
