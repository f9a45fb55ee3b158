-- A client's deliveries from a sender are a prefix of the items that the sender's log took.
use Rattle.std.proofs.Common.{◌≡◌, ℕ, ◌<◌, List, [], ◌∷◌, ◌++◌, map, reverse, sym, refl, ap, ◌∙◌, subst}
use Rattle.std.specs.Prelude.{slice_get, Some}
use Rattle.std.proofs.lemmas.Option.{slice_get_within}
use Rattle.cast_message.specs.declared.event.Event.TheVariants.{Order, Send, Ack, Arrive, Crash}
use Rattle.cast_message.specs.declared.message.Item.{Item}
use Rattle.cast_model.specs.History.{stream}
use Rattle.cast_model.specs.Headline.{IsPrefixOf}
use Rattle.cast_model.specs.Shown.{item_of}
use Rattle.cast_model.specs.Steps.{steps_of, own_items}
use Rattle.cast_model.specs.OwnSteps.{own_log}
use Rattle.cast_model.proofs.Projected.{own_items-steps_of}
use Rattle.cast_log.specs.declared.entry.Entry.{Entry}
use Rattle.cast_log.specs.declared.entry.EntryKind.{EntryKind}
use Rattle.cast_log.specs.declared.entry.EntryKind.TheVariants.{Step as StepEntry, Refused}
use Rattle.cast_node.specs.Linked.{steps_in, taken, taken_of}
use Rattle.cast_merge.specs.Told.{message_told, told, of_sender, item_ordered, ordered_in, TellsOrders}
use Rattle.cast_merge.proofs.Accepting.{events_of}
use Rattle.cast_merge.proofs.Assembling.{merged, merging}
use Rattle.cast_merge.proofs.Feeds.{front_read}
use Rattle.cast_merge.proofs.Merging.{ended}
use Rattle.cast_merge.proofs.Numbers.{items_in, items_in-append, items_taken}
use Rattle.cast_merge.proofs.Told.{told_news, log_begins, log_grows, front_of_sender, front_of_stream, prefix_of_prefix}

of_kind : (stamp : ℕ) (kind : EntryKind) → item_ordered kind ≡ items_in (taken_of stamp kind)
unfolding items_in
of_kind stamp (StepEntry (Order node item) origin outcome) = refl
of_kind stamp (StepEntry (Send from to slot) origin outcome) = refl
of_kind stamp (StepEntry (Ack from to slot) origin outcome) = refl
of_kind stamp (StepEntry (Arrive from seq) origin outcome) = refl
of_kind stamp (StepEntry (Crash node) origin outcome) = refl
of_kind stamp (Refused origin fault) = refl

of_log : (log : List Entry) → ordered_in log ≡ items_in (taken log)
unfolding items_in taken
of_log [] = refl
of_log (e ∷ es) = (λ i. of_kind e.stamp e.kind i ++ of_log es i) ∙ sym (items_in-append (taken_of e.stamp e.kind) (taken es))

-- The log of the client's node has what the node delivered, and the sender's log what was ordered there. In the history
-- of the merged logs, the first is a prefix of the second.
pub tells_orders : TellsOrders
tells_orders config reports linked p s c report maker got here there begins =
    let all = merged config reports linked in
    let ends = ended config reports linked all (merging config reports linked) in
    let past = events_of (reverse all) in
    let is = linked.logs p report here in
    let made = linked.logs s maker there in
    let steps = steps_in config p (linked.trails p) in
    let inside : p < config.nodes = subst (λ n. p < n) linked.size (slice_get_within reports p report here) in
    let within : s < config.nodes = subst (λ n. s < n) linked.size (slice_get_within reports s maker there) in
    let front = front_read message_told (λ outcome. outcome.deliveries) (λ ticket outcome. refl) told_news config p (own_log config p) (log_begins config p) (log_grows config p)
    c (linked.trails p) report.log report.node got is begins in
    let broadcast = subst (λ steps. IsPrefixOf (map item_of (of_sender s (own_log config p steps))) (stream past s)) (ends.steps p inside) (front_of_stream config past p s ends.accepted) in
    let ordered : stream past s ≡ ordered_in maker.log =
    sym (own_items-steps_of past s) ∙ ap own_items (ends.steps s within) ∙ sym (items_taken config s (linked.trails s) made.accepted) ∙ ap items_in (sym made.tells) ∙ sym (of_log maker.log) in
    subst (IsPrefixOf (map item_of (of_sender s (told got)))) ordered
    (prefix_of_prefix _ (map item_of (of_sender s (own_log config p steps))) (stream past s) (front_of_sender s (told got) (own_log config p steps) front) broadcast)
