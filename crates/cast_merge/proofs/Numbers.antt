-- The number that a log tells a client in reply to an order is the item's in the stream of its node.
use Rattle.std.proofs.Common.{◌≡◌, ◌+◌, ◌∙◌, ℕ, zero, suc, Bool, true, false, cond, ◌⊎◌, inl, inr, List, [], ◌∷◌, ◌++◌, length, map, reverse, slice_get, Option, Some, None, Result, Ok, Err, refl, sym, ap, subst, arith, append_assoc, eqb-true}
use Rattle.std.specs.Prelude.{◌==◌, is_some, ◌||◌, if◌then◌else◌}
use Rattle.std.proofs.lemmas.List.{append-nil, reverse-append}
use Rattle.cast_message.specs.declared.config.Config.{Config}
use Rattle.cast_message.specs.declared.event.Event.{Event}
use Rattle.cast_message.specs.declared.event.Event.TheVariants.{Order, Send, Ack, Arrive, Crash}
use Rattle.cast_message.specs.declared.event.Outcome.{Outcome}
use Rattle.cast_message.specs.declared.event.StepFault.{StepFault}
use Rattle.cast_message.specs.declared.message.Item.{Item}
use Rattle.cast_message.specs.declared.message.Message.{Message}
use Rattle.cast_message.specs.declared.message.Decision.{Decision}
use Rattle.cast_model.specs.History.{stream}
use Rattle.cast_model.specs.Steps.{Step, Ordered, Sent, Acknowledged, Arrived, Stopped, Steps, steps_of, each, item_of, own_items}
use Rattle.cast_model.specs.OwnSteps.{own_fault, is_ignored, node_after}
use Rattle.cast_model.proofs.Projected.{own_items-steps_of}
use Rattle.cast_log.specs.declared.entry.Entry.{Entry}
use Rattle.cast_log.specs.declared.entry.EntryKind.{EntryKind}
use Rattle.cast_log.specs.declared.entry.EntryKind.TheVariants.{Step as StepEntry, Refused}
use Rattle.cast_log.specs.declared.entry.Origin.{Origin}
use Rattle.cast_node.specs.Stands.{Stands as NodeStands}
use Rattle.cast_desk.specs.declared.notice.Notice.TheVariants.{Reply, Delivered, Decided}
use Rattle.cast_desk.specs.Feed.{feed_from, told_by, reply_of, news_of, orders_in}
use Rattle.cast_node.specs.Linked.{Trail, TakenStep, event_of, taken, taken_of, taken_in, taken_by, steps_in, AreTaken}
use Rattle.cast_node.proofs.Logging.{get_left}
use Rattle.cast_merge.specs.Told.{HasOrdered, TellsNumbers}

-- ---- the items that steps order, in order

abbrev item_in : Event → List Item
item_in (Order node item) = item ∷ []
item_in _ = []

unfoldable pub items_in : List TakenStep → List Item
items_in [] = []
items_in (t ∷ ts) = item_in t.event ++ items_in ts

pub items_in-append : (xs ys : List TakenStep) → items_in (xs ++ ys) ≡ items_in xs ++ items_in ys
unfolding items_in
items_in-append [] ys = refl
items_in-append (x ∷ xs) ys = ap (λ rest. item_in x.event ++ rest) (items_in-append xs ys) ∙ sym (append_assoc (item_in x.event) (items_in xs) (items_in ys))

-- a step that is passed over orders nothing
items_after : (config : Config) (p : ℕ) (steps : Steps) (step : Step) → own_fault config p steps step ≡ None
    → own_items (node_after config p steps step) ≡ own_items steps ++ item_in (event_of p step)
unfolding node_after each
items_after config p steps step accepted = by_step step (own_fault config p steps step) accepted
  where
    by_case : (x : Step) (o : Option StepFault) (b : Bool) → o ≡ None → (b ≡ true → item_in (event_of p x) ≡ []) → item_of x ≡ item_in (event_of p x)
        → own_items (if is_some o || b then steps else x ∷ steps) ≡ own_items steps ++ item_in (event_of p x)
    by_case x None true e none same = sym (append-nil (own_items steps)) ∙ ap (λ more. own_items steps ++ more) (sym (none refl))
    by_case x None false e none same = ap (λ more. own_items steps ++ more) same
    by_case x (Some fault) b e none same = absurd cc

    by_step : (x : Step) (o : Option StepFault) → o ≡ None → own_items (if is_some o || is_ignored config p steps x then steps else x ∷ steps) ≡ own_items steps ++ item_in (event_of p x)
    by_step (Ordered item) o e = by_case (Ordered item) o false e (λ no. absurd cc) refl
    by_step (Sent to slot) o e = by_case (Sent to slot) o false e (λ no. refl) refl
    by_step (Acknowledged to slot) o e = by_case (Acknowledged to slot) o false e (λ no. refl) refl
    by_step (Arrived frame) o e = by_case (Arrived frame) o (is_ignored config p steps (Arrived frame)) e (λ no. refl) refl
    by_step Stopped o e = by_case Stopped o false e (λ no. refl) refl

pub items_taken : (config : Config) (p : ℕ) (trail : Trail) → AreTaken config p trail → items_in (reverse (taken_in config p trail)) ≡ own_items (steps_in config p trail)
unfolding items_in taken_in steps_in each AreTaken
items_taken config p [] accepted = refl
items_taken config p (mark ∷ trail) accepted =
    let steps = steps_in config p trail in
    let last = taken_by config p steps mark in
    ap items_in (reverse-append (last ∷ []) (taken_in config p trail))
    ∙ items_in-append (reverse (taken_in config p trail)) (last ∷ [])
    ∙ (λ i. items_taken config p trail accepted.0 i ++ append-nil (item_in last.event) i)
    ∙ sym (items_after config p steps mark.step accepted.1)

-- ---- where a reply stands in a feed

at_either : {A : Type 0} (xs ys : List A) (i : ℕ) (x : A) → slice_get (xs ++ ys) i ≡ Some x → (slice_get xs i ≡ Some x) ⊎ ((j : ℕ) × (slice_get ys j ≡ Some x))
at_either [] ys i x at = inr (i, at)
at_either (y ∷ xs) ys zero x at = inl at
at_either (y ∷ xs) ys (suc i) x at = at_either xs ys i x at

no_reply_delivered : (messages : List Message) (decisions : List Decision) (i ticket : ℕ) (outcome : Result ℕ StepFault)
    → slice_get (map Delivered messages ++ map Decided decisions) i ≡ Some (Reply ticket outcome) → ⊥
no_reply_delivered [] [] i ticket outcome at = cc
no_reply_delivered [] (d ∷ decisions) zero ticket outcome at = cc
no_reply_delivered [] (d ∷ decisions) (suc i) ticket outcome at = no_reply_delivered [] decisions i ticket outcome at
no_reply_delivered (m ∷ messages) decisions zero ticket outcome at = cc
no_reply_delivered (m ∷ messages) decisions (suc i) ticket outcome at = no_reply_delivered messages decisions i ticket outcome at

-- a number in reply to a step is told of an order of the client, by how many were before
module _ (client before : ℕ) where
  record IsReplied (kind : EntryKind) (ticket number : ℕ) : Type 0 where
    item : Item
    node : ℕ
    outcome : Outcome
    kind_is : kind ≡ StepEntry (Order node item) (Some (record { client = client; ticket = ticket })) outcome
    number_is : number ≡ before

  by_client : (b : Bool) (node i ticket number : ℕ) (item : Item) (origin : Origin) (outcome : Outcome) → (origin.client == client) ≡ b
      → slice_get (cond b (Reply origin.ticket (Ok before) ∷ []) []) i ≡ Some (Reply ticket (Ok number))
      → IsReplied (StepEntry (Order node item) (Some origin) outcome) ticket number
  by_client true node zero ticket number item origin outcome same at =
      let it : Reply origin.ticket (Ok before) ≡ Reply ticket (Ok number) = cc in
      let from : origin.client ≡ client = eqb-true origin.client client same in
      let number_of : origin.ticket ≡ ticket = cc in
      let is : origin ≡ record { client = client; ticket = ticket } = (λ i. record { client = from i; ticket = number_of i }) in
      record { item = item; node = node; outcome = outcome; kind_is = ap (λ (o : Origin). StepEntry (Order node item) (Some o) outcome) is; number_is = cc }
  by_client true node (suc i) ticket number item origin outcome same at = absurd cc
  by_client false node i ticket number item origin outcome same at = absurd cc

  replied_by : (event : Event) (origin : Option Origin) (outcome : Outcome) (i ticket number : ℕ) → slice_get (reply_of client event origin before) i ≡ Some (Reply ticket (Ok number))
      → IsReplied (StepEntry event origin outcome) ticket number
  replied_by (Order node item) (Some origin) outcome i ticket number at = by_client (origin.client == client) node i ticket number item origin outcome refl at
  replied_by (Order node item) None outcome i ticket number at = absurd cc
  replied_by (Send from to slot) origin outcome i ticket number at = absurd cc
  replied_by (Ack from to slot) origin outcome i ticket number at = absurd cc
  replied_by (Arrive from seq) origin outcome i ticket number at = absurd cc
  replied_by (Crash node) origin outcome i ticket number at = absurd cc

  no_number : (b : Bool) (t i ticket number : ℕ) (fault : StepFault) → slice_get (cond b (Reply t (Err fault) ∷ []) []) i ≡ Some (Reply ticket (Ok number)) → ⊥
  no_number true t zero ticket number fault at = cc
  no_number true t (suc i) ticket number fault at = cc
  no_number false t i ticket number fault at = cc

  replied : (kind : EntryKind) (i ticket number : ℕ) → slice_get (told_by client before kind) i ≡ Some (Reply ticket (Ok number)) → IsReplied kind ticket number
  replied (StepEntry event origin outcome) i ticket number at =
      elim (at_either (reply_of client event origin before) (news_of outcome) i (Reply ticket (Ok number)) at) [
        | inl here ↦ replied_by event origin outcome i ticket number here
        | inr there ↦ absurd (no_reply_delivered outcome.deliveries outcome.decisions there.0 ticket (Ok number) there.1)
      ]
  replied (Refused origin fault) i ticket number at = absurd (no_number (origin.client == client) origin.ticket i ticket number fault at)

-- how many items an entry orders
many_in : (stamp : ℕ) (kind : EntryKind) → length (items_in (taken_of stamp kind)) ≡ orders_in kind
unfolding items_in
many_in stamp (StepEntry (Order node item) origin outcome) = refl
many_in stamp (StepEntry (Send from to slot) origin outcome) = refl
many_in stamp (StepEntry (Ack from to slot) origin outcome) = refl
many_in stamp (StepEntry (Arrive from seq) origin outcome) = refl
many_in stamp (StepEntry (Crash node) origin outcome) = refl
many_in stamp (Refused origin fault) = refl

at_past : {A : Type 0} (xs ys : List A) (i k : ℕ) (x : A) → k ≡ length xs + i → slice_get ys i ≡ Some x → slice_get (xs ++ ys) k ≡ Some x
at_past [] ys i k x same at = let e : k ≡ i = omega (arith, same) in ap (slice_get ys) e ∙ at
at_past (y ∷ xs) ys i zero x same at = absurd (omega (arith, same))
at_past (y ∷ xs) ys i (suc k) x same at = at_past xs ys i k x (omega (arith, same)) at

-- the number in a feed counts the items ordered before
module _ (client : ℕ) where
  record IsNumbered (before : ℕ) (log : List Entry) (ticket number : ℕ) : Type 0 where
    item : Item
    ordered : HasOrdered log client ticket item
    place : ℕ
    number_is : number ≡ before + place
    at : slice_get (items_in (taken log)) place ≡ Some item

  numbered_first : (before : ℕ) (e : Entry) (es : List Entry) (kind : EntryKind) (ticket number : ℕ) → e.kind ≡ kind → IsReplied client before kind ticket number → IsNumbered before (e ∷ es) ticket number
  unfolding items_in taken
  numbered_first before e es kind ticket number same is =
      let all = same ∙ is.kind_is in
      let P : EntryKind → Type 0 = λ k. slice_get (items_in (taken_of e.stamp k ++ taken es)) 0 ≡ Some is.item in
      record {
        item = is.item;
        ordered = record { place = 0; entry = e; there = refl; node = is.node; outcome = is.outcome; kind = all };
        place = 0;
        number_is = (let n = is.number_is in omega (arith, n));
        at = subst P (sym all) refl;
      }

  numbered_later : (before : ℕ) (e : Entry) (es : List Entry) (ticket number : ℕ) → IsNumbered (before + orders_in e.kind) es ticket number → IsNumbered before (e ∷ es) ticket number
  unfolding taken
  numbered_later before e es ticket number is =
      let o = is.ordered in
      record {
        item = is.item;
        ordered = record { place = suc o.place; entry = o.entry; there = o.there; node = o.node; outcome = o.outcome; kind = o.kind };
        place = orders_in e.kind + is.place;
        number_is = (let n = is.number_is in omega (arith, n));
        at = ap (λ items. slice_get items (orders_in e.kind + is.place)) (items_in-append (taken_of e.stamp e.kind) (taken es))
            ∙ at_past (items_in (taken_of e.stamp e.kind)) (items_in (taken es)) is.place (orders_in e.kind + is.place) is.item (let many = many_in e.stamp e.kind in omega (arith, many)) is.at;
      }

  numbered : (before : ℕ) (log : List Entry) (i ticket number : ℕ) → slice_get (feed_from client before log) i ≡ Some (Reply ticket (Ok number)) → IsNumbered before log ticket number
  numbered before [] i ticket number at = absurd cc
  numbered before (e ∷ es) i ticket number at =
      elim (at_either (told_by client before e.kind) (feed_from client (before + orders_in e.kind) es) i (Reply ticket (Ok number)) at) [
        | inl here ↦ numbered_first before e es e.kind ticket number refl (replied client before e.kind i ticket number here)
        | inr there ↦ numbered_later before e es ticket number (numbered (before + orders_in e.kind) es there.0 ticket number there.1)
      ]

-- The log tells of the steps that made the stream of its node.
pub tells_numbers : TellsNumbers
tells_numbers config past world p client got stands has i ticket number at =
    let is = has.tells in
    let there = subst (λ all. slice_get all i ≡ Some (Reply ticket (Ok number))) (sym has.begins.1) (get_left got has.begins.0 i (Reply ticket (Ok number)) at) in
    let it = numbered client 0 has.report.log i ticket number there in
    let node = subst (NodeStands config p (steps_of past p)) has.same (stands.nodes p is.stands.place) in
    let all = ap items_in is.tells ∙ items_taken config p has.trail is.accepted ∙ sym is.stands.stream ∙ node.stream ∙ own_items-steps_of past p in
    let here : number ≡ it.place = (let n = it.number_is in omega (arith, n)) in
    (it.item, it.ordered, ap (slice_get (stream past p)) here ∙ ap (λ items. slice_get items it.place) (sym all) ∙ it.at)
