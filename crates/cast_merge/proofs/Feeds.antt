-- What a log tells a client, read by one kind of notice, is that part of what its node's steps brought.
use Rattle.std.proofs.Common.{◌≡◌, ◌+◌, ℕ, Bool, true, false, cond, List, [], ◌∷◌, ◌++◌, reverse, Option, Some, None, Result, Ok, Err, refl, sym, ap, ◌∙◌, append_assoc}
use Rattle.std.specs.Prelude.{◌==◌, is_some, ◌||◌, if◌then◌else◌}
use Rattle.std.specs.List.{filter_map, cons_option}
use Rattle.std.proofs.lemmas.List.{append-nil, reverse-append}
use Rattle.std.proofs.lemmas.List.Elements.{filter_map-append}
use Rattle.cast_message.specs.declared.config.Config.{Config}
use Rattle.cast_message.specs.declared.event.Event.{Event}
use Rattle.cast_message.specs.declared.event.Event.TheVariants.{Order, Send, Ack, Arrive, Crash}
use Rattle.cast_message.specs.declared.event.Outcome.{Outcome}
use Rattle.cast_message.specs.declared.event.StepFault.{StepFault}
use Rattle.cast_message.specs.declared.event.Answer.TheVariants.{Arrived as AnswerArrived}
use Rattle.cast_model.specs.Headline.{IsPrefixOf}
use Rattle.cast_model.specs.Replies.{reply_by}
use Rattle.cast_model.specs.Steps.{Step, Steps}
use Rattle.cast_model.specs.OwnSteps.{own_answer, own_fault, is_ignored, nothing, node_reply, node_after}
use Rattle.cast_log.specs.declared.entry.Entry.{Entry}
use Rattle.cast_log.specs.declared.entry.EntryKind.{EntryKind}
use Rattle.cast_log.specs.declared.entry.EntryKind.TheVariants.{Step as StepEntry, Refused}
use Rattle.cast_log.specs.declared.entry.Origin.{Origin}
use Rattle.cast_node.specs.Kept.{Kept}
use Rattle.cast_box.specs.Lists.{StartsWith}
use Rattle.cast_desk.specs.declared.notice.Notice.{Notice}
use Rattle.cast_desk.specs.declared.notice.Notice.TheVariants.{Reply}
use Rattle.cast_desk.specs.Feed.{feed, feed_from, told_by, reply_of, news_of, orders_in}
use Rattle.cast_node.specs.Linked.{Trail, TakenStep, taken, taken_of, taken_in, taken_by, steps_in, AreTaken, IsLogOf, outcome_in, outcome_in_answer}

-- that part of what these steps brought, in order
unfoldable news : {X : Type 0} → (Outcome → List X) → List TakenStep → List X
news part [] = []
news part (t ∷ ts) = part t.outcome ++ news part ts

news-append : {X : Type 0} (part : Outcome → List X) (xs ys : List TakenStep) → news part (xs ++ ys) ≡ news part xs ++ news part ys
unfolding news
news-append part [] ys = refl
news-append part (x ∷ xs) ys = ap (λ rest. part x.outcome ++ rest) (news-append part xs ys) ∙ sym (append_assoc (part x.outcome) (news part xs) (news part ys))

-- notices of one kind, which are no replies, and the part of an outcome that they tell
module _ {X : Type 0} (read : Notice → Option X) (part : Outcome → List X)
    (no_reply : (ticket : ℕ) (outcome : Result ℕ StepFault) → read (Reply ticket outcome) ≡ None)
    (of_news : (outcome : Outcome) → filter_map read (news_of outcome) ≡ part outcome) where
  read_one_reply : (b : Bool) (ticket : ℕ) (outcome : Result ℕ StepFault) → filter_map read (cond b (Reply ticket outcome ∷ []) []) ≡ []
  read_one_reply true ticket outcome = ap (λ o. cons_option o []) (no_reply ticket outcome)
  read_one_reply false ticket outcome = refl

  read_reply : (client number : ℕ) (event : Event) (origin : Option Origin) → filter_map read (reply_of client event origin number) ≡ []
  read_reply client number (Order node item) (Some origin) = read_one_reply (origin.client == client) origin.ticket (Ok number)
  read_reply client number (Order node item) None = refl
  read_reply client number (Send from to slot) origin = refl
  read_reply client number (Ack from to slot) origin = refl
  read_reply client number (Arrive from seq) origin = refl
  read_reply client number (Crash node) origin = refl

  read_entry : (client number stamp : ℕ) (kind : EntryKind) → filter_map read (told_by client number kind) ≡ news part (taken_of stamp kind)
  unfolding news
  read_entry client number stamp (StepEntry event origin outcome) =
      filter_map-append read (reply_of client event origin number) (news_of outcome)
      ∙ (λ i. read_reply client number event origin i ++ of_news outcome i)
      ∙ sym (append-nil (part outcome))
  read_entry client number stamp (Refused origin fault) = read_one_reply (origin.client == client) origin.ticket (Err fault)

  read_feed : (client number : ℕ) (log : List Entry) → filter_map read (feed_from client number log) ≡ news part (taken log)
  unfolding news taken
  read_feed client number [] = refl
  read_feed client number (e ∷ es) =
      filter_map-append read (told_by client number e.kind) (feed_from client (number + orders_in e.kind) es)
      ∙ (λ i. read_entry client number e.stamp e.kind i ++ read_feed client (number + orders_in e.kind) es i)
      ∙ sym (news-append part (taken_of e.stamp e.kind) (taken es))

  -- what the node has of that part after some steps
  module _ (config : Config) (p : ℕ) (all : Steps → List X) (none : all [] ≡ [])
      (grows : (steps : Steps) (step : Step) → all (step ∷ steps) ≡ all steps ++ part (outcome_in_answer (own_answer config p steps step))) where
    after : (steps : Steps) (step : Step) → own_fault config p steps step ≡ None
        → all (node_after config p steps step) ≡ all steps ++ part (outcome_in (node_reply config p steps step))
    unfolding node_after node_reply
    after steps step accepted = by_cases (own_fault config p steps step) (is_ignored config p steps step) accepted
      where
        by_cases : (o : Option StepFault) (b : Bool) → o ≡ None
            → all (if is_some o || b then steps else step ∷ steps) ≡ all steps ++ part (outcome_in (reply_by o (if b then AnswerArrived p nothing else own_answer config p steps step)))
        by_cases None true e = sym (append-nil (all steps)) ∙ ap (λ more. all steps ++ more) (of_news nothing)
        by_cases None false e = grows steps step
        by_cases (Some fault) b e = absurd (cc)

    of_taken : (trail : Trail) → AreTaken config p trail → news part (reverse (taken_in config p trail)) ≡ all (steps_in config p trail)
    unfolding news taken_in steps_in AreTaken
    of_taken [] accepted = sym none
    of_taken (mark ∷ trail) accepted =
        let steps = steps_in config p trail in
        let last = taken_by config p steps mark in
        ap (news part) (reverse-append (last ∷ []) (taken_in config p trail))
        ∙ news-append part (reverse (taken_in config p trail)) (last ∷ [])
        ∙ (λ i. of_taken trail accepted.0 i ++ append-nil (part last.outcome) i)
        ∙ sym (after steps mark.step accepted.1)

    -- what begins the feed of a log tells what begins that part
    pub front_read : (client : ℕ) (trail : Trail) (log : List Entry) (kept : Kept) (got : List Notice)
        → IsLogOf config p trail log kept → StartsWith (feed log client) got → IsPrefixOf (filter_map read got) (all (steps_in config p trail))
    front_read client trail log kept got is begins = (
      filter_map read begins.0,
      sym (filter_map-append read got begins.0) ∙ ap (filter_map read) (sym begins.1) ∙ read_feed client 0 log ∙ ap (news part) is.tells ∙ of_taken trail is.accepted,
    )
