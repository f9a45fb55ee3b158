-- What is known of the machines of followers whose group has ended.
use Rattle.std.proofs.Common.{◌≡◌, ◌<◌, ℕ, zero, suc, List, [], ◌∷◌, ◌++◌, length, map, take, drop, Some, Result, refl, sym, ap, ◌∙◌, subst, arith}
use Rattle.std.specs.Prelude.{slice_get}
use Rattle.std.proofs.lemmas.List.{append-nil, drop-append-le, drop_all, length-map, take-append-le, take-map}
use Rattle.std.proofs.lemmas.List.Elements.{filter_map-append}
use Rattle.std.proofs.lemmas.Option.{slice_get_within}
use Rattle.cast_message.specs.declared.config.Config.{Config}
use Rattle.cast_message.specs.declared.event.Event.{Event}
use Rattle.cast_message.specs.declared.event.Answer.{Answer}
use Rattle.cast_message.specs.declared.event.StepFault.{StepFault}
use Rattle.cast_message.specs.declared.message.Message.{Message}
use Rattle.cast_model.specs.Delivery.{delivery_log}
use Rattle.cast_model.specs.History.{History}
use Rattle.cast_model.specs.OwnSteps.{own_log}
use Rattle.cast_model.specs.Replies.{IsAccepted, history}
use Rattle.cast_model.specs.Steps.{steps_of}
use Rattle.cast_model.proofs.OwnTurns.{own_log-steps_of}
use Rattle.cast_model.proofs.Prefix.{delivery_log-front, delivery_log_is_prefix}
use Rattle.cast_model.proofs.DecidedAtRest.{all_delivered_same}
use Rattle.cast_message.specs.declared.message.Item.{Item}
use Rattle.cast_log.specs.declared.entry.Entry.{Entry}
use Rattle.cast_log.specs.declared.entry.EntryKind.{EntryKind}
use Rattle.cast_log.specs.declared.entry.EntryKind.TheVariants.{Step as StepEntry, Refused}
use Rattle.cast_desk.specs.Feed.{feed}
use Rattle.cast_journal.specs.declared.order.OrderIn.{OrderIn}
use Rattle.cast_engine.specs.Serving.{Matches, IsAnswered, IsAnsweredBy, before, entries_of}
use Rattle.cast_desk.specs.declared.notice.Notice.{Notice}
use Rattle.cast_node.specs.Linked.{Linked, Trail, steps_in}
use Rattle.cast_node.specs.declared.report.NodeReport.{NodeReport}
use Rattle.cast_merge.specs.Merge.{TellsMerge}
use Rattle.cast_merge.specs.Told.{message_told, told}
use Rattle.cast.proofs.WholeFeeds.{told_feed, merged_steps}
use Rattle.cast_run.specs.Serves.{AreServed, IsServed}
use Rattle.cast_run.specs.declared.reports.ClientReport.{ClientReport}
use Rattle.cast.specs.declared.follower.Follower.{Follower}
use Rattle.cast.specs.Followers.{FollowerFact, AreNewFollowers}
use Rattle.cast.specs.Followed.{told_by, told_in, IsCaughtUp, AreCaughtUp, HaveTaken, IsOfItem, IsOrdered, HaveOrdered, DeliverPrefixes, DeliverTheSameAtRest}

-- a list has something at each place
pub something_at : {A : Type 0} (xs : List A) (i : ℕ) → i < length xs → (x : A) × (slice_get xs i ≡ Some x)
something_at [] i within = absurd (omega (arith, within))
something_at (x ∷ xs) zero within = (x, refl)
something_at (x ∷ xs) (suc i) within = something_at xs i (omega (arith, within))

-- an entry that answers an order is of its item
of_item : (config : Config) (p : ℕ) (trail : Trail) (kind : EntryKind) (stamp : ℕ) (order : OrderIn) → IsAnsweredBy config p (steps_in config p (before stamp trail)) kind order → IsOfItem p kind order.item
of_item config p trail (StepEntry event origin outcome) stamp order answers = answers.0
of_item config p trail (Refused origin fault) stamp order answers = tt

matches_items : (config : Config) (p : ℕ) (trail : Trail) (entries : List Entry) (orders : List OrderIn) → Matches (IsAnswered config p trail) entries orders → Matches (λ e item. IsOfItem p e.kind item) entries (map (λ (o : OrderIn). o.item) orders)
unfolding Matches
matches_items config p trail [] [] m = tt
matches_items config p trail [] (o ∷ orders) m = absurd m
matches_items config p trail (e ∷ entries) [] m = absurd m
matches_items config p trail (e ∷ entries) (o ∷ orders) m = (of_item config p trail e.kind e.stamp o m.0, matches_items config p trail entries orders m.1)

-- what is told behind the first notices
told_rest : (all front rest : List Notice) (heard : ℕ) → all ≡ front ++ rest → heard ≡ length front → told front ++ told (drop heard all) ≡ told all
told_rest all front rest heard whole many =
    let behind : drop heard all ≡ rest =
    ap (drop heard) whole ∙ ap (λ n. drop n (front ++ rest)) many
    ∙ drop-append-le (length front) front rest (omega arith)
    ∙ ap (λ l. l ++ rest) (drop_all (length front) front (omega arith)) in
    ap (λ l. told front ++ told l) behind ∙ sym (filter_map-append message_told front rest) ∙ ap told (sym whole)

-- what a log tells a client of deliveries is all that its node delivered, in the history that all logs make
module _ (config : Config) (reports : List NodeReport) (linked : Linked config reports) (events : List Event) (results : List (Result Answer StepFault))
    (merge : TellsMerge (map (λ (report : NodeReport). report.log) reports) events results) (accepted : IsAccepted config (history config events)) where
  abbrev past : History
  past = history config events

  pub log_told : (p client : ℕ) (report : NodeReport) → slice_get reports p ≡ Some report → told (feed report.log client) ≡ delivery_log config past p
  log_told p client report at =
      let within : p < config.nodes = subst (λ n. p < n) linked.size (slice_get_within reports p report at) in
      let steps : steps_of past p ≡ steps_in config p (linked.trails p) = ap (λ es. steps_of (history config es) p) merge.2 ∙ merged_steps config reports linked merge.0 merge.1 p within in
      told_feed config p client (linked.trails p) report.log report.node (linked.logs p report at)
      ∙ ap (own_log config p) (sym steps) ∙ own_log-steps_of config past accepted p

  pub prefixes : DeliverPrefixes config past
  prefixes p s = delivery_log_is_prefix config past accepted p s

  pub agree : DeliverTheSameAtRest config past
  agree rest few p q s live_p live_q =
      delivery_log-front config past accepted p s
      ∙ all_delivered_same config past accepted rest few p q s live_p live_q
      ∙ sym (delivery_log-front config past accepted q s)

  module _ {M : Type 0} (stands : M → List Message → Type 0) (handed : List (ℕ × Follower M)) (back : List (Follower M)) (clients : List ClientReport) (machines : List M)
      (served : AreServed config (FollowerFact stands) handed reports back clients) (new : AreNewFollowers stands handed)
      (caught : AreCaughtUp stands reports clients back machines) where
    -- of one machine, whose follower is known to be served
    taken_at : (i : ℕ) (follower : Follower M) (machine : M) (client : ClientReport) → IsServed config (FollowerFact stands) handed reports i follower client
        → slice_get clients i ≡ Some client → IsCaughtUp stands reports clients i follower machine → stands machine (delivery_log config past client.node)
    taken_at i follower machine client is at up =
        let begun = new i client.node is.handed is.node in
        let heard = is.holds.heard in
        let more = heard.0 in
        let all = feed is.report.log client.client in
        let there : told_by reports (slice_get clients i) ≡ all = ap (told_by reports) at ∙ ap (told_in client.client) is.report_at in
        let front : all ≡ more ++ is.notices.0 = is.notices.1 ∙ ap (λ l. l ++ is.notices.0) heard.1 in
        let counted : follower.heard ≡ length more = let a = heard.2 in let b = begun.0 in omega (arith, a, b) in
        let same = ap (λ l. told more ++ told (drop follower.heard l)) there ∙ told_rest all more is.notices.0 follower.heard front counted
        ∙ log_told client.node client.client is.report is.report_at in
        subst (stands machine) same (up (told more) (heard.3 [] begun.1))

    pub have_taken : HaveTaken stands config past machines clients
    have_taken i machine client at_machine at_client =
        let up = caught.1 i machine at_machine in
        taken_at i up.0 machine client (served.2 i up.0 client up.1 at_client) at_client up.2

    -- of one follower, which is known to be served
    ordered_at : (i : ℕ) (follower : Follower M) (client : ClientReport) → (is : IsServed config (FollowerFact stands) handed reports i follower client) → IsOrdered is.handed client is.report
    ordered_at i follower client is = record {
      orders = subst (Matches (λ e item. IsOfItem client.node e.kind item) (entries_of client.client is.report.log)) first
          (matches_items config client.node is.trail (entries_of client.client is.report.log) (take client.tickets is.sent) is.entries);
      all = λ stopped.
          let none = is.holds.all (is.stopped stopped) in
          is.many ∙ sym (length-map is.sent (λ (o : OrderIn). o.item)) ∙ ap length (sym (append-nil (map (λ (o : OrderIn). o.item) is.sent)) ∙ ap (λ left. map (λ (o : OrderIn). o.item) is.sent ++ left) (sym none) ∙ is.holds.ordered);
    }
      where
        items : List Item
        items = map (λ (o : OrderIn). o.item) is.sent

        first : map (λ (o : OrderIn). o.item) (take client.tickets is.sent) ≡ take client.tickets is.handed.left
        first =
            let many = is.many in
            let same = length-map is.sent (λ (o : OrderIn). o.item) in
            sym (take-map (λ (o : OrderIn). o.item) client.tickets is.sent)
            ∙ sym (take-append-le client.tickets items follower.left (omega (arith, many, same)))
            ∙ ap (take client.tickets) is.holds.ordered

    pub have_ordered : HaveOrdered handed clients reports
    have_ordered = (
      served.1,
      λ i client at.
          let within : i < length back = let n = slice_get_within clients i client at in let a = served.0 in let b = served.1 in omega (arith, n, a, b) in
          let there = something_at back i within in
          let is = served.2 i there.0 client there.1 at in
          (is.handed, is.report, is.node, is.report_at, ordered_at i there.0 client is),
    )

    pub as_many : length machines ≡ length handed
    as_many = caught.0 ∙ served.0
