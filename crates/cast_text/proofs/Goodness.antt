-- The record of a script is good: each of its lines breaks no rule after the lines before.
use Rattle.std.proofs.Common.{◌≡◌, ℕ, zero, suc, ◌+◌, ◌-◌, ◌<◌, ◌&&◌, Bool, true, false, cond, nat_eq, List, [], ◌∷◌, ◌++◌, append_assoc, append-nil, length, length-append, map, take, drop, Some, None, Result, refl, sym, ap, subst, ◌∙◌, arith}
use Rattle.std.specs.Prelude.{slice_range}
use Rattle.std.specs.List.{filter, filter_map}
use Rattle.std.proofs.lemmas.List.{length-take-le}
use Rattle.std.proofs.lemmas.List.Elements.{filter-append}
use Rattle.std.proofs.lemmas.List.Sums.{prefix_len-le-length}
use Rattle.cast_message.proofs.Tests.{eq_same}
use Rattle.cast_message.specs.declared.config.Config.{Config}
use Rattle.cast_message.specs.declared.event.Event.{Event}
use Rattle.cast_message.specs.declared.event.StepFault.{StepFault}
use Rattle.cast_message.specs.declared.message.Item.{Item}
use Rattle.cast_message.specs.declared.message.Item.TheVariants.{Propose}
use Rattle.cast_message.specs.declared.message.Message.{Message}
use Rattle.cast_message.specs.declared.message.Decision.{Decision}
use Rattle.cast_model.specs.History.{History, stream, is_live, broadcast, numbered}
use Rattle.cast_model.specs.Delivery.{concerned, turns, deliveries, is_node, delivery_log, next, outcome}
use Rattle.cast_model.specs.Headline.{is_from, decided, decisions_in, value_for}
use Rattle.cast_model.specs.Replies.{reply, after, history, replies, IsAccepted}
use Rattle.cast_model.proofs.Members.{Member, Member-append_left, Member-append_right}
use Rattle.cast_model.proofs.Agreement.{node_in, filter_map-Member, decided_at_most_choices, decided_in_stream}
use Rattle.cast_model.proofs.Answered.{IsAccepted-history_from}
use Rattle.cast_model.proofs.Possible.{stream_room}
use Rattle.cast_model.proofs.Prefix.{delivery_log-front, delivered-take}
use Rattle.cast_model.proofs.Runs.{history_from-push, replies_from-push}
use Rattle.cast_record.specs.declared.line.Line.{Line}
use Rattle.cast_record.specs.declared.line.Line.TheVariants.{Delivered, Decided}
use Rattle.cast_record.specs.Lines.{outcome_lines}
use Rattle.cast_record.specs.Ranges.{IsItemWithin}
use Rattle.cast_text.proofs.SaidSoFar.{Says}
use Rattle.cast_text.proofs.GoodLines.{Goes, goes_none, goes_then, says_as, one_if, AreWithin, Follows, AreNext, deliver_all, range_is_next, filter_next, IsDue, decide_all}

-- how many messages of s are in what q delivered
abbrev pub counts : Config → History → ℕ → ℕ → ℕ
counts config past q s = length (filter (is_from s) (delivery_log config past q))

-- the lines say what the accepted ones of these events say
pub record Told (config : Config) (events : List Event) (past : History) (xs : List Line) : Type 0 where
  pub is : history config events ≡ past
  pub says : Says config (stream past) (counts config past) (is_live past) (decided (replies config events)) xs
  pub within : (p : ℕ) (item : Item) → Member item (stream past p) → IsItemWithin item

pub record Grown (config : Config) (past : History) (xs ls : List Line) : Type 0 where
  pub events : List Event
  pub lines : List Line
  pub goes : Goes xs ls lines
  pub told : Told config events past lines

-- ---- one more event

pub accepted_of : (config : Config) (events : List Event) (past : History) → history config events ≡ past → IsAccepted config past
unfolding IsAccepted
accepted_of config events past is = subst (IsAccepted config) is (IsAccepted-history_from config [] events tt)

pub history_on : (config : Config) (events : List Event) (past : History) (event : Event) → history config events ≡ past → history config (events ++ event ∷ []) ≡ after config past event
history_on config events past event is = history_from-push config [] events event ∙ ap (λ p. after config p event) is

replies_on : (config : Config) (events : List Event) (past : History) (event : Event) → history config events ≡ past → replies config (events ++ event ∷ []) ≡ replies config events ++ reply config past event ∷ []
replies_on config events past event is = replies_from-push config [] events event ∙ ap (λ p. replies config events ++ reply config p event ∷ []) is

decided_on : (rs : List (Result _ StepFault)) (r : Result _ StepFault) (j : ℕ) → decided (rs ++ r ∷ []) j ≡ decided rs j ++ filter_map (value_for j) (decisions_in r)
unfolding decided
decided_on [] r j = append-nil (filter_map (value_for j) (decisions_in r))
decided_on (q ∷ rs) r j = ap (λ vs. filter_map (value_for j) (decisions_in q) ++ vs) (decided_on rs r j) ∙ sym (append_assoc (filter_map (value_for j) (decisions_in q)) (decided rs j) (filter_map (value_for j) (decisions_in r)))

pub decided_kept : (config : Config) (events : List Event) (past : History) (event : Event) → history config events ≡ past → (j w : ℕ) → Member w (decided (replies config events) j) → Member w (decided (replies config (events ++ event ∷ [])) j)
decided_kept config events past event is j w m =
    subst (Member w) (sym (ap (λ rs. decided rs j) (replies_on config events past event is) ∙ decided_on (replies config events) (reply config past event) j))
    (Member-append_left w (decided (replies config events) j) (filter_map (value_for j) (decisions_in (reply config past event))) m)

pub decided_new : (config : Config) (events : List Event) (past : History) (event : Event) → history config events ≡ past → (d : Decision) → Member d (decisions_in (reply config past event)) → Member d.value (decided (replies config (events ++ event ∷ [])) d.instance)
decided_new config events past event is d m =
    subst (Member d.value) (sym (ap (λ rs. decided rs d.instance) (replies_on config events past event is) ∙ decided_on (replies config events) (reply config past event) d.instance))
    (Member-append_right d.value (decided (replies config events) d.instance) (filter_map (value_for d.instance) (decisions_in (reply config past event)))
    (filter_map-Member (value_for d.instance) d d.value (decisions_in (reply config past event)) m (ap (λ b. cond b (Some d.value) None) (eq_same d.instance))))

-- ---- what an accepted event delivers

next_is : (config : Config) (past : History) → IsAccepted config past → (q s : ℕ) → next config past q s ≡ counts config past q s
unfolding next
next_is config past accepted q s =
    sym (ap length (delivery_log-front config past accepted q s ∙ delivered-take config past q s)
    ∙ length-take-le (next config past q s) (broadcast past s) (prefix_len-le-length _ (broadcast past s)))

counts_on : (config : Config) (past : History) (event : Event) (node s : ℕ) (items : List Item) (a : ℕ) → concerned past event ≡ Some (record { node = node; sender = s }) → AreNext items s a (deliveries config past event)
    → (q' s' : ℕ) → counts config past q' s' + one_if (nat_eq node q' && nat_eq s s') (length (deliveries config past event)) ≡ counts config (event ∷ past) q' s'
unfolding delivery_log
counts_on config past event node s items a is news q' s' =
    go (nat_eq node q') ∙ sym (ap (λ c. length (filter (is_from s') (delivery_log config past q' ++ cond (is_node c q') (deliveries config past event) []))) is)
  where
    go : (b : Bool) → counts config past q' s' + one_if (b && nat_eq s s') (length (deliveries config past event)) ≡ length (filter (is_from s') (delivery_log config past q' ++ cond b (deliveries config past event) []))
    go true =
        sym (ap length (filter-append (is_from s') (delivery_log config past q') (deliveries config past event))
        ∙ length-append (filter (is_from s') (delivery_log config past q')) (filter (is_from s') (deliveries config past event))
        ∙ ap (λ n. counts config past q' s' + n) (filter_next items s a s' (deliveries config past event) news))
    go false = omega (arith, ap (λ log. length (filter (is_from s') log)) (append-nil (delivery_log config past q')))

some_broadcast : (items : List Item) (s a b : ℕ) → 0 < length (slice_range (numbered s 0 items) a b) → 0 < length items
unfolding numbered
some_broadcast [] s a b l = absurd (none (b - a) a l)
  where
    nil_drop : (n : ℕ) → ◌≡◌ {A = List Message} (drop n []) []
    nil_drop zero = refl
    nil_drop (suc n) = refl

    nil_take : (n : ℕ) → ◌≡◌ {A = List Message} (take n []) []
    nil_take zero = refl
    nil_take (suc n) = refl

    none : (n m : ℕ) → 0 < length (take n (drop m (numbered s 0 []))) → ⊥
    none n m l = let e = ap length (ap (take n) (nil_drop m) ∙ nil_take n) in omega (arith, l, e)
some_broadcast (x ∷ items) s a b l = omega arith

-- where there is a message, its sender is a node
deliver_some : (config : Config) (st : ℕ → List Item) (c : ℕ → ℕ → ℕ) (l : ℕ → Bool) (v : ℕ → List ℕ) (xs : List Line) (q s a : ℕ) (news : List Message) → AreWithin st → q < config.nodes → (0 < length news → s < config.nodes) → l q ≡ true → a ≡ c q s → AreNext (st s) s a news
    → Says config st c l v xs → Follows config st (λ q' s'. c q' s' + one_if (nat_eq q q' && nat_eq s s') (length news)) l v xs (map (Delivered q) news)
deliver_some config st c l v xs q s a [] w node sender up count news h = record {
  lines = xs;
  goes = goes_none xs;
  says = says_as config st st c (λ q' s'. c q' s' + one_if (nat_eq q q' && nat_eq s s') 0) l l v v xs (λ p. refl) (λ q' s'. no_more (nat_eq q q' && nat_eq s s') (c q' s')) (λ p. refl) (λ j w m. m) h;
}
  where
    no_more : (b : Bool) (n : ℕ) → n ≡ n + one_if b 0
    no_more true n = omega arith
    no_more false n = omega arith
deliver_some config st c l v xs q s a (m ∷ ms) w node sender up count news h = deliver_all config st c l v xs q s a (m ∷ ms) w node (sender (omega arith)) up count news h

streams_within : (config : Config) (past : History) → IsAccepted config past → ((p : ℕ) (item : Item) → Member item (stream past p) → IsItemWithin item) → AreWithin (stream past)
streams_within config past accepted items = record { short = λ p. omega (arith, (stream_room config past accepted p).0, config.items_in_range); items = items }

due_of : (config : Config) (events : List Event) (past : History) (event : Event) → history config events ≡ past → history config (events ++ event ∷ []) ≡ event ∷ past → (d : Decision) → Member d.value (decided (replies config (events ++ event ∷ [])) d.instance)
    → IsDue (stream (event ∷ past)) (decided (replies config (events ++ event ∷ []))) d
due_of config events past event is on d m =
    let by = decided_in_stream config (events ++ event ∷ []) d.instance d.value m in
    record { node = by.0; proposed = subst (λ p. Member (Propose d.instance d.value) (stream p by.0)) on by.2; decided = m }

news_are : (config : Config) (past : History) (event : Event) (node s : ℕ) → concerned past event ≡ Some (record { node = node; sender = s }) → deliveries config past event ≡ slice_range (numbered s 0 (stream (event ∷ past) s)) (next config past node s) (next config (event ∷ past) node s)
unfolding deliveries turns broadcast
news_are config past event node s turn = rw turn refl

-- an accepted order or arrival, once what it broadcast is said
pub outcome_follows : (config : Config) (events : List Event) (past : History) (event : Event) (node s : ℕ) (xs : List Line) → history config events ≡ past → IsAccepted config past → IsAccepted config (event ∷ past)
    → history config (events ++ event ∷ []) ≡ event ∷ past → concerned past event ≡ Some (record { node = node; sender = s }) → decisions_in (reply config past event) ≡ (outcome config past event).decisions
    → node < config.nodes → is_live past node ≡ true → ((p : ℕ) (item : Item) → Member item (stream (event ∷ past) p) → IsItemWithin item)
    → Says config (stream (event ∷ past)) (counts config past) (is_live past) (decided (replies config (events ++ event ∷ []))) xs
    → Follows config (stream (event ∷ past)) (counts config (event ∷ past)) (is_live past) (decided (replies config (events ++ event ∷ []))) xs (outcome_lines node (outcome config past event))
unfolding outcome
outcome_follows config events past event node s xs is accepted accepted_on on turn says_so in_group up within h =
    let st = stream (event ∷ past) in
    let v = decided (replies config (events ++ event ∷ [])) in
    let w = streams_within config (event ∷ past) accepted_on within in
    let news = deliveries config past event in
    let same = news_are config past event node s turn in
    let a = next config past node s in
    let b = next config (event ∷ past) node s in
    let next_news : AreNext (stream (event ∷ past) s) s (next config past node s) (deliveries config past event) = subst (AreNext (stream (event ∷ past) s) s (next config past node s)) (sym same) (range_is_next (stream (event ∷ past) s) s a b) in
    let sender : 0 < length (deliveries config past event) → s < config.nodes = λ some. node_in config (event ∷ past) accepted_on s (some_broadcast (stream (event ∷ past) s) s a b (subst (λ ms. 0 < length ms) same some)) in
    let first = deliver_some config st (counts config past) (is_live past) v xs node s a news w in_group sender up (next_is config past accepted node s) next_news h in
    let says = says_as config st st _ (counts config (event ∷ past)) (is_live past) (is_live past) v v first.lines (λ p. refl) (counts_on config past event node s (stream (event ∷ past) s) a turn next_news) (λ p. refl) (λ j w m. m) first.says in
    let due = λ (d : Decision) (m : Member d (outcome config past event).decisions).
    due_of config events past event is on d (decided_new config events past event is d (subst (Member d) (sym says_so) m)) in
    let second = decide_all config st (counts config (event ∷ past)) (is_live past) v first.lines node (outcome config past event).decisions w in_group up (λ j l. decided_at_most_choices config l (events ++ event ∷ []) j) due says in
    record {
      lines = second.lines;
      goes = goes_then xs (map (Delivered node) news) first.lines (map (Decided node) (outcome config past event).decisions) second.lines first.goes second.goes;
      says = second.says;
    }
