-- What a node's own steps tell of what it knows, delivers and decides is what the history of the group tells of it.
use Rattle.std.proofs.Common.{◌≡◌, ℕ, zero, suc, ◌+◌, ◌-◌, ◌<◌, ◌≤◌, refl, sym, ◌∙◌, ap, subst, Bool, true, false, ◌&&◌, ◌||◌, cond, List, [], ◌∷◌, ◌++◌, length, map, get_or, take, drop, Some, None, inl, inr, arith, drop-cons}
use Rattle.std.specs.Prelude.{◌==◌, slice_get, slice_range, slice_index_or, nat_lt, nat_le, ◌⊎◌}
use Rattle.std.specs.List.{list_any, count_by, filter_map, cons_option, prefix_len, range_with_len}
use Rattle.std.proofs.lemmas.List.{append-nil}
use Rattle.std.proofs.lemmas.Bool.{and_parts, eqb-true, eq-eqb, cond-true, cond-false, false≢true}
use Rattle.std.proofs.lemmas.List.FromFn.{length-range_with_len}
use Rattle.cast_message.specs.declared.config.Config.{Config}
use Rattle.cast_message.specs.declared.config.Mode.{Mode}
use Rattle.cast_message.specs.declared.config.Mode.TheVariants.{Basic, Uniform}
use Rattle.cast_message.specs.declared.event.Event.{Event}
use Rattle.cast_message.specs.declared.event.Event.TheVariants.{Order, Arrive}
use Rattle.cast_message.specs.declared.message.Item.{Item}
use Rattle.cast_message.specs.declared.message.Item.TheVariants.{Close}
use Rattle.cast_message.specs.declared.message.Message.{Message}
use Rattle.cast_model.specs.History.{History, FirstCopy, stream, numbered, broadcast, has_pair, first, frames, given, message_of}
use Rattle.cast_model.specs.Delivery.{nodes_of, is_pair, tells_of, knows, known_by, is_known_enough, is_ready, next, delivered, sender_in, concerned, concerned_by, turns, turns_of, deliveries, is_node, delivery_log, votes, least, decisions_of, log_of, outcome, decision}
use Rattle.cast_model.specs.Replies.{IsAccepted}
use Rattle.cast_model.specs.Steps.{Step, Ordered, Arrived, steps_of, frames_in, Held, copy_of, held}
use Rattle.cast_model.specs.OwnSteps.{own_given_copies, own_knows, own_known_by, own_known_enough, own_is_ready, own_next, message_at, messages_from, own_delivered, own_deliveries, own_log, first_votes, own_decisions_of, own_outcome, own_decision, IsStep, orders, sends, acknowledges, takes, stops}
use Rattle.cast_model.proofs.Members.{Member, here, there}
use Rattle.cast_model.proofs.Sound.{Member-has_pair, held_in_stream}
use Rattle.cast_model.proofs.Fronts.{length-numbered}
use Rattle.cast_model.proofs.RoundSpreads.{Member-map}
use Rattle.cast_model.proofs.Agreement.{pigeonhole}
use Rattle.cast_model.proofs.Dues.{Once-range, Once-distinct, range_bounds}
use Rattle.cast_model.proofs.Prefix.{delivered-take}
use Rattle.cast_model.proofs.Least.{below_next, not_at_next}
use Rattle.cast_model.proofs.Projected.{frames_in-steps_of, held-steps_of}
use Rattle.cast_model.proofs.FirstVotes.{VotesOnce, first_votes-all, own_decisions-all, log_votes_once}
use Rattle.cast_model.proofs.OwnHeld.{own_given-steps_of, steps_after, steps_same, step_cases, Elsewhere, held_ok}

-- whom it knows to hold a pair
pub own_knows-steps_of : (past : History) (me s i r : ℕ) → own_knows me (steps_of past me) s i r ≡ knows past me s i r
unfolding own_knows knows
own_knows-steps_of past me s i r =
    ap (λ copies. r == me || r == s || list_any (λ frame. frame.from == r && tells_of copies s i frame.body) (frames_in (steps_of past me))) (own_given-steps_of past me r)
    ∙ ap (λ all. r == me || r == s || list_any (λ frame. frame.from == r && tells_of (given past me r) s i frame.body) all) (frames_in-steps_of past me)

pub own_known_by-steps_of : (config : Config) (past : History) (me s i : ℕ) → own_known_by config me (steps_of past me) s i ≡ known_by config past me s i
unfolding own_known_by known_by
own_known_by-steps_of config past me s i =
    let same : own_knows me (steps_of past me) s i ≡ knows past me s i = λ j r. own_knows-steps_of past me s i r j in
    ap (λ copies. cond (has_pair copies s i) (count_by (own_knows me (steps_of past me) s i) (nodes_of config)) 0) (held-steps_of past me)
    ∙ ap (λ f. cond (has_pair (first past me) s i) (count_by f (nodes_of config)) 0) same

known_enough-steps_of : (mode : Mode) (config : Config) (past : History) (me s i : ℕ) → own_known_enough mode config me (steps_of past me) s i ≡ is_known_enough mode config past me s i
unfolding own_known_enough is_known_enough
known_enough-steps_of Basic config past me s i = refl
known_enough-steps_of Uniform config past me s i = ap (nat_lt config.faults) (own_known_by-steps_of config past me s i)

pub own_is_ready-steps_of : (config : Config) (past : History) (me s i : ℕ) → own_is_ready config me (steps_of past me) s i ≡ is_ready config past me s i
unfolding own_is_ready is_ready
own_is_ready-steps_of config past me s i =
    ap (λ copies. has_pair copies s i && own_known_enough config.mode config me (steps_of past me) s i) (held-steps_of past me)
    ∙ ap (λ b. has_pair (first past me) s i && b) (known_enough-steps_of config.mode config past me s i)

-- the first number that fails a test, among enough numbers
least_failing : (f : ℕ → Bool) (room a n : ℕ) → ((i : ℕ) → a ≤ i → i < a + n → f i ≡ true) → f (a + n) ≡ false → n ≤ room → prefix_len f (range_with_len a room) ≡ n
least_failing f zero a n passes fails fits = omega arith
least_failing f (suc room) a zero passes fails fits = cond-false (f a) (1 + prefix_len f (range_with_len (a + 1) room)) 0 (subst (λ k. f k ≡ false) (let e : a + 0 ≡ a = omega arith in e) fails)
least_failing f (suc room) a (suc n) passes fails fits =
    let rest : prefix_len f (range_with_len (a + 1) room) ≡ n = least_failing f room (a + 1) n (λ i low high. passes i (omega arith) (omega arith)) (subst (λ k. f k ≡ false) (let e : a + suc n ≡ (a + 1) + n = omega arith in e) fails) (omega arith) in
    cond-true (f a) (1 + prefix_len f (range_with_len (a + 1) room)) 0 (passes a (omega arith) (omega arith)) ∙ (let e : 1 + prefix_len f (range_with_len (a + 1) room) ≡ suc n = omega (arith, rest) in e)

pub length-map : {A B : Type 0} (f : A → B) (xs : List A) → length (map f xs) ≡ length xs
length-map f [] = refl
length-map f (x ∷ xs) = ap suc (length-map f xs)

-- a node holds at least as many pairs as it may deliver of one sender
next_within : (config : Config) (past : History) → IsAccepted config past → (me s : ℕ) → next config past me s ≤ length (held me (steps_of past me))
unfolding is_ready
next_within config past accepted me s =
    let n = next config past me s in
    let h = pigeonhole (range_with_len 0 n) (map (λ copy. copy.number) (first past me)) (Once-distinct (range_with_len 0 n) (Once-range n 0)) (λ i m.
    let inside = (range_bounds n 0 i m).1 in
    let ready = below_next config past accepted me s i (omega (arith, inside)) in
    let found = Member-has_pair (first past me) s i (and_parts (has_pair (first past me) s i) _ ready).0 in
    subst (λ k. Member k (map (λ (copy : FirstCopy). copy.number) (first past me))) found.3 (Member-map (λ (copy : FirstCopy). copy.number) found.0 (first past me) found.1)) in
    let count : length (held me (steps_of past me)) ≡ length (first past me) = sym (length-map copy_of (held me (steps_of past me))) ∙ ap length (held-steps_of past me) in
    omega (arith, h, count, length-range_with_len 0 n, length-map (λ (copy : FirstCopy). copy.number) (first past me))

-- the next number
pub own_next-steps_of : (config : Config) (past : History) → IsAccepted config past → (me s : ℕ) → own_next config me (steps_of past me) s ≡ next config past me s
unfolding own_next
own_next-steps_of config past accepted me s =
    let n = next config past me s in
    least_failing (own_is_ready config me (steps_of past me) s) (length (held me (steps_of past me))) 0 n
    (λ i low high. own_is_ready-steps_of config past me s i ∙ below_next config past accepted me s i (omega (arith, high)))
    (own_is_ready-steps_of config past me s (0 + n) ∙ ap (is_ready config past me s) (let e : 0 + n ≡ n = omega arith in e) ∙ not_at_next config past accepted me s)
    (next_within config past accepted me s)

abbrev blank : Message
blank = record { sender = 0; number = 0; item = Close }

numbered_get : (s a : ℕ) (items : List Item) (i : ℕ) → i < length items → get_or (numbered s a items) i blank ≡ record { sender = s; number = a + i; item = slice_index_or items i Close }
unfolding numbered
numbered_get s a [] i h = absurd (omega arith)
numbered_get s a (item ∷ items) zero h = ap (λ n. record { sender = s; number = n; item = item }) (let e : a ≡ a + 0 = omega arith in e)
numbered_get s a (item ∷ items) (suc i) h = numbered_get s (suc a) items i (omega arith) ∙ ap (λ n. record { sender = s; number = n; item = slice_index_or items i Close }) (let e : suc a + i ≡ a + suc i = omega arith in e)

-- a held pair has its message
message_found : (hs : List Held) (s i : ℕ) → has_pair (map copy_of hs) s i ≡ true → (h : Held) × Member h hs × (message_at hs s i ≡ Some h.message) × (h.message.sender ≡ s) × (h.message.number ≡ i)
unfolding message_at has_pair
message_found [] s i e = absurd (false≢true e)
message_found (h ∷ hs) s i e = by_test (is_pair (copy_of h) s i) refl e (message_found hs s i)
  where
    by_test : (b : Bool) → is_pair (copy_of h) s i ≡ b → (b || list_any (λ copy. copy.sender == s && copy.number == i) (map copy_of hs)) ≡ true →
        (list_any (λ copy. copy.sender == s && copy.number == i) (map copy_of hs) ≡ true → (x : Held) × Member x hs × (message_at hs s i ≡ Some x.message) × (x.message.sender ≡ s) × (x.message.number ≡ i)) →
        (x : Held) × Member x (h ∷ hs) × (cond (is_pair (copy_of h) s i) (Some h.message) (message_at hs s i) ≡ Some x.message) × (x.message.sender ≡ s) × (x.message.number ≡ i)
    by_test true same e ih =
        let parts = and_parts (h.message.sender == s) (h.message.number == i) same in
        (h, here, cond-true _ _ _ same, eqb-true _ _ parts.0, eqb-true _ _ parts.1)
    by_test false differs e ih = let r = ih e in (r.0, there r.1, cond-false _ _ _ differs ∙ r.2, r.3, r.4)

module _ (config : Config) (past : History) (accepted : IsAccepted config past) (me : ℕ) where
  -- the message of a held pair is the one that its sender broadcast
  message_is : (s i : ℕ) → has_pair (first past me) s i ≡ true → message_at (held me (steps_of past me)) s i ≡ Some (get_or (broadcast past s) i blank)
  unfolding broadcast message_of
  message_is s i e =
      let found = message_found (held me (steps_of past me)) s i (ap (λ copies. has_pair copies s i) (held-steps_of past me) ∙ e) in
      let ok = held_ok config past accepted me found.0 found.1 in
      let goal : found.0.message ≡ get_or (numbered s 0 (stream past s)) i blank =
      ok
      ∙ ap (λ k. record { sender = found.0.message.sender; number = k; item = slice_index_or (stream past found.0.message.sender) k Close }) found.4
      ∙ ap (λ x. record { sender = x; number = i; item = slice_index_or (stream past x) i Close }) found.3
      ∙ ap (λ k. record { sender = s; number = k; item = slice_index_or (stream past s) i Close }) (let z : i ≡ 0 + i = omega arith in z)
      ∙ sym (numbered_get s 0 (stream past s) i (held_in_stream config past accepted me s i e)) in
      found.2 ∙ ap (λ message. Some message) goal

  -- so the held messages from one number up to another are what was broadcast there
  messages_are : (s n a : ℕ) → ((i : ℕ) → a ≤ i → i < a + n → has_pair (first past me) s i ≡ true) → filter_map (message_at (held me (steps_of past me)) s) (range_with_len a n) ≡ take n (drop a (broadcast past s))
  unfolding broadcast
  messages_are s zero a all = refl
  messages_are s (suc n) a all =
      let held_now = all a (omega arith) (omega arith) in
      let inside = held_in_stream config past accepted me s a held_now in
      let xs = broadcast past s in
      ap (λ o. cons_option o (filter_map (message_at (held me (steps_of past me)) s) (range_with_len (a + 1) n))) (message_is s a held_now)
      ∙ ap (λ rest. get_or xs a blank ∷ rest) (messages_are s n (a + 1) (λ i low high. all i (omega arith) (omega arith)))
      ∙ ap (λ k. get_or xs a blank ∷ take n (drop k xs)) (let e : a + 1 ≡ suc a = omega arith in e)
      ∙ sym (ap (take (suc n)) (drop-cons xs a blank (omega (arith, inside, length-numbered s 0 (stream past s)))))

  held_below : (s i : ℕ) → i < next config past me s → has_pair (first past me) s i ≡ true
  unfolding is_ready
  held_below s i h = (and_parts (has_pair (first past me) s i) _ (below_next config past accepted me s i h)).0

  pub messages_from-steps_of : (s a b : ℕ) → b ≤ next config past me s → messages_from (held me (steps_of past me)) s a b ≡ slice_range (broadcast past s) a b
  unfolding messages_from
  messages_from-steps_of s a b h = messages_are s (b - a) a (λ i low high. held_below s i (omega (arith, h, low, high)))

  -- what it delivered
  pub own_delivered-steps_of : (s : ℕ) → own_delivered config me (steps_of past me) s ≡ delivered config past me s
  unfolding own_delivered
  own_delivered-steps_of s =
      ap (λ n. messages_from (held me (steps_of past me)) s 0 n) (own_next-steps_of config past accepted me s)
      ∙ messages_from-steps_of s 0 (next config past me s) (omega arith)
      ∙ ap (λ n. take n (broadcast past s)) (let e : next config past me s - 0 ≡ next config past me s = omega arith in e)
      ∙ sym (delivered-take config past me s)

-- one step of the node
module _ (config : Config) (past : History) (me : ℕ) where
  turn_is : (event : Event) (step : Step) (s : ℕ) → IsAccepted config (event ∷ past) → IsStep past me event step →
      messages_from (held me (step ∷ steps_of past me)) s (own_next config me (steps_of past me) s) (own_next config me (step ∷ steps_of past me) s) ≡ turns config past event me s
  unfolding turns IsAccepted
  turn_is event step s accepted is =
      let now = steps_after past me event step is in
      ap (λ steps. messages_from (held me steps) s (own_next config me (steps_of past me) s) (own_next config me steps s)) (sym now)
      ∙ ap (λ n. messages_from (held me (steps_of (event ∷ past) me)) s (own_next config me (steps_of past me) s) n) (own_next-steps_of config (event ∷ past) accepted me s)
      ∙ ap (λ n. messages_from (held me (steps_of (event ∷ past) me)) s n (next config (event ∷ past) me s)) (own_next-steps_of config past accepted.0 me s)
      ∙ messages_from-steps_of config (event ∷ past) accepted me s (next config past me s) (next config (event ∷ past) me s) (omega arith)

  -- the messages that it delivers
  pub own_deliveries-steps_of : (event : Event) (step : Step) → IsAccepted config (event ∷ past) → IsStep past me event step → own_deliveries config me (steps_of past me) step ≡ deliveries config past event
  unfolding own_deliveries deliveries concerned
  own_deliveries-steps_of event step accepted (orders item) = turn_is (Order me item) (Ordered item) me accepted (orders item)
  own_deliveries-steps_of event step accepted (sends to slot) = refl
  own_deliveries-steps_of event step accepted (acknowledges to slot) = refl
  own_deliveries-steps_of event step accepted stops = refl
  own_deliveries-steps_of event step accepted (takes from seq frame at to) =
      turn_is (Arrive from seq) (Arrived frame) (sender_in (own_given_copies me (steps_of past me) frame.from) frame.body) accepted (takes from seq frame at to)
      ∙ ap (λ copies. turns config past (Arrive from seq) me (sender_in copies frame.body)) (own_given-steps_of past me frame.from)
      ∙ ap (λ p. turns config past (Arrive from seq) p (sender_in (given past p frame.from) frame.body)) (sym to)
      ∙ sym (ap (λ o. turns_of config past (Arrive from seq) (concerned_by past o)) at)

  -- an event that is its step adds them to its log
  log_gains : (event : Event) (step : Step) → IsStep past me event step → cond (is_node (concerned past event) me) (deliveries config past event) [] ≡ deliveries config past event
  unfolding deliveries concerned
  log_gains event step (orders item) = cond-true (me == me) _ [] (eq-eqb me me refl)
  log_gains event step (sends to slot) = refl
  log_gains event step (acknowledges to slot) = refl
  log_gains event step stops = refl
  log_gains event step (takes from seq frame at to) = cond-true (is_node (concerned_by past (slice_get (frames past from) seq)) me) _ [] (ap (λ o. is_node (concerned_by past o) me) at ∙ eq-eqb frame.to me to)

-- all that it delivered
pub own_log-steps_of : (config : Config) (past : History) → IsAccepted config past → (me : ℕ) → own_log config me (steps_of past me) ≡ delivery_log config past me
unfolding own_log delivery_log steps_of IsAccepted
own_log-steps_of config [] accepted me = refl
own_log-steps_of config (event ∷ past) accepted me = by_case (step_cases past me event) (own_log-steps_of config past accepted.0 me)
  where
    news : List Message
    news = cond (is_node (concerned past event) me) (deliveries config past event) []

    by_case : ((step : Step) × IsStep past me event step) ⊎ Elsewhere past me event → own_log config me (steps_of past me) ≡ delivery_log config past me → own_log config me (steps_of (event ∷ past) me) ≡ delivery_log config past me ++ news
    by_case (inl mine) ih =
        ap (own_log config me) (steps_after past me event mine.0 mine.1)
        ∙ ap (λ log. log ++ own_deliveries config me (steps_of past me) mine.0) ih
        ∙ ap (λ more. delivery_log config past me ++ more) (own_deliveries-steps_of config past me event mine.0 accepted mine.1 ∙ sym (log_gains config past me event mine.0 mine.1))
    by_case (inr elsewhere) ih =
        ap (own_log config me) (steps_same past me event elsewhere) ∙ ih ∙ sym (append-nil (delivery_log config past me))
        ∙ ap (λ more. delivery_log config past me ++ more) (sym (cond-false (is_node (concerned past event) me) (deliveries config past event) [] elsewhere.not_concerned))

-- what it decided
pub own_decision-steps_of : (config : Config) (past : History) → IsAccepted config past → (me j : ℕ) → own_decision config me (steps_of past me) j ≡ decision config past me j
unfolding own_decision decision
own_decision-steps_of config past accepted me j =
    let same : first_votes j [] (own_log config me (steps_of past me)) ≡ votes j (delivery_log config past me) =
    ap (first_votes j []) (own_log-steps_of config past accepted me) ∙ first_votes-all j [] (delivery_log config past me) (log_votes_once config past accepted me j) in
    ap (λ values. cond (nat_le (config.nodes - config.faults) (length values)) (Some (least (take (config.nodes - config.faults) values))) None) same

-- what a step of it delivers and decides
pub own_outcome-steps_of : (config : Config) (past : History) (me : ℕ) (event : Event) (step : Step) → IsAccepted config (event ∷ past) → IsStep past me event step → own_outcome config me (steps_of past me) step ≡ outcome config past event
unfolding own_outcome outcome IsAccepted concerned deliveries decisions_of delivery_log
own_outcome-steps_of config past me event step accepted is =
    let before = own_log-steps_of config past accepted.0 me in
    let news = own_deliveries-steps_of config past me event step accepted is in
    let once : (j : ℕ) → VotesOnce j (delivery_log config past me ++ deliveries config past event) =
    λ j. subst (λ more. VotesOnce j (delivery_log config past me ++ more)) (log_gains config past me event step is) (log_votes_once config (event ∷ past) accepted me j) in
    ap (λ more. record { deliveries = more; decisions = own_decisions_of config (own_log config me (steps_of past me)) more }) news
    ∙ ap (λ log. record { deliveries = deliveries config past event; decisions = own_decisions_of config log (deliveries config past event) }) before
    ∙ ap (λ all. record { deliveries = deliveries config past event; decisions = all }) (own_decisions-all config (delivery_log config past me) (deliveries config past event) once ∙ log_is event step is)
  where
    log_is : (e : Event) (x : Step) → IsStep past me e x → decisions_of config (delivery_log config past me) (deliveries config past e) ≡ decisions_of config (log_of config past (concerned past e)) (deliveries config past e)
    log_is e x (orders item) = refl
    log_is e x (sends to slot) = refl
    log_is e x (acknowledges to slot) = refl
    log_is e x stops = refl
    log_is e x (takes from seq frame at to) =
        ap (λ p. decisions_of config (delivery_log config past p) (deliveries config past (Arrive from seq))) (sym to)
        ∙ sym (ap (λ o. decisions_of config (log_of config past (concerned_by past o)) (deliveries config past (Arrive from seq))) at)
