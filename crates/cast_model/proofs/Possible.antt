-- In a group a node is given no more than there can be, and no frame that nobody could have made.
use Rattle.std.proofs.Common.{◌≡◌, ℕ, suc, ◌+◌, ◌-◌, ◌*◌, ◌<◌, ◌≤◌, refl, sym, ◌∙◌, ap, subst, Bool, true, false, not, ◌&&◌, ◌||◌, cond, List, [], ◌∷◌, ◌++◌, length, map, Option, Some, None, inl, inr, arith, length-append}
use Rattle.std.specs.Prelude.{◌==◌, slice_get, nat_le, is_some}
use Rattle.std.specs.List.{list_any, range_with_len}
use Rattle.std.proofs.lemmas.List.{append-nil, map-append}
use Rattle.std.proofs.Math.Nat.{mul-le-mul_right}
use Rattle.std.proofs.lemmas.List.Folds.{list_any-append}
use Rattle.std.proofs.lemmas.Bool.{and_from, and_parts, or_left, or_right, eqb-true, ne_eqb, leb-false, cases_lt, cond-false, lt-ltb, not_from_false, false≢true, false_from_ne_true}
use Rattle.std.proofs.lemmas.List.FromFn.{length-range_with_len}
use Rattle.cast_message.proofs.Lists.{length-filter_le}
use Rattle.cast_message.specs.declared.config.Config.{Config}
use Rattle.cast_message.specs.declared.event.Event.{Event}
use Rattle.cast_message.specs.declared.event.Event.TheVariants.{Order, Send, Ack, Arrive, Crash}
use Rattle.cast_message.specs.declared.event.StepFault.{StepFault}
use Rattle.cast_message.specs.declared.message.Item.{Item}
use Rattle.cast_message.specs.declared.message.Frame.{Frame}
use Rattle.cast_message.specs.declared.message.FrameBody.{FrameBody}
use Rattle.cast_message.specs.declared.message.FrameBody.TheVariants.{Carry, Took}
use Rattle.cast_model.specs.History.{History, FirstCopy, stream, items_ordered, has_pair, first, frames, given, given_of, copy_at, copies_gained, copies_arriving, copies_brought}
use Rattle.cast_message.specs.Items.{is_close}
use Rattle.cast_model.specs.Replies.{causes, fault, after, after_by, reply, reply_by, IsAccepted}
use Rattle.cast_model.specs.Steps.{Step, steps_of}
use Rattle.cast_model.specs.OwnSteps.{own_given, own_fault, own_reply, is_possible, is_possible_body, is_ignored, node_reply, node_after, IsStep, orders, sends, acknowledges, takes, stops}
use Rattle.cast_model.proofs.Members.{Member, here, there, Member-filter, Member-get_or, Member-slice_get}
use Rattle.cast_model.proofs.Growth.{gained}
use Rattle.cast_model.proofs.Accepted.{no_cause}
use Rattle.cast_model.proofs.Sound.{sound, BodyOk, gained-Order, gained-Arrive, has_pair-Member, held_in_stream}
use Rattle.cast_model.proofs.Ready.{took_in_given}
use Rattle.cast_model.proofs.Agreement.{pigeonhole, node_in}
use Rattle.cast_model.proofs.AtRest.{Member-range_with_len}
use Rattle.cast_model.proofs.Dues.{Once, Once-append, Once-distinct, Member-map_in}
use Rattle.cast_model.proofs.OwnHeld.{steps_after}
use Rattle.cast_model.proofs.OwnTurns.{length-map}
use Rattle.cast_model.proofs.OwnReplies.{frame_ends, given_count, own_fault-steps_of, own_reply-steps_of}
use Rattle.cast_model.proofs.Closed.{Order-open}

room_left : (config : Config) (past : History) (p : ℕ) (item : Item) → fault config past (Order p item) ≡ None → is_close item ≡ false → length (stream past p) < config.item_limit - 1
unfolding fault causes
room_left config past p item e closes =
    let full = no_cause _ (causes config past (Order p item)) e (there (there (there (there (there here))))) in
    leb-false (config.item_limit - 1) (length (stream past p)) (ap (λ b. not b && nat_le (config.item_limit - 1) (length (stream past p))) (sym closes) ∙ full)

-- a stream has no more items than its limit, and one less while it is open
pub stream_room : (config : Config) (past : History) → IsAccepted config past → (p : ℕ) → (length (stream past p) ≤ config.item_limit) × (list_any is_close (stream past p) ≡ false → length (stream past p) ≤ config.item_limit - 1)
unfolding IsAccepted stream
stream_room config [] accepted p = (omega arith, λ e. omega arith)
stream_room config (event ∷ past) accepted p = by_event event accepted.1 (stream_room config past accepted.0 p)
  where
    Room : List Item → Type 0
    Room items = (length items ≤ config.item_limit) × (list_any is_close items ≡ false → length items ≤ config.item_limit - 1)

    same : Room (stream past p) → Room (stream past p ++ [])
    same room = subst Room (sym (append-nil (stream past p))) room

    by_event : (event : Event) → fault config past event ≡ None → Room (stream past p) → Room (stream past p ++ items_ordered event p)
    by_event (Send from to slot) e room = same room
    by_event (Ack from to slot) e room = same room
    by_event (Arrive from seq) e room = same room
    by_event (Crash node) e room = same room
    by_event (Order node item) e room = by_test (node == p) refl
      where
        by_test : (b : Bool) → (node == p) ≡ b → Room (stream past p ++ cond b (item ∷ []) [])
        by_test false differs = same room
        by_test true equal = ordered (Order-open config past p item here_too) (room_left config past p item here_too)
          where
            here_too : fault config past (Order p item) ≡ None
            here_too = subst (λ x. fault config past (Order x item) ≡ None) (eqb-true node p equal) e

            ordered : list_any is_close (stream past p) ≡ false → (is_close item ≡ false → length (stream past p) < config.item_limit - 1) → Room (stream past p ++ item ∷ [])
            ordered unclosed left =
                let before = room.1 unclosed in
                let total = length-append (stream past p) (item ∷ []) in
                let some = config.some_item in (
                  omega (arith, before, total, some),
                  (λ none. let closes : is_close item ≡ false = false_from_ne_true (is_close item) (λ c. false≢true (sym none ∙ list_any-append is_close (stream past p) (item ∷ []) ∙ or_right (list_any is_close (stream past p)) _ (or_left (is_close item) false c))) in
                      let l = left closes in
                      omega (arith, l, total)),
                )

-- a pair without the node that it came from
abbrev strip : FirstCopy → FirstCopy
strip copy = record { sender = copy.sender; number = copy.number; source = 0 }

stripped_in : (copies : List FirstCopy) (copy : FirstCopy) → Member (strip copy) (map strip copies) → has_pair copies copy.sender copy.number ≡ true
stripped_in copies copy m =
    let r = Member-map_in strip (strip copy) copies m in
    subst (λ k. has_pair copies copy.sender k ≡ true) (sym (ap (λ c. c.number) r.2)) (subst (λ x. has_pair copies x r.0.number ≡ true) (sym (ap (λ c. c.sender) r.2)) (has_pair-Member r.0 copies r.1))

-- no node holds a pair twice
pub held_once : (config : Config) (past : History) → IsAccepted config past → (q : ℕ) → Once (map strip (first past q))
unfolding IsAccepted first frames Once copies_gained
held_once config [] accepted q = tt
held_once config (event ∷ past) accepted q = rw map-append (Once-append (map strip (first past q)) (map strip (gained event past q)) (held_once config past accepted.0 q) (alone event) (λ x m n.
    let r = Member-map_in strip x (gained event past q) n in
    false≢true (sym (is_new event r.0 r.1) ∙ stripped_in (first past q) r.0 (subst (λ y. Member y (map strip (first past q))) r.2 m))))
  where
    is_new : (event : Event) (copy : FirstCopy) → Member copy (gained event past q) → has_pair (first past q) copy.sender copy.number ≡ false
    is_new (Order node item) copy m =
        let r = gained-Order node item past q copy m in
        subst (λ c. has_pair (first past q) c.sender c.number ≡ false) (sym r.1) (false_from_ne_true _ (λ e. let h = held_in_stream config past accepted.0 q q (length (stream past q)) e in omega (arith, h)))
    is_new (Arrive from seq) copy m =
        let b = gained-Arrive past from seq q copy m in
        subst (λ c. has_pair (first past q) c.sender c.number ≡ false) (sym b.copy_is) b.is_new
    is_new (Send from to slot) copy m = elim m [ ]
    is_new (Ack from to slot) copy m = elim m [ ]
    is_new (Crash node) copy m = elim m [ ]

    one : (xs : List FirstCopy) → length xs ≤ 1 → Once (map strip xs)
    one [] h = tt
    one (x ∷ []) h = ((λ m. elim m [ ]), tt)
    one (x ∷ y ∷ xs) h = absurd (omega arith)

    alone : (event : Event) → Once (map strip (gained event past q))
    alone event = one (gained event past q) (few event)
      where
        brought : (b : Bool) (x : FirstCopy) → length (cond b [] (x ∷ [])) ≤ 1
        brought true x = omega arith
        brought false x = omega arith

        ordered : (b : Bool) (x : FirstCopy) → length (cond b (x ∷ []) []) ≤ 1
        ordered true x = omega arith
        ordered false x = omega arith

        body : (r : ℕ) (body : FrameBody) → length (copies_brought (first past q) r body) ≤ 1
        body r (Carry slot message) = brought (has_pair (first past q) message.sender message.number) _
        body r (Took slot) = omega arith

        arrived : (b : Bool) (r : ℕ) (x : FrameBody) → length (cond b (copies_brought (first past q) r x) []) ≤ 1
        arrived true r x = body r x
        arrived false r x = omega arith

        frame : (o : Option Frame) → length (copies_arriving (first past q) o q) ≤ 1
        frame None = omega arith
        frame (Some f) = arrived (f.to == q) f.from f.body

        few : (event : Event) → length (gained event past q) ≤ 1
        few (Order node item) = ordered (node == q) _
        few (Arrive from seq) = frame (slice_get (frames past from) seq)
        few (Send from to slot) = omega arith
        few (Ack from to slot) = omega arith
        few (Crash node) = omega arith

-- the place of a pair among all that there can be
abbrev place : ℕ → FirstCopy → ℕ
place limit copy = copy.sender * limit + copy.number

place_one : (limit : ℕ) (s t i k : ℕ) → i < limit → k < limit → s * limit + i ≡ t * limit + k → s ≡ t
place_one limit s t i k a b e = elim (cases_lt s t) [
  | inl below ↦ absurd (apart s t i k a below e)
  | inr above ↦ (elim (cases_lt t s) [
    | inl below ↦ absurd (apart t s k i b below (sym e))
    | inr same ↦ omega arith
  ])
]
  where
    apart : (x y j l : ℕ) → j < limit → x < y → x * limit + j ≡ y * limit + l → ⊥
    apart x y j l c below same =
        let h : suc x * limit ≤ y * limit = mul-le-mul_right limit below in
        let g : suc x * limit ≡ x * limit + limit = grind arith in
        omega (arith, h, g, c, same)

pub held_in_range : (config : Config) (past : History) → IsAccepted config past → (q : ℕ) (copy : FirstCopy) → Member copy (first past q) → (copy.sender < config.nodes) × (copy.number < config.item_limit)
held_in_range config past accepted q copy m =
    let inside = ((sound config past accepted).copies_ok q copy m).broadcast in
    let room = (stream_room config past accepted copy.sender).0 in
    (node_in config past accepted copy.sender (omega (arith, inside)), omega (arith, inside, room))

-- so it holds no more than all nodes may broadcast
pub held_bounded : (config : Config) (past : History) → IsAccepted config past → (q : ℕ) → length (first past q) ≤ config.nodes * config.item_limit
unfolding Once
held_bounded config past accepted q =
    let copies = first past q in
    let pairs = map strip copies in
    let places = map (place config.item_limit) pairs in
    let in_range : (x : FirstCopy) → Member x pairs → (x.sender < config.nodes) × (x.number < config.item_limit) × (x.source ≡ 0) = λ x m.
    (let r = Member-map_in strip x copies m in
    let h = held_in_range config past accepted q r.0 r.1 in
    subst (λ y. (y.sender < config.nodes) × (y.number < config.item_limit) × (y.source ≡ 0)) (sym r.2) (h.0, h.1, refl)) in
    let once : Once places = Once-map_on (place config.item_limit) pairs (λ x y m n e.
    let a = in_range x m in
    let b = in_range y n in
    let s : x.sender ≡ y.sender = place_one config.item_limit x.sender y.sender x.number y.number a.1 b.1 e in
    let t : x.sender * config.item_limit ≡ y.sender * config.item_limit = ap (λ k. k * config.item_limit) s in
    let i : x.number ≡ y.number = omega (arith, t, e) in
    let o : x.source ≡ y.source = a.2 ∙ sym b.2 in
    λ j. record { sender = s j; number = i j; source = o j }) (held_once config past accepted q) in
    let h = pigeonhole places (range_with_len 0 (config.nodes * config.item_limit)) (Once-distinct places once) (λ k m.
    let r = Member-map_in (place config.item_limit) k pairs m in
    let a = in_range r.0 r.1 in
    let top : suc r.0.sender * config.item_limit ≤ config.nodes * config.item_limit = mul-le-mul_right config.item_limit a.0 in
    let g : suc r.0.sender * config.item_limit ≡ r.0.sender * config.item_limit + config.item_limit = grind arith in
    Member-range_with_len (config.nodes * config.item_limit) 0 k (omega arith) (let low = a.1 in let e = r.2 in omega (arith, top, g, low, e))) in
    omega (arith, h, length-map (place config.item_limit) pairs, length-map strip copies, length-range_with_len 0 (config.nodes * config.item_limit))
  where
    Once-map_on : (f : FirstCopy → ℕ) (xs : List FirstCopy) → ((x y : FirstCopy) → Member x xs → Member y xs → f x ≡ f y → x ≡ y) → Once xs → Once (map f xs)
    Once-map_on f [] same once = tt
    Once-map_on f (x ∷ xs) same once = (
      (λ m. let r = Member-map_in f (f x) xs m in once.0 (subst (λ y. Member y xs) (sym (same x r.0 here (there r.1) r.2)) r.1)),
      Once-map_on f xs (λ y z m n e. same y z (there m) (there n) e) once.1,
    )

module _ (config : Config) (past : History) (accepted : IsAccepted config past) (me : ℕ) where
  -- each frame that arrives could have been made
  pub arrived_possible : (from seq : ℕ) (frame : Frame) → slice_get (frames past from) seq ≡ Some frame → frame.to ≡ me → is_possible config me (steps_of past me) frame ≡ true
  unfolding is_possible given given_of copy_at
  arrived_possible from seq frame at to =
      let m = Member-slice_get (frames past from) seq frame at in
      let ends = frame_ends config past accepted from frame m in
      let ok = (sound config past accepted).frames_ok from frame m in
      let body : BodyOk past frame.from me frame.body = subst (λ x. BodyOk past x me frame.body) (sym ok.from_is) (subst (λ x. BodyOk past from x frame.body) to ok.body_ok) in
      and_from _ _ (and_from _ _
      (lt-ltb frame.from config.nodes (subst (λ x. x < config.nodes) (sym ok.from_is) ends.maker_in))
      (not_from_false _ (ne_eqb frame.from me (λ e. ends.apart (sym ok.from_is ∙ e ∙ sym to)))))
      (by_body frame.from frame.body body)
    where
      by_body : (maker : ℕ) (body : FrameBody) → BodyOk past maker me body → is_possible_body config me (steps_of past me) maker body ≡ true
      by_body maker (Took slot) b =
          let h = took_in_given past (sound config past accepted) maker me slot b in
          let c = given_count config past me maker in
          lt-ltb slot (length (own_given me (steps_of past me) maker)) (omega (arith, h, c))
      by_body maker (Carry slot message) b =
          let broadcast = b.broadcast in
          let room = (stream_room config past accepted message.sender).0 in
          let slots : length (given past maker me) ≤ length (first past maker) = length-filter_le (λ copy. not (copy.sender == me) && not (copy.source == me)) (first past maker) in
          let bound = held_bounded config past accepted maker in
          let inside = b.in_given in
          let kept = (Member-filter (λ copy. not (copy.sender == me) && not (copy.source == me)) (copy_at (given past maker me) slot) (first past maker) (Member-get_or (given past maker me) slot _ inside)).1 in
          let another : not (message.sender == me) ≡ true = ap (λ x. not (x == me)) b.sender_is ∙ (and_parts (not ((copy_at (given past maker me) slot).sender == me)) _ kept).0 in
          and_from _ _ (and_from _ _ (and_from _ _
          (lt-ltb message.sender config.nodes (node_in config past accepted message.sender (omega (arith, broadcast))))
          another)
          (lt-ltb message.number config.item_limit (omega (arith, broadcast, room))))
          (lt-ltb slot (config.nodes * config.item_limit) (omega (arith, inside, slots, bound)))

  pub not_ignored : (event : Event) (step : Step) → IsStep past me event step → is_ignored config me (steps_of past me) step ≡ false
  not_ignored event step (orders item) = refl
  not_ignored event step (sends to slot) = refl
  not_ignored event step (acknowledges to slot) = refl
  not_ignored event step (takes from seq frame at to) = ap not (arrived_possible from seq frame at to)
  not_ignored event step stops = refl

  -- so a node that skips impossible frames answers as the group does
  pub node_reply-steps_of : me < config.nodes → (event : Event) (step : Step) → IsStep past me event step → node_reply config me (steps_of past me) step ≡ reply config past event
  unfolding node_reply own_reply
  node_reply-steps_of me_in event step is =
      ap (reply_by (own_fault config me (steps_of past me) step)) (cond-false _ _ _ (not_ignored event step is)) ∙ own_reply-steps_of config past me accepted me_in event step is

  -- and its steps stay those of the group
  pub node_after-steps_of : me < config.nodes → (event : Event) (step : Step) → IsStep past me event step → node_after config me (steps_of past me) step ≡ steps_of (after config past event) me
  unfolding node_after after
  node_after-steps_of me_in event step is =
      ap (λ o. cond (is_some o || is_ignored config me (steps_of past me) step) (steps_of past me) (step ∷ steps_of past me)) (own_fault-steps_of config past me accepted me_in event step is)
      ∙ ap (λ b. cond (is_some (fault config past event) || b) (steps_of past me) (step ∷ steps_of past me)) (not_ignored event step is)
      ∙ by_fault (fault config past event)
    where
      by_fault : (o : Option StepFault) → cond (is_some o || false) (steps_of past me) (step ∷ steps_of past me) ≡ steps_of (after_by o past event) me
      by_fault None = sym (steps_after past me event step is)
      by_fault (Some refusal) = refl
