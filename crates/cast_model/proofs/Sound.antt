-- What holds of the pairs held, the frames made and the frames arrived, after every accepted history.
use Rattle.std.proofs.Common.{◌≡◌, ℕ, ◌+◌, ◌<◌, ◌≤◌, refl, sym, ◌∙◌, ap, subst, Bool, true, false, cond, List, [], ◌∷◌, ◌++◌, length, Option, Some, None, inl, inr, arith, length-append}
use Rattle.std.specs.Prelude.{slice_get, slice_index_or, ◌==◌, ◌&&◌}
use Rattle.std.specs.List.{list_any}
use Rattle.std.proofs.lemmas.List.{get_or_append_left}
use Rattle.std.proofs.lemmas.Bool.{and_from, and_parts, eq-eqb, eqb-true, cases_lt, cond-true, cond-false, cases_Bool}
use Rattle.cast_message.specs.declared.config.Config.{Config}
use Rattle.cast_message.specs.declared.event.Event.{Event}
use Rattle.cast_message.specs.declared.event.Event.TheVariants.{Order, Send, Ack, Arrive, Crash}
use Rattle.cast_message.specs.declared.message.Item.{Item}
use Rattle.cast_message.specs.declared.message.Item.TheVariants.{Close}
use Rattle.cast_message.specs.declared.message.Message.{Message}
use Rattle.cast_message.specs.declared.message.Frame.{Frame}
use Rattle.cast_message.specs.declared.message.FrameBody.{FrameBody}
use Rattle.cast_message.specs.declared.message.FrameBody.TheVariants.{Carry, Took}
use Rattle.cast_model.specs.History.{History, FirstCopy, items_ordered, stream, has_pair, given_of, copy_at, message_of, copies_gained, copies_arriving, copies_brought, frames_gained, frame_arriving, frame_at, first, frames, given, arrivals, taken}
use Rattle.cast_model.specs.Replies.{fault, IsAccepted}
use Rattle.cast_model.proofs.Members.{Member, Member-append, Member-append_right, Member-filter, list_any-Member, Member-list_any, Member-slice_get, Member-get_or, Member-if, Member-if_not, Member-when, here}
use Rattle.cast_model.proofs.Growth.{gained, made, arriving, stream-more, first-more, frames-more, arrivals-more, copy_at-kept, slot_kept, stream_kept, pair_kept, taken_kept}
use Rattle.cast_model.proofs.Accepted.{Send-slot, Ack-taken}

-- a held pair was broadcast, and the node that it came from held it
pub record CopyOk (past : History) (copy : FirstCopy) : Type 0 where
  pub broadcast : copy.number < length (stream past copy.sender)
  pub held_at_source : has_pair (first past copy.source) copy.sender copy.number ≡ true

-- a Carry has the message of its slot's pair, which its maker holds
pub record CarryOk (past : History) (from to slot : ℕ) (message : Message) : Type 0 where
  pub in_given : slot < length (given past from to)
  pub sender_is : message.sender ≡ (copy_at (given past from to) slot).sender
  pub number_is : message.number ≡ (copy_at (given past from to) slot).number
  pub broadcast : message.number < length (stream past message.sender)
  pub item_is : message.item ≡ slice_index_or (stream past message.sender) message.number Close
  pub held : has_pair (first past from) message.sender message.number ≡ true

abbrev pub BodyOk : History → ℕ → ℕ → FrameBody → Type 0
BodyOk past from to (Carry slot message) = CarryOk past from to slot message
BodyOk past from to (Took slot) = taken past to from slot ≡ true

pub record FrameOk (past : History) (p : ℕ) (frame : Frame) : Type 0 where
  pub from_is : frame.from ≡ p
  pub body_ok : BodyOk past p frame.to frame.body

abbrev pub HeldAt : History → ℕ → FrameBody → Type 0
HeldAt past q (Carry slot message) = has_pair (first past q) message.sender message.number ≡ true
HeldAt past q (Took slot) = Unit {0}

pub record ArrivalOk (past : History) (q : ℕ) (frame : Frame) : Type 0 where
  pub to_is : frame.to ≡ q
  pub made_ok : FrameOk past frame.from frame
  pub held : HeldAt past q frame.body

pub record Sound (past : History) : Type 0 where
  pub copies_ok : (q : ℕ) (copy : FirstCopy) → Member copy (first past q) → CopyOk past copy
  pub frames_ok : (p : ℕ) (frame : Frame) → Member frame (frames past p) → FrameOk past p frame
  pub arrivals_ok : (q : ℕ) (frame : Frame) → Member frame (arrivals past q) → ArrivalOk past q frame
  pub own_held : (q i : ℕ) → i < length (stream past q) → has_pair (first past q) q i ≡ true

-- each of these lasts
module _ (event : Event) (past : History) where
  pub CopyOk-kept : (copy : FirstCopy) → CopyOk past copy → CopyOk (event ∷ past) copy
  CopyOk-kept copy ok = record { broadcast = stream_kept event past _ _ ok.broadcast; held_at_source = pair_kept event past _ _ _ ok.held_at_source }

  pub CarryOk-kept : (from to slot : ℕ) (message : Message) → CarryOk past from to slot message → CarryOk (event ∷ past) from to slot message
  CarryOk-kept from to slot message ok = record {
    in_given = slot_kept event past from to slot ok.in_given;
    sender_is = ok.sender_is ∙ ap (λ copy. copy.sender) (sym (copy_at-kept event past from to slot ok.in_given));
    number_is = ok.number_is ∙ ap (λ copy. copy.number) (sym (copy_at-kept event past from to slot ok.in_given));
    broadcast = stream_kept event past _ _ ok.broadcast;
    item_is = ok.item_is ∙ sym (ap (λ items. slice_index_or items message.number Close) (stream-more event past message.sender) ∙ get_or_append_left (stream past message.sender) (items_ordered event message.sender) Close message.number ok.broadcast);
    held = pair_kept event past _ _ _ ok.held;
  }

  pub BodyOk-kept : (from to : ℕ) (body : FrameBody) → BodyOk past from to body → BodyOk (event ∷ past) from to body
  BodyOk-kept from to (Carry slot message) ok = CarryOk-kept from to slot message ok
  BodyOk-kept from to (Took slot) ok = taken_kept event past to from slot ok

  pub FrameOk-kept : (p : ℕ) (frame : Frame) → FrameOk past p frame → FrameOk (event ∷ past) p frame
  FrameOk-kept p frame ok = record { from_is = ok.from_is; body_ok = BodyOk-kept p frame.to frame.body ok.body_ok }

  pub HeldAt-kept : (q : ℕ) (body : FrameBody) → HeldAt past q body → HeldAt (event ∷ past) q body
  HeldAt-kept q (Carry slot message) h = pair_kept event past _ _ _ h
  HeldAt-kept q (Took slot) h = tt

  pub ArrivalOk-kept : (q : ℕ) (frame : Frame) → ArrivalOk past q frame → ArrivalOk (event ∷ past) q frame
  ArrivalOk-kept q frame ok = record { to_is = ok.to_is; made_ok = FrameOk-kept frame.from frame ok.made_ok; held = HeldAt-kept q frame.body ok.held }

-- the pair of a copy in the list is there
pub has_pair-Member : (copy : FirstCopy) (copies : List FirstCopy) → Member copy copies → has_pair copies copy.sender copy.number ≡ true
unfolding has_pair
has_pair-Member copy copies m = list_any-Member _ copy copies m (and_from _ _ (eq-eqb copy.sender copy.sender refl) (eq-eqb copy.number copy.number refl))

pub Member-has_pair : (copies : List FirstCopy) (s i : ℕ) → has_pair copies s i ≡ true → (copy : FirstCopy) × Member copy copies × (copy.sender ≡ s) × (copy.number ≡ i)
unfolding has_pair
Member-has_pair copies s i e =
    let found = Member-list_any _ copies e in
    let parts = and_parts _ _ found.2 in
    (found.0, found.1, eqb-true _ _ parts.0, eqb-true _ _ parts.1)

-- a pair that an event adds is held after it
pub gained_held : (event : Event) (past : History) (q : ℕ) (copy : FirstCopy) → Member copy (gained event past q) → has_pair (first (event ∷ past) q) copy.sender copy.number ≡ true
gained_held event past q copy m = rw first-more (has_pair-Member copy _ (Member-append_right copy (first past q) (gained event past q) m))

-- what each event adds
pub gained-Order : (node : ℕ) (item : Item) (past : History) (q : ℕ) (copy : FirstCopy) → Member copy (gained (Order node item) past q) → (node ≡ q) × (copy ≡ record { sender = q; number = length (stream past q); source = q })
unfolding copies_gained
gained-Order node item past q copy m = let r = Member-if (node == q) copy _ m in (eqb-true _ _ r.0, r.1)

-- a frame with a Carry that arrived at q and brought it the pair
pub record Brought (past : History) (from seq q : ℕ) (copy : FirstCopy) : Type 0 where
  pub frame : Frame
  pub frame_is : slice_get (frames past from) seq ≡ Some frame
  pub made_by : Member frame (frames past from)
  pub to_is : frame.to ≡ q
  pub slot : ℕ
  pub message : Message
  pub body_is : frame.body ≡ Carry slot message
  pub copy_is : copy ≡ record { sender = message.sender; number = message.number; source = frame.from }
  pub is_new : has_pair (first past q) message.sender message.number ≡ false

module _ (past : History) (from seq q : ℕ) (copy : FirstCopy) where
  Brought-body : (frame : Frame) → slice_get (frames past from) seq ≡ Some frame → frame.to ≡ q → (body : FrameBody) → frame.body ≡ body → Member copy (copies_brought (first past q) frame.from body) → Brought past from seq q copy
  Brought-body frame at to (Carry slot message) e m =
      let r = Member-if_not (has_pair (first past q) message.sender message.number) copy _ m in
      record {
        frame = frame;
        frame_is = at;
        made_by = Member-slice_get (frames past from) seq frame at;
        to_is = to;
        slot = slot;
        message = message;
        body_is = e;
        copy_is = r.1;
        is_new = r.0;
      }
  Brought-body frame at to (Took slot) e m = elim m [ ]

  Brought-frame : (o : Option Frame) → slice_get (frames past from) seq ≡ o → Member copy (copies_arriving (first past q) o q) → Brought past from seq q copy
  Brought-frame None e m = elim m [ ]
  Brought-frame (Some frame) e m =
      let r = Member-when (frame.to == q) copy _ m in
      Brought-body frame e (eqb-true _ _ r.0) frame.body refl r.1

  pub gained-Arrive : Member copy (gained (Arrive from seq) past q) → Brought past from seq q copy
  unfolding copies_gained
  gained-Arrive m = Brought-frame (slice_get (frames past from) seq) refl m

-- the empty history
pub Sound-none : Sound []
unfolding first frames arrivals stream
Sound-none = record {
  copies_ok = λ q copy m. elim m [ ];
  frames_ok = λ p frame m. elim m [ ];
  arrivals_ok = λ q frame m. elim m [ ];
  own_held = λ q i h. absurd (omega arith);
}

-- what an accepted event makes is as it must be
module _ (config : Config) (past : History) (sound : Sound past) where
  CarryOk-Send : (p to slot : ℕ) → slot < length (given past p to) → CarryOk past p to slot (message_of (stream past) (copy_at (given past p to) slot))
  unfolding message_of copy_at given given_of
  CarryOk-Send p to slot h =
      let copy = copy_at (given past p to) slot in
      let kept = Member-filter _ copy (first past p) (Member-get_or (given past p to) slot _ h) in
      record {
        in_given = h;
        sender_is = refl;
        number_is = refl;
        broadcast = (sound.copies_ok p copy kept.0).broadcast;
        item_is = refl;
        held = has_pair-Member copy (first past p) kept.0;
      }

  made_ok : (event : Event) → fault config past event ≡ None → (p : ℕ) (frame : Frame) → Member frame (made event past p) → FrameOk past p frame
  unfolding frames_gained given
  made_ok (Send from to slot) e p frame m =
      let r = Member-if (from == p) frame _ m in
      let same : from ≡ p = eqb-true _ _ r.0 in
      let h : slot < length (given past p to) = subst (λ node. slot < length (given past node to)) same (Send-slot config past from to slot e) in
      subst (λ f. FrameOk past p f) (sym r.1) (record { from_is = refl; body_ok = CarryOk-Send p to slot h })
  made_ok (Ack from to slot) e p frame m =
      let r = Member-if (from == p) frame _ m in
      let same : from ≡ p = eqb-true _ _ r.0 in
      let h : taken past to p slot ≡ true = subst (λ node. taken past to node slot ≡ true) same (Ack-taken config past from to slot e) in
      subst (λ f. FrameOk past p f) (sym r.1) (record { from_is = refl; body_ok = h })
  made_ok (Order node item) e p frame m = elim m [ ]
  made_ok (Arrive from seq) e p frame m = elim m [ ]
  made_ok (Crash node) e p frame m = elim m [ ]

-- the frame that arrived
pub record Arrived (event : Event) (past : History) (q : ℕ) (frame : Frame) : Type 0 where
  pub from : ℕ
  pub seq : ℕ
  pub event_is : event ≡ Arrive from seq
  pub frame_is : slice_get (frames past from) seq ≡ Some frame
  pub to_is : frame.to ≡ q

module _ (past : History) (q : ℕ) (frame : Frame) where
  Arrived-at : (from seq : ℕ) (o : Option Frame) → slice_get (frames past from) seq ≡ o → Member frame (frame_at o q) → Arrived (Arrive from seq) past q frame
  Arrived-at from seq None e m = elim m [ ]
  Arrived-at from seq (Some f) e m =
      let r = Member-if (f.to == q) frame f m in
      record { from = from; seq = seq; event_is = refl; frame_is = e ∙ ap (λ g. Some g) (sym r.1); to_is = ap (λ g. g.to) r.1 ∙ eqb-true _ _ r.0 }

  pub arriving-Arrived : (event : Event) → Member frame (arriving event past q) → Arrived event past q frame
  unfolding frame_arriving
  arriving-Arrived (Arrive from seq) m = Arrived-at from seq (slice_get (frames past from) seq) refl m
  arriving-Arrived (Order node item) m = elim m [ ]
  arriving-Arrived (Send from to slot) m = elim m [ ]
  arriving-Arrived (Ack from to slot) m = elim m [ ]
  arriving-Arrived (Crash node) m = elim m [ ]

-- what a Carry brings is held afterwards
module _ (past : History) (from seq q : ℕ) (frame : Frame) (at : slice_get (frames past from) seq ≡ Some frame) (to : frame.to ≡ q) where
  gained_by_Carry : (slot : ℕ) (message : Message) → frame.body ≡ Carry slot message → has_pair (first past q) message.sender message.number ≡ false →
      gained (Arrive from seq) past q ≡ record { sender = message.sender; number = message.number; source = frame.from } ∷ []
  unfolding copies_gained
  gained_by_Carry slot message body new =
      ap (λ o. copies_arriving (first past q) o q) at
      ∙ cond-true _ _ _ (eq-eqb _ _ to)
      ∙ ap (λ b. copies_brought (first past q) frame.from b) body
      ∙ cond-false _ _ _ new

  arrived_held : (body : FrameBody) → frame.body ≡ body → HeldAt (Arrive from seq ∷ past) q body
  arrived_held (Took slot) e = tt
  arrived_held (Carry slot message) e = elim (cases_Bool (has_pair (first past q) message.sender message.number)) [
    | inl old ↦ pair_kept (Arrive from seq) past q message.sender message.number old
    | inr new ↦ gained_held (Arrive from seq) past q (record { sender = message.sender; number = message.number; source = frame.from })
        (subst (λ copies. Member (record { sender = message.sender; number = message.number; source = frame.from }) copies) (sym (gained_by_Carry slot message e new)) here)
  ]

-- an own item is held from its order on
module _ (past : History) (sound : Sound past) where
  own_held_after : (event : Event) (q i : ℕ) → i < length (stream (event ∷ past) q) → has_pair (first (event ∷ past) q) q i ≡ true
  unfolding copies_gained
  own_held_after event q i h = elim (cases_lt i (length (stream past q))) [
    | inl old ↦ pair_kept event past q q i (sound.own_held q i old)
    | inr new ↦ at_end event new (let total : i < length (stream past q ++ items_ordered event q) = rw stream-more at h in omega (arith, length-append (stream past q) (items_ordered event q)))
  ]
    where
      none : (event : Event) → length (stream past q) ≤ i → i < length (stream past q) + 0 → has_pair (first (event ∷ past) q) q i ≡ true
      none event low high = absurd (omega arith)

      ordered : (node : ℕ) (item : Item) (b : Bool) → (node == q) ≡ b → length (stream past q) ≤ i → i < length (stream past q) + length (cond b (item ∷ []) []) → has_pair (first (Order node item ∷ past) q) q i ≡ true
      ordered node item false e low high = absurd (omega arith)
      ordered node item true e low high =
          let last : length (stream past q) ≡ i = omega arith in
          let own : FirstCopy = record { sender = q; number = length (stream past q); source = q } in
          subst (λ k. has_pair (first (Order node item ∷ past) q) q k ≡ true) last
          (gained_held (Order node item) past q own (subst (λ copies. Member own copies) (sym (cond-true (node == q) (own ∷ []) [] e)) here))

      at_end : (event : Event) → length (stream past q) ≤ i → i < length (stream past q) + length (items_ordered event q) → has_pair (first (event ∷ past) q) q i ≡ true
      at_end (Order node item) low high = ordered node item (node == q) refl low high
      at_end (Send from to slot) low high = none (Send from to slot) low high
      at_end (Ack from to slot) low high = none (Ack from to slot) low high
      at_end (Arrive from seq) low high = none (Arrive from seq) low high
      at_end (Crash node) low high = none (Crash node) low high

-- one more accepted event
module _ (config : Config) (past : History) (sound : Sound past) where
  CopyOk-gained : (event : Event) (q : ℕ) (copy : FirstCopy) → Member copy (gained event past q) → CopyOk (event ∷ past) copy
  unfolding copies_gained
  CopyOk-gained (Order node item) q copy m =
      let r = gained-Order node item past q copy m in
      let long : length (stream past q) < length (stream (Order node item ∷ past) q) = ordered_more (node == q) (eq-eqb _ _ r.0) in
      subst (λ c. CopyOk (Order node item ∷ past) c) (sym r.1) (record {
        broadcast = long;
        held_at_source = own_held_after past sound (Order node item) q (length (stream past q)) long;
      })
    where
      ordered_more : (b : Bool) → (node == q) ≡ true → length (stream past q) < length (stream (Order node item ∷ past) q)
      ordered_more b e = rw stream-more (rw e (omega (arith, length-append (stream past q) (item ∷ []))))
  CopyOk-gained (Arrive from seq) q copy m =
      let b = gained-Arrive past from seq q copy m in
      let ok = sound.frames_ok from b.frame b.made_by in
      let carry : CarryOk past from b.frame.to b.slot b.message = subst (λ body. BodyOk past from b.frame.to body) b.body_is ok.body_ok in
      subst (λ c. CopyOk (Arrive from seq ∷ past) c) (sym b.copy_is) (record {
        broadcast = stream_kept (Arrive from seq) past b.message.sender b.message.number carry.broadcast;
        held_at_source = subst (λ r. has_pair (first (Arrive from seq ∷ past) r) b.message.sender b.message.number ≡ true) (sym ok.from_is)
            (pair_kept (Arrive from seq) past from b.message.sender b.message.number carry.held);
      })
  CopyOk-gained (Send from to slot) q copy m = elim m [ ]
  CopyOk-gained (Ack from to slot) q copy m = elim m [ ]
  CopyOk-gained (Crash node) q copy m = elim m [ ]

  ArrivalOk-new : (event : Event) (q : ℕ) (frame : Frame) → Member frame (arriving event past q) → ArrivalOk (event ∷ past) q frame
  ArrivalOk-new event q frame m =
      let a = arriving-Arrived past q frame event m in
      let ok = sound.frames_ok a.from frame (Member-slice_get (frames past a.from) a.seq frame a.frame_is) in
      record {
        to_is = a.to_is;
        made_ok = FrameOk-kept event past frame.from frame (subst (λ p. FrameOk past p frame) (sym ok.from_is) ok);
        held = subst (λ e. HeldAt (e ∷ past) q frame.body) (sym a.event_is) (arrived_held past a.from a.seq q frame a.frame_is a.to_is frame.body refl);
      }

  pub Sound-more : (event : Event) → fault config past event ≡ None → Sound (event ∷ past)
  Sound-more event accepted = record {
    copies_ok = λ q copy m. elim (Member-append copy (first past q) (gained event past q) (rw first-more at m)) [
      | inl old ↦ CopyOk-kept event past copy (sound.copies_ok q copy old)
      | inr new ↦ CopyOk-gained event q copy new
    ];
    frames_ok = λ p frame m. elim (Member-append frame (frames past p) (made event past p) (rw frames-more at m)) [
      | inl old ↦ FrameOk-kept event past p frame (sound.frames_ok p frame old)
      | inr new ↦ FrameOk-kept event past p frame (made_ok config past sound event accepted p frame new)
    ];
    arrivals_ok = λ q frame m. elim (Member-append frame (arrivals past q) (arriving event past q) (rw arrivals-more at m)) [
      | inl old ↦ ArrivalOk-kept event past q frame (sound.arrivals_ok q frame old)
      | inr new ↦ ArrivalOk-new event q frame new
    ];
    own_held = own_held_after past sound event;
  }

-- every accepted history is sound
pub sound : (config : Config) (past : History) → IsAccepted config past → Sound past
unfolding IsAccepted
sound config [] accepted = Sound-none
sound config (event ∷ past) accepted = Sound-more config past (sound config past accepted.0) event accepted.1

-- each pair that a node holds stands in its sender's stream
pub held_in_stream : (config : Config) (past : History) → IsAccepted config past → (q s i : ℕ) → has_pair (first past q) s i ≡ true → i < length (stream past s)
held_in_stream config past accepted q s i h =
    let found = Member-has_pair (first past q) s i h in
    let ok = (sound config past accepted).copies_ok q found.0 found.1 in
    let below : found.0.number < length (stream past found.0.sender) = ok.broadcast in
    let at_sender : found.0.number < length (stream past s) = subst (λ p. found.0.number < length (stream past p)) found.2 below in
    subst (λ k. k < length (stream past s)) found.3 at_sender

-- the body of a frame that came to p from r, and passes this test
pub record Told (past : History) (p r : ℕ) (test : FrameBody → Bool) : Type 0 where
  pub body : FrameBody
  pub body_ok : BodyOk past r p body
  pub held : HeldAt past p body
  pub tells : test body ≡ true

pub arrivals-Told : (past : History) → Sound past → (p r : ℕ) (test : FrameBody → Bool) → list_any (λ frame. frame.from == r && test frame.body) (arrivals past p) ≡ true → Told past p r test
arrivals-Told past ok p r test h =
    let found = Member-list_any _ (arrivals past p) h in
    let parts = and_parts (found.0.from == r) _ found.2 in
    let arrival = ok.arrivals_ok p found.0 found.1 in
    record {
      body = found.0.body;
      body_ok = subst (λ a. BodyOk past a p found.0.body) (eqb-true _ _ parts.0) (subst (λ b. BodyOk past found.0.from b found.0.body) arrival.to_is arrival.made_ok.body_ok);
      held = arrival.held;
      tells = parts.1;
    }
