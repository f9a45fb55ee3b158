-- The only refusal in a round is that of a node whose frames are full.
use Rattle.std.proofs.Common.{◌≡◌, ℕ, ◌+◌, ◌<◌, refl, sym, ◌∙◌, ap, subst, Bool, true, false, not, ◌&&◌, cond, List, [], ◌∷◌, ◌++◌, length, Option, Some, None, inl, inr, ◌⊎◌, arith}
use Rattle.std.specs.Prelude.{◌==◌, slice_get, nat_le}
use Rattle.std.specs.List.{list_any}
use Rattle.std.proofs.lemmas.List.{append-nil}
use Rattle.std.proofs.lemmas.Bool.{and_from, and_parts, eq-eqb, eqb-true, ne_eqb, cond-true, cond-false, lt-ltb, lt-leb, false≢true, false_from_ne_true}
use Rattle.cast_message.specs.declared.config.Config.{Config}
use Rattle.cast_message.specs.declared.event.Event.{Event}
use Rattle.cast_message.specs.declared.event.Event.TheVariants.{Send, Ack, Arrive}
use Rattle.cast_message.specs.declared.event.StepFault.{StepFault}
use Rattle.cast_message.specs.declared.event.StepFault.TheVariants.{FramesFull}
use Rattle.cast_message.specs.declared.message.Frame.{Frame}
use Rattle.cast_message.specs.declared.message.FrameBody.TheVariants.{Carry, Took}
use Rattle.cast_message.specs.Limits.{frame_limit}
use Rattle.cast_model.specs.History.{History, stream, is_live, first, frames, given, given_of, copy_at, message_of, frames_gained, frame_arriving, frame_at, arrivals, taken, acked, is_carry_of, is_took_of}
use Rattle.cast_model.specs.Refusals.{Cause, no_node, crashed, frames_full, first_fault}
use Rattle.cast_model.specs.Replies.{view_of, causes, causes_of_arrival, fault, after, after_by, history_from, IsAccepted}
use Rattle.cast_model.specs.Rounds.{Due, due, frames_for, events_for, plan_from, plan, AreAccepted, AcceptedUntilFull}
use Rattle.cast_model.proofs.Members.{Member, here, there, Member-append, Member-append_right, Member-if, list_any-Member, Member-list_any}
use Rattle.cast_model.proofs.Growth.{made, arriving, frames-more, arrivals-more, slot_kept}
use Rattle.cast_model.proofs.Round.{with_all, Counted, after_one, one_counted, frames-Send, frames-Arrive, slice_get_last}
use Rattle.cast_model.proofs.Dues.{Once, DueOk, due_ok, due_once}

-- a cause that does not hold
pub quiet : (cause : Cause) (list : List Cause) → cause.holds ≡ false → first_fault (cause ∷ list) ≡ first_fault list
unfolding first_fault
quiet cause list e = cond-false _ _ _ e

-- the refusal of a node whose frames are full
abbrev pub full : History → ℕ → Option StepFault
full past p = first_fault (frames_full (view_of past p) ∷ [])

full_cases : (past : History) (p : ℕ) → (full past p ≡ None) ⊎ (full past p ≡ Some FramesFull)
unfolding first_fault
full_cases past p = by_test (nat_le frame_limit (length (frames past p)))
  where
    by_test : (b : Bool) → (◌≡◌ {A = Option StepFault} (cond b (Some FramesFull) None) None) ⊎ (◌≡◌ {A = Option StepFault} (cond b (Some FramesFull) None) (Some FramesFull))
    by_test true = inr refl
    by_test false = inl refl

live-Send : (past : History) (from to slot p : ℕ) → is_live (Send from to slot ∷ past) p ≡ is_live past p
unfolding is_live
live-Send past from to slot p = refl

live-Ack : (past : History) (from to slot p : ℕ) → is_live (Ack from to slot ∷ past) p ≡ is_live past p
unfolding is_live
live-Ack past from to slot p = refl

live-Arrive : (past : History) (from seq p : ℕ) → is_live (Arrive from seq ∷ past) p ≡ is_live past p
unfolding is_live
live-Arrive past from seq p = refl

-- where no frame arrives, nothing is newly acknowledged
acked_same : (event : Event) (past : History) (p q slot : ℕ) → arriving event past p ≡ [] → acked (event ∷ past) p q slot ≡ acked past p q slot
unfolding acked
acked_same event past p q slot none =
    ap (λ all. list_any (λ frame. frame.from == q && is_took_of slot frame.body) all)
    (arrivals-more event past p ∙ ap (λ more. arrivals past p ++ more) none ∙ append-nil (arrivals past p))

acked-Send : (past : History) (from to place p q slot : ℕ) → acked (Send from to place ∷ past) p q slot ≡ acked past p q slot
unfolding frame_arriving
acked-Send past from to place p q slot = acked_same (Send from to place) past p q slot refl

acked-Ack : (past : History) (from to place p q slot : ℕ) → acked (Ack from to place ∷ past) p q slot ≡ acked past p q slot
unfolding frame_arriving
acked-Ack past from to place p q slot = acked_same (Ack from to place) past p q slot refl

-- a slot is newly acknowledged by the arrival of its acknowledgement alone
acked-Arrive : (past : History) (from seq : ℕ) (frame : Frame) (p q slot : ℕ) → slice_get (frames past from) seq ≡ Some frame → acked (Arrive from seq ∷ past) p q slot ≡ true →
    (acked past p q slot ≡ true) ⊎ ((frame.to ≡ p) × (frame.from ≡ q) × (is_took_of slot frame.body ≡ true))
unfolding acked frame_arriving
acked-Arrive past from seq frame p q slot at e =
    let test : Frame → Bool = λ f. f.from == q && is_took_of slot f.body in
    let found = Member-list_any test (arrivals (Arrive from seq ∷ past) p) e in
    let parts = and_parts (found.0.from == q) _ found.2 in
    elim (Member-append found.0 (arrivals past p) (arriving (Arrive from seq) past p) (subst (λ all. Member found.0 all) (arrivals-more (Arrive from seq) past p) found.1)) [
      | inl old ↦ inl (list_any-Member test found.0 (arrivals past p) old found.2)
      | inr new ↦
          (let m : Member found.0 (cond (frame.to == p) (frame ∷ []) []) = subst (λ o. Member found.0 (frame_at o p)) at new in
          let r = Member-if (frame.to == p) found.0 frame m in
          inr (eqb-true _ _ r.0, ap (λ f. f.from) (sym r.1) ∙ eqb-true _ _ parts.0, ap (λ f. is_took_of slot f.body) (sym r.1) ∙ parts.1))
    ]

abbrev carry_by : History → ℕ → ℕ → ℕ → Frame
carry_by past from to slot = record { from = from; seq = length (frames past from); to = to; body = Carry slot (message_of (stream past) (copy_at (given_of (first past from) to) slot)) }

abbrev took_by : History → ℕ → ℕ → ℕ → Frame
took_by past from to slot = record { from = from; seq = length (frames past from); to = to; body = Took slot }

-- the frame just made
made_at : (event : Event) (past : History) (from : ℕ) (frame : Frame) (k : ℕ) → made event past from ≡ frame ∷ [] → k ≡ length (frames past from) → slice_get (frames (event ∷ past) from) k ≡ Some frame
made_at event past from frame k one e =
    ap (λ frames. slice_get frames k) (frames-more event past from ∙ ap (λ more. frames past from ++ more) one)
    ∙ ap (slice_get (frames past from ++ frame ∷ [])) e
    ∙ slice_get_last (frames past from) frame

sent_at : (past : History) (from to slot k : ℕ) → k ≡ length (frames past from) → slice_get (frames (Send from to slot ∷ past) from) k ≡ Some (carry_by past from to slot)
unfolding frames_gained
sent_at past from to slot k = made_at (Send from to slot) past from _ k (cond-true (from == from) (carry_by past from to slot ∷ []) [] (eq-eqb from from refl))

took_at : (past : History) (from to slot k : ℕ) → k ≡ length (frames past from) → slice_get (frames (Ack from to slot ∷ past) from) k ≡ Some (took_by past from to slot)
unfolding frames_gained
took_at past from to slot k = made_at (Ack from to slot) past from _ k (cond-true (from == from) (took_by past from to slot ∷ []) [] (eq-eqb from from refl))

-- a slot is taken by the arrival of its Carry
taken_now : (past : History) (from seq : ℕ) (frame : Frame) (p q slot : ℕ) → slice_get (frames past from) seq ≡ Some frame → frame.to ≡ q → (frame.from == p && is_carry_of slot frame.body) ≡ true → taken (Arrive from seq ∷ past) p q slot ≡ true
unfolding taken frame_arriving
taken_now past from seq frame p q slot at to passes =
    let new : arriving (Arrive from seq) past q ≡ frame ∷ [] = ap (λ o. frame_at o q) at ∙ cond-true (frame.to == q) (frame ∷ []) [] (eq-eqb frame.to q to) in
    rw arrivals-more (list_any-Member (λ f. f.from == p && is_carry_of slot f.body) frame (arrivals past q ++ arriving (Arrive from seq) past q)
    (Member-append_right frame (arrivals past q) (arriving (Arrive from seq) past q) (subst (λ fs. Member frame fs) (sym new) here)) passes)

module _ (config : Config) where
  pub accepted_before : (past : History) (event : Event) → IsAccepted config (event ∷ past) → IsAccepted config past
  unfolding IsAccepted
  accepted_before past event accepted = accepted.0

  pub accepted_fault : (past : History) (event : Event) → IsAccepted config (event ∷ past) → fault config past event ≡ None
  unfolding IsAccepted
  accepted_fault past event accepted = accepted.1

  pub accepted_front : (past : History) (events : List Event) → IsAccepted config (with_all past events) → IsAccepted config past
  accepted_front past [] accepted = accepted
  accepted_front past (event ∷ events) accepted = accepted_before past event (accepted_front (event ∷ past) events accepted)

  pub fault-Send : (past : History) (p q slot : ℕ) → p < config.nodes → q < config.nodes → (p ≡ q → ⊥) → is_live past p ≡ true → slot < length (given past p q) → acked past p q slot ≡ false → fault config past (Send p q slot) ≡ full past p
  unfolding fault causes
  fault-Send past p q slot p_in q_in apart live inside open_slot =
      quiet _ _ (ap not (lt-ltb p config.nodes p_in))
      ∙ quiet _ _ (ap not (lt-ltb q config.nodes q_in))
      ∙ quiet _ _ (ne_eqb p q apart)
      ∙ quiet _ _ (ap not live)
      ∙ quiet _ _ (lt-leb (length (given past p q)) slot inside)
      ∙ quiet _ _ open_slot

  fault-Ack : (past : History) (p q slot : ℕ) → p < config.nodes → q < config.nodes → (p ≡ q → ⊥) → is_live past p ≡ true → taken past q p slot ≡ true → fault config past (Ack p q slot) ≡ full past p
  unfolding fault causes
  fault-Ack past p q slot p_in q_in apart live took =
      quiet _ _ (ap not (lt-ltb p config.nodes p_in))
      ∙ quiet _ _ (ap not (lt-ltb q config.nodes q_in))
      ∙ quiet _ _ (ne_eqb p q apart)
      ∙ quiet _ _ (ap not live)
      ∙ quiet _ _ (ap not took)

  fault-Arrive : (past : History) (from seq : ℕ) (frame : Frame) → from < config.nodes → slice_get (frames past from) seq ≡ Some frame → is_live past frame.to ≡ true → fault config past (Arrive from seq) ≡ None
  unfolding fault causes first_fault
  fault-Arrive past from seq frame from_in at live =
      quiet (no_node config from) (causes_of_arrival config past (slice_get (frames past from) seq)) (ap not (lt-ltb from config.nodes from_in))
      ∙ ap (λ o. first_fault (causes_of_arrival config past o)) at
      ∙ quiet (crashed (view_of past frame.to)) [] (ap not live)

  -- how far a round has come, with these slots left
  pub record Going (past now : History) (before ds : List Due) : Type 0 where
    pub counted : Counted past before now
    pub ok : (d : Due) → Member d ds → DueOk config now d
    pub once : Once ds

  -- the four events for one slot
  module _ (past now : History) (before : List Due) (d : Due) (counted : Counted past before now) (ok : DueOk config now d) where
    abbrev k : ℕ
    k = length (frames past d.from) + frames_for before d.from

    abbrev l : ℕ
    l = length (frames past d.to) + frames_for before d.to

    abbrev sent : History
    sent = Send d.from d.to d.slot ∷ now

    abbrev came : History
    came = Arrive d.from k ∷ sent

    abbrev acks : History
    acks = Ack d.to d.from d.slot ∷ came

    k_is : k ≡ length (frames now d.from)
    unfolding Counted
    k_is = sym (counted d.from)

    l_is : l ≡ length (frames came d.to)
    unfolding Counted
    l_is =
        let a = ap length (frames-Arrive sent d.from k d.to) in
        let s = frames-Send now d.from d.to d.slot d.to ∙ ap (λ b. length (frames now d.to) + cond b 1 0) (ne_eqb d.from d.to ok.apart) in
        let c = counted d.to in
        omega (arith, a, s, c)

    carry_came : slice_get (frames sent d.from) k ≡ Some (carry_by now d.from d.to d.slot)
    carry_came = sent_at now d.from d.to d.slot k k_is

    took_came : slice_get (frames acks d.to) l ≡ Some (took_by came d.to d.from d.slot)
    took_came = took_at came d.to d.from d.slot l l_is

    fault_1 : fault config now (Send d.from d.to d.slot) ≡ full now d.from
    fault_1 = fault-Send now d.from d.to d.slot ok.from_in ok.to_in ok.apart ok.from_live ok.slot_in ok.open_slot

    fault_2 : fault config sent (Arrive d.from k) ≡ None
    fault_2 = fault-Arrive sent d.from k (carry_by now d.from d.to d.slot) ok.from_in carry_came (live-Send now d.from d.to d.slot d.to ∙ ok.to_live)

    fault_3 : fault config came (Ack d.to d.from d.slot) ≡ full came d.to
    fault_3 = fault-Ack came d.to d.from d.slot ok.to_in ok.from_in (λ e. ok.apart (sym e)) (live-Arrive sent d.from k d.to ∙ live-Send now d.from d.to d.slot d.to ∙ ok.to_live)
        (taken_now sent d.from k (carry_by now d.from d.to d.slot) d.from d.to d.slot carry_came refl (and_from _ _ (eq-eqb d.from d.from refl) (eq-eqb d.slot d.slot refl)))

    fault_4 : fault config acks (Arrive d.to l) ≡ None
    fault_4 = fault-Arrive acks d.to l (took_by came d.to d.from d.slot) ok.to_in took_came (live-Ack came d.to d.from d.slot d.from ∙ live-Arrive sent d.from k d.from ∙ live-Send now d.from d.to d.slot d.from ∙ ok.from_live)

    -- they acknowledge no other slot
    acked_other : (p q slot : ℕ) → acked (after_one past now before d) p q slot ≡ true → (acked now p q slot ≡ true) ⊎ ((d.from ≡ p) × (d.to ≡ q) × (d.slot ≡ slot))
    unfolding events_for
    acked_other p q slot e = elim (acked-Arrive acks d.to l (took_by came d.to d.from d.slot) p q slot took_came e) [
      | inr now_acked ↦ inr (now_acked.0, now_acked.1, eqb-true _ _ now_acked.2)
      | inl earlier ↦ (elim (acked-Arrive sent d.from k (carry_by now d.from d.to d.slot) p q slot carry_came (sym (acked-Ack came d.to d.from d.slot p q slot) ∙ earlier)) [
        | inl old ↦ inl (sym (acked-Send now d.from d.to d.slot p q slot) ∙ old)
        | inr carried ↦ absurd (false≢true carried.2)
      ])
    ]

    DueOk-kept : (x : Due) → (x ≡ d → ⊥) → DueOk config now x → DueOk config (after_one past now before d) x
    unfolding events_for
    DueOk-kept x other ok_x = record {
      from_in = ok_x.from_in;
      to_in = ok_x.to_in;
      from_live = live x.from ∙ ok_x.from_live;
      to_live = live x.to ∙ ok_x.to_live;
      apart = ok_x.apart;
      slot_in = slot_kept (Arrive d.to l) acks x.from x.to x.slot (slot_kept (Ack d.to d.from d.slot) came x.from x.to x.slot (slot_kept (Arrive d.from k) sent x.from x.to x.slot (slot_kept (Send d.from d.to d.slot) now x.from x.to x.slot ok_x.slot_in)));
      open_slot = false_from_ne_true _ (λ e. elim (acked_other x.from x.to x.slot e) [
        | inl old ↦ false≢true (sym ok_x.open_slot ∙ old)
        | inr this ↦ other (same this.0 this.1 this.2)
      ]);
    }
      where
        live : (p : ℕ) → is_live (Arrive d.to l ∷ acks) p ≡ is_live now p
        live p = live-Arrive acks d.to l p ∙ live-Ack came d.to d.from d.slot p ∙ live-Arrive sent d.from k p ∙ live-Send now d.from d.to d.slot p

        same : d.from ≡ x.from → d.to ≡ x.to → d.slot ≡ x.slot → x ≡ d
        same a b c = λ i. record { from = sym a i; to = sym b i; slot = sym c i }

  pub Going-next : (past now : History) (before : List Due) (d : Due) (ds : List Due) → Going past now before (d ∷ ds) → Going past (after_one past now before d) (before ++ d ∷ []) ds
  unfolding Once
  Going-next past now before d ds going = record {
    counted = one_counted past now before d (going.ok d here).apart going.counted;
    ok = λ x m. DueOk-kept past now before d going.counted (going.ok d here) x (λ same. going.once.0 (subst (λ y. Member y ds) same m)) (going.ok x (there m));
    once = going.once.1;
  }

  going_only_full : (past now : History) (before ds : List Due) → Going past now before ds → AcceptedUntilFull config now (plan_from past before ds)
  unfolding AcceptedUntilFull plan_from events_for
  going_only_full past now before [] going = tt
  going_only_full past now before (d ∷ ds) going =
      let ok = going.ok d here in
      let c = going.counted in
      let rest = going_only_full past (after_one past now before d) (before ++ d ∷ []) ds (Going-next past now before d ds going) in
      elim (full_cases now d.from) [
        | inr some ↦ inr (fault_1 past now before d c ok ∙ some)
        | inl none ↦ inl (
          fault_1 past now before d c ok ∙ none,
          inl (
            fault_2 past now before d c ok,
            elim (full_cases (came past now before d c ok) d.to) [
              | inr some ↦ inr (fault_3 past now before d c ok ∙ some)
              | inl none ↦ inl (fault_3 past now before d c ok ∙ none, inl (fault_4 past now before d c ok, rest))
            ],
          ),
        )
      ]

  pub Going-start : (past : History) → Going past past [] (due config past)
  unfolding Counted frames_for
  Going-start past = record { counted = λ p. omega arith; ok = due_ok config past; once = due_once config past }

  -- each event of a round is accepted, up to the first at a node whose frames are full
  pub round_only_full : (past : History) → AcceptedUntilFull config past (plan config past)
  unfolding plan
  round_only_full past = going_only_full past past [] (due config past) (Going-start past)

  -- so where those before it were accepted, an event of the plan is accepted, or the frames of its node are full
  only_full_at : (now : History) (events : List Event) → AcceptedUntilFull config now events → (front : List Event) (event : Event) (rest : List Event) → events ≡ front ++ event ∷ rest → IsAccepted config (with_all now front) →
      (fault config (with_all now front) event ≡ None) ⊎ (fault config (with_all now front) event ≡ Some FramesFull)
  unfolding AcceptedUntilFull
  only_full_at now [] only front event rest e accepted = absurd (empty front e)
    where
      empty : (front : List Event) → [] ≡ front ++ event ∷ rest → ⊥
      empty [] e = absurd (cc)
      empty (x ∷ front) e = absurd (cc)
  only_full_at now (first ∷ events) only [] event rest e accepted =
      let same : first ≡ event = cc in
      elim only [ inl fine ↦ inl (ap (fault config now) (sym same) ∙ fine.0) | inr refused ↦ inr (ap (fault config now) (sym same) ∙ refused) ]
  only_full_at now (first ∷ events) only (x ∷ front) event rest e accepted =
      let same : first ≡ x = cc in
      let behind : events ≡ front ++ event ∷ rest = cc in
      let x_fine = accepted_front (x ∷ now) front accepted in
      elim only [
        | inl fine ↦ only_full_at (x ∷ now) events (subst (λ y. AcceptedUntilFull config (y ∷ now) events) same fine.1) front event rest behind accepted
        | inr refused ↦ absurd (clash (sym (ap (fault config now) same) ∙ refused) x_fine)
      ]
    where
      clash : fault config now x ≡ Some FramesFull → IsAccepted config (x ∷ now) → ⊥
      clash refused a = let fine = accepted_fault now x a in let none : ◌≡◌ {A = Option StepFault} None (Some FramesFull) = sym fine ∙ refused in absurd (cc)

  -- each event of the plan whose turn comes is accepted, or refused as one of a node whose frames are full
  pub plan_fault : (past : History) (front : List Event) (event : Event) (rest : List Event) → plan config past ≡ front ++ event ∷ rest → IsAccepted config (with_all past front) →
      (fault config (with_all past front) event ≡ None) ⊎ (fault config (with_all past front) event ≡ Some FramesFull)
  plan_fault past front event rest e accepted = only_full_at past (plan config past) (round_only_full past) front event rest e accepted

  -- what a round in which all events are accepted comes to
  pub history_from-with_all : (now : History) (events : List Event) → IsAccepted config (with_all now events) → history_from config now events ≡ with_all now events
  unfolding history_from after
  history_from-with_all now [] accepted = refl
  history_from-with_all now (event ∷ events) accepted =
      ap (λ past. history_from config past events) (ap (λ o. after_by o now event) (accepted_fault now event (accepted_front (event ∷ now) events accepted)))
      ∙ history_from-with_all (event ∷ now) events accepted

  -- events accepted one after the other
  pub accepted_all : (now : History) (events : List Event) → IsAccepted config now → AreAccepted config now events → IsAccepted config (with_all now events)
  unfolding AreAccepted IsAccepted
  accepted_all now [] accepted all = accepted
  accepted_all now (event ∷ events) accepted all = accepted_all (event ∷ now) events (accepted, all.0) all.1

  pub all_accepted : (now : History) (events : List Event) → IsAccepted config (with_all now events) → AreAccepted config now events
  unfolding AreAccepted
  all_accepted now [] accepted = tt
  all_accepted now (event ∷ events) accepted = (accepted_fault now event (accepted_front (event ∷ now) events accepted), all_accepted (event ∷ now) events accepted)
