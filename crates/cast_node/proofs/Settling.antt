-- A slot that is settled without news is sent, taken and acknowledged as the definitions of steps say.
use Rattle.std.proofs.Common.{◌≡◌, ℕ, ◌+◌, ◌-◌, ◌<◌, suc, refl, sym, ◌∙◌, ap, true, false, not, ◌||◌, cond, List, [], ◌∷◌, ◌++◌, length, replicate, Option, Some, None, arith, append-nil}
use Rattle.std.specs.Prelude.{◌==◌, nat_lt, nat_le, is_some, unwrap_or, slice_set}
use Rattle.std.specs.Ordering.{nat_cmp}
use Rattle.std.specs.FinSet as set
use Rattle.std.specs.FinMap as finite
use Rattle.std.proofs.lemmas.Bool.{and_parts, ltb-true, lt-leb, ne_eqb, eq-eqb, false≢true}
use Rattle.std.proofs.lemmas.Bool.Decides.{nat_tests}
use Rattle.std.proofs.lemmas.List.{get_or-set_same}
use Rattle.std.specs.Cmp.{nat_cmp_total}
use Rattle.std.specs.FinSet.{contains-insert}
use Rattle.cast_message.proofs.Tests.{cmp_eq}
use Rattle.cast_message.specs.declared.message.Item.{Item}
use Rattle.cast_message.specs.declared.message.Message.{Message}
use Rattle.cast_message.specs.declared.message.Item.TheVariants.{Close}
use Rattle.cast_message.specs.declared.message.Frame.{Frame}
use Rattle.cast_message.specs.declared.event.StepFault.TheVariants.{Crashed}
use Rattle.cast_message.specs.declared.event.Answer.TheVariants.{Arrived as AnswerArrived}
use Rattle.cast_model.specs.OwnSteps.{nothing}
use Rattle.cast_model.specs.Refusals.{Cause, first_fault}
use Rattle.cast_model.specs.Steps.{Sent, Acknowledged, Arrived}
use Rattle.cast_model.proofs.Accepted.{no_cause}
use Rattle.cast_model.proofs.Members.{here, there}
use Rattle.cast_model.proofs.RoundFaults.{quiet}
use Rattle.cast_link.specs.Links.{Link, with_acknowledged}
use Rattle.cast_node.specs.Kept.{Kept, link_to, taken_from, knowers_of}
use Rattle.cast_node.specs.Turns.{Told, kept_fault, kept_causes, kept_after, message_owed, may_arrive, arrived, arrived_body, acknowledged, with_acked, with_taken, told_more, taken_up}
use Rattle.cast_node.specs.Calls.{is_peer, may_carry, carried_frame, took_frame}
use Rattle.cast_node.specs.Delivering.{Delivering, known_row, noted, told_in, outcome_in}
use Rattle.cast_node.specs.Settling.{IsQuiet, MaySettle, SettlesGiven, SettlesTaken}
use Rattle.cast_node.proofs.DeliveryTables.{told_had}

-- a row that has the place
pub known_here : (row : List (set.FinSet nat_cmp)) (i : ℕ) (members : set.FinSet nat_cmp) → i < length row → slice_set row i members ≡ known_row row i members
known_here row i members within =
    let none : suc i - length row ≡ 0 = omega (arith, within) in
    ap (λ xs. slice_set xs i members) (sym (append-nil row) ∙ ap (λ n. row ++ replicate n set.empty) (sym none))

is_there : (o : Option Message) (d : Message) → not (is_some o) ≡ false → o ≡ Some (unwrap_or o d)
is_there None d e = absurd (cc)
is_there (Some message) d e = refl

module _ (kept : Kept) (to slot s i : ℕ) (may : MaySettle kept to slot s i) where
  abbrev message : Message
  message = message_owed kept to slot

  live : not kept.live ≡ false
  unfolding kept_fault
  live = no_cause _ (kept_causes kept (Sent to slot)) may.clear (there (there here))

  pub owed : finite.get (link_to kept to).owed slot ≡ Some message
  unfolding kept_fault
  owed = is_there (finite.get (link_to kept to).owed slot) (record { sender = 0; number = 0; item = Close }) (no_cause _ (kept_causes kept (Sent to slot)) may.clear (there (there (there (there here)))))

  outside : not (nat_lt to kept.config.nodes) ≡ false
  unfolding kept_fault
  outside = no_cause _ (kept_causes kept (Sent to slot)) may.clear here

  itself : (kept.me == to) ≡ false
  unfolding kept_fault
  itself = no_cause _ (kept_causes kept (Sent to slot)) may.clear (there here)

  beyond : nat_le (link_to kept to).given slot ≡ false
  unfolding kept_fault
  beyond = no_cause _ (kept_causes kept (Sent to slot)) may.clear (there (there (there here)))

  abbrev pub sent : Kept
  sent = record kept { frames = kept.frames + 1 }

  arrives : (seq : ℕ) → may_arrive sent (took_frame kept.me to seq slot) ≡ true
  arrives seq = grind (arith, nat_tests, outside, itself, beyond)

  abbrev pub members : set.FinSet nat_cmp
  members = set.insert (knowers_of kept s i) to

  -- what is told of the pair
  pub told : (noted kept.deliveries s i members ≡ told_in kept.config kept.deliveries s i members) × (nothing ≡ outcome_in kept.config kept.deliveries s i members)
  told = told_had kept.config kept.deliveries s i members may.quiet.nothing_new may.quiet.same

  abbrev pub heard : Told
  heard = told_more (with_acked sent to slot) s i to

  hears : (seq : ℕ) → arrived sent (took_frame kept.me to seq slot) ≡ heard
  hears seq =
      ap (λ b. cond b (arrived_body sent to (took_frame kept.me to seq slot).body) (record { outcome = nothing; kept = sent })) (arrives seq)
      ∙ ap (acknowledged sent to slot) owed
      ∙ (λ k. told_more (with_acked sent to slot) (sym may.sender k) (sym may.number k) to)

  pub settles_given : (outgoing : List (Link Message)) (ds : Delivering) → outgoing ≡ slice_set kept.outgoing to (with_acknowledged (link_to kept to) slot) → ds ≡ noted kept.deliveries s i members →
      SettlesGiven kept to slot (record kept { frames = kept.frames + 1; outgoing = outgoing; deliveries = ds })
  unfolding kept_fault first_fault
  settles_given outgoing ds o d = (
    (may.clear, refl, refl),
    λ seq. (
      ap (λ b. cond b (Some Crashed) None) live,
      ap (AnswerArrived kept.me) (told.1 ∙ sym (ap (λ t. t.outcome) (hears seq))),
      (λ k. record sent { outgoing = o k; deliveries = (d ∙ told.0) k }) ∙ sym (ap (λ t. t.kept) (hears seq)),
    ),
  )

-- none of five causes holds
no_fault : (a b c d e : Cause) → a.holds ≡ false → b.holds ≡ false → c.holds ≡ false → d.holds ≡ false → e.holds ≡ false → first_fault (a ∷ b ∷ c ∷ d ∷ e ∷ []) ≡ None
unfolding first_fault
no_fault a b c d e ha hb hc hd he =
    quiet a (b ∷ c ∷ d ∷ e ∷ []) ha ∙ quiet b (c ∷ d ∷ e ∷ []) hb ∙ quiet c (d ∷ e ∷ []) hc ∙ quiet d (e ∷ []) hd ∙ quiet e [] he

-- a slot that a node takes of a peer, with a message that it holds and that is quiet
module _ (kept : Kept) (from slot s i : ℕ) (peer : is_peer kept from ≡ true) (may : may_carry kept slot s i ≡ true) (silent : IsQuiet kept.deliveries s i) where
  abbrev pub holders : set.FinSet nat_cmp
  holders = set.insert (knowers_of kept s i) from

  -- what is told of the pair
  pub told_again : (noted kept.deliveries s i holders ≡ told_in kept.config kept.deliveries s i holders) × (nothing ≡ outcome_in kept.config kept.deliveries s i holders)
  told_again = told_had kept.config kept.deliveries s i holders silent.nothing_new silent.same

  abbrev taken : Told
  taken = told_more (with_taken kept from slot) s i from

  module _ (seq : ℕ) (item : Item) where
    abbrev frame : Frame
    frame = carried_frame kept.me from seq slot s i item

    arrives_again : may_arrive kept frame ≡ true
    arrives_again = grind (arith, nat_tests, peer, may)

    taken_is : arrived kept frame ≡ taken
    taken_is =
        ap (λ b. cond b (arrived_body kept from frame.body) (record { outcome = nothing; kept = kept })) arrives_again
        ∙ ap (λ b. cond b (told_more (with_taken kept from slot) s i from) (taken_up (with_taken kept from slot) (record { sender = s; number = i; item = item }) from)) silent.held

    acknowledges : not kept.live ≡ false → length kept.incoming ≡ kept.config.nodes → kept.frames < 1048576 → kept_fault (kept_after kept (Arrived frame)) (Acknowledged from slot) ≡ None
    unfolding kept_fault
    acknowledges live rows few =
        let parts = and_parts (nat_lt from kept.config.nodes) _ peer in
        let inside = ltb-true from kept.config.nodes parts.0 in
        ap (λ t. kept_fault t.kept (Acknowledged from slot)) taken_is
        ∙ no_fault _ _ _ _ _ (ap not parts.0)
        (ne_eqb kept.me from (λ e. false≢true (sym (ap not (eq-eqb from kept.me (sym e))) ∙ parts.1)))
        live
        (ap not (ap (λ slots. set.contains slots slot) (get_or-set_same kept.incoming from (set.insert (taken_from kept from) slot) set.empty (omega (arith, inside, rows))) ∙ contains-insert nat_cmp_total (taken_from kept from) slot slot ∙ ap (λ b. b || set.contains (taken_from kept from) slot) (cmp_eq slot slot ∙ eq-eqb slot slot refl)))
        (lt-leb 1048576 kept.frames few)

  pub settles_taken : not kept.live ≡ false → length kept.incoming ≡ kept.config.nodes → kept.frames < 1048576 → (incoming : List (set.FinSet nat_cmp)) (ds : Delivering) →
      incoming ≡ slice_set kept.incoming from (set.insert (taken_from kept from) slot) → ds ≡ noted kept.deliveries s i holders → SettlesTaken kept from slot s i (record kept { frames = kept.frames + 1; incoming = incoming; deliveries = ds })
  unfolding kept_fault first_fault
  settles_taken live rows few incoming ds taken_so noted_so = λ seq item. (
    (ap (λ b. cond b (Some Crashed) None) live, ap (AnswerArrived kept.me) (told_again.1 ∙ sym (ap (λ t. t.outcome) (taken_is seq item))), refl),
    (
      acknowledges seq item live rows few,
      refl,
      (λ k. record kept { frames = kept.frames + 1; incoming = taken_so k; deliveries = (noted_so ∙ told_again.0) k }) ∙ ap (λ t. record t.kept { frames = t.kept.frames + 1 }) (sym (taken_is seq item)),
    ),
  )
