-- The record of a script is good, event by event.
use Rattle.std.proofs.Common.{◌≡◌, ℕ, ◌^◌, ◌<◌, ◌≤◌, ◌||◌, not, Bool, true, false, cond, nat_eq, nat_le, nat_lt, List, [], ◌∷◌, ◌++◌, append-nil, length, Option, Some, None, Ok, refl, sym, ap, subst, ◌∙◌, arith, inl, inr}
use Rattle.std.specs.Prelude.{slice_get}
use Rattle.std.specs.List.{filter}
use Rattle.std.proofs.lemmas.Bool.{not-false}
use Rattle.std.proofs.lemmas.Bool.Decides.{nat_tests}
use Rattle.cast_message.proofs.Tests.{is_below}
use Rattle.cast_message.specs.declared.config.Config.{Config}
use Rattle.cast_message.specs.declared.event.Event.{Event}
use Rattle.cast_message.specs.declared.event.Event.TheVariants.{Order, Send, Ack, Arrive, Crash}
use Rattle.cast_message.specs.declared.event.StepFault.{StepFault}
use Rattle.cast_message.specs.declared.event.StepFault.TheVariants as refusals
use Rattle.cast_message.specs.declared.message.Item.{Item}
use Rattle.cast_message.specs.declared.message.Item.TheVariants.{Data, Propose, Close}
use Rattle.cast_message.specs.declared.message.Message.{Message}
use Rattle.cast_message.specs.declared.message.Frame.{Frame}
use Rattle.cast_model.specs.History.{History, stream, is_live, frames, items_ordered, given}
use Rattle.cast_model.specs.Delivery.{concerned, concerned_by, sender_in, delivery_log, outcome}
use Rattle.cast_model.specs.Refusals.{Cause, no_node, first_fault, is_too_long}
use Rattle.cast_model.specs.Headline.{is_from, decided, decisions_in}
use Rattle.cast_model.specs.Replies.{fault, causes, causes_of_arrival, answer, reply, reply_by, after, after_by, replies, IsAccepted, target_of}
use Rattle.cast_message.specs.StepCode.{step_code}
use Rattle.cast_model.proofs.Members.{Member, here, there, Member-append, Member-slice_get, Member-when, Member-one}
use Rattle.cast_model.proofs.Accepted.{no_cause, Order-node}
use Rattle.cast_model.proofs.OwnReplies.{frame_ends}
use Rattle.cast_model.proofs.Possible.{stream_room}
use Rattle.cast_record.specs.declared.line.Line.{Line}
use Rattle.cast_record.specs.declared.line.Line.TheVariants.{Broadcast, Crashed, Refused}
use Rattle.cast_record.specs.Lines.{outcome_lines, refusal_lines, lines_for}
use Rattle.cast_record.specs.Ranges.{IsItemWithin, IsWithin}
use Rattle.cast_text.specs.Ranges.{HasItemRange, HasEventRange}
use Rattle.cast_text.proofs.SaidSoFar.{Says, broadcast_sound, crash_sound, refusal_sound}
use Rattle.cast_text.proofs.GoodLines.{goes_none, goes_one, goes_then, says_as, says_broadcast, says_crash, says_refusal}
use Rattle.cast_text.proofs.Goodness.{counts, Told, Grown, accepted_of, history_on, decided_kept, outcome_follows}

-- ---- what a refused event leaves

code_above : (refusal : StepFault) → 1 ≤ step_code refusal
code_above refusal = grind (arith, step_code)

-- the same facts after one more event that changes nothing
told_still : (config : Config) (events : List Event) (past : History) (event : Event) (xs : List Line) → after config past event ≡ past → Told config events past xs → Told config (events ++ event ∷ []) past xs
told_still config events past event xs still t = record {
  is = history_on config events past event t.is ∙ still;
  says = says_as config (stream past) (stream past) (counts config past) (counts config past) (is_live past) (is_live past) (decided (replies config events)) (decided (replies config (events ++ event ∷ []))) xs
      (λ p. refl) (λ q s. refl) (λ p. refl) (decided_kept config events past event t.is) t.says;
  within = t.within;
}

refused_grows : (config : Config) (events : List Event) (past : History) (event : Event) (xs : List Line) (index code : ℕ) → after config past event ≡ past → index < 2 ^ 64 → 1 ≤ code → Told config events past xs → Grown config past xs (refusal_lines index code)
refused_grows config events past event xs index code still fits some t = go (nat_le code 12) refl
  where
    near : (c : ℕ) → nat_le c 12 ≡ true → c ≤ 12
    near c e = grind (arith, nat_tests)

    go : (b : Bool) → nat_le code 12 ≡ b → Grown config past xs (cond b (Refused index code ∷ []) [])
    go true e =
        let sound = refusal_sound config (stream past) (counts config past) (is_live past) (decided (replies config events)) xs t.says index code in
        let on = told_still config events past event xs still t in
        record {
          events = events ++ event ∷ [];
          lines = Refused index code ∷ xs;
          goes = goes_one xs (Refused index code) (fits, some, near code e) sound;
          told = record { is = on.is; says = says_refusal config (stream past) (counts config past) (is_live past) (decided (replies config (events ++ event ∷ []))) xs index code sound on.says; within = on.within };
        }
    go false e = record { events = events ++ event ∷ []; lines = xs; goes = goes_none xs; told = told_still config events past event xs still t }

-- ---- what an accepted event leaves

-- an event that orders nothing and crashes no node
stream_same : (past : History) (event : Event) → ((p : ℕ) → items_ordered event p ≡ []) → (p : ℕ) → stream past p ≡ stream (event ∷ past) p
unfolding stream
stream_same past event none p = sym (ap (λ items. stream past p ++ items) (none p) ∙ append-nil (stream past p))

within_same : (past : History) (event : Event) → ((p : ℕ) → items_ordered event p ≡ []) → ((p : ℕ) (item : Item) → Member item (stream past p) → IsItemWithin item) → (p : ℕ) (item : Item) → Member item (stream (event ∷ past) p) → IsItemWithin item
within_same past event none h p item m = h p item (subst (Member item) (sym (stream_same past event none p)) m)

-- the facts after an accepted event that delivers nothing
told_quietly : (config : Config) (events : List Event) (past : History) (event : Event) (xs : List Line) (l' : ℕ → Bool) → after config past event ≡ event ∷ past → ((p : ℕ) → items_ordered event p ≡ [])
    → ((q s : ℕ) → counts config past q s ≡ counts config (event ∷ past) q s) → ((p : ℕ) → l' p ≡ is_live (event ∷ past) p) → Told config events past xs
    → (ys : List Line) → Says config (stream past) (counts config past) l' (decided (replies config events)) ys → Told config (events ++ event ∷ []) (event ∷ past) ys
told_quietly config events past event xs l' on none same live t ys says = record {
  is = history_on config events past event t.is ∙ on;
  says = says_as config (stream past) (stream (event ∷ past)) (counts config past) (counts config (event ∷ past)) l' (is_live (event ∷ past)) (decided (replies config events)) (decided (replies config (events ++ event ∷ []))) ys
      (stream_same past event none) same live (decided_kept config events past event t.is) says;
  within = within_same past event none t.within;
}

-- the lines of an accepted event
abbrev Leaves : Config → List Event → History → List Line → ℕ → Event → Type 0
Leaves config events past xs index event = fault config past event ≡ None → after config past event ≡ event ∷ past → Told config events past xs → Grown config (event ∷ past) xs (lines_for index event (Ok (answer config past event)))

accepted_on : (config : Config) (past : History) (event : Event) → IsAccepted config past → fault config past event ≡ None → IsAccepted config (event ∷ past)
unfolding IsAccepted
accepted_on config past event accepted e = (accepted, e)

nothing_delivered : (config : Config) (past : History) (event : Event) → concerned past event ≡ None → (q s : ℕ) → counts config past q s ≡ counts config (event ∷ past) q s
unfolding delivery_log
nothing_delivered config past event none q s = rw none (ap (λ log. length (filter (is_from s) log)) (sym (append-nil (delivery_log config past q))))

-- an accepted event of which the record says nothing
leaves_nothing : (config : Config) (events : List Event) (past : History) (event : Event) (xs : List Line) → after config past event ≡ event ∷ past → ((p : ℕ) → items_ordered event p ≡ []) → concerned past event ≡ None → ((p : ℕ) → is_live past p ≡ is_live (event ∷ past) p) → Told config events past xs → Grown config (event ∷ past) xs []
leaves_nothing config events past event xs on none quiet live t = record {
  events = events ++ event ∷ [];
  lines = xs;
  goes = goes_none xs;
  told = told_quietly config events past event xs (is_live past) on none (nothing_delivered config past event quiet) live t xs t.says;
}

send_leaves : (config : Config) (events : List Event) (past : History) (xs : List Line) (index p q slot : ℕ) → Leaves config events past xs index (Send p q slot)
unfolding answer is_live concerned
send_leaves config events past xs index p q slot e on t = leaves_nothing config events past (Send p q slot) xs on (λ r. refl) refl (λ r. refl) t

ack_leaves : (config : Config) (events : List Event) (past : History) (xs : List Line) (index p q slot : ℕ) → Leaves config events past xs index (Ack p q slot)
unfolding answer is_live concerned
ack_leaves config events past xs index p q slot e on t = leaves_nothing config events past (Ack p q slot) xs on (λ r. refl) refl (λ r. refl) t

below_from_test : (config : Config) (p : ℕ) → p < config.nodes → p < 256
below_from_test config p l = omega (arith, config.nodes_in_range)

crash_leaves : (config : Config) (events : List Event) (past : History) (xs : List Line) (index p : ℕ) → Leaves config events past xs index (Crash p)
unfolding answer is_live concerned fault causes
crash_leaves config events past xs index p e on t =
    let node = is_below p config.nodes (no_cause _ (causes config past (Crash p)) e here) in
    let up = not-false (is_live past p) (no_cause _ (causes config past (Crash p)) e (there here)) in
    let sound = crash_sound config (stream past) (counts config past) (is_live past) (decided (replies config events)) xs t.says p node up in
    record {
      events = events ++ Crash p ∷ [];
      lines = Crashed p ∷ xs;
      goes = goes_one xs (Crashed p) (below_from_test config p node) sound;
      told = told_quietly config events past (Crash p) xs (λ r. not (nat_eq p r || not (is_live past r))) on (λ r. refl) (nothing_delivered config past (Crash p) refl) (λ r. ap not (ap (λ b. nat_eq p r || b) (twice _))) t (Crashed p ∷ xs)
          (says_crash config (stream past) (counts config past) (is_live past) (decided (replies config events)) xs p sound t.says);
    }
  where
    twice : (b : Bool) → not (not b) ≡ b
    twice true = refl
    twice false = refl

item_in_range : (item : Item) → HasItemRange item → is_too_long item ≡ false → IsItemWithin item
item_in_range (Data payload) h short = (h, near (length payload) short)
  where
    near : (n : ℕ) → nat_lt 1024 n ≡ false → n ≤ 1024
    near n e = grind (arith, nat_tests)
item_in_range (Propose j w) h short = h
item_in_range Close h short = tt

reply_ok : (config : Config) (past : History) (event : Event) → fault config past event ≡ None → reply config past event ≡ Ok (answer config past event)
unfolding reply
reply_ok config past event e = ap (λ o. reply_by o (answer config past event)) e

order_leaves : (config : Config) (events : List Event) (past : History) (xs : List Line) (index p : ℕ) (item : Item) → HasItemRange item → Leaves config events past xs index (Order p item)
unfolding answer is_live concerned fault causes stream
order_leaves config events past xs index p item range e on t =
    let event = Order p item in
    let accepted = accepted_of config events past t.is in
    let node = Order-node config past p item e in
    let list = causes config past (Order p item) in
    let up = not-false (is_live past p) (no_cause _ list e (there here)) in
    let open_yet = no_cause _ list e (there (there here)) in
    let short = no_cause _ list e (there (there (there here))) in
    let once = no_cause _ list e (there (there (there (there here)))) in
    let m : Message = record { sender = p; number = length (stream past p); item = item } in
    let v = decided (replies config (events ++ event ∷ [])) in
    let before = says_as config (stream past) (stream past) (counts config past) (counts config past) (is_live past) (is_live past) (decided (replies config events)) v xs (λ q. refl) (λ q s. refl) (λ q. refl) (decided_kept config events past event t.is) t.says in
    let sound = broadcast_sound config (stream past) (counts config past) (is_live past) v xs before p item node up open_yet once in
    let item_within = item_in_range item range short in
    let within : IsWithin (Broadcast m) = (below_from_test config p node, number_fits (length (stream past p)) config.item_limit (stream_room config past accepted p).0 config.items_in_range, item_within) in
    let grown : (q : ℕ) (i : Item) → Member i (stream (event ∷ past) q) → IsItemWithin i = λ q i k. elim (Member-append i (stream past q) (items_ordered event q) k) [
      | inl old ↦ t.within q i old
      | inr new ↦ subst IsItemWithin (sym (Member-one i item (Member-when (nat_eq p q) i (item ∷ []) new).1)) item_within
    ] in
    let so : decisions_in (reply config past event) ≡ (outcome config past event).decisions = ap decisions_in (reply_ok config past event e) in
    let rest = outcome_follows config events past event p p (Broadcast m ∷ xs) t.is accepted (accepted_on config past event accepted e) (history_on config events past event t.is ∙ on) refl so node up grown
    (says_broadcast config (stream past) (counts config past) (is_live past) v xs m sound before) in
    record {
      events = events ++ event ∷ [];
      lines = rest.lines;
      goes = goes_then xs (Broadcast m ∷ []) (Broadcast m ∷ xs) (outcome_lines p (outcome config past event)) rest.lines (goes_one xs (Broadcast m) within sound) rest.goes;
      told = record { is = history_on config events past event t.is ∙ on; says = rest.says; within = grown };
    }
  where
    number_fits : (n limit : ℕ) → n ≤ limit → limit ≤ 4096 → n < 2 ^ 64
    number_fits n limit a b = omega arith

arrive_leaves : (config : Config) (events : List Event) (past : History) (xs : List Line) (index from seq : ℕ) → Leaves config events past xs index (Arrive from seq)
unfolding answer is_live concerned fault causes
arrive_leaves config events past xs index from seq e on t = by_frame (slice_get (frames past from) seq) refl
  where
    event : Event
    event = Arrive from seq

    found : (frame : Frame) → slice_get (frames past from) seq ≡ Some frame → Grown config (event ∷ past) xs (outcome_lines (target_of (slice_get (frames past from) seq)) (outcome config past event))
    found frame at =
        let accepted = accepted_of config events past t.is in
        let list : first_fault (no_node_cause ∷ causes_of_arrival config past (Some frame)) ≡ None = subst (λ o. first_fault (no_node_cause ∷ causes_of_arrival config past o) ≡ None) at e in
        let up = not-false (is_live past frame.to) (no_cause _ (no_node_cause ∷ causes_of_arrival config past (Some frame)) list (there here)) in
        let node = (frame_ends config past accepted from frame (Member-slice_get (frames past from) seq frame at)).target_in in
        let v = decided (replies config (events ++ event ∷ [])) in
        let says = says_as config (stream past) (stream (event ∷ past)) (counts config past) (counts config past) (is_live past) (is_live past) (decided (replies config events)) v xs (stream_same past event (λ q. refl)) (λ q s. refl) (λ q. refl) (decided_kept config events past event t.is) t.says in
        let grown = within_same past event (λ q. refl) t.within in
        let so : decisions_in (reply config past event) ≡ (outcome config past event).decisions = ap decisions_in (reply_ok config past event e) in
        let rest = outcome_follows config events past event frame.to (sender_in (given past frame.to frame.from) frame.body) xs t.is accepted (accepted_on config past event accepted e) (history_on config events past event t.is ∙ on) (ap (concerned_by past) at) so node up grown says in
        subst (λ o. Grown config (event ∷ past) xs (outcome_lines (target_of o) (outcome config past event))) (sym at) (record {
          events = events ++ event ∷ [];
          lines = rest.lines;
          goes = rest.goes;
          told = record { is = history_on config events past event t.is ∙ on; says = rest.says; within = grown };
        })
      where
        no_node_cause : Cause
        no_node_cause = no_node config from

    by_frame : (o : Option Frame) → slice_get (frames past from) seq ≡ o → Grown config (event ∷ past) xs (outcome_lines (target_of (slice_get (frames past from) seq)) (outcome config past event))
    by_frame None at = absurd (cc (no_cause (record { holds = true; refusal = refusals.NoFrame }) (no_node config from ∷ causes_of_arrival config past None) (subst (λ o. first_fault (no_node config from ∷ causes_of_arrival config past o) ≡ None) at e) (there here)))
    by_frame (Some frame) at = found frame at

-- any event
event_leaves : (config : Config) (events : List Event) (past : History) (xs : List Line) (index : ℕ) (event : Event) → HasEventRange event → Leaves config events past xs index event
event_leaves config events past xs index (Order p item) range = order_leaves config events past xs index p item range
event_leaves config events past xs index (Send p q slot) range = send_leaves config events past xs index p q slot
event_leaves config events past xs index (Ack p q slot) range = ack_leaves config events past xs index p q slot
event_leaves config events past xs index (Arrive from seq) range = arrive_leaves config events past xs index from seq
event_leaves config events past xs index (Crash p) range = crash_leaves config events past xs index p

pub event_grows : (config : Config) (events : List Event) (past : History) (xs : List Line) (index : ℕ) (event : Event) → HasEventRange event → index < 2 ^ 64 → Told config events past xs
    → Grown config (after config past event) xs (lines_for index event (reply config past event))
unfolding after reply
event_grows config events past xs index event range fits t = by_fault (fault config past event) refl
  where
    by_fault : (o : Option StepFault) → fault config past event ≡ o → Grown config (after_by (fault config past event) past event) xs (lines_for index event (reply_by (fault config past event) (answer config past event)))
    by_fault None e =
        subst (λ o. Grown config (after_by o past event) xs (lines_for index event (reply_by o (answer config past event)))) (sym e)
        (event_leaves config events past xs index event range e (ap (λ o. after_by o past event) e) t)
    by_fault (Some refusal) e =
        subst (λ o. Grown config (after_by o past event) xs (lines_for index event (reply_by o (answer config past event)))) (sym e)
        (refused_grows config events past event xs index (step_code refusal) (ap (λ o. after_by o past event) e) fits (code_above refusal) t)
