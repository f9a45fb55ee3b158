-- What may happen next is listed as the definitions say.
use Rattle.std.proofs.Common.{◌≡◌, ◌≢◌, ◌⊎◌, ℕ, ◌+◌, ◌<◌, ◌≤◌, refl, sym, ◌∙◌, ap, subst, Bool, true, false, not, ◌&&◌, cond, List, [], ◌∷◌, ◌++◌, length, Option, Some, None, inl, inr, arith, append_assoc}
use Rattle.std.specs.Prelude.{◌==◌, nat_le, is_some, slice_get, option_map}
use Rattle.std.specs.List.{filter, flat_map, range_with_len}
use Rattle.std.proofs.lemmas.Bool.{ne_eqb, lt-ltb, lt-leb, false≢true}
use Rattle.std.proofs.lemmas.Bool.Decides.{nat_tests}
use Rattle.std.proofs.lemmas.List.{append-nil}
use Rattle.std.proofs.lemmas.List.Concat.{flat_map-append}
use Rattle.std.proofs.lemmas.List.Elements.{filter-append}
use Rattle.cast_message.specs.Limits.{frame_limit}
use Rattle.cast_message.specs.declared.config.Config.{Config}
use Rattle.cast_message.specs.declared.event.Event.{Event}
use Rattle.cast_message.specs.declared.event.Event.TheVariants.{Send, Ack}
use Rattle.cast_message.specs.declared.event.StepFault.{StepFault}
use Rattle.cast_message.specs.declared.event.StepFault.TheVariants.{Crashed, NoSlot, Acked, NotTaken, FramesFull}
use Rattle.cast_message.specs.declared.message.Frame.{Frame}
use Rattle.cast_message.specs.declared.message.FrameBody.{FrameBody}
use Rattle.cast_message.specs.declared.message.FrameBody.TheVariants.{Carry, Took}
use Rattle.cast_model.specs.History.{History, is_live, frames, given, taken, acked}
use Rattle.cast_model.specs.Delivery.{nodes_of}
use Rattle.cast_model.specs.Refusals.{Cause, no_node, self_link, crashed, frames_full, first_fault}
use Rattle.cast_model.specs.Replies.{IsAccepted, view_of, causes, fault}
use Rattle.cast_model.specs.Rounds.{Due, Rest, due}
use Rattle.cast_model.specs.Steps.{Sent, Acknowledged}
use Rattle.cast_model.specs.OwnSteps.{sends, acknowledges}
use Rattle.cast_model.proofs.Members.{here, Member, Member-slice_get}
use Rattle.cast_model.proofs.Agreement.{node_in as node_in_group}
use Rattle.cast_model.proofs.Dues.{due_ok, Rest-from_none_due}
use Rattle.cast_model.proofs.OwnReplies.{frame_ends}
use Rattle.cast_model.proofs.Ready.{took_in_given}
use Rattle.cast_model.proofs.RoundFaults.{full, fault-Send, quiet}
use Rattle.cast_model.proofs.Sound.{sound, BodyOk}
use Rattle.cast_node.specs.Kept.{Kept}
use Rattle.cast_node.specs.Turns.{kept_fault}
use Rattle.cast_world.specs.declared.frames.Mark.{Mark}
use Rattle.cast_world.specs.Group.{State, node_at, marks_at, mark_by, mark_of, Stands}
use Rattle.cast_world.specs.Offers.{is_possible, makings, is_untaken, is_owed, is_open, brings_news, arrivals_new, enabled, HasFullNode}
use Rattle.cast_world.proofs.Faults.{by_step, marked, marked_frame}
use Rattle.cast_world.proofs.Planning.{range_more}

-- ---- the list grows

pub grown : {A : Type 0} (f : A → List Event) (test : Event → Bool) (xs : List A) (x : A) (old before now : List Event) → before ≡ old ++ filter test (flat_map f xs) → now ≡ before ++ filter test (f x) →
    now ≡ old ++ filter test (flat_map f (xs ++ x ∷ []))
grown f test xs x old before now so_far one =
    one ∙ ap (λ es. es ++ filter test (f x)) so_far ∙ append_assoc old (filter test (flat_map f xs)) (filter test (f x))
    ∙ ap (λ es. old ++ es) (sym (filter-append test (flat_map f xs) (f x)) ∙ ap (filter test) (ap (λ es. flat_map f xs ++ es) (sym (append-nil (f x))) ∙ sym (flat_map-append f xs (x ∷ []))))

-- of one number more
pub grown_to : (f : ℕ → List Event) (test : Event → Bool) (n : ℕ) (old before now : List Event) → before ≡ old ++ filter test (flat_map f (range_with_len 0 n)) → now ≡ before ++ filter test (f n) →
    now ≡ old ++ filter test (flat_map f (range_with_len 0 (n + 1)))
grown_to f test n old before now so_far one =
    grown f test (range_with_len 0 n) n old before now so_far one ∙ ap (λ xs. old ++ filter test (flat_map f xs)) (sym (range_more n))

-- where a number brings one event or none
pub grown_by : (f : ℕ → List Event) (test : Event → Bool) (n : ℕ) (old before now : List Event) (event : Event) (b : Bool) → f n ≡ cond b (event ∷ []) [] → b ≡ true → before ≡ old ++ filter test (flat_map f (range_with_len 0 n)) → now ≡ before ++ filter test (event ∷ []) →
    now ≡ old ++ filter test (flat_map f (range_with_len 0 (n + 1)))
grown_by f test n old before now event b is brings so_far one =
    grown_to f test n old before now so_far (one ∙ ap (λ es. before ++ filter test es) (sym (is ∙ ap (λ t. cond t (event ∷ []) []) brings)))

pub grown_not : (f : ℕ → List Event) (test : Event → Bool) (n : ℕ) (old before now : List Event) (event : Event) (b : Bool) → f n ≡ cond b (event ∷ []) [] → b ≡ false → before ≡ old ++ filter test (flat_map f (range_with_len 0 n)) → now ≡ before →
    now ≡ old ++ filter test (flat_map f (range_with_len 0 (n + 1)))
grown_not f test n old before now event b is brings so_far same =
    grown_to f test n old before now so_far (same ∙ sym (append-nil before) ∙ ap (λ es. before ++ filter test es) (sym (is ∙ ap (λ t. cond t (event ∷ []) []) brings)))

-- the two frames of a slot
pub made_both : (test : Event → Bool) (d : Due) (before once twice : List Event) → once ≡ before ++ filter test (Send d.from d.to d.slot ∷ []) → twice ≡ once ++ filter test (Ack d.to d.from d.slot ∷ []) → twice ≡ before ++ filter test (makings d)
made_both test d before once twice sent told =
    let send : List Event = Send d.from d.to d.slot ∷ [] in
    let ack : List Event = Ack d.to d.from d.slot ∷ [] in
    told ∙ ap (λ es. es ++ filter test ack) sent ∙ append_assoc before (filter test send) (filter test ack) ∙ ap (λ es. before ++ es) (sym (filter-append test send ack))

-- ---- what the list says

module _ (config : Config) (past : History) where
  pub listed : (n : ℕ) (events : List Event) → n ≡ config.nodes → events ≡ filter (is_possible config past) (flat_map makings (due config past)) ++ filter (is_possible config past) (flat_map (arrivals_new past) (range_with_len 0 n)) → events ≡ enabled config past
  listed n events all so_far =
      so_far
      ∙ ap (λ k. filter (is_possible config past) (flat_map makings (due config past)) ++ filter (is_possible config past) (flat_map (arrivals_new past) (range_with_len 0 k))) all
      ∙ sym (filter-append (is_possible config past) (flat_map makings (due config past)) (flat_map (arrivals_new past) (nodes_of config)))

  is_full : (p : ℕ) → not (is_some (full past p)) ≡ false → frame_limit ≤ length (frames past p)
  unfolding first_fault
  is_full p e = most frame_limit (length (frames past p)) e
    where
      most : (n k : ℕ) → not (is_some (cond (nat_le n k) (Some FramesFull) None)) ≡ false → n ≤ k
      most n k e = grind (arith, nat_tests)

  -- nothing is possible where nothing is due, or the first that owes can make no frame
  pub rest_or_full : IsAccepted config past → enabled config past ≡ [] → Rest config past ⊎ HasFullNode config past
  rest_or_full accepted none = by_due (due config past) refl
    where
      dropped : (event : Event) (more : List Event) (b : Bool) → cond b (event ∷ more) more ≡ [] → b ≡ false
      dropped event more false e = refl
      dropped event more true e = absurd cc

      by_due : (ds : List Due) → due config past ≡ ds → Rest config past ⊎ HasFullNode config past
      by_due [] e = inl (Rest-from_none_due config past e)
      by_due (d ∷ ds) e =
          let ok = due_ok config past d (subst (λ all. Member d all) (sym e) here) in
          let refused = dropped (Send d.from d.to d.slot) _ (is_possible config past (Send d.from d.to d.slot)) (sym (ap (λ all. filter (is_possible config past) (flat_map makings all ++ flat_map (arrivals_new past) (nodes_of config))) e) ∙ none) in
          inr (
            d.from,
            record { in_group = ok.from_in; alive = ok.from_live },
            is_full d.from (ap (λ found. not (is_some found)) (sym (fault-Send config past d.from d.to d.slot ok.from_in ok.to_in ok.apart ok.from_live ok.slot_in ok.open_slot)) ∙ refused),
          )

-- ---- a frame that brings something new

module _ (config : Config) (past : History) (p q : ℕ) (p_in : p < config.nodes) (q_in : q < config.nodes) (apart : q ≢ p) where
  -- causes that no frame of q for p has
  for_peer : (more : List Cause) → first_fault (no_node config q ∷ no_node config p ∷ self_link q p ∷ more) ≡ first_fault more
  for_peer more =
      quiet (no_node config q) (no_node config p ∷ self_link q p ∷ more) (ap not (lt-ltb q config.nodes q_in))
      ∙ quiet (no_node config p) (self_link q p ∷ more) (ap not (lt-ltb p config.nodes p_in))
      ∙ quiet (self_link q p) more (ne_eqb q p apart)

  untaken_by : (slot : ℕ) → is_untaken (fault config past (Ack q p slot)) ≡ (is_live past q && not (taken past p q slot))
  unfolding fault causes first_fault
  untaken_by slot = ap is_untaken (for_peer (crashed (view_of past q) ∷ record { holds = not (taken past p q slot); refusal = NotTaken } ∷ frames_full (view_of past q) ∷ [])) ∙ by_test (is_live past q) (taken past p q slot) (nat_le frame_limit (length (frames past q)))
    where
      by_test : (live took many : Bool) → is_untaken (cond (not live) (Some Crashed) (cond (not took) (Some NotTaken) (cond many (Some FramesFull) None))) ≡ (live && not took)
      by_test false took many = refl
      by_test true false many = refl
      by_test true true false = refl
      by_test true true true = refl

  owed_by : (slot : ℕ) → slot < length (given past q p) → is_owed (fault config past (Send q p slot)) ≡ (is_live past q && not (acked past q p slot))
  unfolding fault causes first_fault
  owed_by slot inside = ap is_owed (for_peer (crashed (view_of past q) ∷ record { holds = nat_le (length (given past q p)) slot; refusal = NoSlot } ∷ record { holds = acked past q p slot; refusal = Acked } ∷ frames_full (view_of past q) ∷ [])) ∙ by_test (is_live past q) (nat_le (length (given past q p)) slot) (lt-leb (length (given past q p)) slot inside) (acked past q p slot) (nat_le frame_limit (length (frames past q)))
    where
      by_test : (live out : Bool) → out ≡ false → (done many : Bool) → is_owed (cond (not live) (Some Crashed) (cond out (Some NoSlot) (cond done (Some Acked) (cond many (Some FramesFull) None)))) ≡ (live && not done)
      by_test live true e done many = absurd (false≢true (sym e))
      by_test false false e done many = refl
      by_test true false e true many = refl
      by_test true false e false true = refl
      by_test true false e false false = refl

module _ (config : Config) (past : History) (world : State) (st : Stands config past world) (from seq : ℕ) where
  pub news_none : slice_get (marks_at world from) seq ≡ None → false ≡ brings_news past from (slice_get (frames past from) seq)
  news_none none = by_frame (slice_get (frames past from) seq) (sym (marked config past world st from seq) ∙ none)
    where
      by_frame : (o : Option Frame) → option_map mark_of o ≡ None → false ≡ brings_news past from o
      by_frame None e = refl
      by_frame (Some frame) e = absurd cc

  module _ (mark : Mark) (kept : Kept) (found : Option StepFault) (there : slice_get (marks_at world from) seq ≡ Some mark) (same : kept ≡ node_at world mark.to) where
    pub news_carry : (mark.sender == 255) ≡ false → found ≡ kept_fault kept (Acknowledged from mark.slot) → is_untaken found ≡ brings_news past from (slice_get (frames past from) seq)
    news_carry carries asked = let m = marked_frame config past world st from seq mark there in by_frame m.0 m.1 m.2 m.0.body refl
      where
        by_frame : (frame : Frame) → slice_get (frames past from) seq ≡ Some frame → mark ≡ mark_of frame → (body : FrameBody) → frame.body ≡ body → is_untaken found ≡ brings_news past from (slice_get (frames past from) seq)
        by_frame frame at is (Took slot) b =
            let e : mark ≡ mark_by frame.to (Took slot) = is ∙ ap (mark_by frame.to) b in
            absurd (false≢true (sym carries ∙ ap (λ (m : Mark). m.sender == 255) e))
        by_frame frame at is (Carry slot message) b =
            let e : mark ≡ mark_by frame.to (Carry slot message) = is ∙ ap (mark_by frame.to) b in
            let ends = frame_ends config past st.accepted from frame (Member-slice_get (frames past from) seq frame at) in
            let answered : found ≡ fault config past (Ack frame.to from slot) =
            by_step config past world st (Ack frame.to from slot) (Acknowledged from slot) frame.to kept found (subst (λ n. frame.to < n) (sym st.size) ends.target_in) (same ∙ ap (λ (m : Mark). node_at world m.to) e)
            (asked ∙ ap (λ (m : Mark). kept_fault kept (Acknowledged from m.slot)) e) (acknowledges from slot) in
            ap is_untaken answered
            ∙ untaken_by config past from frame.to ends.maker_in ends.target_in (λ z. ends.apart (sym z)) slot
            ∙ sym (ap (brings_news past from) at ∙ ap (λ body. is_live past frame.to && is_open past from frame.to body) b)

    pub news_word : (mark.sender == 255) ≡ true → found ≡ kept_fault kept (Sent from mark.slot) → is_owed found ≡ brings_news past from (slice_get (frames past from) seq)
    news_word word asked = let m = marked_frame config past world st from seq mark there in by_frame m.0 m.1 m.2 m.0.body refl
      where
        by_frame : (frame : Frame) → slice_get (frames past from) seq ≡ Some frame → mark ≡ mark_of frame → (body : FrameBody) → frame.body ≡ body → is_owed found ≡ brings_news past from (slice_get (frames past from) seq)
        by_frame frame at is (Carry slot message) b =
            let e : mark ≡ mark_by frame.to (Carry slot message) = is ∙ ap (mark_by frame.to) b in
            let ok = (sound config past st.accepted).frames_ok from frame (Member-slice_get (frames past from) seq frame at) in
            let broadcast = (subst (λ body. BodyOk past from frame.to body) b ok.body_ok).broadcast in
            let inside : message.sender < config.nodes = node_in_group config past st.accepted message.sender (omega (arith, broadcast)) in
            let range = config.nodes_in_range in
            absurd (false≢true (sym (ne_eqb message.sender 255 (λ z. omega (arith, z, inside, range))) ∙ sym (ap (λ (m : Mark). m.sender == 255) e) ∙ word))
        by_frame frame at is (Took slot) b =
            let e : mark ≡ mark_by frame.to (Took slot) = is ∙ ap (mark_by frame.to) b in
            let member = Member-slice_get (frames past from) seq frame at in
            let ends = frame_ends config past st.accepted from frame member in
            let ok = (sound config past st.accepted).frames_ok from frame member in
            let given_in = took_in_given past (sound config past st.accepted) from frame.to slot (subst (λ body. BodyOk past from frame.to body) b ok.body_ok) in
            let answered : found ≡ fault config past (Send frame.to from slot) =
            by_step config past world st (Send frame.to from slot) (Sent from slot) frame.to kept found (subst (λ n. frame.to < n) (sym st.size) ends.target_in) (same ∙ ap (λ (m : Mark). node_at world m.to) e)
            (asked ∙ ap (λ (m : Mark). kept_fault kept (Sent from m.slot)) e) (sends from slot) in
            ap is_owed answered
            ∙ owed_by config past from frame.to ends.maker_in ends.target_in (λ z. ends.apart (sym z)) slot given_in
            ∙ sym (ap (brings_news past from) at ∙ ap (λ body. is_live past frame.to && is_open past from frame.to body) b)
