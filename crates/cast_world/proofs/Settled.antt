-- Slots that are settled without news are settled as the definitions say, event by event.
use Rattle.std.proofs.Common.{◌≡◌, ◌≢◌, ℕ, zero, suc, ◌+◌, ◌-◌, ◌<◌, ◌≤◌, refl, sym, ◌∙◌, ap, subst, cond, List, [], ◌∷◌, ◌++◌, length, map, take, drop, get_or, Some, arith, Ok, append_assoc}
use Rattle.std.specs.Prelude.{slice_get, slice_set, slice_index_or}
use Rattle.std.specs.List.{range_with_len}
use Rattle.std.proofs.lemmas.Bool.{ne_eqb}
use Rattle.std.proofs.lemmas.List.{set-set, set_comm, set-append_left, set-append_right, take-append-drop, length-take-le, get_or-set_same, set-get_or, get_or-map, map-set, take-append-le, length-map}
use Rattle.cast_message.specs.declared.config.Config.{Config}
use Rattle.cast_message.specs.declared.event.Event.TheVariants.{Send, Ack, Arrive}
use Rattle.cast_message.specs.declared.event.Answer.TheVariants.{Sent as AnswerSent}
use Rattle.cast_message.specs.declared.message.Frame.{Frame}
use Rattle.cast_message.specs.declared.message.FrameBody.TheVariants.{Carry, Took}
use Rattle.cast_model.specs.History.{History}
use Rattle.cast_model.specs.Rounds.{Due}
use Rattle.cast_model.specs.Steps.{Sent, Acknowledged, Arrived}
use Rattle.cast_node.specs.Kept.{Kept, nothing_kept}
use Rattle.cast_node.specs.Turns.{Gives, kept_after, message_owed, carry_of, took_of}
use Rattle.cast_node.specs.Calls.{carried_frame, took_frame, silent_reply}
use Rattle.cast_node.specs.Settling.{MaySettle, SettlesGiven, SettlesTaken}
use Rattle.cast_node.proofs.Links.{range-more}
use Rattle.cast_node.proofs.Parts.{slice_back}
use Rattle.cast_node.proofs.Places.{at_set, length-slice_set}
use Rattle.cast_world.specs.declared.frames.Mark.{Mark}
use Rattle.cast_world.specs.Group.{State, Stands, StandingFor, node_at, marks_at, mark_of, item_in, frame_by}
use Rattle.cast_world.specs.Moves.{StepsTo, ArrivesBy, IsSound}
use Rattle.cast_world.specs.Plans.{due_of, events_from}
use Rattle.cast_world.specs.Rounds.{TakesSilently}
use Rattle.cast_world.specs.Settled.{Ends, ends, ends_at, with_ends, SettlesSlot, SettlesSlots, SettlesBetween, SettlesSilently, SettlesFront}
use Rattle.cast_world.proofs.Sounding.{stepped, sound_after, sound_made}
use Rattle.cast_world.proofs.Steps.{made_silently, arrived_silently}

-- ---- two places of a list

-- a list cut at one place, with that place and an earlier one changed
pub cut_set : {A : Type 0} (xs : List A) (i k : ℕ) (x y : A) → i < k → k < length xs → slice_set (take k xs) i x ++ slice_set (drop k xs) 0 y ≡ slice_set (slice_set xs i x) k y
cut_set xs i k x y before within =
    let long : length (take k xs) ≡ k = length-take-le k xs (omega (arith, within)) in
    sym (
    ap (λ l. slice_set (slice_set l i x) k y) (sym (take-append-drop k xs))
    ∙ ap (λ l. slice_set l k y) (set-append_left (take k xs) (drop k xs) i x (omega (arith, long, before)))
    ∙ set-append_right (slice_set (take k xs) i x) (drop k xs) k k y (length-slice_set (take k xs) i x ∙ long) (omega arith)
    ∙ ap (λ n. slice_set (take k xs) i x ++ slice_set (drop k xs) n y) (let e : k - k ≡ 0 = omega arith in e)
    )

-- ---- slots

-- what the two nodes of a link and the marks that the code keeps say of a slot
pub slot_settles : (giver taker giver' taker' : Kept) (carried room carried' told more told' : List Mark) (from to slot s i : ℕ) → from ≡ giver.me → to ≡ taker.me → MaySettle giver to slot s i → SettlesTaken taker from slot s i taker' → s < 64 → SettlesGiven giver to slot giver' →
    room ≡ carried → more ≡ told → carried' ≡ room ++ (record { slot = slot; number = i; to = to; sender = s }) ∷ [] → told' ≡ more ++ (record { slot = slot; number = 0; to = from; sender = 255 }) ∷ [] → SettlesSlot (ends giver taker carried told) slot (ends giver' taker' carried' told')
slot_settles giver taker giver' taker' carried room carried' told more told' from to slot s i from_is to_is may takes small gives r m c t =
    let sender = may.sender ∙ ap (λ y. (message_owed giver y slot).sender) to_is in
    let number = may.number ∙ ap (λ y. (message_owed giver y slot).number) to_is in
    record {
      given = subst (λ y. SettlesGiven giver y slot giver') to_is gives;
      taken = subst (λ x. SettlesTaken taker x slot (message_owed giver taker.me slot).sender (message_owed giver taker.me slot).number taker') from_is
          (subst (λ s. SettlesTaken taker from slot s (message_owed giver taker.me slot).number taker') sender
          (subst (λ i. SettlesTaken taker from slot s i taker') number takes));
      sender = subst (λ s. s < 64) sender small;
      carried = c ∙ (λ k. r k ++ (record { slot = slot; number = number k; to = to_is k; sender = sender k }) ∷ []);
      told = t ∙ (λ k. m k ++ (record { slot = slot; number = 0; to = from_is k; sender = 255 }) ∷ []);
    }

-- one more slot
pub settles_more : (old : Ends) (slots : List ℕ) (slot : ℕ) (mid new : Ends) → SettlesSlots old slots mid → SettlesSlot mid slot new → SettlesSlots old (slots ++ slot ∷ []) new
unfolding SettlesSlots
settles_more old [] slot mid new so_far one = (new, subst (λ e. SettlesSlot e slot new) so_far one, refl)
settles_more old (first ∷ slots) slot mid new so_far one = (so_far.0, so_far.1, settles_more so_far.0 slots slot mid new so_far.2 one)

pub settles_none : (old : Ends) → SettlesSlots old [] old
unfolding SettlesSlots
settles_none old = refl

pub range_next : (first n m : ℕ) → m ≡ n + 1 → range_with_len first m ≡ range_with_len first n ++ (first + n) ∷ []
range_next first n m e = ap (range_with_len first) e ∙ range-more n first

pub settles_same : (old : Ends) (first n m : ℕ) (new : Ends) → n ≡ m → SettlesSlots old (range_with_len first n) new → SettlesSlots old (range_with_len first m) new
settles_same old first n m new e = subst (λ k. SettlesSlots old (range_with_len first k) new) e

pub settles_next : (old : Ends) (first slot : ℕ) (mid new : Ends) → first ≤ slot → SettlesSlots old (range_with_len first (slot - first)) mid → SettlesSlot mid slot new → SettlesSlots old (range_with_len first (slot + 1 - first)) new
settles_next old first slot mid new later so_far one =
    subst (λ slots. SettlesSlots old slots new) (sym (range_next first (slot - first) (slot + 1 - first) (omega (arith, later)) ∙ ap (λ s. range_with_len first (slot - first) ++ s ∷ []) (let e : first + (slot - first) ≡ slot = omega (arith, later) in e)))
    (settles_more old (range_with_len first (slot - first)) slot mid new so_far one)

last_found : (row : List Mark) (mark : Mark) → slice_get (row ++ mark ∷ []) (length row) ≡ Some mark
last_found [] mark = refl
last_found (x ∷ row) mark = last_found row mark

-- ---- one slot in a world

module _ (w : State) (sound : IsSound w) (p q slot : ℕ) (p_in : p < length w.nodes) (q_in : q < length w.nodes) (apart : p ≢ q) (e : Ends) (s : SettlesSlot (ends_at w p q) slot e) where
  abbrev giver : Kept
  giver = node_at w p

  abbrev taker : Kept
  taker = node_at w q

  me_p : giver.me ≡ p
  me_p = sound.places p (subst (λ n. p < n) sound.size p_in)

  me_q : taker.me ≡ q
  me_q = sound.places q (subst (λ n. q < n) sound.size q_in)

  given : SettlesGiven giver q slot e.giver
  given = subst (λ y. SettlesGiven giver y slot e.giver) me_q s.given

  abbrev sender : ℕ
  sender = (message_owed giver q slot).sender

  abbrev number : ℕ
  number = (message_owed giver q slot).number

  taken : SettlesTaken taker p slot sender number e.taker
  taken = subst (λ x. SettlesTaken taker x slot sender number e.taker) me_p
      (subst (λ y. SettlesTaken taker giver.me slot (message_owed giver y slot).sender (message_owed giver y slot).number e.taker) me_q s.taken)

  small : sender < 64
  small = subst (λ y. (message_owed giver y slot).sender < 64) me_q s.sender

  abbrev first_mark : Mark
  first_mark = mark_of (carry_of giver q slot)

  abbrev second_mark : Mark
  second_mark = mark_of (took_of taker p slot)

  carried : e.carried ≡ marks_at w p ++ first_mark ∷ []
  carried = subst (λ y. e.carried ≡ marks_at w p ++ mark_of (carry_of giver y slot) ∷ []) me_q s.carried

  told : e.told ≡ marks_at w q ++ second_mark ∷ []
  told = subst (λ x. e.told ≡ marks_at w q ++ mark_of (took_of taker x slot) ∷ []) me_p s.told

  -- the worlds after the slot is sent, taken, acknowledged, and after that arrives
  abbrev sent : Kept
  sent = kept_after giver (Sent q slot)

  abbrev w1 : State
  w1 = record { config = w.config; nodes = slice_set w.nodes p sent; marks = slice_set w.marks p (marks_at w p ++ first_mark ∷ []) }

  abbrev carry : ℕ
  carry = length (marks_at w p)

  abbrev frame : Frame
  frame = carried_frame taker.me p carry slot sender number (item_in w.config w1.nodes sender number)

  abbrev took : Kept
  took = kept_after taker (Arrived frame)

  abbrev w2 : State
  w2 = record { config = w.config; nodes = slice_set w1.nodes q took; marks = w1.marks }

  abbrev w3 : State
  w3 = record { config = w.config; nodes = slice_set w2.nodes q e.taker; marks = slice_set w1.marks q (marks_at w1 q ++ second_mark ∷ []) }

  abbrev w4 : State
  w4 = record { config = w.config; nodes = slice_set w3.nodes p e.giver; marks = w3.marks }

  p_out : p ≢ q → (q ≡ p → ⊥)
  p_out a z = a (sym z)

  p_row : p < length w.marks
  p_row = let a = sound.size in let b = sound.rows in omega (arith, p_in, a, b)

  q_row : q < length w1.marks
  q_row = let a = sound.size in let b = sound.rows in let c = length-slice_set w.marks p (marks_at w p ++ first_mark ∷ []) in omega (arith, q_in, a, b, c)

  q_in1 : q < length w1.nodes
  q_in1 = subst (λ n. q < n) (sym (length-slice_set w.nodes p sent)) q_in

  q_in2 : q < length w2.nodes
  q_in2 = subst (λ n. q < n) (sym (length-slice_set w1.nodes q took)) q_in1

  p_in3 : p < length w3.nodes
  p_in3 = subst (λ n. p < n) (sym (length-slice_set w2.nodes q e.taker ∙ length-slice_set w1.nodes q took ∙ length-slice_set w.nodes p sent)) p_in

  taker1 : node_at w1 q ≡ taker
  taker1 = at_set w.nodes p q sent (nothing_kept w.config 0) p_in ∙ ap (λ b. cond b sent taker) (ne_eqb q p (p_out apart))

  row1 : marks_at w1 q ≡ marks_at w q
  row1 = at_set w.marks p q (marks_at w p ++ first_mark ∷ []) [] p_row ∙ ap (λ b. cond b (marks_at w p ++ first_mark ∷ []) (marks_at w q)) (ne_eqb q p (p_out apart))

  taker2 : node_at w2 q ≡ took
  taker2 = get_or-set_same w1.nodes q took (nothing_kept w.config 0) q_in1

  giver3 : node_at w3 p ≡ sent
  giver3 =
      at_set w2.nodes q p e.taker (nothing_kept w.config 0) q_in2 ∙ ap (λ b. cond b e.taker (node_at w2 p)) (ne_eqb p q apart)
      ∙ at_set w1.nodes q p took (nothing_kept w.config 0) q_in1 ∙ ap (λ b. cond b took (node_at w1 p)) (ne_eqb p q apart)
      ∙ get_or-set_same w.nodes p sent (nothing_kept w.config 0) p_in

  takes1 : StepsTo w (Send p q slot) (Ok (AnswerSent giver.frames)) w1
  takes1 = stepped w p (Sent q slot) (first_mark ∷ []) (Ok (AnswerSent giver.frames)) sent w1.marks p_in refl tt given.0

  found1 : slice_get (marks_at w1 p) carry ≡ Some first_mark
  found1 = ap (λ row. slice_get row carry) (get_or-set_same w.marks p (marks_at w p ++ first_mark ∷ []) [] p_row) ∙ last_found (marks_at w p) first_mark

  frame_is : frame ≡ frame_by w1 p carry first_mark
  frame_is = λ k. record {
    from = p;
    seq = carry;
    to = me_q k;
    body = cond (sym (ne_eqb sender 255 (λ z. omega (arith, z, small))) k) (Took slot) (Carry slot (record { sender = sender; number = number; item = item_in w.config w1.nodes sender number }));
  }

  gives2 : Gives (node_at w1 q) (Arrived (frame_by w1 p carry first_mark)) (silent_reply q) took
  gives2 =
      subst (λ k. Gives k (Arrived (frame_by w1 p carry first_mark)) (silent_reply q) took) (sym taker1)
      (subst (λ f. Gives taker (Arrived f) (silent_reply q) took) frame_is
      (subst (λ y. Gives taker (Arrived frame) (silent_reply y) took) me_q (taken carry (item_in w.config w1.nodes sender number)).0))

  takes2 : StepsTo w1 (Arrive p carry) (silent_reply q) w2
  takes2 = subst (λ o. ArrivesBy w1 p carry o (silent_reply q) w2) (sym found1)
      (stepped w1 q (Arrived (frame_by w1 p carry first_mark)) [] (silent_reply q) took w1.marks q_in1 refl tt gives2)

  gives3 : Gives (node_at w2 q) (Acknowledged p slot) (Ok (AnswerSent took.frames)) e.taker
  gives3 = subst (λ k. Gives k (Acknowledged p slot) (Ok (AnswerSent took.frames)) e.taker) (sym taker2) (taken carry (item_in w.config w1.nodes sender number)).1

  takes3 : StepsTo w2 (Ack q p slot) (Ok (AnswerSent took.frames)) w3
  takes3 = stepped w2 q (Acknowledged p slot) (second_mark ∷ []) (Ok (AnswerSent took.frames)) e.taker w3.marks q_in2 refl tt gives3

  abbrev word : ℕ
  word = length (marks_at w q)

  found3 : slice_get (marks_at w3 q) word ≡ Some second_mark
  found3 =
      ap (λ row. slice_get row word) (get_or-set_same w1.marks q (marks_at w1 q ++ second_mark ∷ []) [] q_row ∙ ap (λ row. row ++ second_mark ∷ []) row1)
      ∙ last_found (marks_at w q) second_mark

  gives4 : Gives (node_at w3 p) (Arrived (took_frame p q word slot)) (silent_reply p) e.giver
  gives4 =
      subst (λ k. Gives k (Arrived (took_frame p q word slot)) (silent_reply p) e.giver) (sym giver3)
      (subst (λ x. Gives sent (Arrived (took_frame x q word slot)) (silent_reply x) e.giver) me_p (given.1 word))

  takes4 : StepsTo w3 (Arrive q word) (silent_reply p) w4
  takes4 = subst (λ o. ArrivesBy w3 q word o (silent_reply p) w4) (sym found3)
      (stepped w3 p (Arrived (took_frame p q word slot)) [] (silent_reply p) e.giver w3.marks p_in3 refl tt gives4)

  same : w4 ≡ with_ends w p q e
  same = λ k. record {
    config = w.config;
    nodes = (
        ap (λ l. slice_set l p e.giver) (set-set w1.nodes q took e.taker)
        ∙ set_comm w1.nodes q p e.taker e.giver (p_out apart)
        ∙ ap (λ l. slice_set l q e.taker) (set-set w.nodes p sent e.giver)
        ) k;
    marks = slice_set (slice_set w.marks p (sym carried k)) q ((ap (λ row. row ++ second_mark ∷ []) row1 ∙ sym told) k);
  }

  takes_slot : (config : Config) (past : History) → Stands config past w → TakesSilently config past (events_from w (due_of p q slot)) w4
  unfolding TakesSilently
  takes_slot config past st =
      let one = made_silently config past w st (Send p q slot) w1 (Ok giver.frames) takes1 refl in
      let two = arrived_silently config (Send p q slot ∷ past) w1 one.1 (Arrive p carry) w2 (Some q) takes2 refl in
      let three = made_silently config (Arrive p carry ∷ Send p q slot ∷ past) w2 two.1 (Ack q p slot) w3 (Ok took.frames) takes3 refl in
      let four = arrived_silently config (Ack q p slot ∷ Arrive p carry ∷ Send p q slot ∷ past) w3 three.1 (Arrive q word) w4 (Some p) takes4 refl in
      (one.0, (two.0, (three.0, four)))

  pub slot_taken : StandingFor w (λ config past. TakesSilently config past (events_from w (due_of p q slot)) (with_ends w p q e))
  slot_taken config past st = subst (TakesSilently config past (events_from w (due_of p q slot))) same (takes_slot config past st)

  pub slot_sound : IsSound (with_ends w p q e)
  slot_sound =
      let in_group : (x : ℕ) → x < length w.nodes → x < w.config.nodes = λ x l. subst (λ n. x < n) sound.size l in
      let s1 = sound_made w sound p p_in (Sent q slot) (Ok (AnswerSent giver.frames)) sent given.0 first_mark (in_group q q_in) in
      let s2 = sound_after w1 s1 q q_in1 (Arrived (frame_by w1 p carry first_mark)) (silent_reply q) took gives2 in
      let s3 = sound_made w2 s2 q q_in2 (Acknowledged p slot) (Ok (AnswerSent took.frames)) e.taker gives3 second_mark (in_group p p_in) in
      subst IsSound same (sound_after w3 s3 p p_in3 (Arrived (took_frame p q word slot)) (silent_reply p) e.giver gives4)

  -- the ends, as they are then
  pub ends_again : ends_at (with_ends w p q e) p q ≡ e
  ends_again = λ k. record {
    giver = (at_set (slice_set w.nodes p e.giver) q p e.taker (nothing_kept w.config 0) (subst (λ n. q < n) (sym (length-slice_set w.nodes p e.giver)) q_in) ∙ ap (λ b. cond b e.taker (slice_index_or (slice_set w.nodes p e.giver) p (nothing_kept w.config 0))) (ne_eqb p q apart) ∙ get_or-set_same w.nodes p e.giver (nothing_kept w.config 0) p_in) k;
    taker = get_or-set_same (slice_set w.nodes p e.giver) q e.taker (nothing_kept w.config 0) (subst (λ n. q < n) (sym (length-slice_set w.nodes p e.giver)) q_in) k;
    carried = (at_set (slice_set w.marks p e.carried) q p e.told [] (q_rows e.carried) ∙ ap (λ b. cond b e.told (slice_index_or (slice_set w.marks p e.carried) p [])) (ne_eqb p q apart) ∙ get_or-set_same w.marks p e.carried [] p_row) k;
    told = get_or-set_same (slice_set w.marks p e.carried) q e.told [] (q_rows e.carried) k;
  }
    where
      q_rows : (row : List Mark) → q < length (slice_set w.marks p row)
      q_rows row = let a = sound.size in let b = sound.rows in let c = length-slice_set w.marks p row in omega (arith, q_in, a, b, c)

-- ---- several

module _ (p q : ℕ) (apart : p ≢ q) where
  ends_twice : (w : State) (a b : Ends) → with_ends (with_ends w p q a) p q b ≡ with_ends w p q b
  ends_twice w a b = λ k. record {
    config = w.config;
    nodes = twice w.nodes a.giver b.giver a.taker b.taker k;
    marks = twice w.marks a.carried b.carried a.told b.told k;
  }
    where
      twice : {X : Type 0} (l : List X) (x x' y y' : X) → slice_set (slice_set (slice_set (slice_set l p x) q y) p x') q y' ≡ slice_set (slice_set l p x') q y'
      twice l x x' y y' =
          ap (λ l. slice_set l q y') (set_comm (slice_set l p x) q p y x' (λ z. apart (sym z)) ∙ ap (λ l. slice_set l q y) (set-set l p x x'))
          ∙ set-set (slice_set l p x') q y y'

  pub slots_settled : (w : State) → IsSound w → p < length w.nodes → q < length w.nodes → (slots : List ℕ) (e : Ends) → SettlesSlots (ends_at w p q) slots e →
      SettlesSilently w (map (due_of p q) slots) (with_ends w p q e) × IsSound (with_ends w p q e)
  unfolding SettlesSlots SettlesSilently
  slots_settled w sound p_in q_in [] e is =
      let itself : with_ends w p q e ≡ w = ap (with_ends w p q) is ∙ (λ k. record {
        config = w.config;
        nodes = unchanged w.nodes (nothing_kept w.config 0) k;
        marks = unchanged w.marks [] k;
      }) in
      (itself, subst IsSound (sym itself) sound)
    where
      unchanged : {X : Type 0} (l : List X) (d : X) → slice_set (slice_set l p (slice_index_or l p d)) q (slice_index_or l q d) ≡ l
      unchanged l d = ap (λ l'. slice_set l' q (slice_index_or l q d)) (set-get_or l p d) ∙ set-get_or l q d
  slots_settled w sound p_in q_in (slot ∷ slots) e more =
      let next = more.0 in
      let w' = with_ends w p q next in
      let long : length w'.nodes ≡ length w.nodes = length-slice_set (slice_set w.nodes p next.giver) q next.taker ∙ length-slice_set w.nodes p next.giver in
      let rest = slots_settled w' (slot_sound w sound p q slot p_in q_in apart next more.1) (subst (λ n. p < n) (sym long) p_in) (subst (λ n. q < n) (sym long) q_in) slots e
      (subst (λ x. SettlesSlots x slots e) (sym (ends_again w sound p q slot p_in q_in apart next more.1)) more.2) in
      let twice = ends_twice w next e in
      ((w', slot_taken w sound p q slot p_in q_in apart next more.1, subst (SettlesSilently w' (map (due_of p q) slots)) twice rest.0), subst IsSound twice rest.1)

-- ---- the code's lists

at_front : {A : Type 0} (xs : List A) (i k : ℕ) (x d : A) → i < k → k ≤ length xs → x ≡ get_or (take k xs) i x → x ≡ slice_index_or xs i d
at_front xs i zero x d before within is = absurd (omega (arith, before))
at_front [] i (suc k) x d before within is = absurd (omega (arith, within))
at_front (y ∷ xs) zero (suc k) x d before within is = is
at_front (y ∷ xs) (suc i) (suc k) x d before within is = at_front xs i k x d (omega (arith, before)) (omega (arith, within)) is

at_back : {A : Type 0} (xs : List A) (k : ℕ) (x d : A) → k < length xs → x ≡ get_or (drop k xs) 0 x → x ≡ slice_index_or xs k d
at_back [] k x d within is = absurd (omega (arith, within))
at_back (y ∷ xs) zero x d within is = is
at_back (y ∷ xs) (suc k) x d within is = at_back xs k x d (omega (arith, within)) is

module _ {R : Type 0} (items : R → List Mark) (config : Config) (nodes : List Kept) (rows : List R) (p q : ℕ) (slots : List ℕ) (g t g' t' : Kept) (c d c' d' : R) (settles : SettlesSlots (ends g t (items c) (items d)) slots (ends g' t' (items c') (items d'))) where
  abbrev old : State
  old = record { config = config; nodes = nodes; marks = map items rows }

  found : p < length rows → q < length rows → g ≡ node_at old p → t ≡ node_at old q → c ≡ slice_index_or rows p c → d ≡ slice_index_or rows q d → ends g t (items c) (items d) ≡ ends_at old p q
  found p_row q_row one two three four = λ k. record {
    giver = one k;
    taker = two k;
    carried = (ap items three ∙ sym (get_or-map items rows p c [] p_row)) k;
    told = (ap items four ∙ sym (get_or-map items rows q d [] q_row)) k;
  }

  written : map items (slice_set (slice_set rows p c') q d') ≡ slice_set (slice_set (map items rows) p (items c')) q (items d')
  written = map-set items (slice_set rows p c') q d' ∙ ap (λ l. slice_set l q (items d')) (map-set items rows p c')

  -- the lists cut in two, as they are found
  module _ (front back : List Kept) (front_rows back_rows : List R) where
    -- the giver's place is before the taker's
    pub settled_before : front ≡ take q nodes → back ≡ drop q nodes → front_rows ≡ take q rows → back_rows ≡ drop q rows → p < q → q < length nodes → q < length rows →
        g ≡ get_or front p g → t ≡ get_or back 0 t → c ≡ get_or front_rows p c → d ≡ get_or back_rows 0 d →
        SettlesBetween old p q slots (record { config = config; nodes = slice_set front p g' ++ slice_set back 0 t'; marks = map items (slice_set front_rows p c' ++ slice_set back_rows 0 d') })
    settled_before f b fr br before q_in q_row one two three four = record {
      after = ends g' t' (items c') (items d');
      settles = subst (λ e. SettlesSlots e slots (ends g' t' (items c') (items d'))) (found (omega (arith, before, q_row)) q_row
          (at_front nodes p q g (nothing_kept config 0) before (omega (arith, q_in)) (one ∙ ap (λ l. get_or l p g) f)) (at_back nodes q t (nothing_kept config 0) q_in (two ∙ ap (λ l. get_or l 0 t) b))
          (at_front rows p q c c before (omega (arith, q_row)) (three ∙ ap (λ l. get_or l p c) fr)) (at_back rows q d d q_row (four ∙ ap (λ l. get_or l 0 d) br))) settles;
      moves = λ k. record {
        config = config;
        nodes = ((λ i. slice_set (f i) p g' ++ slice_set (b i) 0 t') ∙ cut_set nodes p q g' t' before q_in) k;
        marks = ((λ i. map items (slice_set (fr i) p c' ++ slice_set (br i) 0 d')) ∙ ap (map items) (cut_set rows p q c' d' before q_row) ∙ written) k;
      };
    }

    -- or after it
    pub settled_after : front ≡ take p nodes → back ≡ drop p nodes → front_rows ≡ take p rows → back_rows ≡ drop p rows → q < p → p < length nodes → p < length rows →
        g ≡ get_or back 0 g → t ≡ get_or front q t → c ≡ get_or back_rows 0 c → d ≡ get_or front_rows q d →
        SettlesBetween old p q slots (record { config = config; nodes = slice_set front q t' ++ slice_set back 0 g'; marks = map items (slice_set front_rows q d' ++ slice_set back_rows 0 c') })
    settled_after f b fr br before p_in p_row one two three four = record {
      after = ends g' t' (items c') (items d');
      settles = subst (λ e. SettlesSlots e slots (ends g' t' (items c') (items d'))) (found p_row (omega (arith, before, p_row))
          (at_back nodes p g (nothing_kept config 0) p_in (one ∙ ap (λ l. get_or l 0 g) b)) (at_front nodes q p t (nothing_kept config 0) before (omega (arith, p_in)) (two ∙ ap (λ l. get_or l q t) f))
          (at_back rows p c c p_row (three ∙ ap (λ l. get_or l 0 c) br)) (at_front rows q p d d before (omega (arith, p_row)) (four ∙ ap (λ l. get_or l q d) fr))) settles;
      moves = λ k. record {
        config = config;
        nodes = ((λ i. slice_set (f i) q t' ++ slice_set (b i) 0 g') ∙ cut_set nodes q p t' g' before p_in ∙ set_comm nodes q p t' g' (λ z. omega (arith, z, before))) k;
        marks = ((λ i. map items (slice_set (fr i) q d' ++ slice_set (br i) 0 c')) ∙ ap (map items) (cut_set rows q p d' c' before p_row ∙ set_comm rows q p d' c' (λ z. omega (arith, z, before))) ∙ written) k;
      };
    }

pub silently_none : (w : State) → SettlesSilently w [] w
unfolding SettlesSilently
silently_none w = refl

silently_append : (a b c : State) (xs ys : List Due) → SettlesSilently a xs b → SettlesSilently b ys c → SettlesSilently a (xs ++ ys) c
unfolding SettlesSilently
silently_append a b c [] ys first rest = subst (λ w. SettlesSilently w ys c) first rest
silently_append a b c (x ∷ xs) ys first rest = (first.0, first.1, silently_append first.0 b c xs ys first.2 rest)

pub front_none : (w : State) (ds : List Due) → SettlesFront w ds ds w
front_none w ds = record { front = []; split = refl; settles = silently_none w }

pub front_more : (a b c : State) (due mid new : List Due) → SettlesFront a due mid b → SettlesFront b mid new c → SettlesFront a due new c
front_more a b c due mid new first rest = record {
  front = first.front ++ rest.front;
  split = first.split ∙ ap (λ l. first.front ++ l) rest.split ∙ sym (append_assoc first.front rest.front new);
  settles = silently_append a b c first.front rest.front first.settles rest.settles;
}

-- as many of the slots of the first run
pub front_taken : (a b : State) (old run more : List Due) (count : ℕ) → old ≡ run ++ more → count ≤ length run → SettlesSilently a (take count run) b → SettlesFront a old (drop count old) b
front_taken a b old run more count whole within settles = record {
  front = take count run;
  split = sym (take-append-drop count old) ∙ ap (λ l. l ++ drop count old) (ap (take count) whole ∙ take-append-le count run more within);
  settles = settles;
}

-- what the code's lists say of a run
module _ {R : Type 0} (items : R → List Mark) (config : Config) (nodes nodes' : List Kept) (rows rows' : List R) (sound : IsSound (record { config = config; nodes = nodes; marks = map items rows })) (p q first n : ℕ)
    (p_in : p < length nodes) (q_in : q < length nodes) (apart : p ≢ q)
    (between : SettlesBetween (record { config = config; nodes = nodes; marks = map items rows }) p q (range_with_len first n) (record { config = config; nodes = nodes'; marks = map items rows' })) where
  abbrev then : State
  then = record { config = config; nodes = nodes'; marks = map items rows' }

  all_settled : SettlesSilently (record { config = config; nodes = nodes; marks = map items rows }) (map (due_of p q) (range_with_len first n)) then × IsSound then
  all_settled = subst (λ w. SettlesSilently (record { config = config; nodes = nodes; marks = map items rows }) (map (due_of p q) (range_with_len first n)) w × IsSound w) (sym between.moves)
      (slots_settled p q apart (record { config = config; nodes = nodes; marks = map items rows }) sound p_in q_in (range_with_len first n) between.after between.settles)

  nodes_back : (m : ℕ) → m ≡ length nodes → take m (nodes' ++ drop (length nodes') nodes) ≡ nodes'
  nodes_back m is = slice_back m nodes' nodes (ap (λ w. length w.nodes) between.moves ∙ length-slice_set (slice_set nodes p between.after.giver) q between.after.taker ∙ length-slice_set nodes p between.after.giver) is

  rows_back : (m : ℕ) → m ≡ length rows → take m (rows' ++ drop (length rows') rows) ≡ rows'
  rows_back m is = slice_back m rows' rows (
      sym (length-map rows' items)
      ∙ ap (λ w. length w.marks) between.moves ∙ length-slice_set (slice_set (map items rows) p between.after.carried) q between.after.told ∙ length-slice_set (map items rows) p between.after.carried
      ∙ length-map rows items
      ) is

  abbrev written_back : ℕ → ℕ → State
  written_back m k = record { config = config; nodes = take m (nodes' ++ drop (length nodes') nodes); marks = map items (take k (rows' ++ drop (length rows') rows)) }

  back_is : (m k : ℕ) → m ≡ length nodes → k ≡ length rows → written_back m k ≡ then
  back_is m k one two = λ i. record { config = config; nodes = nodes_back m one i; marks = map items (rows_back k two i) }

  pub run_sound : (m k : ℕ) → m ≡ length nodes → k ≡ length rows → IsSound (written_back m k)
  run_sound m k one two = subst IsSound (sym (back_is m k one two)) all_settled.1

  pub run_settled : (m k : ℕ) → m ≡ length nodes → k ≡ length rows → (w : State) (p' q' : ℕ) → record { config = config; nodes = nodes; marks = map items rows } ≡ w → p ≡ p' → q ≡ q' →
      SettlesSilently w (map (due_of p' q') (range_with_len first n)) (written_back m k)
  run_settled m k one two w p' q' shown p_is q_is =
      subst (λ w. SettlesSilently w (map (due_of p' q') (range_with_len first n)) (written_back m k)) shown
      (subst (SettlesSilently (record { config = config; nodes = nodes; marks = map items rows }) (map (due_of p' q') (range_with_len first n))) (sym (back_is m k one two))
      (subst (λ ds. SettlesSilently (record { config = config; nodes = nodes; marks = map items rows }) ds then) (λ i. map (due_of (p_is i) (q_is i)) (range_with_len first n)) all_settled.0))
