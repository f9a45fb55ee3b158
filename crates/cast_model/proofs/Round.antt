-- After a round each slot that was due is acknowledged.
use Rattle.std.proofs.Common.{◌≡◌, ℕ, ◌+◌, refl, sym, ◌∙◌, ap, subst, Bool, true, false, ◌&&◌, ◌||◌, cond, List, [], ◌∷◌, ◌++◌, length, Some, inl, inr, arith, length-append}
use Rattle.std.specs.Prelude.{◌==◌, slice_get}
use Rattle.std.specs.List.{list_any}
use Rattle.std.proofs.lemmas.List.{append-nil}
use Rattle.std.proofs.lemmas.List.Sums.{sum_by-append}
use Rattle.std.proofs.lemmas.List.Folds.{list_any-append}
use Rattle.std.proofs.lemmas.Bool.{and_from, or_left, eq-eqb, eqb-true, ne_eqb, cond-true}
use Rattle.cast_message.specs.declared.event.Event.{Event}
use Rattle.cast_message.specs.declared.event.Event.TheVariants.{Send, Ack, Arrive}
use Rattle.cast_message.specs.declared.message.Frame.{Frame}
use Rattle.cast_message.specs.declared.message.FrameBody.TheVariants.{Took}
use Rattle.cast_model.specs.History.{History, frames, frames_gained, frame_arriving, frame_at, arrivals, acked, is_took_of}
use Rattle.cast_model.specs.Rounds.{Due, frames_for, events_for, plan_from}
use Rattle.cast_model.proofs.Members.{Member, here, there, Member-uncons, Member-append_right, list_any-Member}
use Rattle.cast_model.proofs.Growth.{made, arriving, frames-more, arrivals-more}

-- the history after these events, each of them accepted
abbrev pub with_all : History → List Event → History
with_all past [] = past
with_all past (event ∷ events) = with_all (event ∷ past) events

pub slice_get_last : {A : Type 0} (xs : List A) (y : A) → slice_get (xs ++ y ∷ []) (length xs) ≡ Some y
slice_get_last [] y = refl
slice_get_last (x ∷ xs) y = slice_get_last xs y

acked_kept : (event : Event) (past : History) (p q slot : ℕ) → acked past p q slot ≡ true → acked (event ∷ past) p q slot ≡ true
unfolding acked
acked_kept event past p q slot h =
    ap (λ all. list_any (λ frame. frame.from == q && is_took_of slot frame.body) all) (arrivals-more event past p) ∙ list_any-append _ (arrivals past p) (arriving event past p) ∙ or_left _ _ h

pub acked_later : (events : List Event) (past : History) (p q slot : ℕ) → acked past p q slot ≡ true → acked (with_all past events) p q slot ≡ true
acked_later [] past p q slot h = h
acked_later (event ∷ events) past p q slot h = acked_later events (event ∷ past) p q slot (acked_kept event past p q slot h)

length-either : (b : Bool) (frame : Frame) → length (cond b (frame ∷ []) []) ≡ cond b 1 0
length-either true frame = refl
length-either false frame = refl

-- what the frames number, one event on
pub frames-Send : (past : History) (from to slot p : ℕ) → length (frames (Send from to slot ∷ past) p) ≡ length (frames past p) + cond (from == p) 1 0
unfolding frames_gained
frames-Send past from to slot p = ap length (frames-more (Send from to slot) past p) ∙ length-append (frames past p) (made (Send from to slot) past p) ∙ ap (λ n. length (frames past p) + n) (length-either (from == p) _)

pub frames-Ack : (past : History) (from to slot p : ℕ) → length (frames (Ack from to slot ∷ past) p) ≡ length (frames past p) + cond (from == p) 1 0
unfolding frames_gained
frames-Ack past from to slot p = ap length (frames-more (Ack from to slot) past p) ∙ length-append (frames past p) (made (Ack from to slot) past p) ∙ ap (λ n. length (frames past p) + n) (length-either (from == p) _)

pub frames-Arrive : (past : History) (from seq p : ℕ) → frames (Arrive from seq ∷ past) p ≡ frames past p
unfolding frames_gained
frames-Arrive past from seq p = frames-more (Arrive from seq) past p ∙ append-nil (frames past p)

-- the arrival of the frame of an acknowledgement just made
acked_now : (past : History) (p q slot k : ℕ) → k ≡ length (frames past q) → acked (Arrive q k ∷ Ack q p slot ∷ past) p q slot ≡ true
unfolding acked frames_gained frame_arriving
acked_now past p q slot k e =
    let frame : Frame = record { from = q; seq = length (frames past q); to = p; body = Took slot } in
    let all : frames (Ack q p slot ∷ past) q ≡ frames past q ++ frame ∷ [] =
    frames-more (Ack q p slot) past q ∙ ap (λ more. frames past q ++ more) (cond-true (q == q) (frame ∷ []) [] (eq-eqb q q refl)) in
    let came : slice_get (frames (Ack q p slot ∷ past) q) k ≡ Some frame = ap (λ frames. slice_get frames k) all ∙ ap (slice_get (frames past q ++ frame ∷ [])) e ∙ slice_get_last (frames past q) frame in
    let new : arriving (Arrive q k) (Ack q p slot ∷ past) p ≡ frame ∷ [] = ap (λ o. frame_at o p) came ∙ cond-true (p == p) (frame ∷ []) [] (eq-eqb p p refl) in
    rw arrivals-more
    (list_any-Member (λ f. f.from == q && is_took_of slot f.body) frame (arrivals (Ack q p slot ∷ past) p ++ arriving (Arrive q k) (Ack q p slot ∷ past) p)
    (Member-append_right frame (arrivals (Ack q p slot ∷ past) p) (arriving (Arrive q k) (Ack q p slot ∷ past) p) (subst (λ fs. Member frame fs) (sym new) here))
    (and_from _ _ (eq-eqb q q refl) (eq-eqb slot slot refl)))

-- how far a round has come: the frames that it has made
unfoldable pub Counted : History → List Due → History → Type 0
Counted past before now = (p : ℕ) → length (frames now p) ≡ length (frames past p) + frames_for before p

pub frames_for-push : (before : List Due) (d : Due) (p : ℕ) → frames_for (before ++ d ∷ []) p ≡ frames_for before p + cond (d.from == p || d.to == p) 1 0
unfolding frames_for
frames_for-push before d p = sum_by-append (λ e. cond (e.from == p || e.to == p) 1 0) before (d ∷ []) ∙ ap (λ n. frames_for before p + n) (let z : 0 + cond (d.from == p || d.to == p) 1 0 ≡ cond (d.from == p || d.to == p) 1 0 = omega arith in z)

module _ (past : History) where
  abbrev pub after_one : History → List Due → Due → History
  after_one now before d = with_all now (events_for past before d)

  one_acked : (now : History) (before : List Due) (d : Due) → (d.from ≡ d.to → ⊥) → Counted past before now → acked (after_one now before d) d.from d.to d.slot ≡ true
  unfolding events_for Counted
  one_acked now before d apart counted =
      let k = length (frames past d.from) + frames_for before d.from in
      let two = Arrive d.from k ∷ Send d.from d.to d.slot ∷ now in
      acked_now two d.from d.to d.slot (length (frames past d.to) + frames_for before d.to)
      (let a = ap length (frames-Arrive (Send d.from d.to d.slot ∷ now) d.from k d.to) in
      let s = frames-Send now d.from d.to d.slot d.to ∙ ap (λ b. length (frames now d.to) + cond b 1 0) (ne_eqb d.from d.to apart) in
      let c = counted d.to in
      omega (arith, a, s, c))

  pub one_counted : (now : History) (before : List Due) (d : Due) → (d.from ≡ d.to → ⊥) → Counted past before now → Counted past (before ++ d ∷ []) (after_one now before d)
  unfolding events_for Counted
  one_counted now before d apart counted p =
      let k = length (frames past d.from) + frames_for before d.from in
      let l = length (frames past d.to) + frames_for before d.to in
      let sent = Send d.from d.to d.slot ∷ now in
      let came = Arrive d.from k ∷ sent in
      let acks = Ack d.to d.from d.slot ∷ came in
      let a = ap length (frames-Arrive acks d.to l p) in
      let b = frames-Ack came d.to d.from d.slot p in
      let c = ap length (frames-Arrive sent d.from k p) in
      let e = frames-Send now d.from d.to d.slot p in
      let f = counted p in
      let g = frames_for-push before d p in
      let h = either (d.from == p) (d.to == p) (λ x y. apart (eqb-true d.from p x ∙ sym (eqb-true d.to p y))) in
      omega (arith, a, b, c, e, f, g, h)
    where
      either : (x y : Bool) → (x ≡ true → y ≡ true → ⊥) → cond x 1 0 + cond y 1 0 ≡ cond (x || y) 1 0
      either true true never = absurd (never refl refl)
      either true false never = refl
      either false true never = refl
      either false false never = refl

  pub with_all-append : (now : History) (xs ys : List Event) → with_all now (xs ++ ys) ≡ with_all (with_all now xs) ys
  with_all-append now [] ys = refl
  with_all-append now (x ∷ xs) ys = with_all-append (x ∷ now) xs ys

  -- each slot that was due is acknowledged once the plan's events have happened
  pub plan_acks : (ds before : List Due) (now : History) → ((d : Due) → Member d ds → d.from ≡ d.to → ⊥) → Counted past before now → (d : Due) → Member d ds → acked (with_all now (plan_from past before ds)) d.from d.to d.slot ≡ true
  unfolding plan_from
  plan_acks [] before now apart counted d m = elim m [ ]
  plan_acks (e ∷ ds) before now apart counted d m =
      rw with_all-append (elim (Member-uncons d e ds m) [
        | inl same ↦ subst (λ x. acked (with_all (after_one now before e) (plan_from past (before ++ e ∷ []) ds)) x.from x.to x.slot ≡ true) (sym same)
            (acked_later (plan_from past (before ++ e ∷ []) ds) (after_one now before e) e.from e.to e.slot (one_acked now before e (apart e here) counted))
        | inr later ↦ plan_acks ds (before ++ e ∷ []) (after_one now before e) (λ x n. apart x (there n)) (one_counted now before e (apart e here) counted) d later
      ])
