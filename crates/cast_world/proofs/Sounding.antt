-- A world in which one node moves stays sound, and how the code's lists say that it moved.
use Rattle.std.proofs.Common.{◌≡◌, ◌≢◌, ◌⊎◌, ℕ, zero, suc, ◌<◌, refl, sym, ◌∙◌, ap, subst, Bool, true, false, cond, List, [], ◌∷◌, ◌++◌, length, map, get_or, Option, Some, None, inl, inr, arith, Result, Ok, Err}
use Rattle.std.specs.Prelude.{OnOk, OnErr, ◌==◌, nat_lt, not, slice_get, slice_index_or, slice_set}
use Rattle.std.proofs.lemmas.Bool.{cases_eq, ltb-true, eq-eqb, ne_eqb}
use Rattle.std.proofs.lemmas.List.{set-get_or, get_or-set_same, map-set, get_or-map}
use Rattle.std.proofs.Math.Seq.{map-set_same}
use Rattle.cast_message.proofs.Results.{on_err, ok_of}
use Rattle.cast_message.specs.declared.config.Config.{Config}
use Rattle.cast_message.specs.declared.event.Answer.{Answer}
use Rattle.cast_message.specs.declared.event.StepFault.{StepFault}
use Rattle.cast_message.specs.declared.event.StepFault.TheVariants.{NoNode}
use Rattle.cast_message.specs.declared.message.Message.{Message}
use Rattle.cast_message.specs.declared.message.Frame.{Frame}
use Rattle.cast_message.specs.declared.message.FrameBody.{FrameBody}
use Rattle.cast_message.specs.declared.message.FrameBody.TheVariants.{Carry, Took}
use Rattle.cast_message.specs.declared.message.FrameKind.{FrameKind}
use Rattle.cast_message.specs.declared.message.FrameKind.TheVariants as kinds
use Rattle.cast_model.specs.Refusals.{Cause, no_node, first_fault}
use Rattle.cast_model.specs.Steps.{Step, Ordered, Sent, Acknowledged, Arrived, Stopped, making}
use Rattle.cast_model.proofs.OwnTurns.{length-map}
use Rattle.std.specs.FinMap as finite
use Rattle.cast_node.specs.Kept.{Kept, nothing_kept, link_to, holds}
use Rattle.cast_node.specs.Calls.{number_reply}
use Rattle.cast_node.specs.Turns.{told_more, unmoved, acknowledged, arrived_body, may_arrive, taken_up, with_taken, kept_fault, kept_after, frame_made, Gives}
use Rattle.cast_node.proofs.Places.{length-slice_set, at_set}
use Rattle.cast_world.specs.declared.frames.Mark.{Mark}
use Rattle.cast_world.specs.Group.{State, node_at, marks_at, frame_by, mark_of}
use Rattle.cast_world.specs.Moves.{marks_after, TakesStep, ArrivesBy, IsSound}

-- a step leaves a node's number and its configuration
record SamePlace (kept new : Kept) : Type 0 where
  me : new.me ≡ kept.me
  config : new.config ≡ kept.config

body_place : (kept : Kept) (from : ℕ) (body : FrameBody) → SamePlace kept (arrived_body kept from body).kept
body_place kept from (Carry slot message) = by_test (holds kept message.sender message.number)
  where
    by_test : (b : Bool) → SamePlace kept (cond b (told_more (with_taken kept from slot) message.sender message.number from) (taken_up (with_taken kept from slot) message from)).kept
    by_test true = record { me = refl; config = refl }
    by_test false = record { me = refl; config = refl }
body_place kept from (Took slot) = by_owed (finite.get (link_to kept from).owed slot)
  where
    by_owed : (o : Option Message) → SamePlace kept (acknowledged kept from slot o).kept
    by_owed None = record { me = refl; config = refl }
    by_owed (Some message) = record { me = refl; config = refl }

after_place : (kept : Kept) (step : Step) → SamePlace kept (kept_after kept step)
after_place kept (Ordered item) = record { me = refl; config = refl }
after_place kept (Sent to slot) = record { me = refl; config = refl }
after_place kept (Acknowledged to slot) = record { me = refl; config = refl }
after_place kept (Arrived frame) = by_test (may_arrive kept frame)
  where
    by_test : (b : Bool) → SamePlace kept (cond b (arrived_body kept frame.from frame.body) (unmoved kept)).kept
    by_test true = body_place kept frame.from frame.body
    by_test false = record { me = refl; config = refl }
after_place kept Stopped = record { me = refl; config = refl }

gives_place : (kept : Kept) (step : Step) (reply : Result Answer StepFault) (new : Kept) → Gives kept step reply new → SamePlace kept new
gives_place kept step (Ok answer) new g = subst (SamePlace kept) (sym g.2) (after_place kept step)
gives_place kept step (Err refusal) new g = subst (SamePlace kept) (sym g.1) (record { me = refl; config = refl })

-- one more frame at the end of a row
last_frame : (row : List Mark) (frame : Mark) (seq : ℕ) (found : Mark) → slice_get (row ++ frame ∷ []) seq ≡ Some found → (slice_get row seq ≡ Some found) ⊎ (found ≡ frame)
last_frame [] frame zero found e = inr (let f : frame ≡ found = cc in sym f)
last_frame [] frame (suc seq) found e = absurd (cc)
last_frame (x ∷ row) frame zero found e = inl e
last_frame (x ∷ row) frame (suc seq) found e = last_frame row frame seq found e

module _ (world : State) (sound : IsSound world) (p : ℕ) (within : p < length world.nodes) (step : Step) (reply : Result Answer StepFault) (kept : Kept) (gives : Gives (node_at world p) step reply kept) where
  p_in : p < world.config.nodes
  p_in = subst (λ n. p < n) sound.size within

  node_after : (q : ℕ) → slice_index_or (slice_set world.nodes p kept) q (nothing_kept world.config 0) ≡ cond (q == p) kept (node_at world q)
  node_after q = at_set world.nodes p q kept (nothing_kept world.config 0) within

  -- no frame is made
  pub sound_after : IsSound (record { config = world.config; nodes = slice_set world.nodes p kept; marks = world.marks })
  sound_after = record {
    size = length-slice_set world.nodes p kept ∙ sound.size;
    rows = sound.rows;
    places = λ q l. ap (λ k. k.me) (node_after q) ∙ me_at q l;
    configs = λ q l. ap (λ k. k.config) (node_after q) ∙ config_at q l;
    targets = sound.targets;
  }
    where
      me_at : (q : ℕ) → q < world.config.nodes → (cond (q == p) kept (node_at world q)).me ≡ q
      me_at q l = elim (cases_eq q p) [
        | inl e ↦ ap (λ b. (cond b kept (node_at world q)).me) (eq-eqb q p e) ∙ (gives_place (node_at world p) step reply kept gives).me ∙ sound.places p p_in ∙ sym e
        | inr e ↦ ap (λ b. (cond b kept (node_at world q)).me) (ne_eqb q p e) ∙ sound.places q l
      ]

      config_at : (q : ℕ) → q < world.config.nodes → (cond (q == p) kept (node_at world q)).config ≡ world.config
      config_at q l = elim (cases_eq q p) [
        | inl e ↦ ap (λ b. (cond b kept (node_at world q)).config) (eq-eqb q p e) ∙ (gives_place (node_at world p) step reply kept gives).config ∙ sound.configs p p_in
        | inr e ↦ ap (λ b. (cond b kept (node_at world q)).config) (ne_eqb q p e) ∙ sound.configs q l
      ]

  -- one frame is
  pub sound_made : (frame : Mark) → frame.to < world.config.nodes → IsSound (record { config = world.config; nodes = slice_set world.nodes p kept; marks = slice_set world.marks p (marks_at world p ++ frame ∷ []) })
  sound_made frame goes = record {
    size = sound_after.size;
    rows = length-slice_set world.marks p (marks_at world p ++ frame ∷ []) ∙ sound.rows;
    places = sound_after.places;
    configs = sound_after.configs;
    targets = λ q seq found e. by_place q seq found (cases_eq q p) (sym (ap (λ row. slice_get row seq) (at_set world.marks p q (marks_at world p ++ frame ∷ []) [] (subst (λ n. p < n) (sym sound.rows) p_in))) ∙ e);
  }
    where
      by_place : (q seq : ℕ) (found : Mark) → (q ≡ p) ⊎ (q ≢ p) → slice_get (cond (q == p) (marks_at world p ++ frame ∷ []) (marks_at world q)) seq ≡ Some found → found.to < world.config.nodes
      by_place q seq found (inl e) f = elim (last_frame (marks_at world p) frame seq found (sym (ap (λ b. slice_get (cond b (marks_at world p ++ frame ∷ []) (marks_at world q)) seq) (eq-eqb q p e)) ∙ f)) [
        | inl old ↦ sound.targets p seq found old
        | inr new ↦ subst (λ x. x.to < world.config.nodes) (sym new) goes
      ]
      by_place q seq found (inr e) f = sound.targets q seq found (sym (ap (λ b. slice_get (cond b (marks_at world p ++ frame ∷ []) (marks_at world q)) seq) (ne_eqb q p e)) ∙ f)

-- the code's lists, where the node was asked for the step
pub stepped : (world : State) (p : ℕ) (step : Step) (made : List Mark) (reply : Result Answer StepFault) (kept : Kept) (marks : List (List Mark)) → p < length world.nodes → OnOk reply (marks ≡ marks_after world.marks p made) → OnErr reply (marks ≡ world.marks) → Gives (node_at world p) step reply kept →
    TakesStep world p step made reply (record { config = world.config; nodes = slice_set world.nodes p kept; marks = marks })
stepped world p step made (Ok answer) kept marks within more same gives =
    let itself = sym (get_or-set_same world.nodes p kept (nothing_kept world.config 0) within) in
    record {
      within = within;
      gives = subst (λ k. Gives (node_at world p) step (Ok answer) k) itself gives;
      moves = λ i. record { config = world.config; nodes = slice_set world.nodes p (itself i); marks = more i };
    }
stepped world p step made (Err refusal) kept marks within more same gives = (
  (λ i. record { config = world.config; nodes = (ap (slice_set world.nodes p) gives.1 ∙ set-get_or world.nodes p (nothing_kept world.config 0)) i; marks = same i }),
  inl (within, gives.0),
)

-- what the code found at a place is the node there
pub found_at : (world : State) (p : ℕ) (before : Kept) → p < length world.nodes → before ≡ get_or world.nodes p before → before ≡ node_at world p
found_at world p before within found = found ∙ by_list world.nodes p within
  where
    by_list : (xs : List Kept) (i : ℕ) → i < length xs → get_or xs i before ≡ get_or xs i (nothing_kept world.config 0)
    by_list [] i l = absurd (omega (arith, l))
    by_list (x ∷ xs) zero l = refl
    by_list (x ∷ xs) (suc i) l = by_list xs i (omega (arith, l))

pub sound_stepped : (world : State) → IsSound world → (p : ℕ) → p < length world.nodes → (before kept : Kept) → before ≡ get_or world.nodes p before → (step : Step) (reply : Result Answer StepFault) → Gives before step reply kept → IsSound (record { config = world.config; nodes = slice_set world.nodes p kept; marks = world.marks })
sound_stepped world sound p within before kept found step reply gives = sound_after world sound p within step reply kept (subst (λ k. Gives k step reply kept) (found_at world p before within found) gives)

-- a node that sends or acknowledges names another of the group
pub in_group : (config : Config) (to : ℕ) (more : List Cause) → first_fault (no_node config to ∷ more) ≡ None → to < config.nodes
unfolding first_fault
in_group config to more e = by_test (nat_lt to config.nodes) refl e
  where
    by_test : (b : Bool) → nat_lt to config.nodes ≡ b → cond (not b) (Some NoNode) (first_fault more) ≡ None → to < config.nodes
    by_test true f g = ltb-true to config.nodes f
    by_test false f g = absurd (cc)

pub made_in : (kind : FrameKind) (kept : Kept) (to slot : ℕ) → kept_fault kept (making kind to slot) ≡ None → (mark_of (frame_made kind kept to slot)).to < kept.config.nodes
unfolding kept_fault
made_in kinds.Carry kept to slot e = in_group kept.config to _ e
made_in kinds.Took kept to slot e = in_group kept.config to _ e

-- what holds of a call that answers a frame's number holds of its reply
pub made_so : (P : Type 0) (r : Result ℕ StepFault) → OnOk r P → OnOk (number_reply r) P
made_so P (Ok seq) h = h
made_so P (Err refusal) h = h

pub kept_so : (P : Type 0) (r : Result ℕ StepFault) → OnErr r P → OnErr (number_reply r) P
kept_so P (Ok seq) h = h
kept_so P (Err refusal) h = h

on_ok : {P : Type 0} (r : Result Answer StepFault) → P → OnOk r P
on_ok (Ok x) p = p
on_ok (Err e) p = tt

err_of : {P Q : Type 0} (r : Result Answer StepFault) → OnErr r P → (P → Q) → OnErr r Q
err_of (Ok x) p f = tt
err_of (Err e) p f = f p

-- rows of frames as the code keeps them
module _ {A : Type 0} (items : A → List Mark) (config : Config) (nodes : List Kept) (rows : List A) where
  module _ (p : ℕ) (before : A) (found : before ≡ get_or rows p before) (v : A) where
    pub rows_same : items v ≡ items before → map items (slice_set rows p v) ≡ map items rows
    rows_same same = map-set_same items rows p v before (same ∙ ap items found)

    pub rows_more : (frame : Mark) → p < length rows → items v ≡ items before ++ frame ∷ [] → map items (slice_set rows p v) ≡ marks_after (map items rows) p (frame ∷ [])
    rows_more frame within more = map-set items rows p v ∙ ap (slice_set (map items rows) p) (more ∙ ap (λ row. row ++ frame ∷ []) (ap items found ∙ sym (get_or-map items rows p before [] within)))

  module _ (sound : IsSound (record { config = config; nodes = nodes; marks = map items rows })) (p : ℕ) (within : p < length nodes) (kept new : Kept) (found : kept ≡ get_or nodes p kept) (step : Step) (before : A) (row_found : before ≡ get_or rows p before) (v : A) (frame : Kept → Mark) where
    in_rows : p < length rows
    in_rows = let a = sound.size in let b = sound.rows in let c = length-map items rows in omega (arith, within, a, b, c)

    at : kept ≡ node_at (record { config = config; nodes = nodes; marks = map items rows }) p
    at = found_at (record { config = config; nodes = nodes; marks = map items rows }) p kept within found

    -- a node is asked for a frame
    pub sound_sent : (reply : Result Answer StepFault) → Gives kept step reply new → (kept_fault kept step ≡ None → (frame kept).to < kept.config.nodes) → OnOk reply (items v ≡ items before ++ frame kept ∷ []) → OnErr reply (items v ≡ items before) →
        IsSound (record { config = config; nodes = slice_set nodes p new; marks = map items (slice_set rows p v) })
    sound_sent (Ok answer) gives goes more same =
        subst (λ marks. IsSound (record { config = config; nodes = slice_set nodes p new; marks = marks })) (sym (rows_more p before row_found v (frame kept) in_rows more))
        (sound_made (record { config = config; nodes = nodes; marks = map items rows }) sound p within step (Ok answer) new (subst (λ k. Gives k step (Ok answer) new) at gives) (frame kept)
        (subst (λ c. (frame kept).to < c.nodes) (ap (λ k. k.config) at ∙ sound.configs p (subst (λ n. p < n) sound.size within)) (goes gives.0)))
    sound_sent (Err refusal) gives goes more same =
        subst (λ marks. IsSound (record { config = config; nodes = slice_set nodes p new; marks = marks })) (sym (rows_same p before row_found v same))
        (sound_stepped (record { config = config; nodes = nodes; marks = map items rows }) sound p within kept new found step (Err refusal) gives)

    pub sent_rows : (world : State) → world ≡ record { config = config; nodes = nodes; marks = map items rows } → (reply : Result Answer StepFault) → Gives kept step reply new → OnOk reply (items v ≡ items before ++ frame kept ∷ []) → OnErr reply (items v ≡ items before) →
        TakesStep world p step (frame (node_at world p) ∷ []) reply (record { config = config; nodes = slice_set nodes p new; marks = map items (slice_set rows p v) })
    sent_rows world is reply gives more same =
        subst (λ w. TakesStep w p step (frame (node_at w p) ∷ []) reply (record { config = config; nodes = slice_set nodes p new; marks = map items (slice_set rows p v) })) (sym is)
        (subst (λ k. TakesStep (record { config = config; nodes = nodes; marks = map items rows }) p step (frame k ∷ []) reply (record { config = config; nodes = slice_set nodes p new; marks = map items (slice_set rows p v) })) at
        (stepped (record { config = config; nodes = nodes; marks = map items rows }) p step (frame kept ∷ []) reply new (map items (slice_set rows p v)) within
        (ok_of reply more (rows_more p before row_found v (frame kept) in_rows)) (err_of reply same (rows_same p before row_found v)) (subst (λ k. Gives k step reply new) at gives)))

-- a frame arrives
module _ (world : State) (sound : IsSound world) (from seq : ℕ) (mark : Mark) (found_mark : slice_get (marks_at world from) seq ≡ Some mark) (p : ℕ) (target : p ≡ mark.to) (kept : Kept) (found : kept ≡ get_or world.nodes p kept) where
  target_in : p < length world.nodes
  target_in = let t = sound.targets from seq mark found_mark in let n = sound.size in omega (arith, t, n, target)

  pub arrived_me : kept.me ≡ mark.to
  arrived_me = ap (λ k. k.me) (found_at world p kept target_in found) ∙ sound.places p (subst (λ n. p < n) sound.size target_in) ∙ target

  module _ (frame : Frame) (frame_is : frame ≡ frame_by world from seq mark) (new : Kept) (reply : Result Answer StepFault) (gives : Gives kept (Arrived frame) reply new) where
    pub sound_arrived : IsSound (record { config = world.config; nodes = slice_set world.nodes p new; marks = world.marks })
    sound_arrived = sound_stepped world sound p target_in kept new found (Arrived frame) reply gives

    pub arrived_steps : (shown : State) → shown ≡ world → ArrivesBy shown from seq (slice_get (marks_at shown from) seq) reply (record { config = world.config; nodes = slice_set world.nodes p new; marks = world.marks })
    arrived_steps shown is =
        subst (λ w. ArrivesBy w from seq (slice_get (marks_at w from) seq) reply (record { config = world.config; nodes = slice_set world.nodes p new; marks = world.marks })) (sym is)
        (subst (λ o. ArrivesBy world from seq o reply (record { config = world.config; nodes = slice_set world.nodes p new; marks = world.marks })) (sym found_mark)
        (subst (λ q. TakesStep world q (Arrived (frame_by world from seq mark)) [] reply (record { config = world.config; nodes = slice_set world.nodes p new; marks = world.marks })) target
        (stepped world p (Arrived (frame_by world from seq mark)) [] reply new world.marks target_in (on_ok reply refl) (on_err reply refl) (subst (λ f. Gives (node_at world p) (Arrived f) reply new) frame_is (subst (λ k. Gives k (Arrived frame) reply new) (found_at world p kept target_in found) gives)))))
