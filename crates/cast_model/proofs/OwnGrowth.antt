-- How what a node holds, knows and may deliver grows with its own steps, whatever group they are of.
use Rattle.std.proofs.Common.{◌≡◌, ℕ, ◌<◌, refl, sym, ◌∙◌, ap, subst, Bool, true, false, not, ◌&&◌, ◌||◌, cond, List, [], ◌∷◌, ◌++◌, length, map, Some, inl, inr, ◌⊎◌, arith, length-append}
use Rattle.std.specs.Prelude.{◌==◌, nat_lt}
use Rattle.std.specs.List.{filter, list_any, count_by}
use Rattle.std.proofs.lemmas.List.{map-append, get_or_append_left}
use Rattle.std.proofs.lemmas.List.Elements.{filter-append}
use Rattle.std.proofs.lemmas.List.Folds.{list_any-append}
use Rattle.std.proofs.lemmas.Bool.{and_from, and_parts, or_left, or_right, or_cases, eqb-true, not-false, ltb-true, lt-ltb}
use Rattle.cast_message.specs.declared.config.Config.{Config}
use Rattle.cast_message.specs.declared.config.Mode.{Mode}
use Rattle.cast_message.specs.declared.config.Mode.TheVariants.{Basic, Uniform}
use Rattle.cast_message.specs.declared.message.Frame.{Frame}
use Rattle.cast_message.specs.declared.message.FrameBody.{FrameBody}
use Rattle.cast_message.specs.declared.message.FrameBody.TheVariants.{Carry, Took}
use Rattle.cast_model.specs.History.{FirstCopy, has_pair, copy_at, is_carry_of, is_took_of}
use Rattle.cast_model.specs.Delivery.{nodes_of, is_pair, tells_of, sender_in}
use Rattle.cast_model.specs.Steps.{each, Step, Ordered, Sent, Acknowledged, Arrived, Stopped, Steps, own_items, frame_of, frames_in, Held, copy_of, held_by_body, held_by, held}
use Rattle.cast_model.specs.OwnSteps.{own_copies, own_given, own_given_copies, own_taken, own_acked, own_knows, own_known_by, own_known_enough, own_is_ready, own_concerned, is_possible, is_possible_body, is_ignored, IsOwnAccepted}
use Rattle.cast_model.proofs.Members.{Member, Member-append, Member-append_left, Member-one, Member-if_not, list_any-Member, Member-list_any}
use Rattle.cast_model.proofs.Sound.{Member-has_pair, has_pair-Member}
use Rattle.cast_model.proofs.Ready.{both_same, count_by-mono}
use Rattle.cast_model.proofs.Dues.{Member-map_in}
use Rattle.cast_model.proofs.OwnTurns.{length-map}

-- what one more step brings
abbrev pub brought : ℕ → Steps → Step → List Held
brought me steps step = held_by (held me steps) me (length (own_items steps)) step

module _ (me : ℕ) (step : Step) (steps : Steps) where
  pub held-more : held me (step ∷ steps) ≡ held me steps ++ brought me steps step
  unfolding held
  held-more = refl

  pub own_copies-more : own_copies me (step ∷ steps) ≡ own_copies me steps ++ map copy_of (brought me steps step)
  own_copies-more = ap (map copy_of) held-more ∙ map-append copy_of (held me steps) (brought me steps step)

  pub own_given-more : (q : ℕ) → own_given me (step ∷ steps) q ≡ own_given me steps q ++ filter (λ h. not (h.message.sender == q) && not (h.source == q)) (brought me steps step)
  unfolding own_given
  own_given-more q = ap (filter (λ h. not (h.message.sender == q) && not (h.source == q))) held-more ∙ filter-append _ (held me steps) (brought me steps step)

  pub frames_in-more : frames_in (step ∷ steps) ≡ frames_in steps ++ frame_of step
  unfolding each
  frames_in-more = refl

  pub own_taken-more : (r slot : ℕ) → own_taken (step ∷ steps) r slot ≡ (own_taken steps r slot || list_any (λ frame. frame.from == r && is_carry_of slot frame.body) (frame_of step))
  unfolding own_taken
  own_taken-more r slot = ap (λ all. list_any (λ frame. frame.from == r && is_carry_of slot frame.body) all) frames_in-more ∙ list_any-append _ (frames_in steps) (frame_of step)

  pub own_acked-more : (r slot : ℕ) → own_acked (step ∷ steps) r slot ≡ (own_acked steps r slot || list_any (λ frame. frame.from == r && is_took_of slot frame.body) (frame_of step))
  unfolding own_acked
  own_acked-more r slot = ap (λ all. list_any (λ frame. frame.from == r && is_took_of slot frame.body) all) frames_in-more ∙ list_any-append _ (frames_in steps) (frame_of step)

  pub own_pair_kept : (s i : ℕ) → has_pair (own_copies me steps) s i ≡ true → has_pair (own_copies me (step ∷ steps)) s i ≡ true
  unfolding has_pair
  own_pair_kept s i e = ap (λ copies. has_pair copies s i) own_copies-more ∙ list_any-append _ (own_copies me steps) (map copy_of (brought me steps step)) ∙ or_left _ _ e

  -- a slot keeps its copy
  pub own_copy_kept : (r slot : ℕ) → slot < length (own_given me steps r) → copy_at (own_given_copies me (step ∷ steps) r) slot ≡ copy_at (own_given_copies me steps r) slot
  unfolding copy_at
  own_copy_kept r slot h =
      let more = filter (λ (x : Held). not (x.message.sender == r) && not (x.source == r)) (brought me steps step) in
      ap (λ hs. copy_at (map copy_of hs) slot) (own_given-more r)
      ∙ ap (λ copies. copy_at copies slot) (map-append copy_of (own_given me steps r) more)
      ∙ get_or_append_left (own_given_copies me steps r) (map copy_of more) _ slot (omega (arith, h, length-map copy_of (own_given me steps r)))

-- an acknowledged slot was given
abbrev pub GivenTo : ℕ → Steps → ℕ → FrameBody → Type 0
GivenTo me steps r (Took slot) = slot < length (own_given me steps r)
GivenTo me steps r (Carry slot message) = Unit {0}

pub given_to_kept : (me : ℕ) (step : Step) (steps : Steps) (r : ℕ) (body : FrameBody) → GivenTo me steps r body → GivenTo me (step ∷ steps) r body
given_to_kept me step steps r (Took slot) h =
    let e = ap length (own_given-more me step steps r) ∙ length-append (own_given me steps r) (filter (λ x. not (x.message.sender == r) && not (x.source == r)) (brought me steps step)) in
    omega (arith, h, e)
given_to_kept me step steps r (Carry slot message) h = tt

pub possible_given : (config : Config) (me : ℕ) (steps : Steps) (frame : Frame) → is_ignored config me steps (Arrived frame) ≡ false → GivenTo me steps frame.from frame.body
unfolding is_possible
possible_given config me steps frame e = by_body frame.body (and_parts _ _ (not-false _ e)).1
  where
    by_body : (body : FrameBody) → is_possible_body config me steps frame.from body ≡ true → GivenTo me steps frame.from body
    by_body (Took slot) h = ltb-true slot (length (own_given me steps frame.from)) h
    by_body (Carry slot message) h = tt

pub frames_given : (config : Config) (me : ℕ) (steps : Steps) → IsOwnAccepted config me steps → (frame : Frame) → Member frame (frames_in steps) → GivenTo me steps frame.from frame.body
unfolding IsOwnAccepted each
frames_given config me [] accepted frame m = elim m [ ]
frames_given config me (step ∷ steps) accepted frame m = elim (Member-append frame (frames_in steps) (frame_of step) m) [
  | inl old ↦ given_to_kept me step steps frame.from frame.body (frames_given config me steps accepted.0 frame old)
  | inr new ↦ given_to_kept me step steps frame.from frame.body (by_step step accepted.2 new)
]
  where
    by_step : (step : Step) → is_ignored config me steps step ≡ false → Member frame (frame_of step) → GivenTo me steps frame.from frame.body
    by_step (Arrived f) e n = let same = Member-one frame f n in subst (λ x. GivenTo me steps x.from x.body) (sym same) (possible_given config me steps f e)
    by_step (Ordered item) e n = elim n [ ]
    by_step (Sent to slot) e n = elim n [ ]
    by_step (Acknowledged to slot) e n = elim n [ ]
    by_step Stopped e n = elim n [ ]

module _ (config : Config) (me : ℕ) (step : Step) (steps : Steps) (accepted : IsOwnAccepted config me (step ∷ steps)) where
  before : IsOwnAccepted config me steps
  unfolding IsOwnAccepted
  before = accepted.0

  seen : is_ignored config me steps step ≡ false
  unfolding IsOwnAccepted
  seen = accepted.2

  pub tells_same : (r s i : ℕ) (body : FrameBody) → GivenTo me steps r body → tells_of (own_given_copies me (step ∷ steps) r) s i body ≡ tells_of (own_given_copies me steps r) s i body
  tells_same r s i (Carry slot message) h = refl
  tells_same r s i (Took slot) h = ap (λ copy. is_pair copy s i) (own_copy_kept me step steps r slot h)

  -- what it knows, it knows from then on
  pub own_knows_kept : (s i r : ℕ) → own_knows me steps s i r ≡ true → own_knows me (step ∷ steps) s i r ≡ true
  unfolding own_knows
  own_knows_kept s i r e = elim (or_cases (r == me || r == s) _ e) [
    | inl near ↦ or_left (r == me || r == s) (list_any (λ frame. frame.from == r && tells_of (own_given_copies me (step ∷ steps) r) s i frame.body) (frames_in (step ∷ steps))) near
    | inr told ↦
        (let found = Member-list_any (λ (frame : Frame). frame.from == r && tells_of (own_given_copies me steps r) s i frame.body) (frames_in steps) told in
        let parts = and_parts (found.0.from == r) _ found.2 in
        let given : GivenTo me steps r found.0.body = subst (λ x. GivenTo me steps x found.0.body) (eqb-true found.0.from r parts.0) (frames_given config me steps before found.0 found.1) in
        or_right (r == me || r == s) (list_any (λ frame. frame.from == r && tells_of (own_given_copies me (step ∷ steps) r) s i frame.body) (frames_in (step ∷ steps)))
        (list_any-Member (λ (frame : Frame). frame.from == r && tells_of (own_given_copies me (step ∷ steps) r) s i frame.body) found.0 (frames_in (step ∷ steps))
        (subst (λ all. Member found.0 all) (sym (frames_in-more me step steps)) (Member-append_left found.0 (frames_in steps) (frame_of step) found.1))
        (and_from _ _ parts.0 (tells_same r s i found.0.body given ∙ parts.1))))
  ]

  -- what it newly knows of the pairs of s is by a step that concerns s
  pub own_knows_new : (s i r : ℕ) → own_knows me (step ∷ steps) s i r ≡ true → (own_knows me steps s i r ≡ true) ⊎ (own_concerned me steps step ≡ Some s)
  unfolding own_knows
  own_knows_new s i r e = elim (or_cases (r == me || r == s) _ e) [
    | inl near ↦ inl (or_left (r == me || r == s) (list_any (λ frame. frame.from == r && tells_of (own_given_copies me steps r) s i frame.body) (frames_in steps)) near)
    | inr told ↦ by_frame (Member-list_any (λ (frame : Frame). frame.from == r && tells_of (own_given_copies me (step ∷ steps) r) s i frame.body) (frames_in (step ∷ steps)) told)
  ]
    where
      tells : FrameBody → Bool
      tells body = tells_of (own_given_copies me (step ∷ steps) r) s i body

      names : (body : FrameBody) → tells_of (own_given_copies me steps r) s i body ≡ true → sender_in (own_given_copies me steps r) body ≡ s
      names (Carry slot message) h = eqb-true message.sender s (and_parts (message.sender == s) _ h).0
      names (Took slot) h = eqb-true (copy_at (own_given_copies me steps r) slot).sender s (and_parts ((copy_at (own_given_copies me steps r) slot).sender == s) _ h).0

      by_step : (x : Step) → is_ignored config me steps x ≡ false → (frame : Frame) → Member frame (frame_of x) → frame.from ≡ r → tells_of (own_given_copies me (step ∷ steps) r) s i frame.body ≡ true → own_concerned me steps x ≡ Some s
      by_step (Arrived f) fine frame n from t =
          let same = Member-one frame f n in
          let from_f : f.from ≡ r = sym (ap (λ g. g.from) same) ∙ from in
          let given : GivenTo me steps r f.body = subst (λ x. GivenTo me steps x f.body) from_f (possible_given config me steps f fine) in
          let told : tells_of (own_given_copies me steps r) s i f.body ≡ true = sym (tells_same r s i f.body given) ∙ ap (λ g. tells_of (own_given_copies me (step ∷ steps) r) s i g.body) (sym same) ∙ t in
          ap (λ x. Some (sender_in (own_given_copies me steps x) f.body)) from_f ∙ ap (λ x. Some x) (names f.body told)
      by_step (Ordered item) fine frame n from t = elim n [ ]
      by_step (Sent to slot) fine frame n from t = elim n [ ]
      by_step (Acknowledged to slot) fine frame n from t = elim n [ ]
      by_step Stopped fine frame n from t = elim n [ ]

      by_frame : ((frame : Frame) × Member frame (frames_in (step ∷ steps)) × ((frame.from == r && tells_of (own_given_copies me (step ∷ steps) r) s i frame.body) ≡ true)) → ((r == me || r == s || list_any (λ frame. frame.from == r && tells_of (own_given_copies me steps r) s i frame.body) (frames_in steps)) ≡ true) ⊎ (own_concerned me steps step ≡ Some s)
      by_frame found =
          let parts = and_parts (found.0.from == r) _ found.2 in
          let from : found.0.from ≡ r = eqb-true found.0.from r parts.0 in
          elim (Member-append found.0 (frames_in steps) (frame_of step) (subst (λ all. Member found.0 all) (frames_in-more me step steps) found.1)) [
            | inl old ↦
                (let given : GivenTo me steps r found.0.body = subst (λ x. GivenTo me steps x found.0.body) from (frames_given config me steps before found.0 old) in
                inl (or_right (r == me || r == s) (list_any (λ frame. frame.from == r && tells_of (own_given_copies me steps r) s i frame.body) (frames_in steps))
                (list_any-Member (λ (frame : Frame). frame.from == r && tells_of (own_given_copies me steps r) s i frame.body) found.0 (frames_in steps) old (and_from _ _ parts.0 (sym (tells_same r s i found.0.body given) ∙ parts.1)))))
            | inr new ↦ inr (by_step step seen found.0 new from parts.1)
          ]

  -- a new pair of s is by a step that concerns s
  pub own_pair_new : (s i : ℕ) → has_pair (own_copies me (step ∷ steps)) s i ≡ true → (has_pair (own_copies me steps) s i ≡ true) ⊎ (own_concerned me steps step ≡ Some s)
  own_pair_new s i e = by_copy (Member-has_pair (own_copies me (step ∷ steps)) s i e)
    where
      by_body : (r : ℕ) (body : FrameBody) (h : Held) → Member h (held_by_body (held me steps) r body) → (copies : List FirstCopy) → h.message.sender ≡ s → Some (sender_in copies body) ≡ Some s
      by_body r (Took slot) h n copies is = elim n [ ]
      by_body r (Carry slot message) h n copies is =
          let x = (Member-if_not (has_pair (map copy_of (held me steps)) message.sender message.number) h _ n).1 in
          ap (λ y. Some y) (sym (ap (λ y. y.message.sender) x) ∙ is)

      by_step : (x : Step) (h : Held) → Member h (held_by (held me steps) me (length (own_items steps)) x) → h.message.sender ≡ s → own_concerned me steps x ≡ Some s
      by_step (Ordered item) h n is = ap (λ y. Some y) (sym (ap (λ y. y.message.sender) (Member-one h _ n)) ∙ is)
      by_step (Arrived f) h n is = by_body f.from f.body h n (own_given_copies me steps f.from) is
      by_step (Sent to slot) h n is = elim n [ ]
      by_step (Acknowledged to slot) h n is = elim n [ ]
      by_step Stopped h n is = elim n [ ]

      by_copy : ((copy : FirstCopy) × Member copy (own_copies me (step ∷ steps)) × (copy.sender ≡ s) × (copy.number ≡ i)) → (has_pair (own_copies me steps) s i ≡ true) ⊎ (own_concerned me steps step ≡ Some s)
      by_copy found = elim (Member-append found.0 (own_copies me steps) (map copy_of (brought me steps step)) (subst (λ all. Member found.0 all) (own_copies-more me step steps) found.1)) [
        | inl old ↦ inl (subst (λ k. has_pair (own_copies me steps) s k ≡ true) found.3 (subst (λ x. has_pair (own_copies me steps) x found.0.number ≡ true) found.2 (has_pair-Member found.0 (own_copies me steps) old)))
        | inr new ↦
            (let h = Member-map_in copy_of found.0 (brought me steps step) new in
            inr (by_step step h.0 h.1 (sym (ap (λ c. c.sender) h.2) ∙ found.2)))
      ]

  -- what it may deliver, it may deliver from then on
  known_enough_kept : (mode : Mode) (s i : ℕ) → has_pair (own_copies me steps) s i ≡ true → own_known_enough mode config me steps s i ≡ true → own_known_enough mode config me (step ∷ steps) s i ≡ true
  unfolding own_known_enough own_known_by
  known_enough_kept Basic s i held e = refl
  known_enough_kept Uniform s i held e =
      let many : config.faults < count_by (own_knows me steps s i) (nodes_of config) = ltb-true _ _ (sym (ap (λ b. nat_lt config.faults (cond b (count_by (own_knows me steps s i) (nodes_of config)) 0)) held) ∙ e) in
      let more = count_by-mono (own_knows me steps s i) (own_knows me (step ∷ steps) s i) (λ r. own_knows_kept s i r) (nodes_of config) in
      ap (λ b. nat_lt config.faults (cond b (count_by (own_knows me (step ∷ steps) s i) (nodes_of config)) 0)) (own_pair_kept me step steps s i held) ∙ lt-ltb _ _ (omega (arith, many, more))

  pub own_ready_kept : (s i : ℕ) → own_is_ready config me steps s i ≡ true → own_is_ready config me (step ∷ steps) s i ≡ true
  unfolding own_is_ready
  own_ready_kept s i e =
      let parts = and_parts (has_pair (own_copies me steps) s i) _ e in
      and_from _ _ (own_pair_kept me step steps s i parts.0) (known_enough_kept config.mode s i parts.0 parts.1)

  -- a step that does not concern s changes nothing of it
  pub pair_same : (s i : ℕ) → (own_concerned me steps step ≡ Some s → ⊥) → has_pair (own_copies me (step ∷ steps)) s i ≡ has_pair (own_copies me steps) s i
  pair_same s i apart = both_same _ _ (λ e. elim (own_pair_new s i e) [ inl old ↦ old | inr new ↦ absurd (apart new) ]) (own_pair_kept me step steps s i)

  pub knows_same : (s i : ℕ) → (own_concerned me steps step ≡ Some s → ⊥) → (r : ℕ) → own_knows me (step ∷ steps) s i r ≡ own_knows me steps s i r
  knows_same s i apart r = both_same _ _ (λ e. elim (own_knows_new s i r e) [ inl old ↦ old | inr new ↦ absurd (apart new) ]) (own_knows_kept s i r)

  known_enough_same : (mode : Mode) (s i : ℕ) → (own_concerned me steps step ≡ Some s → ⊥) → own_known_enough mode config me (step ∷ steps) s i ≡ own_known_enough mode config me steps s i
  unfolding own_known_enough own_known_by
  known_enough_same Basic s i apart = refl
  known_enough_same Uniform s i apart =
      let same : own_knows me (step ∷ steps) s i ≡ own_knows me steps s i = λ j r. knows_same s i apart r j in
      ap (λ b. nat_lt config.faults (cond b (count_by (own_knows me (step ∷ steps) s i) (nodes_of config)) 0)) (pair_same s i apart)
      ∙ ap (λ f. nat_lt config.faults (cond (has_pair (own_copies me steps) s i) (count_by f (nodes_of config)) 0)) same

  pub own_ready_same : (s i : ℕ) → (own_concerned me steps step ≡ Some s → ⊥) → own_is_ready config me (step ∷ steps) s i ≡ own_is_ready config me steps s i
  unfolding own_is_ready
  own_ready_same s i apart =
      ap (λ b. b && own_known_enough config.mode config me (step ∷ steps) s i) (pair_same s i apart)
      ∙ ap (λ b. has_pair (own_copies me steps) s i && b) (known_enough_same config.mode s i apart)
