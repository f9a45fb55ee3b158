-- The frames that the steps of a trail made.
use Rattle.std.proofs.Common.{◌≡◌, refl, sym, ◌∙◌, ap, ℕ, Bool, true, false, cond, List, [], ◌∷◌, ◌++◌, map, None}
use Rattle.std.specs.Prelude.{◌||◌, is_some}
use Rattle.std.proofs.lemmas.List.{append-nil, map-append}
use Rattle.cast_message.specs.declared.config.Config.{Config}
use Rattle.cast_message.specs.declared.message.Frame.{Frame}
use Rattle.cast_model.specs.Steps.{Step, Sent, Acknowledged, Steps}
use Rattle.cast_model.specs.OwnSteps.{own_fault, own_made, own_frames, is_ignored, node_after}
use Rattle.cast_node.specs.Linked.{Trail, Made, stamped, steps_in, made_in, AreTaken}

-- the frame of what was made
abbrev pub frame_in : Made → Frame
frame_in made = made.frame

unstamped : (stamp : ℕ) (frames : List Frame) → map frame_in (map (stamped stamp) frames) ≡ frames
unstamped stamp [] = refl
unstamped stamp (frame ∷ frames) = ap (λ more. frame ∷ more) (unstamped stamp frames)

module _ (config : Config) (p : ℕ) where
  -- a frame that is skipped makes none
  ignored_makes_none : (steps : Steps) (step : Step) → is_ignored config p steps step ≡ true → own_made p steps step ≡ []
  unfolding own_made
  ignored_makes_none steps (Sent to slot) e = absurd (cc)
  ignored_makes_none steps (Acknowledged to slot) e = absurd (cc)
  ignored_makes_none steps step e = refl

  -- the frames after one more step that wasn't refused
  frames_after : (steps : Steps) (step : Step) → own_fault config p steps step ≡ None → own_frames p (node_after config p steps step) ≡ own_frames p steps ++ own_made p steps step
  unfolding node_after own_frames
  frames_after steps step e = ap (λ o. own_frames p (cond (is_some o || is_ignored config p steps step) steps (step ∷ steps))) e ∙ by_test (is_ignored config p steps step) refl
    where
      by_test : (b : Bool) → is_ignored config p steps step ≡ b → own_frames p (cond b steps (step ∷ steps)) ≡ own_frames p steps ++ own_made p steps step
      by_test true is = sym (append-nil (own_frames p steps)) ∙ ap (λ more. own_frames p steps ++ more) (sym (ignored_makes_none steps step is))
      by_test false is = refl

  -- the frames of a trail are those of its steps
  pub made_frames : (trail : Trail) → AreTaken config p trail → map frame_in (made_in config p trail) ≡ own_frames p (steps_in config p trail)
  unfolding made_in steps_in AreTaken own_frames
  made_frames [] taken = refl
  made_frames (mark ∷ trail) taken =
      let steps = steps_in config p trail in
      map-append frame_in (made_in config p trail) (map (stamped mark.stamp) (own_made p steps mark.step))
      ∙ ap (λ more. map frame_in (made_in config p trail) ++ more) (unstamped mark.stamp (own_made p steps mark.step))
      ∙ ap (λ all. all ++ own_made p steps mark.step) (made_frames trail taken.0)
      ∙ sym (frames_after steps mark.step taken.1)
