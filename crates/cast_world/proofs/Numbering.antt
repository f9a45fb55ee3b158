-- The frames of a plan are numbered on.
use Rattle.std.proofs.Common.{◌≡◌, ℕ, ◌+◌, ◌<◌, refl, sym, ◌∙◌, ap, subst, cond, List, [], ◌∷◌, ◌++◌, length, replicate, inl, inr, arith, append_assoc, append-nil}
use Rattle.std.specs.Prelude.{◌==◌, ◌||◌, ◌^◌, slice_index_or}
use Rattle.std.proofs.lemmas.Bool.{cases_lt}
use Rattle.std.proofs.lemmas.List.Sums.{count_by-le-length}
use Rattle.std.proofs.Math.ListN.{get_or-eq_default}
use Rattle.cast_message.specs.declared.config.Config.{Config}
use Rattle.cast_message.specs.declared.event.Event.{Event}
use Rattle.cast_message.specs.declared.event.Event.TheVariants.{Send, Ack, Arrive}
use Rattle.cast_model.specs.History.{History}
use Rattle.cast_model.specs.Rounds.{Due, due, frames_for, events_for, plan_from, plan}
use Rattle.cast_model.proofs.Members.{Member, here, Member-append_right}
use Rattle.cast_model.proofs.Dues.{due_ok}
use Rattle.cast_model.proofs.Round.{frames_for-push}
use Rattle.cast_node.proofs.Places.{at_replicate}
use Rattle.cast_world.specs.Group.{State, Stands}
use Rattle.cast_world.specs.Rounds.{events_after}
use Rattle.cast_world.proofs.Stepping.{made_count}

-- of these slots so many frames were counted, by the node
pub record AreCounted (ds : List Due) (made : List ℕ) : Type 0 where
  pub size : length made ≡ 256
  pub counted : (p : ℕ) → p < 256 → slice_index_or made p 0 ≡ frames_for ds p

pub counted_none : (made : List ℕ) → made ≡ replicate 256 0 → AreCounted [] made
unfolding frames_for
counted_none made is = subst (AreCounted []) (sym is) (record { size = refl; counted = λ p l. at_replicate 256 p 0 })

-- no slot, no event
pub plan_none : (past : History) (events : List Event) → events ≡ [] → events ≡ plan_from past [] []
unfolding plan_from
plan_none past events none = none

-- they are no more than the slots
pub counted_few : (ds : List Due) (made : List ℕ) → length ds < 2 ^ 63 → AreCounted ds made → (p : ℕ) → slice_index_or made p 0 < 2 ^ 63
unfolding frames_for
counted_few ds made few count p = elim (cases_lt p 256) [
  | inl l ↦ (let h = count.counted p l in let k = count_by-le-length (λ d. d.from == p || d.to == p) ds in omega (arith, h, k, few))
  | inr l ↦ (let h = get_or-eq_default made 0 {n = p} (let size = count.size in omega (arith, l, size)) in omega (arith, h))
]

pub counted_more : (ds : List Due) (d : Due) (made new : List ℕ) → AreCounted ds made → length new ≡ 256 → ((p : ℕ) → p < 256 → slice_index_or new p 0 ≡ slice_index_or made p 0 + cond (d.from == p || d.to == p) 1 0) → AreCounted (ds ++ d ∷ []) new
counted_more ds d made new count size one = record {
  size = size;
  counted = λ p l. one p l ∙ ap (λ n. n + cond (d.from == p || d.to == p) 1 0) (count.counted p l) ∙ sym (frames_for-push ds d p);
}

-- a plan of one more slot
plan_push : (past : History) (before ds : List Due) (d : Due) → plan_from past before (ds ++ d ∷ []) ≡ plan_from past before ds ++ events_for past (before ++ ds) d
unfolding plan_from
plan_push past before [] d = append-nil (events_for past before d) ∙ ap (λ all. events_for past all d) (sym (append-nil before))
plan_push past before (x ∷ ds) d =
    ap (λ es. events_for past before x ++ es) (plan_push past (before ++ x ∷ []) ds d ∙ ap (λ b. plan_from past (before ++ x ∷ []) ds ++ events_for past b d) (append_assoc before (x ∷ []) ds))
    ∙ sym (append_assoc (events_for past before x) (plan_from past (before ++ x ∷ []) ds) (events_for past (before ++ x ∷ ds) d))

module _ (config : Config) (past : History) (world : State) (st : Stands config past world) where
  -- the next slot's events are numbered on from those before it
  numbered_on : (before left : List Due) (d : Due) (made : List ℕ) → before ++ d ∷ left ≡ due config past → AreCounted before made → events_after world made d ≡ events_for past before d
  unfolding events_for
  numbered_on before left d made all count =
      let ok = due_ok config past d (subst (λ xs. Member d xs) all (Member-append_right d before (d ∷ left) here)) in
      let nodes = config.nodes_in_range in
      let from = count.counted d.from (let l = ok.from_in in omega (arith, l, nodes)) in
      let to = count.counted d.to (let l = ok.to_in in omega (arith, l, nodes)) in
      λ k. Send d.from d.to d.slot
      ∷ Arrive d.from (made_count config past world st d.from k + from k)
      ∷ Ack d.to d.from d.slot
      ∷ Arrive d.to (made_count config past world st d.to k + to k)
      ∷ []

  pub plan_more : (before left : List Due) (d : Due) (made : List ℕ) (events new : List Event) → before ++ d ∷ left ≡ due config past → AreCounted before made → events ≡ plan_from past [] before → new ≡ events ++ events_after world made d → new ≡ plan_from past [] (before ++ d ∷ [])
  plan_more before left d made events new all count so_far one =
      one
      ∙ ap (λ es. es ++ events_after world made d) so_far
      ∙ ap (λ es. plan_from past [] before ++ es) (numbered_on before left d made all count)
      ∙ sym (plan_push past [] before d)

  pub plan_made : (before left : List Due) (events : List Event) → before ++ left ≡ due config past → left ≡ [] → events ≡ plan_from past [] before → events ≡ plan config past
  unfolding plan
  plan_made before left events all none so_far = so_far ∙ ap (plan_from past []) (sym (append-nil before) ∙ ap (λ rest. before ++ rest) (sym none) ∙ all)
