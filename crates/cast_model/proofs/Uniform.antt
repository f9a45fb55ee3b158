-- In uniform mode, what any node delivered is held by every live node, at rest with no more crashes than the tolerated faults.
use Rattle.std.proofs.Common.{◌≡◌, ℕ, refl, sym, ◌∙◌, ap, subst, true, ◌&&◌, ◌||◌, [], ◌∷◌, inl, inr}
use Rattle.std.specs.Prelude.{◌==◌}
use Rattle.std.specs.List.{list_any}
use Rattle.std.specs.Prelude.{slice_get}
use Rattle.std.proofs.lemmas.Bool.{and_parts, and_from, or_cases, or_left, or_right, eqb-true, eq-eqb, ne_eqb, not_from_false, cond-true, cases_eq, false≢true}
use Rattle.cast_message.specs.declared.config.Config.{Config}
use Rattle.cast_message.specs.declared.message.Frame.{Frame}
use Rattle.cast_message.specs.declared.message.FrameBody.{FrameBody}
use Rattle.cast_message.specs.declared.message.FrameBody.TheVariants.{Carry, Took}
use Rattle.cast_model.specs.History.{History, FirstCopy, has_pair, first, frames, given, given_of, copy_at, copies_gained, arrivals, frame_at, frame_arriving, acked, is_took_of}
use Rattle.cast_model.specs.Delivery.{is_pair, tells_of, knows}
use Rattle.cast_model.specs.Replies.{IsAccepted}
use Rattle.cast_model.specs.Rounds.{owed}
use Rattle.cast_model.proofs.Members.{Member, here, Member-append, Member-append_right, list_any-Member, place_of_Member, filter-Member, Member-list_any}
use Rattle.cast_model.proofs.AtRest.{taken_held, nothing_owed}
use Rattle.cast_model.proofs.Growth.{gained}
use Rattle.cast_model.proofs.Ready.{knows_kept}
use Rattle.cast_message.specs.declared.event.Event.{Event}
use Rattle.cast_message.specs.declared.event.Event.TheVariants.{Order, Send, Ack, Arrive, Crash}
use Rattle.cast_model.proofs.Sound.{sound, BodyOk, held_in_stream, gained-Order, gained-Arrive, Member-has_pair, arrivals-Told}

module _ (config : Config) (past : History) (accepted : IsAccepted config past) where
  -- whom a node knows to hold a pair holds it
  pub knows_held : (p s i r : ℕ) → has_pair (first past p) s i ≡ true → knows past p s i r ≡ true → has_pair (first past r) s i ≡ true
  unfolding knows
  knows_held p s i r held e = elim (or_cases (r == p || r == s) _ e) [
    | inl near ↦ (elim (or_cases (r == p) (r == s) near) [
      | inl self ↦ subst (λ x. has_pair (first past x) s i ≡ true) (sym (eqb-true r p self)) held
      | inr sender ↦ subst (λ x. has_pair (first past x) s i ≡ true) (sym (eqb-true r s sender))
          ((sound config past accepted).own_held s i (held_in_stream config past accepted p s i held))
    ])
    | inr heard ↦
        (let told = arrivals-Told past (sound config past accepted) p r (tells_of (given past p r) s i) heard in
        by_body told.body told.body_ok told.tells)
  ]
    where
      by_body : (body : FrameBody) → BodyOk past r p body → tells_of (given past p r) s i body ≡ true → has_pair (first past r) s i ≡ true
      by_body (Carry slot message) b e =
          let t = and_parts (message.sender == s) _ e in
          subst (λ k. has_pair (first past r) s k ≡ true) (eqb-true _ _ t.1) (subst (λ x. has_pair (first past r) x message.number ≡ true) (eqb-true _ _ t.0) b.held)
      by_body (Took slot) b e =
          let copy = copy_at (given past p r) slot in
          let t = and_parts (copy.sender == s) _ e in
          subst (λ k. has_pair (first past r) s k ≡ true) (eqb-true _ _ t.1)
          (subst (λ x. has_pair (first past r) x copy.number ≡ true) (eqb-true _ _ t.0) (taken_held past (sound config past accepted) p r slot b))

-- a node knows that the node from which its first copy came holds the pair
told_at : (past : History) (p s i r : ℕ) (frame : Frame) → Member frame (arrivals past p) → frame.from ≡ r → tells_of (given past p r) s i frame.body ≡ true → knows past p s i r ≡ true
unfolding knows
told_at past p s i r frame m from tells =
    or_right (r == p || r == s) (list_any (λ f. f.from == r && tells_of (given past p r) s i f.body) (arrivals past p))
    (list_any-Member _ frame (arrivals past p) m (and_from _ _ (eq-eqb frame.from r from) tells))

pub self_known : (past : History) (p s i : ℕ) → knows past p s i p ≡ true
unfolding knows
self_known past p s i = or_left _ (list_any (λ f. f.from == p && tells_of (given past p p) s i f.body) (arrivals past p)) (or_left (p == p) (p == s) (eq-eqb p p refl))

pub sender_known : (past : History) (p s i : ℕ) → knows past p s i s ≡ true
unfolding knows
sender_known past p s i = or_left _ (list_any (λ f. f.from == s && tells_of (given past p s) s i f.body) (arrivals past p)) (or_right (s == p) (s == s) (eq-eqb s s refl))

pub source_known : (config : Config) (past : History) → IsAccepted config past → (p : ℕ) (copy : FirstCopy) → Member copy (first past p) → knows past p copy.sender copy.number copy.source ≡ true
unfolding IsAccepted first frames copies_gained frame_arriving arrivals
source_known config [] accepted p copy m = elim m [ ]
source_known config (event ∷ past) accepted p copy m = elim (Member-append copy (first past p) (gained event past p) m) [
  | inl old ↦ knows_kept event past (sound config past accepted.0) p copy.sender copy.number copy.source (source_known config past accepted.0 p copy old)
  | inr new ↦ by_event event new
]
  where
    by_event : (event : Event) → Member copy (gained event past p) → knows (event ∷ past) p copy.sender copy.number copy.source ≡ true
    by_event (Order node item) n =
        let r = gained-Order node item past p copy n in
        subst (λ x. knows (Order node item ∷ past) p copy.sender copy.number x ≡ true) (sym (ap (λ c. c.source) r.1)) (self_known (Order node item ∷ past) p copy.sender copy.number)
    by_event (Arrive from seq) n =
        let b = gained-Arrive past from seq p copy n in
        let came : Member b.frame (arrivals (Arrive from seq ∷ past) p) = Member-append_right b.frame (arrivals past p) (frame_at (slice_get (frames past from) seq) p)
        (subst (λ o. Member b.frame (frame_at o p)) (sym b.frame_is) (subst (λ all. Member b.frame all) (sym (cond-true (b.frame.to == p) (b.frame ∷ []) [] (eq-eqb b.frame.to p b.to_is))) here)) in
        told_at (Arrive from seq ∷ past) p copy.sender copy.number copy.source b.frame came (sym (ap (λ c. c.source) b.copy_is))
        (ap (tells_of (given (Arrive from seq ∷ past) p copy.source) copy.sender copy.number) b.body_is
        ∙ and_from _ _ (eq-eqb b.message.sender copy.sender (sym (ap (λ c. c.sender) b.copy_is))) (eq-eqb b.message.number copy.number (sym (ap (λ c. c.number) b.copy_is))))
    by_event (Send from to slot) n = elim n [ ]
    by_event (Ack from to slot) n = elim n [ ]
    by_event (Crash node) n = elim n [ ]

-- an acknowledged slot tells of its pair
acked_told : (past : History) (p r slot : ℕ) → acked past p r slot ≡ true → knows past p (copy_at (given past p r) slot).sender (copy_at (given past p r) slot).number r ≡ true
unfolding acked
acked_told past p r slot h =
    let found = Member-list_any _ (arrivals past p) h in
    let parts = and_parts (found.0.from == r) _ found.2 in
    told_at past p (copy_at (given past p r) slot).sender (copy_at (given past p r) slot).number r found.0 found.1 (eqb-true _ _ parts.0) (by_body found.0.body parts.1)
  where
    by_body : (body : FrameBody) → is_took_of slot body ≡ true → tells_of (given past p r) (copy_at (given past p r) slot).sender (copy_at (given past p r) slot).number body ≡ true
    by_body (Carry place message) e = absurd (false≢true e)
    by_body (Took place) e =
        subst (λ k. is_pair (copy_at (given past p r) k) (copy_at (given past p r) slot).sender (copy_at (given past p r) slot).number ≡ true) (sym (eqb-true place slot e))
        (and_from _ _ (eq-eqb _ (copy_at (given past p r) slot).sender refl) (eq-eqb _ (copy_at (given past p r) slot).number refl))

-- where p owes r nothing, p knows that r holds what p holds
pub knows_all : (config : Config) (past : History) → IsAccepted config past → (p r s i : ℕ) → owed past p r ≡ [] → has_pair (first past p) s i ≡ true → knows past p s i r ≡ true
unfolding given given_of copy_at
knows_all config past accepted p r s i none held =
    let found = Member-has_pair (first past p) s i held in
    let copy = found.0 in
    let goal : knows past p copy.sender copy.number r ≡ true =
    elim (cases_eq copy.sender r) [
      | inl own ↦ subst (λ x. knows past p copy.sender copy.number x ≡ true) own (sender_known past p copy.sender copy.number)
      | inr another ↦ (elim (cases_eq copy.source r) [
        | inl back ↦ subst (λ x. knows past p copy.sender copy.number x ≡ true) back (source_known config past accepted p copy found.1)
        | inr elsewhere ↦
            (let m : Member copy (given past p r) = filter-Member _ copy (first past p) found.1
            (and_from _ _ (not_from_false _ (ne_eqb copy.sender r another)) (not_from_false _ (ne_eqb copy.source r elsewhere))) in
            let at = place_of_Member copy (given past p r) (record { sender = 0; number = 0; source = 0 }) m in
            subst (λ c. knows past p c.sender c.number r ≡ true) at.2 (acked_told past p r at.0 (nothing_owed past p r at.0 none at.1)))
      ])
    ] in
    subst (λ k. knows past p s k r ≡ true) found.3 (subst (λ x. knows past p x copy.number r ≡ true) found.2 goal)
