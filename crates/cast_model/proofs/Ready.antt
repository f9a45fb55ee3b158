-- What a node may deliver: it lasts, and an event changes it only for the node and the sender that it concerns.
use Rattle.std.proofs.Common.{◌≡◌, ℕ, ◌<◌, ◌≤◌, refl, sym, ◌∙◌, ap, subst, Bool, true, false, ◌&&◌, ◌||◌, cond, List, ◌∷◌, length, Some, inl, inr, ◌⊎◌, arith}
use Rattle.std.specs.Prelude.{slice_get, ◌==◌, nat_lt}
use Rattle.std.specs.List.{list_any, count_by}
use Rattle.std.proofs.lemmas.List.Sums.{sum_by-le-sum_by}
use Rattle.std.proofs.lemmas.Bool.{or_cases, or_left, or_right, and_from, and_parts, eqb-true, false≢true, ltb-true, lt-ltb}
use Rattle.cast_message.specs.declared.config.Config.{Config}
use Rattle.cast_message.specs.declared.config.Mode.{Mode}
use Rattle.cast_message.specs.declared.config.Mode.TheVariants.{Basic, Uniform}
use Rattle.cast_message.specs.declared.event.Event.{Event}
use Rattle.cast_message.specs.declared.event.Event.TheVariants.{Order, Send, Ack, Arrive, Crash}
use Rattle.cast_message.specs.declared.message.Frame.{Frame}
use Rattle.cast_message.specs.declared.message.FrameBody.{FrameBody}
use Rattle.cast_message.specs.declared.message.FrameBody.TheVariants.{Carry, Took}
use Rattle.cast_model.specs.History.{History, FirstCopy, has_pair, copies_gained, first, frames, given, arrivals, taken, is_carry_of}
use Rattle.cast_model.specs.Delivery.{tells_of, is_pair, knows, known_by, is_known_enough, is_ready, nodes_of, Concerned, concerned, concerned_by, sender_in}
use Rattle.cast_model.proofs.Members.{Member, Member-append, Member-append_left, list_any-Member, Member-list_any, Member-slice_get}
use Rattle.cast_model.proofs.Growth.{gained, arriving, first-more, arrivals-more, copy_at-kept, pair_kept}
use Rattle.cast_model.proofs.Sound.{Sound, BodyOk, gained-Order, gained-Arrive, arriving-Arrived, Member-has_pair, has_pair-Member, arrivals-Told}

-- the event concerns q and the sender s
pub record Concerns (past : History) (event : Event) (q s : ℕ) : Type 0 where
  pub which : Concerned
  pub is : concerned past event ≡ Some which
  pub node_is : which.node ≡ q
  pub sender_is : which.sender ≡ s

-- an acknowledged slot was given
pub took_in_given : (past : History) → Sound past → (p r slot : ℕ) → taken past r p slot ≡ true → slot < length (given past r p)
unfolding taken
took_in_given past ok p r slot h =
    let told = arrivals-Told past ok p r (is_carry_of slot) h in
    by_body told.body told.body_ok told.tells
  where
    by_body : (body : FrameBody) → BodyOk past r p body → is_carry_of slot body ≡ true → slot < length (given past r p)
    by_body (Carry place message) b e = subst (λ k. k < length (given past r p)) (eqb-true _ _ e) b.in_given
    by_body (Took place) b e = absurd (false≢true e)

-- one of these frames from r tells of the pair
abbrev told_by : List FirstCopy → ℕ → ℕ → ℕ → List Frame → Bool
told_by copies s i r arrived = list_any (λ frame. frame.from == r && tells_of copies s i frame.body) arrived

-- what a frame tells, it tells of the sender that it concerns, and goes on telling
tells_sender : (copies : List FirstCopy) (s i : ℕ) (body : FrameBody) → tells_of copies s i body ≡ true → sender_in copies body ≡ s
tells_sender copies s i (Carry slot message) e = eqb-true _ _ (and_parts _ _ e).0
tells_sender copies s i (Took slot) e = eqb-true _ _ (and_parts _ _ e).0

concerned-Arrive : (past : History) (from seq : ℕ) (frame : Frame) → slice_get (frames past from) seq ≡ Some frame →
    concerned past (Arrive from seq) ≡ Some (record { node = frame.to; sender = sender_in (given past frame.to frame.from) frame.body })
unfolding concerned
concerned-Arrive past from seq frame e = ap (concerned_by past) e

gained_concerns : (event : Event) (past : History) (q : ℕ) (copy : FirstCopy) (s : ℕ) → copy.sender ≡ s → Member copy (gained event past q) → Concerns past event q s
unfolding copies_gained concerned
gained_concerns (Order node item) past q copy s e m =
    let r = gained-Order node item past q copy m in
    record { which = record { node = node; sender = node }; is = refl; node_is = r.0; sender_is = r.0 ∙ sym (ap (λ c. c.sender) r.1) ∙ e }
gained_concerns (Arrive from seq) past q copy s e m =
    let b = gained-Arrive past from seq q copy m in
    let frame = b.frame in
    record {
      which = record { node = frame.to; sender = sender_in (given past frame.to frame.from) frame.body };
      is = concerned-Arrive past from seq frame b.frame_is;
      node_is = b.to_is;
      sender_is = ap (sender_in (given past frame.to frame.from)) b.body_is ∙ sym (ap (λ c. c.sender) b.copy_is) ∙ e;
    }
gained_concerns (Send from to slot) past q copy s e m = elim m [ ]
gained_concerns (Ack from to slot) past q copy s e m = elim m [ ]
gained_concerns (Crash node) past q copy s e m = elim m [ ]

module _ (event : Event) (past : History) (ok : Sound past) where
  tells_same : (p r s i : ℕ) (body : FrameBody) → BodyOk past r p body → tells_of (given (event ∷ past) p r) s i body ≡ tells_of (given past p r) s i body
  tells_same p r s i (Carry slot message) b = refl
  tells_same p r s i (Took slot) b = ap (λ copy. is_pair copy s i) (copy_at-kept event past p r slot (took_in_given past ok r p slot b))

  body_at : (p r : ℕ) (frame : Frame) → frame.to ≡ p → frame.from ≡ r → BodyOk past frame.from frame.to frame.body → BodyOk past r p frame.body
  body_at p r frame to from b = subst (λ a. BodyOk past a p frame.body) from (subst (λ c. BodyOk past frame.from c frame.body) to b)

  -- what p knows, it knows from then on
  pub knows_kept : (p s i r : ℕ) → knows past p s i r ≡ true → knows (event ∷ past) p s i r ≡ true
  unfolding knows
  knows_kept p s i r e = elim (or_cases (r == p || r == s) _ e) [
    | inl near ↦ or_left (r == p || r == s) (told_by (given (event ∷ past) p r) s i r (arrivals (event ∷ past) p)) near
    | inr told ↦
        (let found = Member-list_any _ (arrivals past p) told in
        let parts = and_parts (found.0.from == r) _ found.2 in
        let arrival = ok.arrivals_ok p found.0 found.1 in
        let from : found.0.from ≡ r = eqb-true _ _ parts.0 in
        let body = body_at p r found.0 arrival.to_is from arrival.made_ok.body_ok in
        or_right (r == p || r == s) (told_by (given (event ∷ past) p r) s i r (arrivals (event ∷ past) p)) (rw arrivals-more (list_any-Member _ found.0 _ (Member-append_left found.0 (arrivals past p) (arriving event past p) found.1)
        (and_from _ _ parts.0 (tells_same p r s i found.0.body body ∙ parts.1)))))
  ]

  -- what p newly knows of the pairs of s is by an event that concerns them
  pub knows_new : (p s i r : ℕ) → knows (event ∷ past) p s i r ≡ true → (knows past p s i r ≡ true) ⊎ Concerns past event p s
  unfolding knows
  knows_new p s i r e = elim (or_cases (r == p || r == s) _ e) [
    | inl near ↦ inl (or_left (r == p || r == s) (told_by (given past p r) s i r (arrivals past p)) near)
    | inr told ↦ by_frame (Member-list_any _ (arrivals (event ∷ past) p) told)
  ]
    where
      concerning : (frame : Frame) → Member frame (arriving event past p) → frame.from ≡ r → tells_of (given (event ∷ past) p r) s i frame.body ≡ true → Concerns past event p s
      concerning frame m from tells =
          let a = arriving-Arrived past p frame event m in
          let made = ok.frames_ok a.from frame (Member-slice_get (frames past a.from) a.seq frame a.frame_is) in
          let body : BodyOk past r p frame.body =
          subst (λ c. BodyOk past r c frame.body) a.to_is (subst (λ b. BodyOk past b frame.to frame.body) (sym made.from_is ∙ from) made.body_ok) in
          let told = tells_sender (given past p r) s i frame.body (sym (tells_same p r s i frame.body body) ∙ tells) in
          record {
            which = record { node = frame.to; sender = sender_in (given past frame.to frame.from) frame.body };
            is = subst (λ x. concerned past x ≡ Some (record { node = frame.to; sender = sender_in (given past frame.to frame.from) frame.body })) (sym a.event_is)
                (concerned-Arrive past a.from a.seq frame a.frame_is);
            node_is = a.to_is;
            sender_is = ap (λ c. sender_in (given past c frame.from) frame.body) a.to_is ∙ ap (λ b. sender_in (given past p b) frame.body) from ∙ told;
          }

      by_frame : ((frame : Frame) × Member frame (arrivals (event ∷ past) p) × ((frame.from == r && tells_of (given (event ∷ past) p r) s i frame.body) ≡ true)) → (knows past p s i r ≡ true) ⊎ Concerns past event p s
      by_frame found =
          let parts = and_parts (found.0.from == r) _ found.2 in
          let from : found.0.from ≡ r = eqb-true _ _ parts.0 in
          elim (Member-append found.0 (arrivals past p) (arriving event past p) (rw arrivals-more at found.1)) [
            | inl old ↦
                (let arrival = ok.arrivals_ok p found.0 old in
                let body = body_at p r found.0 arrival.to_is from arrival.made_ok.body_ok in
                inl (or_right (r == p || r == s) (told_by (given past p r) s i r (arrivals past p)) (list_any-Member _ found.0 (arrivals past p) old (and_from _ _ parts.0 (sym (tells_same p r s i found.0.body body) ∙ parts.1)))))
            | inr new ↦ inr (concerning found.0 new from parts.1)
          ]

  -- a new pair of s is by an event that concerns it
  pub pair_new : (q s i : ℕ) → has_pair (first (event ∷ past) q) s i ≡ true → (has_pair (first past q) s i ≡ true) ⊎ Concerns past event q s
  pair_new q s i e = by_copy (Member-has_pair (first (event ∷ past) q) s i e)
    where
      by_copy : ((copy : FirstCopy) × Member copy (first (event ∷ past) q) × (copy.sender ≡ s) × (copy.number ≡ i)) → (has_pair (first past q) s i ≡ true) ⊎ Concerns past event q s
      by_copy found = elim (Member-append found.0 (first past q) (gained event past q) (rw first-more at found.1)) [
        | inl old ↦ inl (ap (λ k. has_pair (first past q) s k) (sym found.3) ∙ ap (λ p. has_pair (first past q) p found.0.number) (sym found.2) ∙ has_pair-Member found.0 (first past q) old)
        | inr new ↦ inr (gained_concerns event past q found.0 s found.2 new)
      ]

-- two tests that pass alike are the same
pub both_same : (a b : Bool) → (a ≡ true → b ≡ true) → (b ≡ true → a ≡ true) → a ≡ b
both_same true b f g = sym (f refl)
both_same false true f g = g refl
both_same false false f g = refl

pub count_by-mono : (p q : ℕ → Bool) → ((x : ℕ) → p x ≡ true → q x ≡ true) → (xs : List ℕ) → count_by p xs ≤ count_by q xs
count_by-mono p q weaker xs = sum_by-le-sum_by (λ x. cond (p x) 1 0) (λ x. cond (q x) 1 0) xs (λ x. at_most (p x) (q x) (weaker x))
  where
    at_most : (a b : Bool) → (a ≡ true → b ≡ true) → cond a 1 0 ≤ cond b 1 0
    at_most false b f = omega arith
    at_most true b f = rw (f refl) (omega arith)

module _ (config : Config) (event : Event) (past : History) (ok : Sound past) (q s i : ℕ) where
  -- what may be delivered may be delivered from then on
  known_enough_kept : (mode : Mode) → has_pair (first past q) s i ≡ true → is_known_enough mode config past q s i ≡ true → is_known_enough mode config (event ∷ past) q s i ≡ true
  unfolding is_known_enough known_by
  known_enough_kept Basic held e = refl
  known_enough_kept Uniform held e =
      let before : config.faults < count_by (knows past q s i) (nodes_of config) = ltb-true _ _ (rw held at e) in
      let more = count_by-mono (knows past q s i) (knows (event ∷ past) q s i) (λ r. knows_kept event past ok q s i r) (nodes_of config) in
      rw (pair_kept event past q s i held) (lt-ltb _ _ (omega (arith, before, more)))

  pub ready_kept : is_ready config past q s i ≡ true → is_ready config (event ∷ past) q s i ≡ true
  unfolding is_ready
  ready_kept e =
      let parts = and_parts (has_pair (first past q) s i) _ e in
      and_from _ _ (pair_kept event past q s i parts.0) (known_enough_kept config.mode parts.0 parts.1)

  -- an event that does not concern them changes nothing between q and s
  pub pair_same : ¬ Concerns past event q s → has_pair (first (event ∷ past) q) s i ≡ has_pair (first past q) s i
  pair_same apart = both_same _ _ (λ e. elim (pair_new event past ok q s i e) [ inl old ↦ old | inr new ↦ absurd (apart new) ]) (pair_kept event past q s i)

  knows_same : ¬ Concerns past event q s → (r : ℕ) → knows (event ∷ past) q s i r ≡ knows past q s i r
  knows_same apart r = both_same _ _ (λ e. elim (knows_new event past ok q s i r e) [ inl old ↦ old | inr new ↦ absurd (apart new) ]) (knows_kept event past ok q s i r)

  known_enough_same : (mode : Mode) → ¬ Concerns past event q s → is_known_enough mode config (event ∷ past) q s i ≡ is_known_enough mode config past q s i
  unfolding is_known_enough known_by
  known_enough_same Basic apart = refl
  known_enough_same Uniform apart =
      let same : knows (event ∷ past) q s i ≡ knows past q s i = λ j r. knows_same apart r j in
      ap (λ b. nat_lt config.faults (cond b (count_by (knows (event ∷ past) q s i) (nodes_of config)) 0)) (pair_same apart)
      ∙ ap (λ f. nat_lt config.faults (cond (has_pair (first past q) s i) (count_by f (nodes_of config)) 0)) same

  pub ready_same : ¬ Concerns past event q s → is_ready config (event ∷ past) q s i ≡ is_ready config past q s i
  unfolding is_ready
  ready_same apart =
      ap (λ b. b && is_known_enough config.mode config (event ∷ past) q s i) (pair_same apart)
      ∙ ap (λ b. has_pair (first past q) s i && b) (known_enough_same config.mode apart)
