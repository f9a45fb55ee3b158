-- After a round in which all events are accepted, each live node holds exactly what some live node held before it. So
-- after two such rounds the group is at rest.
use Rattle.std.proofs.Common.{◌≡◌, ℕ, ◌*◌, ◌<◌, refl, sym, ◌∙◌, ap, subst, Bool, true, false, not, cond, List, [], ◌∷◌, ◌++◌, length, inl, inr, ◌⊎◌, arith}
use Rattle.std.specs.Prelude.{IsTrue}
use Rattle.std.specs.List.{list_any, range_with_len, count_by}
use Rattle.std.proofs.lemmas.Bool.{cases_eq, false≢true, or_right}
use Rattle.std.proofs.lemmas.List.{append-nil}
use Rattle.std.proofs.lemmas.List.Sums.{sum_by-append}
use Rattle.cast_message.specs.declared.config.Config.{Config}
use Rattle.cast_message.specs.declared.event.Event.{Event}
use Rattle.cast_message.specs.declared.event.Event.TheVariants.{Order, Send, Ack, Arrive, Crash}
use Rattle.cast_model.specs.History.{History, FirstCopy, is_crash_of, is_live, has_pair, copies_gained, first, given, given_of, acked}
use Rattle.cast_model.specs.Replies.{IsAccepted}
use Rattle.cast_model.specs.Rounds.{owed, Rest, Live, HoldTheSame, Due, due, events_for, plan_from, plan, makes_frame, after_round, AreAccepted}
use Rattle.cast_model.proofs.Members.{Member, here, there, Member-append}
use Rattle.cast_model.proofs.Fronts.{filter_none}
use Rattle.cast_model.proofs.Growth.{gained, first-more}
use Rattle.cast_model.proofs.Sound.{sound, BodyOk, CarryOk, gained-Arrive, has_pair-Member, Member-has_pair}
use Rattle.cast_model.proofs.Round.{with_all}
use Rattle.cast_model.proofs.RoundSpreads.{round_acks, round_spreads, pair_later}
use Rattle.cast_model.proofs.Dues.{due_ok, range_bounds, none_from_absent}
use Rattle.cast_model.proofs.RoundFaults.{accepted_before, accepted_front, history_from-with_all, accepted_all}

-- an event by which pairs come from these nodes alone, and nobody orders or crashes
abbrev pub Passes : (ℕ → Type 0) → Event → Type 0
Passes Makers (Arrive from seq) = Makers from
Passes Makers (Send from to slot) = Unit {0}
Passes Makers (Ack from to slot) = Unit {0}
Passes Makers (Order node item) = ⊥
Passes Makers (Crash node) = ⊥

module _ (config : Config) (Makers : ℕ → Type 0) where
  unfoldable pub AllPass : List Event → Type 0
  AllPass [] = Unit {0}
  AllPass (event ∷ events) = Passes Makers event × AllPass events

  -- a node that makes the frame of an arrival holds the pair that it brings
  brought : (event : Event) (past : History) → IsAccepted config past → Passes Makers event → (q : ℕ) (copy : FirstCopy) → Member copy (gained event past q) →
      (r : ℕ) × Makers r × (has_pair (first past r) copy.sender copy.number ≡ true) × (has_pair (first past q) copy.sender copy.number ≡ false)
  unfolding copies_gained
  brought (Arrive from seq) past accepted passes q copy m =
      let b = gained-Arrive past from seq q copy m in
      let ok = (sound config past accepted).frames_ok from b.frame b.made_by in
      let carry : CarryOk past from b.frame.to b.slot b.message = subst (λ body. BodyOk past from b.frame.to body) b.body_is ok.body_ok in (
        from,
        passes,
        subst (λ c. has_pair (first past from) c.sender c.number ≡ true) (sym b.copy_is) carry.held,
        subst (λ c. has_pair (first past q) c.sender c.number ≡ false) (sym b.copy_is) b.is_new,
      )
  brought (Send from to slot) past accepted passes q copy m = elim m [ ]
  brought (Ack from to slot) past accepted passes q copy m = elim m [ ]
  brought (Order node item) past accepted passes q copy m = absurd passes
  brought (Crash node) past accepted passes q copy m = absurd passes

  -- the pair was held before, or a maker held it before
  HeldBefore : History → ℕ → ℕ → ℕ → Type 0
  HeldBefore past q s i = (has_pair (first past q) s i ≡ true) ⊎ ((r : ℕ) × Makers r × (has_pair (first past r) s i ≡ true))

  held_before_one : (event : Event) (past : History) → IsAccepted config past → Passes Makers event → (q s i : ℕ) → has_pair (first (event ∷ past) q) s i ≡ true → HeldBefore past q s i
  unfolding HeldBefore
  held_before_one event past accepted passes q s i e =
      let found = Member-has_pair (first (event ∷ past) q) s i e in
      elim (Member-append found.0 (first past q) (gained event past q) (subst (λ all. Member found.0 all) (first-more event past q) found.1)) [
        | inl old ↦ inl (subst (λ k. has_pair (first past q) s k ≡ true) found.3 (subst (λ x. has_pair (first past q) x found.0.number ≡ true) found.2 (has_pair-Member found.0 (first past q) old)))
        | inr new ↦
            (let b = brought event past accepted passes q found.0 new in
            inr (b.0, b.1, subst (λ k. has_pair (first past b.0) s k ≡ true) found.3 (subst (λ x. has_pair (first past b.0) x found.0.number ≡ true) found.2 b.2)))
      ]

  held_before : (events : List Event) (past : History) → AllPass events → IsAccepted config (with_all past events) → (q s i : ℕ) → has_pair (first (with_all past events) q) s i ≡ true → HeldBefore past q s i
  unfolding AllPass HeldBefore
  held_before [] past passes accepted q s i e = inl e
  held_before (event ∷ events) past passes accepted q s i e =
      let now = accepted_before config past event (accepted_front config (event ∷ past) events accepted) in
      elim (held_before events (event ∷ past) passes.1 accepted q s i e) [
        | inl at_q ↦ held_before_one event past now passes.0 q s i at_q
        | inr at_r ↦ (elim (held_before_one event past now passes.0 at_r.0 s i at_r.2) [
          | inl old ↦ inr (at_r.0, at_r.1, old)
          | inr other ↦ inr other
        ])
      ]

  -- where the makers held the same pairs, they hold no more
  first_same : (events : List Event) (past now : History) → AllPass events → IsAccepted config (with_all now events) →
      ((p q s i : ℕ) → Makers p → Makers q → has_pair (first past p) s i ≡ true → has_pair (first past q) s i ≡ true) →
      ((q : ℕ) → Makers q → first now q ≡ first past q) → (q : ℕ) → Makers q → first (with_all now events) q ≡ first past q
  unfolding AllPass
  first_same [] past now passes accepted agree same q maker = same q maker
  first_same (event ∷ events) past now passes accepted agree same q maker =
      first_same events past (event ∷ now) passes.1 accepted agree (λ x m. first-more event now x ∙ ap (λ more. first now x ++ more) (nothing x m) ∙ append-nil (first now x) ∙ same x m) q maker
    where
      nothing : (x : ℕ) → Makers x → gained event now x ≡ []
      nothing x m = none_from_absent (gained event now x) (λ copy n.
          let b = brought event now (accepted_before config now event (accepted_front config (event ∷ now) events accepted)) passes.0 x copy n in
          let at_r : has_pair (first past b.0) copy.sender copy.number ≡ true = subst (λ copies. has_pair copies copy.sender copy.number ≡ true) (same b.0 b.1) b.2 in
          let at_x : has_pair (first now x) copy.sender copy.number ≡ true = subst (λ copies. has_pair copies copy.sender copy.number ≡ true) (sym (same x m)) (agree b.0 x copy.sender copy.number b.1 m at_r) in
          false≢true (sym b.3 ∙ at_x))

  plan_passes : (past : History) (before ds : List Due) → ((d : Due) → Member d ds → Makers d.from × Makers d.to) → AllPass (plan_from past before ds)
  unfolding plan_from events_for AllPass
  plan_passes past before [] makers = tt
  plan_passes past before (d ∷ ds) makers = (tt, ((makers d here).0, (tt, ((makers d here).1, plan_passes past (before ++ d ∷ []) ds (λ x m. makers x (there m))))))

-- a node live after some events was live before them
live_before : (event : Event) (past : History) (p : ℕ) → IsTrue (is_live (event ∷ past) p) → IsTrue (is_live past p)
unfolding is_live
live_before event past p e = by_test (list_any (is_crash_of p) past) refl
  where
    by_test : (b : Bool) → list_any (is_crash_of p) past ≡ b → not b ≡ true
    by_test false f = refl
    by_test true f = absurd (false≢true (sym (ap not (or_right (is_crash_of p event) _ f)) ∙ e))

live_front : (events : List Event) (past : History) (p : ℕ) → IsTrue (is_live (with_all past events) p) → IsTrue (is_live past p)
live_front [] past p e = e
live_front (event ∷ events) past p e = live_before event past p (live_front events (event ∷ past) p e)

-- the events of a round bring pairs from live nodes alone
passes : (config : Config) (past : History) → AllPass config (Live config past) (plan config past)
unfolding plan
passes config past = plan_passes config (Live config past) past [] (due config past) (λ d m.
    let ok = due_ok config past d m in
    (record { in_group = ok.from_in; alive = ok.from_live }, record { in_group = ok.to_in; alive = ok.to_live }))

module _ (config : Config) (past : History) (accepted : IsAccepted config past) (all_accepted : IsAccepted config (with_all past (plan config past))) where
  abbrev now : History
  now = with_all past (plan config past)

  pub now_is : after_round config past ≡ now
  unfolding after_round
  now_is = history_from-with_all config past (plan config past) all_accepted

  live_past : (p : ℕ) → Live config now p → Live config past p
  live_past p live = record { in_group = live.in_group; alive = live_front (plan config past) past p live.alive }

  -- what a live node holds after the round, some live node held before it
  pub round_adds_nothing : (q s i : ℕ) → Live config past q → has_pair (first now q) s i ≡ true → (p : ℕ) × Live config past p × (has_pair (first past p) s i ≡ true)
  unfolding HeldBefore
  round_adds_nothing q s i live e = elim (held_before config (Live config past) (plan config past) past (passes config past) all_accepted q s i e) [
    | inl own ↦ (q, live, own)
    | inr other ↦ other
  ]

  -- and what some live node held before it, each live node holds after it
  pub round_spreads_all : (p q s i : ℕ) → Live config past p → Live config past q → has_pair (first past p) s i ≡ true → has_pair (first now q) s i ≡ true
  round_spreads_all p q s i p_live q_live e = elim (cases_eq p q) [
    | inl same ↦ pair_later (plan config past) past q s i (subst (λ x. has_pair (first past x) s i ≡ true) same e)
    | inr apart ↦ round_spreads config past p q p_live.in_group q_live.in_group p_live.alive q_live.alive apart accepted all_accepted s i e
  ]

  -- so after it all live nodes hold the same
  pub round_evens : HoldTheSame config now
  round_evens p q s i p_live q_live e =
      let r = round_adds_nothing p s i (live_past p p_live) e in
      round_spreads_all r.0 q s i r.1 (live_past q q_live) r.2

  -- where all live nodes held the same, the group is at rest after the round
  pub round_rests : HoldTheSame config past → Rest config now
  unfolding owed given
  round_rests agree = record {
    settled = λ p q p_in q_in p_live q_live apart.
        let p_past : Live config past p = live_past p (record { in_group = p_in; alive = p_live }) in
        let q_past : Live config past q = live_past q (record { in_group = q_in; alive = q_live }) in
        let same : first now p ≡ first past p = first_same config (Live config past) (plan config past) past past (passes config past) all_accepted (λ x y s i a b. agree x y s i a b) (λ x m. refl) p p_past in
        filter_none (λ slot. not (acked now p q slot)) (range_with_len 0 (length (given now p q))) (λ slot m.
        let inside : slot < length (given past p q) = subst (λ copies. slot < length copies) (given_same p q same) (let h = (range_bounds (length (given now p q)) 0 slot m).1 in omega (arith, h)) in
        ap not (round_acks config past p q p_in q_in p_past.alive q_past.alive apart slot inside));
  }
    where
      given_same : (p q : ℕ) → first now p ≡ first past p → given now p q ≡ given past p q
      given_same p q e = ap (λ copies. given_of copies q) e

-- a round makes two frames for each slot that was due
plan_frames : (past : History) (before ds : List Due) → count_by makes_frame (plan_from past before ds) ≡ 2 * length ds
unfolding plan_from events_for
plan_frames past before [] = refl
plan_frames past before (d ∷ ds) =
    let e = sum_by-append (λ event. cond (makes_frame event) 1 0) (events_for past before d) (plan_from past (before ++ d ∷ []) ds) in
    let ih = plan_frames past (before ++ d ∷ []) ds in
    let four : ◌≡◌ {A = ℕ} (count_by makes_frame (events_for past before d)) 2 = refl in
    omega (arith, e, ih, four)

pub round_frames : (config : Config) (past : History) → count_by makes_frame (plan config past) ≡ 2 * length (due config past)
unfolding plan
round_frames config past = plan_frames past [] (due config past)

-- The promises on rounds, in their own words.
module _ (config : Config) (past : History) (accepted : IsAccepted config past) (round_accepted : AreAccepted config past (plan config past)) where
  whole : IsAccepted config (with_all past (plan config past))
  whole = accepted_all config past (plan config past) accepted round_accepted

  is : after_round config past ≡ with_all past (plan config past)
  is = now_is config past accepted whole

  pub after_accepted : IsAccepted config (after_round config past)
  after_accepted = subst (IsAccepted config) (sym is) whole

  -- after the round a live node holds what some live node held before it
  pub holds_no_more : (q s i : ℕ) → Live config past q → has_pair (first (after_round config past) q) s i ≡ true → (p : ℕ) × Live config past p × (has_pair (first past p) s i ≡ true)
  holds_no_more q s i live e = round_adds_nothing config past accepted whole q s i live (subst (λ h. has_pair (first h q) s i ≡ true) is e)

  pub holds_all : (p q s i : ℕ) → Live config past p → Live config past q → has_pair (first past p) s i ≡ true → has_pair (first (after_round config past) q) s i ≡ true
  holds_all p q s i p_live q_live e = subst (λ h. has_pair (first h q) s i ≡ true) (sym is) (round_spreads_all config past accepted whole p q s i p_live q_live e)

  pub evens : HoldTheSame config (after_round config past)
  evens = subst (HoldTheSame config) (sym is) (round_evens config past accepted whole)

  -- where all live nodes held the same before it, the group is at rest
  pub rests : HoldTheSame config past → Rest config (after_round config past)
  rests agree = subst (Rest config) (sym is) (round_rests config past accepted whole agree)

-- two rounds whose events are all accepted bring rest
pub two_rounds_rest : (config : Config) (past : History) → IsAccepted config past → AreAccepted config past (plan config past) → AreAccepted config (after_round config past) (plan config (after_round config past)) → Rest config (after_round config (after_round config past))
two_rounds_rest config past accepted one two = rests config (after_round config past) (after_accepted config past accepted one) two (evens config past accepted one)
