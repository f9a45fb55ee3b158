-- The first slot that is due is of the first node that owes a live one, so that what becomes of a round's first event is known
-- without the list of what is due.
use Rattle.std.proofs.Common.{◌≡◌, ℕ, zero, suc, ◌+◌, ◌<◌, ◌≤◌, refl, sym, ◌∙◌, ap, subst, Bool, true, false, cond, List, [], ◌∷◌, ◌++◌, length, map, Some, None, inl, inr, arith}
use Rattle.std.specs.Prelude.{◌==◌, nat_le}
use Rattle.std.specs.List.{filter, flat_map, range_with_len}
use Rattle.std.proofs.lemmas.Bool.{cases_eq, cases_Bool, eq-eqb, ne_eqb, false≢true}
use Rattle.std.proofs.lemmas.Bool.Decides.{nat_tests}
use Rattle.cast_message.specs.declared.config.Config.{Config}
use Rattle.cast_message.specs.declared.event.Event.{Event}
use Rattle.cast_message.specs.declared.event.Event.TheVariants.{Send}
use Rattle.cast_message.specs.declared.event.StepFault.{StepFault}
use Rattle.cast_message.specs.declared.event.StepFault.TheVariants.{FramesFull, Memory}
use Rattle.cast_message.specs.Limits.{frame_limit}
use Rattle.cast_model.specs.History.{History, is_live}
use Rattle.cast_model.specs.Delivery.{nodes_of}
use Rattle.cast_model.specs.Refusals.{first_fault}
use Rattle.cast_model.specs.Replies.{fault, history_from}
use Rattle.cast_model.specs.Rounds.{Due, Rest, AreAccepted, owed, due, due_between, live_nodes, events_for, plan_from, plan}
use Rattle.cast_model.proofs.AtRest.{Member-range_with_len}
use Rattle.cast_model.proofs.Members.{Member, here, Member-uncons, filter-Member}
use Rattle.cast_model.proofs.Dues.{Member-map_in, Member-flat_in, due_ok, none_due-from_Rest}
use Rattle.cast_model.proofs.RoundFaults.{full, fault-Send}
use Rattle.cast_world.specs.Group.{State, Stands, marks_at}
use Rattle.cast_world.specs.Plans.{due_of}
use Rattle.cast_world.specs.Rounds.{IsSettledWithAll, IsFirstGiver, StopsFor, StopsRound, EndsRound}
use Rattle.cast_world.proofs.Owing.{live_in}
use Rattle.cast_world.proofs.Planning.{none_flat}
use Rattle.cast_world.proofs.Rounding.{left_first, round_ends}
use Rattle.cast_world.proofs.Stepping.{made_count}

-- what is found first, for numbers in turn
first_found : (f : ℕ → List Due) (t : ℕ → Bool) (n a p : ℕ) (d : Due) (ds : List Due) → a ≤ p → p < a + n → ((q : ℕ) → a ≤ q → q < p → t q ≡ true → f q ≡ []) → t p ≡ true → f p ≡ d ∷ ds →
    (rest : List Due) × (flat_map f (filter t (range_with_len a n)) ≡ d ∷ rest)
first_found f t zero a p d ds l m none passes found = absurd (omega (arith, l, m))
first_found f t (suc n) a p d ds l m none passes found = elim (cases_eq a p) [
  | inl e ↦ (ds ++ flat_map f more, ap (λ b. flat_map f (cond b (a ∷ more) more)) (ap t e ∙ passes) ∙ ap (λ xs. xs ++ flat_map f more) (ap f e ∙ found))
  | inr e ↦
      (let r = first_found f t n (a + 1) p d ds (omega (arith, l, e)) (omega (arith, m)) (λ q x y. none q (omega (arith, x)) y) passes found in
      (r.0, skip (t a) refl (omega (arith, l, e)) ∙ r.1))
]
  where
    more : List ℕ
    more = filter t (range_with_len (a + 1) n)

    skip : (b : Bool) → t a ≡ b → a < p → flat_map f (cond b (a ∷ more) more) ≡ flat_map f more
    skip true e before = ap (λ xs. xs ++ flat_map f more) (none a (omega arith) before e)
    skip false e before = refl

both_none : (xs ys : List Due) → xs ++ ys ≡ [] → (xs ≡ []) × (ys ≡ [])
both_none [] ys e = (refl, e)
both_none (x ∷ xs) ys e = absurd (cc)

flat_none : (f : ℕ → List Due) (xs : List ℕ) (x : ℕ) → Member x xs → flat_map f xs ≡ [] → f x ≡ []
flat_none f [] x m e = elim m [ ]
flat_none f (y ∷ ys) x m e = elim (Member-uncons x y ys m) [
  | inl same ↦ ap f same ∙ (both_none (f y) (flat_map f ys) e).0
  | inr later ↦ flat_none f ys x later (both_none (f y) (flat_map f ys) e).1
]

module _ (config : Config) (past : History) where
  abbrev due_from : ℕ → List Due
  due_from p = flat_map (λ q. due_between past p q) (live_nodes config past)

  in_live : (q : ℕ) → q < config.nodes → is_live past q ≡ true → Member q (live_nodes config past)
  unfolding live_nodes
  in_live q l live = filter-Member (is_live past) q (nodes_of config) (Member-range_with_len config.nodes 0 q (omega arith) (omega (arith, l))) live

  settled_none : (p : ℕ) → is_live past p ≡ true → IsSettledWithAll config past p → due_from p ≡ []
  unfolding due_between live_nodes
  settled_none p live settled = none_flat (λ q. due_between past p q) (live_nodes config past) (λ q m. elim (cases_eq p q) [
    | inl e ↦ ap (λ b. cond b [] (map (due_of p q) (owed past p q))) (eq-eqb p q e)
    | inr e ↦ ap (λ b. cond b [] (map (due_of p q) (owed past p q))) (ne_eqb p q e) ∙ ap (map (due_of p q)) (settled q (live_in config past q m).0 live (live_in config past q m).1 e)
  ])

  none_settled : (p : ℕ) → due_from p ≡ [] → IsSettledWithAll config past p
  unfolding due_between live_nodes
  none_settled p none q l p_live q_live apart =
      no_slot (owed past p q) (sym (ap (λ b. cond b [] (map (due_of p q) (owed past p q))) (ne_eqb p q apart)) ∙ flat_none (λ x. due_between past p x) (live_nodes config past) q (in_live q l q_live) none)
    where
      no_slot : (slots : List ℕ) → map (due_of p q) slots ≡ [] → slots ≡ []
      no_slot [] e = refl
      no_slot (slot ∷ slots) e = absurd (cc)

  from_is : (p : ℕ) (d : Due) → Member d (due_from p) → d.from ≡ p
  unfolding due_between live_nodes
  from_is p d m =
      let a = Member-flat_in (λ q. due_between past p q) d (live_nodes config past) m in
      by_test a.0 (p == a.0) a.2
    where
      by_test : (q : ℕ) (b : Bool) → Member d (cond b [] (map (due_of p q) (owed past p q))) → d.from ≡ p
      by_test q true m = elim m [ ]
      by_test q false m = ap (λ e. e.from) (Member-map_in (due_of p q) d (owed past p q) m).2

  first_due : (p : ℕ) → IsFirstGiver config past (Some p) → (d : Due) × (rest : List Due) × (due config past ≡ d ∷ rest) × (d.from ≡ p)
  unfolding due live_nodes
  first_due p first = by_list (due_from p) refl
    where
      live : is_live past p ≡ true
      live = elim (cases_Bool (is_live past p)) [
        | inl up ↦ up
        | inr down ↦ absurd (first.2 (λ q l p_live. absurd (false≢true (sym down ∙ p_live))))
      ]

      by_list : (ds : List Due) → due_from p ≡ ds → (d : Due) × (rest : List Due) × (due config past ≡ d ∷ rest) × (d.from ≡ p)
      by_list [] e = absurd (first.2 (none_settled p e))
      by_list (d ∷ ds) e =
          let r = first_found due_from (is_live past) config.nodes 0 p d ds (omega arith) (omega (arith, first.0)) (λ q _ l alive. settled_none q alive (first.1 q l)) live e in
          (d, r.0, r.1, from_is p d (subst (λ xs. Member d xs) (sym e) here))

  -- the first event of the round
  first_event : (d : Due) (rest : List Due) → due config past ≡ d ∷ rest → (more : List Event) × (plan config past ≡ Send d.from d.to d.slot ∷ more)
  unfolding plan plan_from events_for
  first_event d rest e = (_, ap (plan_from past []) e)

  first_fault_is : (d : Due) (rest : List Due) → due config past ≡ d ∷ rest → fault config past (Send d.from d.to d.slot) ≡ full past d.from
  first_fault_is d rest e =
      let ok = due_ok config past d (subst (λ ds. Member d ds) (sym e) here) in
      fault-Send config past d.from d.to d.slot ok.from_in ok.to_in ok.apart ok.from_live ok.slot_in ok.open_slot

  module _ (world : State) (st : Stands config past world) where
    stops : (p : ℕ) → IsFirstGiver config past (Some p) → (refusal : StepFault) → ((from to slot : ℕ) (rest : List Event) → fault config past (Send from to slot) ≡ full past p → StopsFor config past (Send from to slot ∷ rest) refusal) → StopsRound config past refusal world
    unfolding AreAccepted history_from
    stops p first refusal cause =
        let d = first_due p first in
        let event = first_event d.0 d.1 d.2 in
        record {
          front = [];
          rest = plan config past;
          split = refl;
          accepted = tt;
          cause = subst (λ events. StopsFor config past events refusal) (sym event.1) (cause d.0.from d.0.to d.0.slot event.0 (first_fault_is d.0 d.1 d.2 ∙ ap (full past) d.3));
          stands = st;
        }

    full_by : (p : ℕ) (b : Bool) → nat_le frame_limit (length (marks_at world p)) ≡ b → full past p ≡ cond b (Some FramesFull) None
    unfolding first_fault
    full_by p b e = ap (λ test. cond test (Some FramesFull) None) (ap (nat_le frame_limit) (sym (made_count config past world st p)) ∙ e)

    -- the list of what is due could not be made
    pub stops_full : (p : ℕ) → IsFirstGiver config past (Some p) → frame_limit ≤ length (marks_at world p) → StopsRound config past FramesFull world
    stops_full p first l =
        let e : nat_le frame_limit (length (marks_at world p)) ≡ true = grind (arith, nat_tests) in
        stops p first FramesFull (λ from to slot rest is. is ∙ full_by p true e)

    pub stops_wanting : (p : ℕ) → IsFirstGiver config past (Some p) → length (marks_at world p) < frame_limit → StopsRound config past Memory world
    stops_wanting p first l =
        let e : nat_le frame_limit (length (marks_at world p)) ≡ false = grind (arith, nat_tests) in
        stops p first Memory (λ from to slot rest is. is ∙ full_by p false e)

    pub nothing_due : Rest config past → EndsRound config past 0 world
    nothing_due rest =
        let none = sym (none_due-from_Rest config past rest) in
        round_ends config past [] [] world 0 none refl refl (left_first config past [] world none st)
