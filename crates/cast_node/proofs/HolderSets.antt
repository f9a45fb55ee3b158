-- Who is known to hold a pair after each step; the members kept of a pair are these nodes, and so as many.
use Rattle.std.proofs.Common.{◌≡◌, ℕ, ◌<◌, refl, sym, ◌∙◌, ap, subst, Bool, true, false, ◌&&◌, ◌||◌, cond, List, [], ◌∷◌, ◌++◌, length, map, inl, inr, arith, true≢false, ◌≢◌, ◌⊎◌, ◌-◌, zero, suc, ◌+◌, length-append}
use Rattle.std.specs.Prelude.{◌==◌, nat_lt, slice_set, slice_index_or, replicate}
use Rattle.std.specs.List.{list_any, count_by, filter, range_with_len}
use Rattle.std.proofs.lemmas.Bool.{eqb-true, and_parts, false_from_ne_true, or_left, or_right, eq-eqb, cases_eq, ne_eqb}
use Rattle.std.proofs.lemmas.List.Folds.{list_any-append}
use Rattle.cast_message.proofs.Booleans.{and_alike, or_assoc, or_false}
use Rattle.cast_message.specs.declared.config.Config.{Config}
use Rattle.cast_message.specs.declared.message.Message.{Message}
use Rattle.cast_message.specs.declared.message.Frame.{Frame}
use Rattle.cast_message.specs.declared.message.FrameBody.{FrameBody}
use Rattle.cast_message.specs.declared.message.FrameBody.TheVariants.{Carry, Took}
use Rattle.cast_model.specs.History.{has_pair, copy_at}
use Rattle.cast_model.specs.Delivery.{tells_of, nodes_of, are_enough}
use Rattle.cast_model.specs.Steps.{each, Step, Arrived, Steps, copy_of, held_by_body, held, frames_in, frame_of, Held}
use Rattle.cast_model.specs.OwnSteps.{own_copies, own_given, own_given_copies, own_knows, is_ignored, IsOwnAccepted, own_known_by, own_known_enough, own_is_ready}
use Rattle.cast_model.proofs.Members.{Member, Member-append, Member-one, Member-list_any, Member-filter, Member-get_or, here, there}
use Rattle.cast_model.proofs.Sound.{has_pair-Member}
use Rattle.cast_model.proofs.RoundSpreads.{Member-map}
use Rattle.cast_model.proofs.Dues.{Member-map_in}
use Rattle.cast_model.proofs.OwnGrowth.{own_copies-more, own_pair_kept, frames_in-more, frames_given, possible_given, GivenTo, tells_same, brought}
use Rattle.cast_model.proofs.OwnTurns.{length-map}
use Rattle.std.specs.Ordering.{nat_cmp}
use Rattle.std.specs.Cmp.{nat_cmp_total}
use Rattle.std.specs.FinSet as set
use Rattle.std.specs.FinSet.{contains-empty, len-empty, same_set, nat_cmp-IsAntisymmetric}
use Rattle.std.proofs.lemmas.Bool.Decides.{nat_tests}
use Rattle.std.proofs.lemmas.List.Sums.{length-filter}
use Rattle.cast_message.specs.Members.{members_below, contains-members_below, members_below-more}
use Rattle.cast_message.specs.declared.config.Mode.TheVariants.{Basic, Uniform}
use Rattle.cast_node.specs.Delivering.{knowers_in, is_enough, known_row}
use Rattle.cast_node.proofs.Links.{place_more}
use Rattle.cast_node.proofs.Places.{at_set, at_padded, length-replicated}

module _ {A : Type 0} where
  pub any_alike : (f g : A → Bool) (xs : List A) → ((x : A) → Member x xs → f x ≡ g x) → list_any f xs ≡ list_any g xs
  any_alike f g [] h = refl
  any_alike f g (x ∷ xs) h = λ i. h x here i || any_alike f g xs (λ y m. h y (there m)) i

abbrev pub told_by : ℕ → Steps → ℕ → ℕ → ℕ → List Frame → Bool
told_by me steps s i r frames = list_any (λ (frame : Frame). frame.from == r && tells_of (own_given_copies me steps r) s i frame.body) frames

-- what is known after a step: what was, and what its frame tells
pub knows_more : (config : Config) (me : ℕ) (step : Step) (steps : Steps) → IsOwnAccepted config me (step ∷ steps) → (s i r : ℕ) → own_knows me (step ∷ steps) s i r ≡ (own_knows me steps s i r || told_by me steps s i r (frame_of step))
unfolding own_knows IsOwnAccepted
knows_more config me step steps accepted s i r =
    (λ k. (r == me || r == s) || all k)
    ∙ or_assoc (r == me || r == s) (told_by me steps s i r (frames_in steps)) (told_by me steps s i r (frame_of step))
  where
    same : (frame : Frame) → (frame.from ≡ r → GivenTo me steps r frame.body) → (frame.from == r && tells_of (own_given_copies me (step ∷ steps) r) s i frame.body) ≡ (frame.from == r && tells_of (own_given_copies me steps r) s i frame.body)
    same frame given = and_alike (frame.from == r) _ _ (λ e. tells_same config me step steps accepted r s i frame.body (given (eqb-true frame.from r e)))

    by_step : (x : Step) → is_ignored config me steps x ≡ false → (frame : Frame) → Member frame (frame_of x) → frame.from ≡ r → GivenTo me steps r frame.body
    by_step (Arrived f) fine frame n from = let e = Member-one frame f n in subst (λ z. GivenTo me steps r z.body) (sym e) (subst (λ z. GivenTo me steps z f.body) (sym (ap (λ g. g.from) e) ∙ from) (possible_given config me steps f fine))
    by_step x fine frame n from = elim n [ ]

    all : told_by me (step ∷ steps) s i r (frames_in (step ∷ steps)) ≡ (told_by me steps s i r (frames_in steps) || told_by me steps s i r (frame_of step))
    all =
        ap (told_by me (step ∷ steps) s i r) (frames_in-more me step steps)
        ∙ list_any-append _ (frames_in steps) (frame_of step)
        ∙ (λ k. any_alike _ _ (frames_in steps) (λ frame m. same frame (λ e. subst (λ z. GivenTo me steps z frame.body) e (frames_given config me steps accepted.0 frame m))) k
        || any_alike _ _ (frame_of step) (λ frame m. same frame (by_step step accepted.2 frame m)) k)

-- a pair of which a frame told is held
module _ (config : Config) (me : ℕ) where
  carried_held : (steps : Steps) (frame : Frame) → Member frame (frames_in steps) → (slot : ℕ) (message : Message) → frame.body ≡ Carry slot message → has_pair (own_copies me steps) message.sender message.number ≡ true
  unfolding has_pair each
  carried_held [] frame m slot message e = elim m [ ]
  carried_held (step ∷ steps) frame m slot message e = elim (Member-append frame (frames_in steps) (frame_of step) m) [
    | inl old ↦ own_pair_kept me step steps message.sender message.number (carried_held steps frame old slot message e)
    | inr new ↦ by_step step new
  ]
    where
      by_pair : (b : Bool) (r : ℕ) → has_pair (map copy_of (held me steps)) message.sender message.number ≡ b → has_pair (own_copies me steps ++ map copy_of (cond b [] (record { message = message; source = r } ∷ []))) message.sender message.number ≡ true
      by_pair true r h = list_any-append _ (own_copies me steps) [] ∙ or_left _ _ h
      by_pair false r h = list_any-append _ (own_copies me steps) _ ∙ or_right _ _ (λ k. (eq-eqb message.sender message.sender refl k && eq-eqb message.number message.number refl k) || false)

      by_step : (x : Step) → Member frame (frame_of x) → has_pair (own_copies me (x ∷ steps)) message.sender message.number ≡ true
      by_step (Arrived f) n =
          ap (λ copies. has_pair copies message.sender message.number) (own_copies-more me (Arrived f) steps)
          ∙ ap (λ body. has_pair (own_copies me steps ++ map copy_of (held_by_body (held me steps) f.from body)) message.sender message.number) (ap (λ g. g.body) (sym (Member-one frame f n)) ∙ e)
          ∙ by_pair (has_pair (map copy_of (held me steps)) message.sender message.number) f.from refl
      by_step x n = elim n [ ]

  pub given_held : (steps : Steps) (r slot : ℕ) → slot < length (own_given me steps r) → has_pair (own_copies me steps) (copy_at (own_given_copies me steps r) slot).sender (copy_at (own_given_copies me steps r) slot).number ≡ true
  unfolding own_given copy_at
  given_held steps r slot l =
      let at = Member-get_or (own_given_copies me steps r) slot (record { sender = 0; number = 0; source = 0 }) (omega (arith, l, length-map copy_of (own_given me steps r))) in
      let h = Member-map_in copy_of (copy_at (own_given_copies me steps r) slot) (own_given me steps r) at in
      let all = Member-filter _ h.0 (held me steps) h.1 in
      has_pair-Member (copy_at (own_given_copies me steps r) slot) (own_copies me steps) (subst (λ c. Member c (own_copies me steps)) (sym h.2) (Member-map copy_of h.0 (held me steps) all.0))

  -- so nobody told of a pair that isn't held
  pub untold : (steps : Steps) → IsOwnAccepted config me steps → (s i r : ℕ) → has_pair (own_copies me steps) s i ≡ false → told_by me steps s i r (frames_in steps) ≡ false
  untold steps accepted s i r fresh = false_from_ne_true _ (λ e.
      let found = Member-list_any (λ (frame : Frame). frame.from == r && tells_of (own_given_copies me steps r) s i frame.body) (frames_in steps) e in
      let parts = and_parts (found.0.from == r) _ found.2 in
      absurd (true≢false (sym (by_body found.0 found.1 (eqb-true found.0.from r parts.0) found.0.body refl parts.1) ∙ fresh)))
    where
      by_body : (frame : Frame) → Member frame (frames_in steps) → frame.from ≡ r → (body : FrameBody) → frame.body ≡ body → tells_of (own_given_copies me steps r) s i body ≡ true → has_pair (own_copies me steps) s i ≡ true
      by_body frame m from (Carry slot message) e t =
          let p = and_parts (message.sender == s) _ t in
          (λ k. has_pair (own_copies me steps) (sym (eqb-true message.sender s p.0) k) (sym (eqb-true message.number i p.1) k)) ∙ carried_held steps frame m slot message e
      by_body frame m from (Took slot) e t =
          let c = copy_at (own_given_copies me steps r) slot in
          let p = and_parts (c.sender == s) _ t in
          let given : GivenTo me steps r (Took slot) = subst (GivenTo me steps r) e (subst (λ z. GivenTo me steps z frame.body) from (frames_given config me steps accepted frame m)) in
          (λ k. has_pair (own_copies me steps) (sym (eqb-true c.sender s p.0) k) (sym (eqb-true c.number i p.1) k)) ∙ given_held steps r slot given

-- the members known of one pair are others
pub knowers_in-set : (all : List (List (set.FinSet nat_cmp))) (s i : ℕ) (members : set.FinSet nat_cmp) → s < length all → (x k : ℕ) →
    knowers_in (slice_set all s (known_row (slice_index_or all s []) i members)) x k ≡ cond (x == s && k == i) members (knowers_in all x k)
knowers_in-set all s i members h x k = ap (λ row. slice_index_or row k set.empty) (at_set all s x (known_row row i members) [] h) ∙ by_sender (cases_eq x s)
  where
    row : List (set.FinSet nat_cmp)
    row = slice_index_or all s []

    long : i < length (row ++ replicate (suc i - length row) set.empty)
    long = omega (arith, length-append row (replicate (suc i - length row) set.empty), length-replicated (suc i - length row) (set.empty {R = nat_cmp}))

    in_row : slice_index_or (known_row row i members) k set.empty ≡ cond (k == i) members (slice_index_or row k set.empty)
    in_row = at_set (row ++ replicate (suc i - length row) set.empty) i k members set.empty long ∙ ap (cond (k == i) members) (at_padded row (suc i - length row) k set.empty)

    by_sender : (x ≡ s) ⊎ (x ≢ s) → slice_index_or (cond (x == s) (known_row row i members) (slice_index_or all x [])) k set.empty ≡ cond (x == s && k == i) members (knowers_in all x k)
    by_sender (inl e) =
        ap (λ b. slice_index_or (cond b (known_row row i members) (slice_index_or all x [])) k set.empty) (eq-eqb x s e)
        ∙ in_row
        ∙ ap (λ y. cond (k == i) members (knowers_in all y k)) (sym e)
        ∙ sym (ap (λ b. cond (b && k == i) members (knowers_in all x k)) (eq-eqb x s e))
    by_sender (inr e) =
        ap (λ b. slice_index_or (cond b (known_row row i members) (slice_index_or all x [])) k set.empty) (ne_eqb x s e)
        ∙ sym (ap (λ b. cond (b && k == i) members (knowers_in all x k)) (ne_eqb x s e))

-- as many numbers below n pass a test as the set of them has members
len-members : (f : ℕ → Bool) (n : ℕ) → set.len (members_below n f) ≡ count_by f (range_with_len 0 n)
unfolding members_below
len-members f zero = len-empty nat_cmp
len-members f (suc n) = members_below-more n f ∙ by_test (f n) _ _ (len-members f n) ∙ sym last
  where
    last : count_by f (range_with_len 0 (suc n)) ≡ count_by f (range_with_len 0 n) + cond (f n) 1 0
    last =
        sym (length-filter f (range_with_len 0 (suc n)))
        ∙ ap (λ k. length (filter f (range_with_len 0 k))) (let z : suc n ≡ n + 1 = omega arith in z)
        ∙ place_more f n
        ∙ ap (λ k. k + cond (f n) 1 0) (length-filter f (range_with_len 0 n))

    by_test : (b : Bool) (l m : ℕ) → l ≡ m → cond b (l + 1) l ≡ m + cond b 1 0
    by_test true l m e = omega (arith, e)
    by_test false l m e = omega (arith, e)

pub len_by_test : (members : set.FinSet nat_cmp) (n : ℕ) (f : ℕ → Bool) → ((q : ℕ) → set.contains members q ≡ (nat_lt q n && f q)) → set.len members ≡ count_by f (range_with_len 0 n)
len_by_test members n f h = ap set.len (same_set nat_cmp_total nat_cmp-IsAntisymmetric members (members_below n f) (λ q. h q ∙ sym (contains-members_below n f q))) ∙ len-members f n

-- the members kept of each pair are the nodes known to hold it
abbrev pub KnowsAll : Config → ℕ → Steps → List (List (set.FinSet nat_cmp)) → Type 0
KnowsAll config me steps all = (s i r : ℕ) → s < config.nodes → set.contains (knowers_in all s i) r ≡ (has_pair (own_copies me steps) s i && (nat_lt r config.nodes && own_knows me steps s i r))

pub known_by-is : (config : Config) (me : ℕ) (steps : Steps) (all : List (List (set.FinSet nat_cmp))) → KnowsAll config me steps all → (s i : ℕ) → s < config.nodes → set.len (knowers_in all s i) ≡ own_known_by config me steps s i
unfolding own_known_by
known_by-is config me steps all h s i l = by_test (has_pair (own_copies me steps) s i) (λ r. h s i r l)
  where
    by_test : (b : Bool) → ((r : ℕ) → set.contains (knowers_in all s i) r ≡ (b && (nat_lt r config.nodes && own_knows me steps s i r))) → set.len (knowers_in all s i) ≡ cond b (count_by (own_knows me steps s i) (nodes_of config)) 0
    by_test true e = len_by_test (knowers_in all s i) config.nodes (own_knows me steps s i) e
    by_test false e = ap set.len (same_set nat_cmp_total nat_cmp-IsAntisymmetric (knowers_in all s i) set.empty (λ q. e q ∙ sym (contains-empty nat_cmp q))) ∙ len-empty nat_cmp

pub enough-is : (config : Config) (me : ℕ) (steps : Steps) (all : List (List (set.FinSet nat_cmp))) → KnowsAll config me steps all → (s i : ℕ) → s < config.nodes → is_enough config (knowers_in all s i) ≡ own_known_enough config.mode config me steps s i
unfolding own_known_enough
enough-is config me steps all h s i l = elim config.mode as (λ mode. are_enough mode config.faults (set.len (knowers_in all s i)) ≡ own_known_enough mode config me steps s i) [ Basic ↦ refl | Uniform ↦ ap (nat_lt config.faults) (known_by-is config me steps all h s i l) ]

-- a pair of which nothing new is known is as ready as it was
pub ready_alike : (config : Config) (me : ℕ) (step : Step) (steps : Steps) (s i : ℕ) → has_pair (own_copies me (step ∷ steps)) s i ≡ has_pair (own_copies me steps) s i → ((r : ℕ) → own_knows me (step ∷ steps) s i r ≡ own_knows me steps s i r) → own_is_ready config me (step ∷ steps) s i ≡ own_is_ready config me steps s i
unfolding own_is_ready own_known_enough own_known_by
ready_alike config me step steps s i pair knows = λ k. pair k && (elim config.mode as (λ mode. own_known_enough mode config me (step ∷ steps) s i ≡ own_known_enough mode config me steps s i) [ Basic ↦ refl | Uniform ↦ λ j. nat_lt config.faults (cond (pair j) (count_by (λ r. knows r j) (nodes_of config)) 0) ]) k

-- whether these are numbers of one pair
abbrev pub same_pair : ℕ → ℕ → ℕ → ℕ → Bool
same_pair s i x k = x == s && k == i

-- what is held after a step that brings one message
pub pair_more : (me : ℕ) (step : Step) (steps : Steps) (h : Held) → brought me steps step ≡ h ∷ [] → (s i : ℕ) → has_pair (own_copies me (step ∷ steps)) s i ≡ (has_pair (own_copies me steps) s i || same_pair h.message.sender h.message.number s i)
unfolding has_pair
pair_more me step steps h e s i =
    ap (λ copies. has_pair copies s i) (own_copies-more me step steps ∙ ap (λ hs. own_copies me steps ++ map copy_of hs) e)
    ∙ list_any-append _ (own_copies me steps) (copy_of h ∷ [])
    ∙ ap (λ b. has_pair (own_copies me steps) s i || b) (turn h.message.sender h.message.number)
  where
    turn : (a b : ℕ) → ((a == s && b == i) || false) ≡ (s == a && i == b)
    turn a b = grind (arith, nat_tests)

pub pair_none : (me : ℕ) (step : Step) (steps : Steps) → brought me steps step ≡ [] → (s i : ℕ) → has_pair (own_copies me (step ∷ steps)) s i ≡ has_pair (own_copies me steps) s i
unfolding has_pair
pair_none me step steps e s i =
    ap (λ copies. has_pair copies s i) (own_copies-more me step steps ∙ ap (λ hs. own_copies me steps ++ map copy_of hs) e)
    ∙ list_any-append _ (own_copies me steps) []
    ∙ or_false (has_pair (own_copies me steps) s i)

module _ (config : Config) (me : ℕ) (step : Step) (steps : Steps) (all : List (List (set.FinSet nat_cmp))) (before : KnowsAll config me steps all) where
  -- nothing new is known
  pub knows_same : ((s i : ℕ) → has_pair (own_copies me (step ∷ steps)) s i ≡ has_pair (own_copies me steps) s i) → ((s i r : ℕ) → own_knows me (step ∷ steps) s i r ≡ own_knows me steps s i r) → KnowsAll config me (step ∷ steps) all
  knows_same pair knows s i r l = before s i r l ∙ sym (λ k. pair s i k && (nat_lt r config.nodes && knows s i r k))

  module _ (a b : ℕ) (members : set.FinSet nat_cmp) (place : a < length all) (same_size : length all ≡ config.nodes)
      (other : (s i : ℕ) → same_pair a b s i ≡ false → (has_pair (own_copies me (step ∷ steps)) s i ≡ has_pair (own_copies me steps) s i) × ((r : ℕ) → own_knows me (step ∷ steps) s i r ≡ own_knows me steps s i r))
      (here : (r : ℕ) → set.contains members r ≡ (has_pair (own_copies me (step ∷ steps)) a b && (nat_lt r config.nodes && own_knows me (step ∷ steps) a b r))) where
    -- something is known of one pair
    pub knows_pair : KnowsAll config me (step ∷ steps) (slice_set all a (known_row (slice_index_or all a []) b members))
    knows_pair s i r l = ap (λ m. set.contains m r) (knowers_in-set all a b members place s i) ∙ by_test (same_pair a b s i) refl
      where
        by_test : (c : Bool) → same_pair a b s i ≡ c → set.contains (cond c members (knowers_in all s i)) r ≡ (has_pair (own_copies me (step ∷ steps)) s i && (nat_lt r config.nodes && own_knows me (step ∷ steps) s i r))
        by_test true e =
            let p = and_parts (s == a) (i == b) e in
            here r ∙ (λ k. has_pair (own_copies me (step ∷ steps)) (sym (eqb-true s a p.0) k) (sym (eqb-true i b p.1) k) && (nat_lt r config.nodes && own_knows me (step ∷ steps) (sym (eqb-true s a p.0) k) (sym (eqb-true i b p.1) k) r))
        by_test false e = let o = other s i e in before s i r l ∙ sym (λ k. o.0 k && (nat_lt r config.nodes && o.1 r k))
