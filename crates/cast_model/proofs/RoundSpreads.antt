-- After a round a live node holds whatever a live node held before it.
use Rattle.std.proofs.Common.{◌≡◌, ◌≢◌, ℕ, ◌<◌, refl, sym, ◌∙◌, ap, subst, Bool, true, false, cond, List, [], ◌∷◌, ◌++◌, append_assoc, length, map, get_or, inl, inr, arith}
use Rattle.std.specs.Prelude.{◌==◌, IsTrue}
use Rattle.std.specs.List.{flat_map}
use Rattle.std.proofs.lemmas.Bool.{and_from, eq-eqb, ne_eqb, cases_eq, cases_Bool, not_from_false, false≢true}
use Rattle.cast_message.specs.declared.config.Config.{Config}
use Rattle.cast_message.specs.declared.event.Event.{Event}
use Rattle.cast_model.specs.History.{History, FirstCopy, stream, is_live, has_pair, first, given, given_of, copy_at, acked}
use Rattle.cast_model.specs.Delivery.{nodes_of}
use Rattle.cast_model.specs.Replies.{IsAccepted}
use Rattle.cast_model.specs.Rounds.{owed, Due, due_between, live_nodes, due, frames_for, plan}
use Rattle.cast_model.proofs.Members.{Member, here, there, Member-append, Member-append_left, Member-append_right, filter-Member, place_of_Member}
use Rattle.cast_model.proofs.Growth.{copy_at-later, pair_kept}
use Rattle.cast_model.proofs.Sound.{sound, Member-has_pair}
use Rattle.cast_model.proofs.AtRest.{Member-range_with_len, acked_taken, taken_held}
use Rattle.cast_model.proofs.Round.{with_all, acked_later, Counted, plan_acks}

-- the copy in a slot, by its place
copy_at-is : (copies : List FirstCopy) (slot : ℕ) (copy : FirstCopy) → get_or copies slot (record { sender = 0; number = 0; source = 0 }) ≡ copy → copy_at copies slot ≡ copy
unfolding copy_at
copy_at-is copies slot copy e = e

with_all-later : (events : List Event) (past : History) → (news : List Event) × (with_all past events ≡ news ++ past)
with_all-later [] past = ([], refl)
with_all-later (event ∷ events) past =
    let r = with_all-later events (event ∷ past) in
    (r.0 ++ event ∷ [], r.1 ∙ sym (append_assoc r.0 (event ∷ []) past))

pub pair_later : (events : List Event) (past : History) (q s i : ℕ) → has_pair (first past q) s i ≡ true → has_pair (first (with_all past events) q) s i ≡ true
pair_later [] past q s i h = h
pair_later (event ∷ events) past q s i h = pair_later events (event ∷ past) q s i (pair_kept event past q s i h)

pub Member-map : {A B : Type 0} (f : A → B) (x : A) (xs : List A) → Member x xs → Member (f x) (map f xs)
Member-map f x [] m = elim m [ ]
Member-map f x (y ∷ xs) here = here
Member-map f x (y ∷ xs) (there m) = there (Member-map f x xs m)

Member-flat : {A B : Type 0} (f : A → List B) (x : A) (y : B) (xs : List A) → Member x xs → Member y (f x) → Member y (flat_map f xs)
Member-flat f x y [] m n = elim m [ ]
Member-flat f x y (z ∷ xs) here n = Member-append_left y (f x) (flat_map f xs) n
Member-flat f x y (z ∷ xs) (there m) n = Member-append_right y (f z) (flat_map f xs) (Member-flat f x y xs m n)

-- nothing is due from a node to itself
flat_apart : {A : Type 0} (f : A → List Due) → ((x : A) (d : Due) → Member d (f x) → d.from ≡ d.to → ⊥) → (xs : List A) (d : Due) → Member d (flat_map f xs) → d.from ≡ d.to → ⊥
flat_apart f apart [] d m = elim m [ ]
flat_apart f apart (x ∷ xs) d m = elim (Member-append d (f x) (flat_map f xs) m) [ inl now ↦ apart x d now | inr later ↦ flat_apart f apart xs d later ]

map_apart : (p q : ℕ) → (p ≡ q → ⊥) → (slots : List ℕ) (d : Due) → Member d (map (λ slot. record { from = p; to = q; slot = slot }) slots) → d.from ≡ d.to → ⊥
map_apart p q apart [] d m = elim m [ ]
map_apart p q apart (slot ∷ slots) d here = apart
map_apart p q apart (slot ∷ slots) d (there m) = map_apart p q apart slots d m

pub due_apart : (config : Config) (past : History) (d : Due) → Member d (due config past) → d.from ≡ d.to → ⊥
unfolding due due_between
due_apart config past d m =
    flat_apart (λ p. flat_map (λ q. due_between past p q) (live_nodes config past)) (λ p. flat_apart (λ q. due_between past p q) (λ q. by_test p q (p == q) refl) (live_nodes config past)) (live_nodes config past) d m
  where
    by_test : (p q : ℕ) (b : Bool) → (p == q) ≡ b → (x : Due) → Member x (cond b [] (map (λ slot. record { from = p; to = q; slot = slot }) (owed past p q))) → x.from ≡ x.to → ⊥
    by_test p q true e x m = elim m [ ]
    by_test p q false e x m = map_apart p q (λ same. false≢true (sym e ∙ eq-eqb p q same)) (owed past p q) x m

module _ (config : Config) (past : History) (p q : ℕ) (p_in : p < config.nodes) (q_in : q < config.nodes) (p_live : IsTrue (is_live past p)) (q_live : IsTrue (is_live past q)) (apart : p ≢ q) where
  live_member : (x : ℕ) → x < config.nodes → IsTrue (is_live past x) → Member x (live_nodes config past)
  unfolding live_nodes
  live_member x x_in live = filter-Member (is_live past) x (nodes_of config) (Member-range_with_len config.nodes 0 x (omega arith) (omega arith)) live

  pub slot_due : (slot : ℕ) → slot < length (given past p q) → acked past p q slot ≡ false → Member (record { from = p; to = q; slot = slot }) (due config past)
  unfolding due due_between owed
  slot_due slot h open_slot =
      let d : Due = record { from = p; to = q; slot = slot } in
      let here_due : Member d (due_between past p q) =
      subst (λ b. Member d (cond b [] (map (λ k. record { from = p; to = q; slot = k }) (owed past p q)))) (sym (ne_eqb p q apart))
      (Member-map (λ k. record { from = p; to = q; slot = k }) slot (owed past p q)
      (filter-Member _ slot _ (Member-range_with_len (length (given past p q)) 0 slot (omega arith) (omega arith)) (not_from_false _ open_slot))) in
      Member-flat (λ x. flat_map (λ y. due_between past x y) (live_nodes config past)) p d (live_nodes config past) (live_member p p_in p_live)
      (Member-flat (λ y. due_between past p y) q d (live_nodes config past) (live_member q q_in q_live) here_due)

  -- once the round has happened, each slot that p had given q is acknowledged
  pub round_acks : (slot : ℕ) → slot < length (given past p q) → acked (with_all past (plan config past)) p q slot ≡ true
  unfolding plan Counted frames_for
  round_acks slot h = elim (cases_Bool (acked past p q slot)) [
    | inl before ↦ acked_later (plan config past) past p q slot before
    | inr open_slot ↦ plan_acks past (due config past) [] past (due_apart config past) (λ x. omega arith) (record { from = p; to = q; slot = slot }) (slot_due slot h open_slot)
  ]

  -- so q holds what p held before the round
  pub round_spreads : IsAccepted config past → IsAccepted config (with_all past (plan config past)) → (s i : ℕ) → has_pair (first past p) s i ≡ true → has_pair (first (with_all past (plan config past)) q) s i ≡ true
  unfolding given given_of
  round_spreads accepted later s i held =
      let now = with_all past (plan config past) in
      let ok = sound config past accepted in
      let found = Member-has_pair (first past p) s i held in
      let copy = found.0 in
      let goal : has_pair (first now q) copy.sender copy.number ≡ true =
      elim (cases_eq copy.sender q) [
        | inl own ↦ pair_later (plan config past) past q copy.sender copy.number (subst (λ x. has_pair (first past q) x copy.number ≡ true) (sym own)
            (ok.own_held q copy.number (subst (λ x. copy.number < length (stream past x)) own (ok.copies_ok p copy found.1).broadcast)))
        | inr another ↦ (elim (cases_eq copy.source q) [
          | inl back ↦ pair_later (plan config past) past q copy.sender copy.number (subst (λ x. has_pair (first past x) copy.sender copy.number ≡ true) back (ok.copies_ok p copy found.1).held_at_source)
          | inr elsewhere ↦
              (let m : Member copy (given past p q) = filter-Member _ copy (first past p) found.1
              (and_from _ _ (not_from_false _ (ne_eqb copy.sender q another)) (not_from_false _ (ne_eqb copy.source q elsewhere))) in
              let at = place_of_Member copy (given past p q) (record { sender = 0; number = 0; source = 0 }) m in
              let grown = with_all-later (plan config past) past in
              let stays : copy_at (given now p q) at.0 ≡ copy_at (given past p q) at.0 =
              ap (λ history. copy_at (given history p q) at.0) grown.1 ∙ copy_at-later grown.0 past p q at.0 at.1 in
              subst (λ c. has_pair (first now q) c.sender c.number ≡ true) (stays ∙ copy_at-is (given past p q) at.0 copy at.2)
              (taken_held now (sound config now later) p q at.0 (acked_taken now (sound config now later) p q at.0 (round_acks at.0 at.1))))
        ])
      ] in
      subst (λ k. has_pair (first now q) s k ≡ true) found.3 (subst (λ x. has_pair (first now q) x copy.number ≡ true) found.2 goal)
