-- At rest all live nodes hold the same pairs.
use Rattle.std.proofs.Common.{◌≡◌, ℕ, zero, suc, ◌+◌, ◌<◌, ◌≤◌, refl, sym, ◌∙◌, ap, subst, true, ◌&&◌, [], ◌∷◌, length, inl, inr, arith}
use Rattle.std.specs.Prelude.{IsTrue}
use Rattle.std.specs.List.{range_with_len, take_while}
use Rattle.std.proofs.lemmas.Bool.{and_from, eqb-true, ne_eqb, cases_eq, not_from_false, true_from_ne_false, false≢true}
use Rattle.cast_message.specs.declared.config.Config.{Config}
use Rattle.cast_message.specs.declared.config.Mode.{Mode}
use Rattle.cast_message.specs.declared.config.Mode.TheVariants.{Basic, Uniform}
use Rattle.cast_message.specs.declared.message.Message.{Message}
use Rattle.cast_message.specs.declared.message.FrameBody.{FrameBody}
use Rattle.cast_message.specs.declared.message.FrameBody.TheVariants.{Carry, Took}
use Rattle.cast_model.specs.History.{History, stream, broadcast, is_live, has_pair, given, given_of, copy_at, first, taken, acked, is_carry_of, is_took_of}
use Rattle.cast_model.specs.Delivery.{is_ready, is_known_enough, delivered}
use Rattle.cast_model.specs.Replies.{IsAccepted}
use Rattle.cast_model.specs.Rounds.{owed, Rest}
use Rattle.cast_model.proofs.Members.{Member, here, there, filter-Member, place_of_Member}
use Rattle.cast_model.proofs.Sound.{Sound, sound, BodyOk, HeldAt, Member-has_pair, arrivals-Told}
use Rattle.cast_model.proofs.Ready.{both_same}

-- what was acknowledged was taken
pub acked_taken : (past : History) → Sound past → (p q slot : ℕ) → acked past p q slot ≡ true → taken past p q slot ≡ true
unfolding acked
acked_taken past ok p q slot h =
    let told = arrivals-Told past ok p q (is_took_of slot) h in
    by_body told.body told.body_ok told.tells
  where
    by_body : (body : FrameBody) → BodyOk past q p body → is_took_of slot body ≡ true → taken past p q slot ≡ true
    by_body (Carry place message) b e = absurd (false≢true e)
    by_body (Took place) b e = subst (λ k. taken past p q k ≡ true) (eqb-true _ _ e) b

-- what was taken is held
pub taken_held : (past : History) → Sound past → (p q slot : ℕ) → taken past p q slot ≡ true → has_pair (first past q) (copy_at (given past p q) slot).sender (copy_at (given past p q) slot).number ≡ true
unfolding taken
taken_held past ok p q slot h =
    let told = arrivals-Told past ok q p (is_carry_of slot) h in
    by_body told.body told.body_ok told.held told.tells
  where
    by_body : (body : FrameBody) → BodyOk past p q body → HeldAt past q body → is_carry_of slot body ≡ true →
        has_pair (first past q) (copy_at (given past p q) slot).sender (copy_at (given past p q) slot).number ≡ true
    by_body (Took place) b held e = absurd (false≢true e)
    by_body (Carry place message) b held e =
        subst (λ k. has_pair (first past q) (copy_at (given past p q) k).sender (copy_at (given past p q) k).number ≡ true) (eqb-true _ _ e)
        (subst (λ i. has_pair (first past q) (copy_at (given past p q) place).sender i ≡ true) b.number_is
        (subst (λ s. has_pair (first past q) s message.number ≡ true) b.sender_is held))

pub Member-range_with_len : (n a k : ℕ) → a ≤ k → k < a + n → Member k (range_with_len a n)
Member-range_with_len zero a k low high = absurd (omega arith)
Member-range_with_len (suc n) a k low high = elim (cases_eq k a) [
  | inl same ↦ subst (λ x. Member k (x ∷ range_with_len (a + 1) n)) same here
  | inr differs ↦ there (Member-range_with_len n (a + 1) k (omega arith) (omega arith))
]

-- where nothing is owed, each slot is acknowledged
pub nothing_owed : (past : History) (p q slot : ℕ) → owed past p q ≡ [] → slot < length (given past p q) → acked past p q slot ≡ true
unfolding owed
nothing_owed past p q slot none h = true_from_ne_false _ (λ e.
    absent (subst (λ slots. Member slot slots) none (filter-Member _ slot _ (Member-range_with_len (length (given past p q)) 0 slot (omega arith) (omega arith)) (not_from_false _ e))))
  where
    absent : Member slot [] → ⊥
    absent m = elim m [ ]

module _ (config : Config) (past : History) (accepted : IsAccepted config past) where
  -- what p holds, q holds, where p owes it nothing
  pub spreads : (p q s i : ℕ) → owed past p q ≡ [] → has_pair (first past p) s i ≡ true → has_pair (first past q) s i ≡ true
  unfolding given given_of copy_at
  spreads p q s i none held =
      let ok = sound config past accepted in
      let found = Member-has_pair (first past p) s i held in
      let copy = found.0 in
      let goal : has_pair (first past q) copy.sender copy.number ≡ true =
      elim (cases_eq copy.sender q) [
        | inl own ↦ subst (λ x. has_pair (first past q) x copy.number ≡ true) (sym own)
            (ok.own_held q copy.number (subst (λ x. copy.number < length (stream past x)) own (ok.copies_ok p copy found.1).broadcast))
        | inr another ↦ (elim (cases_eq copy.source q) [
          | inl back ↦ subst (λ x. has_pair (first past x) copy.sender copy.number ≡ true) back (ok.copies_ok p copy found.1).held_at_source
          | inr elsewhere ↦
              (let m : Member copy (given past p q) = filter-Member _ copy (first past p) found.1
              (and_from _ _ (not_from_false _ (ne_eqb copy.sender q another)) (not_from_false _ (ne_eqb copy.source q elsewhere))) in
              let at = place_of_Member copy (given past p q) (record { sender = 0; number = 0; source = 0 }) m in
              subst (λ c. has_pair (first past q) c.sender c.number ≡ true) at.2
              (taken_held past ok p q at.0 (acked_taken past ok p q at.0 (nothing_owed past p q at.0 none at.1))))
        ])
      ] in
      subst (λ k. has_pair (first past q) s k ≡ true) found.3 (subst (λ x. has_pair (first past q) x copy.number ≡ true) found.2 goal)

  -- at rest two live nodes hold the same pairs
  pub same_pairs : Rest config past → (p q : ℕ) → p < config.nodes → q < config.nodes → IsTrue (is_live past p) → IsTrue (is_live past q) → (s i : ℕ) → has_pair (first past p) s i ≡ has_pair (first past q) s i
  same_pairs rest p q p_in q_in p_live q_live s i = elim (cases_eq p q) [
    | inl same ↦ ap (λ x. has_pair (first past x) s i) same
    | inr differs ↦ both_same _ _
        (spreads p q s i (rest.settled p q p_in q_in p_live q_live differs))
        (spreads q p s i (rest.settled q p q_in p_in q_live p_live (λ e. differs (sym e))))
  ]

  -- so in basic mode they have delivered the same from each sender
  pub same_delivered : Rest config past → config.mode ≡ Basic → (p q : ℕ) → p < config.nodes → q < config.nodes → IsTrue (is_live past p) → IsTrue (is_live past q) → (s : ℕ) → delivered config past p s ≡ delivered config past q s
  unfolding delivered is_ready is_known_enough
  same_delivered rest basic p q p_in q_in p_live q_live s =
      let same : (λ (message : Message). is_ready config past p s message.number) ≡ (λ (message : Message). is_ready config past q s message.number) =
      λ j message. ready message.number j in
      ap (λ f. take_while f (broadcast past s)) same
    where
      enough : (mode : Mode) → mode ≡ Basic → (x i : ℕ) → is_known_enough mode config past x s i ≡ true
      enough Basic e x i = refl
      enough Uniform e x i = absurd (cc)

      ready : (i : ℕ) → is_ready config past p s i ≡ is_ready config past q s i
      ready i = ap (λ b. b && is_known_enough config.mode config past p s i) (same_pairs rest p q p_in q_in p_live q_live s i)
          ∙ ap (λ b. has_pair (first past q) s i && b) (enough config.mode basic p i ∙ sym (enough config.mode basic q i))
