-- A quorum of senders decides, by the least of their values.
use Rattle.std.specs.Prelude.{◌≡◌, ℕ, suc, ◌+◌, ◌==◌, ◌<◌, ◌≤◌, nat_le, nat_eq, min, Bool, true, false, not, ◌&&◌, ◌||◌, cond, if◌then◌else◌, List, [], ◌∷◌, ◌++◌, length, take, Option, Some, None, unwrap_or, option_map, refl}
use Rattle.std.specs.List.{fold}
use Rattle.std.specs.Ordering.{nat_cmp, eq_by_cmp}
use Rattle.std.specs.Cmp.{nat_cmp_total}
use Rattle.std.specs.FinMap as finite
use Rattle.std.specs.FinSet as set
use Rattle.std.specs.FinSet.{len-empty, contains-empty, contains-insert}
use Rattle.std.specs.FinMap.{get-insert, get-empty}
use Rattle.std.proofs.Common.{sym, ap, ◌∙◌, subst, arith, inl, inr, length-append}
use Rattle.std.proofs.lemmas.List.{take_all, take-append-le, map-append, length-map}
use Rattle.std.proofs.lemmas.Bool.Decides.{nat_tests, leb_tells, eqb_tells}
use Rattle.cast_message.specs.Members.{len-new_member}
use Rattle.cast_message.specs.declared.message.Item.{Item}
use Rattle.cast_message.specs.declared.message.Item.TheVariants.{Data, Propose, Close}
use Rattle.cast_message.specs.declared.message.Decision.{Decision}
use Rattle.cast_agree.specs.declared.tally.Tally.{Tally}
use Rattle.cast_agree.specs.Tallies.{no_tally, with_proposal, tally_after, decided, decided_by, is_complete}
use Rattle.cast_agree.specs.Counted.{Counted, tally_at}
use Rattle.cast_agree.specs.Proposals.{has_proposed, proposals, counted_of, values, least, settled, settled_by, DecidesLeast}

pub record StandsFor (quorum : ℕ) (tally : Tally) (ps : List (ℕ × ℕ)) : Type 0 where
  pub count : set.len tally.proposers ≡ min (length ps) quorum
  pub members : length ps < quorum → (s : ℕ) → set.contains tally.proposers s ≡ has_proposed ps s
  pub value : tally.least ≡ least (take quorum (values ps))

values-push : (ps : List (ℕ × ℕ)) (s v : ℕ) → values (ps ++ (s, v) ∷ []) ≡ values ps ++ v ∷ []
values-push ps s v = map-append (λ p. p.1) ps ((s, v) ∷ [])

length-values : (ps : List (ℕ × ℕ)) → length (values ps) ≡ length ps
length-values ps = length-map ps (λ p. p.1)

pub proposed-push : (ps : List (ℕ × ℕ)) (s v q : ℕ) → has_proposed (ps ++ (s, v) ∷ []) q ≡ ((q == s) || has_proposed ps q)
proposed-push [] s v q = refl
proposed-push (p ∷ ps) s v q = let rest = proposed-push ps s v q in grind (arith, nat_tests, rest)

fold-push : (x : ℕ) (xs : List ℕ) (v : ℕ) → fold min x (xs ++ v ∷ []) ≡ min (fold min x xs) v
fold-push x [] v = refl
fold-push x (y ∷ xs) v = fold-push (min x y) xs v

least-push : (xs : List ℕ) (v : ℕ) → least (xs ++ v ∷ []) ≡ (if length xs == 0 then v else min (least xs) v)
least-push [] v = refl
least-push (x ∷ xs) v = fold-push x xs v ∙ sym (ap (λ b. cond b v (min (fold min x xs) v)) (let e : nat_eq (suc (length xs)) 0 ≡ false = grind (arith, nat_tests) in e))

module _ (quorum : ℕ) where
  still : (tally : Tally) (ps : List (ℕ × ℕ)) (s v : ℕ) → quorum ≤ length ps → StandsFor quorum tally ps → StandsFor quorum tally (ps ++ (s, v) ∷ [])
  still tally ps s v l h = record {
    count = omega (arith, h.count, length-append ps ((s, v) ∷ []));
    members = λ m. absurd (omega (arith, m, length-append ps ((s, v) ∷ [])));
    value = h.value ∙ sym (ap (λ xs. least (take quorum xs)) (values-push ps s v) ∙ ap least (take-append-le quorum (values ps) (v ∷ []) (omega (arith, length-values ps))));
  }

  complete : (tally : Tally) (ps : List (ℕ × ℕ)) → quorum ≤ length ps → StandsFor quorum tally ps → is_complete quorum tally ≡ true
  complete tally ps l h = let e : set.len tally.proposers ≡ quorum = omega (arith, h.count) in grind (arith, nat_tests)

  lacking : (tally : Tally) (ps : List (ℕ × ℕ)) → length ps < quorum → StandsFor quorum tally ps → is_complete quorum tally ≡ false
  lacking tally ps l h = let e : set.len tally.proposers ≡ length ps = omega (arith, h.count) in grind (arith, nat_tests)

  eq_cmp : (q s : ℕ) → eq_by_cmp nat_cmp q s ≡ (q == s)
  eq_cmp q s = grind (arith, nat_tests)

  one_more : (tally : Tally) (ps : List (ℕ × ℕ)) (s v : ℕ) → length ps < quorum → has_proposed ps s ≡ false → StandsFor quorum tally ps → StandsFor quorum (with_proposal tally s v) (ps ++ (s, v) ∷ [])
  one_more tally ps s v l fresh h = record {
    count = omega (arith, h.count, length-append ps ((s, v) ∷ []), len-new_member tally.proposers s (h.members l s ∙ fresh));
    members = λ _ q. contains-insert nat_cmp_total tally.proposers s q ∙ (λ i. eq_cmp q s i || h.members l q i) ∙ sym (proposed-push ps s v q);
    value =
        (λ i. if (len_is i) == 0 then v else min (least_is i) v)
        ∙ sym (ap (λ xs. least (take quorum xs)) (values-push ps s v) ∙ ap least (take_all quorum (values ps ++ v ∷ []) (omega (arith, length-append (values ps) (v ∷ []), length-values ps))) ∙ least-push (values ps) v);
  }
    where
      len_is : set.len tally.proposers ≡ length (values ps)
      len_is = omega (arith, h.count, length-values ps)

      least_is : tally.least ≡ least (values ps)
      least_is = h.value ∙ ap least (take_all quorum (values ps) (omega (arith, length-values ps)))

  chosen : (tally : Tally) (s v : ℕ) (a b : Bool) → is_complete quorum tally ≡ a → set.contains tally.proposers s ≡ b → tally_after quorum tally s v ≡ cond (not a && not b) (with_proposal tally s v) tally
  chosen tally s v a b e f = λ i. cond (not (e i) && not (f i)) (with_proposal tally s v) tally

  step : (tally : Tally) (ps : List (ℕ × ℕ)) (s v : ℕ) → StandsFor quorum tally ps → StandsFor quorum (tally_after quorum tally s v) (if not (has_proposed ps s) then ps ++ (s, v) ∷ [] else ps)
  step tally ps s v h = elim (leb_tells quorum (length ps)) [
    | inl l ↦ subst (λ t. StandsFor quorum t (if not (has_proposed ps s) then ps ++ (s, v) ∷ [] else ps)) (sym (chosen tally s v true (set.contains tally.proposers s) (complete tally ps l.1 h) refl)) (full (has_proposed ps s) l.1)
    | inr l ↦ open_case (has_proposed ps s) refl l.1
  ]
    where
      full : (b : Bool) → quorum ≤ length ps → StandsFor quorum tally (if not b then ps ++ (s, v) ∷ [] else ps)
      full true l = h
      full false l = still tally ps s v l h

      open_case : (b : Bool) → has_proposed ps s ≡ b → length ps < quorum → StandsFor quorum (tally_after quorum tally s v) (if not b then ps ++ (s, v) ∷ [] else ps)
      open_case true e l = subst (λ t. StandsFor quorum t ps) (sym (chosen tally s v false true (lacking tally ps l h) (h.members l s ∙ e))) h
      open_case false e l = subst (λ t. StandsFor quorum t (ps ++ (s, v) ∷ [])) (sym (chosen tally s v false false (lacking tally ps l h) (h.members l s ∙ e))) (one_more tally ps s v l e h)

  quorum_of : (past : List (ℕ × Item)) → (counted_of quorum past).quorum ≡ quorum
  quorum_of [] = refl
  quorum_of ((s, Data b) ∷ past) = quorum_of past
  quorum_of ((s, Propose i v) ∷ past) = quorum_of past
  quorum_of ((s, Close) ∷ past) = quorum_of past

  stands : (past : List (ℕ × Item)) (j : ℕ) → StandsFor quorum (tally_at (counted_of quorum past) j) (proposals j past)
  stands [] j = subst (λ t. StandsFor quorum t []) (sym (ap (λ o. unwrap_or o no_tally) (get-empty nat_cmp j))) record { count = len-empty nat_cmp ∙ (let e : 0 ≡ min 0 quorum = omega arith in e); members = λ _ s. contains-empty nat_cmp s; value = ap least (sym (take_all quorum [] (omega arith))) }
  stands ((s, Data b) ∷ past) j = stands past j
  stands ((s, Close) ∷ past) j = stands past j
  stands ((s, Propose i v) ∷ past) j = elim (eqb_tells i j) [ inl e ↦ here (stands past j) e.0 e.1 | inr e ↦ elsewhere (stands past j) e.0 e.1 ]
    where
      before : Counted
      before = counted_of quorum past

      ps : List (ℕ × ℕ)
      ps = proposals j past

      tie_here : i ≡ j → eq_by_cmp nat_cmp j i ≡ true
      tie_here e = grind (arith, nat_tests)

      tie_apart : (i ≡ j → ⊥) → eq_by_cmp nat_cmp j i ≡ false
      tie_apart e = grind (arith, nat_tests)

      put : Tally
      put = tally_after before.quorum (tally_at before i) s v

      found : finite.get (finite.insert before.tallies i put) j ≡ cond (eq_by_cmp nat_cmp j i) (Some put) (finite.get before.tallies j)
      found = get-insert nat_cmp_total before.tallies i put j

      here : StandsFor quorum (tally_at (counted_of quorum past) j) (proposals j past) → nat_eq i j ≡ true → i ≡ j → StandsFor quorum (unwrap_or (finite.get (finite.insert before.tallies i put) j) no_tally) (if nat_eq i j && not (has_proposed ps s) then ps ++ (s, v) ∷ [] else ps)
      here h t e =
          let tally : unwrap_or (finite.get (finite.insert before.tallies i put) j) no_tally ≡ tally_after quorum (tally_at before j) s v =
          ap (λ o. unwrap_or o no_tally) (found ∙ ap (λ b. cond b (Some put) (finite.get before.tallies j)) (tie_here e)) ∙ (λ k. tally_after (quorum_of past k) (tally_at before (e k)) s v) in
          let list : (if nat_eq i j && not (has_proposed ps s) then ps ++ (s, v) ∷ [] else ps) ≡ (if not (has_proposed ps s) then ps ++ (s, v) ∷ [] else ps) = ap (λ b. if b && not (has_proposed ps s) then ps ++ (s, v) ∷ [] else ps) t in
          subst (λ t. StandsFor quorum t (if nat_eq i j && not (has_proposed ps s) then ps ++ (s, v) ∷ [] else ps)) (sym tally)
          (subst (λ l. StandsFor quorum (tally_after quorum (tally_at before j) s v) l) (sym list) (step (tally_at before j) ps s v h))

      elsewhere : StandsFor quorum (tally_at (counted_of quorum past) j) (proposals j past) → nat_eq i j ≡ false → (i ≡ j → ⊥) → StandsFor quorum (unwrap_or (finite.get (finite.insert before.tallies i put) j) no_tally) (if nat_eq i j && not (has_proposed ps s) then ps ++ (s, v) ∷ [] else ps)
      elsewhere h t e =
          let tally : unwrap_or (finite.get (finite.insert before.tallies i put) j) no_tally ≡ tally_at before j = ap (λ o. unwrap_or o no_tally) (found ∙ ap (λ b. cond b (Some put) (finite.get before.tallies j)) (tie_apart e)) in
          let list : (if nat_eq i j && not (has_proposed ps s) then ps ++ (s, v) ∷ [] else ps) ≡ ps = ap (λ b. if b && not (has_proposed ps s) then ps ++ (s, v) ∷ [] else ps) t in
          subst (λ t. StandsFor quorum t (if nat_eq i j && not (has_proposed ps s) then ps ++ (s, v) ∷ [] else ps)) (sym tally) (subst (λ l. StandsFor quorum (tally_at before j) l) (sym list) h)

  decided_is : (tally : Tally) (ps : List (ℕ × ℕ)) → StandsFor quorum tally ps → decided quorum tally ≡ settled quorum ps
  decided_is tally ps h = λ i. if (test i) then Some (h.value i) else None
    where
      test : nat_le quorum (set.len tally.proposers) ≡ nat_le quorum (length ps)
      test = elim (leb_tells quorum (length ps)) [ inl l ↦ complete tally ps l.1 h ∙ sym l.0 | inr l ↦ lacking tally ps l.1 h ∙ sym l.0 ]

  none_counted : (tally : Tally) (s v : ℕ) (a b : Bool) → is_complete quorum tally ≡ a → set.contains tally.proposers s ≡ b → decided_by quorum tally s v ≡ cond (not a && not b) (decided quorum (with_proposal tally s v)) None
  none_counted tally s v a b e f = λ i. cond (not (e i) && not (f i)) (decided quorum (with_proposal tally s v)) None

  settled_push : (ps : List (ℕ × ℕ)) (s v : ℕ) → length ps < quorum → settled quorum (ps ++ (s, v) ∷ []) ≡ (if length ps + 1 == quorum then Some (least (values ps ++ v ∷ [])) else None)
  settled_push ps s v l =
      let test : nat_le quorum (length (ps ++ (s, v) ∷ [])) ≡ nat_eq (length ps + 1) quorum = ap (nat_le quorum) (length-append ps ((s, v) ∷ [])) ∙ last (length ps) l in
      λ i. if (test i) then Some ((ap (λ xs. least (take quorum xs)) (values-push ps s v) ∙ ap least (take_all quorum (values ps ++ v ∷ []) (omega (arith, length-append (values ps) (v ∷ []), length-values ps)))) i) else None
    where
      last : (n : ℕ) → n < quorum → nat_le quorum (n + 1) ≡ nat_eq (n + 1) quorum
      last n l = grind (arith, nat_tests)

  and_false : (b : Bool) → (not b && false) ≡ false
  and_false true = refl
  and_false false = refl

  made : (j : ℕ) (b : Bool) (v : ℕ) → option_map (λ (value : ℕ). let d : Decision = record { instance = j; value = value } in d) (if b then Some v else None) ≡ (if b then Some (let d : Decision = record { instance = j; value = v } in d) else None)
  made j true v = refl
  made j false v = refl

  decided_by_is : (j : ℕ) (tally : Tally) (ps : List (ℕ × ℕ)) (s v : ℕ) → StandsFor quorum tally ps → option_map (λ (value : ℕ). let d : Decision = record { instance = j; value = value } in d) (decided_by quorum tally s v) ≡ settled_by quorum j ps s v
  decided_by_is j tally ps s v h = elim (leb_tells quorum (length ps)) [ inl l ↦ full l.1 | inr l ↦ open_case (has_proposed ps s) refl l.1 ]
    where
      f : Option ℕ → Option Decision
      f o = option_map (λ (value : ℕ). let d : Decision = record { instance = j; value = value } in d) o

      past_test : (n : ℕ) → quorum ≤ n → nat_eq (n + 1) quorum ≡ false
      past_test n l = grind (arith, nat_tests)

      full : quorum ≤ length ps → f (decided_by quorum tally s v) ≡ settled_by quorum j ps s v
      full l = ap f (none_counted tally s v true (set.contains tally.proposers s) (complete tally ps l h) refl)
          ∙ sym (ap (λ b. if not (has_proposed ps s) && b then Some (let d : Decision = record { instance = j; value = least (values ps ++ v ∷ []) } in d) else None) (past_test (length ps) l)
          ∙ ap (λ b. if b then Some (let d : Decision = record { instance = j; value = least (values ps ++ v ∷ []) } in d) else None) (and_false (has_proposed ps s)))

      open_case : (b : Bool) → has_proposed ps s ≡ b → length ps < quorum → f (decided_by quorum tally s v) ≡ settled_by quorum j ps s v
      open_case true e l = ap f (none_counted tally s v false true (lacking tally ps l h) (h.members l s ∙ e))
          ∙ sym (ap (λ b. if not b && (length ps + 1 == quorum) then Some (let d : Decision = record { instance = j; value = least (values ps ++ v ∷ []) } in d) else None) e)
      open_case false e l = ap f (none_counted tally s v false false (lacking tally ps l h) (h.members l s ∙ e) ∙ decided_is (with_proposal tally s v) (ps ++ (s, v) ∷ []) (one_more tally ps s v l e h) ∙ settled_push ps s v l)
          ∙ made j (length ps + 1 == quorum) (least (values ps ++ v ∷ []))
          ∙ sym (ap (λ b. if not b && (length ps + 1 == quorum) then Some (let d : Decision = record { instance = j; value = least (values ps ++ v ∷ []) } in d) else None) e)

pub decides_least : DecidesLeast
decides_least quorum some past j = (
  ap (λ n. decided n (tally_at (counted_of quorum past) j)) (quorum_of quorum past) ∙ decided_is quorum (tally_at (counted_of quorum past) j) (proposals j past) (stands quorum past j),
  λ s v. ap (λ n. option_map (λ (value : ℕ). let d : Decision = record { instance = j; value = value } in d) (decided_by n (tally_at (counted_of quorum past) j) s v)) (quorum_of quorum past) ∙ decided_by_is quorum j (tally_at (counted_of quorum past) j) (proposals j past) s v (stands quorum past j),
)
