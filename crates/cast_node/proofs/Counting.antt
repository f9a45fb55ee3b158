-- What is counted of the deliveries is what the definitions count.
use Rattle.std.proofs.Common.{◌≡◌, ℕ, ◌+◌, ◌-◌, ◌<◌, refl, sym, ◌∙◌, ap, subst, Bool, true, false, not, ◌&&◌, ◌||◌, List, [], ◌∷◌, ◌++◌, length, Some, None, inl, inr, arith, append_assoc, length-append}
use Rattle.std.specs.Prelude.{◌==◌, nat_le, is_some, take, if◌then◌else◌, option_to_list}
use Rattle.std.specs.List.{list_any, cons_option}
use Rattle.std.proofs.lemmas.Bool.Decides.{nat_tests, eqb_tells}
use Rattle.std.proofs.lemmas.List.{append-nil, map-append, length-map}
use Rattle.std.proofs.lemmas.List.Folds.{list_any-append}
use Rattle.cast_message.proofs.Tests.{turned_about}
use Rattle.cast_message.proofs.Booleans.{and_false, and_true, or_comm, or_false}
use Rattle.cast_message.specs.declared.config.Config.{Config}
use Rattle.cast_message.specs.declared.message.Item.{Item}
use Rattle.cast_message.specs.declared.message.Item.TheVariants.{Data, Propose, Close}
use Rattle.cast_message.specs.declared.message.Message.{Message}
use Rattle.cast_message.specs.declared.message.Decision.{Decision}
use Rattle.cast_model.specs.Delivery.{value_in, votes, least, decision_by}
use Rattle.cast_model.specs.OwnSteps.{is_first_vote, first_votes, own_decision_on, own_decisions_of}
use Rattle.cast_model.proofs.FirstVotes.{first_votes-last}
use Rattle.cast_agree.specs.Counted.{decision as decision_counted, decision_by as decision_counted_by}
use Rattle.cast_agree.specs.Proposals.{has_proposed, with_item, proposals, counted_of, values, least as least_of}
use Rattle.cast_agree.proofs.Law.{decides_least, proposed-push}
use Rattle.cast_agree.specs.Journal.{counted_all, decisions_all}
use Rattle.cast_node.specs.Stands.{newest_first}

pub newest_first-append : (before : List (ℕ × Item)) (xs ys : List Message) → newest_first before (xs ++ ys) ≡ newest_first (newest_first before xs) ys
unfolding newest_first
newest_first-append before [] ys = refl
newest_first-append before (x ∷ xs) ys = newest_first-append ((x.sender, x.item) ∷ before) xs ys

pub counted_newest : (quorum : ℕ) (before : List (ℕ × Item)) (news : List Message) → counted_of quorum (newest_first before news) ≡ counted_all (counted_of quorum before) news
unfolding newest_first counted_all
counted_newest quorum before [] = refl
counted_newest quorum before (x ∷ xs) = counted_newest quorum ((x.sender, x.item) ∷ before) xs

least_same : (xs : List ℕ) → least_of xs ≡ least xs
unfolding least
least_same [] = refl
least_same (x ∷ xs) = refl

module _ (j : ℕ) where
  abbrev voted : List Message → ℕ → Bool
  voted seen sender = list_any (λ message. message.sender == sender && is_some (value_in j message.item)) seen

  -- proposals counted are the first votes of what was delivered
  pub record CountsVotes (before : List (ℕ × Item)) (seen : List Message) : Type 0 where
    pub proposed : (s : ℕ) → has_proposed (proposals j before) s ≡ voted seen s
    pub votes_are : values (proposals j before) ≡ first_votes j [] seen

  one_more : (before : List (ℕ × Item)) (seen : List Message) (m : Message) → CountsVotes before seen → CountsVotes ((m.sender, m.item) ∷ before) (seen ++ m ∷ [])
  unfolding votes
  one_more before seen m h = by_item m.item refl
    where
      ps : List (ℕ × ℕ)
      ps = proposals j before

      -- an item that proposes nothing here
      skipped : (item : Item) → m.item ≡ item → with_item j ps m.sender item ≡ ps → value_in j item ≡ None → CountsVotes ((m.sender, m.item) ∷ before) (seen ++ m ∷ [])
      skipped item e same none = record {
        proposed = λ s.
            ap (λ qs. has_proposed qs s) (ap (with_item j ps m.sender) e ∙ same)
            ∙ h.proposed s
            ∙ sym (or_false (voted seen s))
            ∙ sym (list_any-append _ seen (m ∷ []) ∙ ap (λ b. voted seen s || (b || false)) (ap (λ o. m.sender == s && is_some o) (ap (value_in j) e ∙ none) ∙ and_false (m.sender == s)));
        votes_are =
            ap values (ap (with_item j ps m.sender) e ∙ same)
            ∙ h.votes_are
            ∙ sym (first_votes-last j [] seen m ∙ ap (λ xs. first_votes j [] seen ++ xs) (ap (λ o. if is_first_vote j seen m.sender then cons_option o [] else []) (ap (value_in j) e ∙ none) ∙ elim (is_first_vote j seen m.sender) as (λ b. ◌≡◌ {A = List ℕ} (if b then [] else []) []) [ true ↦ refl | false ↦ refl ]) ∙ append-nil (first_votes j [] seen));
      }

      proposing : (v : ℕ) → value_in j m.item ≡ Some v → (b : Bool) → has_proposed ps m.sender ≡ b → with_item j ps m.sender m.item ≡ (if not b then ps ++ (m.sender, v) ∷ [] else ps) → CountsVotes ((m.sender, m.item) ∷ before) (seen ++ m ∷ [])
      proposing v e true old is = record {
        proposed = λ s. ap (λ qs. has_proposed qs s) is ∙ h.proposed s ∙ sym (list_any-append _ seen (m ∷ []) ∙ ap (λ o. voted seen s || ((m.sender == s && is_some o) || false)) e ∙ again s);
        votes_are = ap values is ∙ h.votes_are ∙ sym (first_votes-last j [] seen m ∙ ap (λ b. first_votes j [] seen ++ (if not b then votes j (m ∷ []) else [])) (sym (h.proposed m.sender) ∙ old) ∙ append-nil (first_votes j [] seen));
      }
        where
          again : (s : ℕ) → (voted seen s || ((m.sender == s && true) || false)) ≡ voted seen s
          again s = elim (eqb_tells m.sender s) [
            | inl here ↦ (let t : voted seen s ≡ true = sym (h.proposed s) ∙ ap (has_proposed ps) (sym here.1) ∙ old in ap (λ b. b || ((m.sender == s && true) || false)) t ∙ sym t)
            | inr apart ↦ ap (λ b. voted seen s || ((b && true) || false)) apart.0 ∙ or_false (voted seen s)
          ]
      proposing v e false new is = record {
        proposed = λ s. ap (λ qs. has_proposed qs s) is ∙ proposed-push ps m.sender v s ∙ ap (λ b. (s == m.sender) || b) (h.proposed s) ∙ or_comm (s == m.sender) (voted seen s) ∙ ap (λ b. voted seen s || b) (sym (or_false _ ∙ and_true (s == m.sender))) ∙ ap (λ b. voted seen s || ((b && true) || false)) (turned_about s m.sender)
            ∙ sym (list_any-append _ seen (m ∷ []) ∙ ap (λ o. voted seen s || ((m.sender == s && is_some o) || false)) e);
        votes_are = ap values is ∙ map-append (λ (p : ℕ × ℕ). p.1) ps ((m.sender, v) ∷ []) ∙ ap (λ xs. xs ++ v ∷ []) h.votes_are
            ∙ sym (first_votes-last j [] seen m ∙ ap (λ b. first_votes j [] seen ++ (if not b then votes j (m ∷ []) else [])) (sym (h.proposed m.sender) ∙ new) ∙ ap (λ o. first_votes j [] seen ++ cons_option o []) e);
      }

      by_instance : (i v : ℕ) → m.item ≡ Propose i v → (b : Bool) → (i == j) ≡ b → CountsVotes ((m.sender, m.item) ∷ before) (seen ++ m ∷ [])
      by_instance i v e true same = proposing v (ap (value_in j) e ∙ ap (λ b. if b then Some v else None) same) (has_proposed ps m.sender) refl (ap (with_item j ps m.sender) e ∙ ap (λ b. if b && not (has_proposed ps m.sender) then ps ++ (m.sender, v) ∷ [] else ps) same)
      by_instance i v e false differs = skipped (Propose i v) e (ap (λ b. if b && not (has_proposed ps m.sender) then ps ++ (m.sender, v) ∷ [] else ps) differs) (ap (λ b. if b then Some v else None) differs)

      by_item : (item : Item) → m.item ≡ item → CountsVotes ((m.sender, m.item) ∷ before) (seen ++ m ∷ [])
      by_item (Data bytes) e = skipped (Data bytes) e refl refl
      by_item (Propose i v) e = by_instance i v e (i == j) refl
      by_item Close e = skipped Close e refl refl

  counts_from : (before : List (ℕ × Item)) (seen news : List Message) → CountsVotes before seen → CountsVotes (newest_first before news) (seen ++ news)
  unfolding newest_first
  counts_from before seen [] h = subst (CountsVotes before) (sym (append-nil seen)) h
  counts_from before seen (x ∷ xs) h = subst (CountsVotes (newest_first ((x.sender, x.item) ∷ before) xs)) (append_assoc seen (x ∷ []) xs) (counts_from ((x.sender, x.item) ∷ before) (seen ++ x ∷ []) xs (one_more before seen x h))

  pub counts_votes : (log : List Message) → CountsVotes (newest_first [] log) log
  unfolding first_votes
  counts_votes log = counts_from [] [] log (record { proposed = λ s. refl; votes_are = refl })

module _ (config : Config) where
  quorum : ℕ
  quorum = config.nodes - config.faults

  some_quorum : 0 < quorum
  unfolding quorum
  some_quorum = let h = config.faults_in_range in omega (arith, h)

  -- what is decided
  pub decision_is : (log : List Message) (j : ℕ) → decision_counted (counted_of (config.nodes - config.faults) (newest_first [] log)) j
      ≡ (if nat_le (config.nodes - config.faults) (length (first_votes j [] log)) then Some (least (take (config.nodes - config.faults) (first_votes j [] log))) else None)
  unfolding quorum
  decision_is log j =
      let h = counts_votes j log in
      (decides_least (config.nodes - config.faults) some_quorum (newest_first [] log) j).0
      ∙ (λ k. if nat_le (config.nodes - config.faults) ((sym (length-map (proposals j (newest_first [] log)) (λ (p : ℕ × ℕ). p.1)) ∙ ap length h.votes_are) k)
      then Some ((ap (λ xs. least_of (take (config.nodes - config.faults) xs)) h.votes_are ∙ least_same (take (config.nodes - config.faults) (first_votes j [] log))) k) else None)

  none_or_one : (b : Bool) (x : Decision) → option_to_list (if b then Some x else None) ≡ (if b then x ∷ [] else [])
  none_or_one true x = refl
  none_or_one false x = refl

  -- the decision that one delivery completes
  decision_on_is : (log : List Message) (m : Message) (item : Item) → m.item ≡ item → option_to_list (decision_counted_by (counted_of (config.nodes - config.faults) (newest_first [] log)) m.sender item) ≡ own_decision_on config log m item
  unfolding quorum votes
  decision_on_is log m (Propose j v) e =
      let h = counts_votes j log in
      ap option_to_list ((decides_least (config.nodes - config.faults) some_quorum (newest_first [] log) j).1 m.sender v)
      ∙ none_or_one (not (has_proposed (proposals j (newest_first [] log)) m.sender) && length (proposals j (newest_first [] log)) + 1 == config.nodes - config.faults) (record { instance = j; value = least_of (values (proposals j (newest_first [] log)) ++ v ∷ []) })
      ∙ (λ k. if not (h.proposed m.sender k) && (sym (length-map (proposals j (newest_first [] log)) (λ (p : ℕ × ℕ). p.1)) ∙ ap length h.votes_are) k + 1 == config.nodes - config.faults
      then record { instance = j; value = (ap (λ xs. least_of (xs ++ v ∷ [])) h.votes_are ∙ least_same (first_votes j [] log ++ v ∷ [])) k } ∷ [] else [])
      ∙ by_test (is_first_vote j log m.sender) refl
    where
      by_test : (b : Bool) → is_first_vote j log m.sender ≡ b →
          (if b && length (first_votes j [] log) + 1 == config.nodes - config.faults then record { instance = j; value = least (first_votes j [] log ++ v ∷ []) } ∷ [] else [])
          ≡ (if b then decision_by config j (first_votes j [] (log ++ m ∷ [])) else [])
      by_test false is = refl
      by_test true is =
          (λ k. if sym (length-append (first_votes j [] log) (v ∷ [])) k == config.nodes - config.faults then record { instance = j; value = least (first_votes j [] log ++ v ∷ []) } ∷ [] else [])
          ∙ ap (decision_by config j) (sym (first_votes-last j [] log m
          ∙ ap (λ b. first_votes j [] log ++ (if b then votes j (m ∷ []) else [])) is
          ∙ ap (λ o. first_votes j [] log ++ cons_option o []) (ap (value_in j) e ∙ ap (λ b. if b then Some v else None) (let z : (j == j) ≡ true = grind (arith, nat_tests) in z))))
  decision_on_is log m item e = refl

  pub decisions_are : (log news : List Message) → decisions_all (counted_of (config.nodes - config.faults) (newest_first [] log)) news ≡ own_decisions_of config log news
  unfolding decisions_all own_decisions_of newest_first
  decisions_are log [] = refl
  decisions_are log (m ∷ ms) =
      λ k. decision_on_is log m m.item refl k
      ++ (ap (λ all. decisions_all (counted_of (config.nodes - config.faults) all) ms) (sym (newest_first-append [] log (m ∷ []))) ∙ decisions_are (log ++ m ∷ []) ms) k
