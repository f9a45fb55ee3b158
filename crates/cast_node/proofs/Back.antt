-- What is held back of a sender, and what has its turn, after each step.
use Rattle.std.proofs.Common.{◌≡◌, ◌≢◌, ℕ, ◌-◌, ◌<◌, refl, sym, ◌∙◌, ap, Bool, true, false, ◌&&◌, ◌||◌, cond, List, [], ◌∷◌, ◌++◌, map, Option, Some, None, inl, inr, arith}
use Rattle.std.specs.Prelude.{◌==◌, is_some, unwrap_or, option_map, if◌then◌else◌}
use Rattle.std.specs.List.{filter_map, cons_option, list_any, range_with_len}
use Rattle.std.proofs.lemmas.Bool.{cases_lt, cases_eq, false≢true, and_parts, eqb-true, false_from_ne_true, eq-eqb, ne_eqb}
use Rattle.cast_message.proofs.Booleans.{or_comm, or_false}
use Rattle.cast_message.specs.declared.config.Config.{Config}
use Rattle.cast_message.specs.declared.message.Item.{Item}
use Rattle.cast_message.specs.declared.message.Item.TheVariants.{Close}
use Rattle.cast_message.specs.declared.message.Message.{Message}
use Rattle.cast_model.specs.History.{has_pair, numbered}
use Rattle.cast_model.specs.Delivery.{is_pair}
use Rattle.cast_model.specs.Steps.{Step, Steps, Held, copy_of, held}
use Rattle.cast_model.specs.OwnSteps.{own_copies, own_is_ready, own_known_enough, own_next, message_at, messages_from, IsOwnAccepted}
use Rattle.cast_model.proofs.Members.{Member, here, there}
use Rattle.cast_model.proofs.Dues.{range_bounds}
use Rattle.cast_model.proofs.OwnFronts.{own_below_next, own_not_at_next, own_held_below}
use Rattle.cast_fifo.specs.HeldBack.{HeldBack, with_item, known_items, known_after}
use Rattle.cast_fifo.specs.Calls.{first_of}
use Rattle.cast_fifo.specs.HoldsBack.{HoldsBack, waiting_of}
use Rattle.cast_fifo.proofs.Stands.{same_stands, with_one, holds, Turned, knows, numbered-map}
use Rattle.cast_model.proofs.OwnGrowth.{own_ready_kept}
use Rattle.cast_model.specs.Shown.{item_of}
use Rattle.cast_node.specs.Stands.{item_at}

-- the message of a pair once one more is held
message_at-more : (hs : List Held) (h : Held) (s i : ℕ) → item_at (hs ++ h ∷ []) s i ≡ first_of (item_at hs s i) (if is_pair (copy_of h) s i then Some h.message.item else None)
unfolding message_at
message_at-more [] h s i = elim (is_pair (copy_of h) s i) as (λ b. option_map item_of (cond b (Some h.message) None) ≡ cond b (Some h.message.item) None) [ true ↦ refl | false ↦ refl ]
message_at-more (x ∷ hs) h s i = elim (is_pair (copy_of x) s i) as (λ b. option_map item_of (cond b (Some x.message) (message_at (hs ++ h ∷ []) s i)) ≡ first_of (option_map item_of (cond b (Some x.message) (message_at hs s i))) (if is_pair (copy_of h) s i then Some h.message.item else None)) [ true ↦ refl | false ↦ message_at-more hs h s i ]

-- a held pair has a message, of that sender and number
record Found (hs : List Held) (s i : ℕ) : Type 0 where
  message : Message
  at : message_at hs s i ≡ Some message
  sender : message.sender ≡ s
  number : message.number ≡ i

found : (hs : List Held) (s i : ℕ) → has_pair (map copy_of hs) s i ≡ true → Found hs s i
unfolding message_at has_pair
found [] s i e = absurd (false≢true e)
found (h ∷ hs) s i e = by_test (is_pair (copy_of h) s i) refl e (found hs s i)
  where
    by_test : (b : Bool) → is_pair (copy_of h) s i ≡ b → (b || list_any (λ copy. copy.sender == s && copy.number == i) (map copy_of hs)) ≡ true → (list_any (λ copy. copy.sender == s && copy.number == i) (map copy_of hs) ≡ true → Found hs s i) → Found (h ∷ hs) s i
    by_test true is e ih =
        let p = and_parts (h.message.sender == s) _ is in
        record { message = h.message; at = ap (λ b. cond b (Some h.message) (message_at hs s i)) is; sender = eqb-true h.message.sender s p.0; number = eqb-true h.message.number i p.1 }
    by_test false is e ih = let f = ih e in record { message = f.message; at = ap (λ b. cond b (Some h.message) (message_at hs s i)) is ∙ f.at; sender = f.sender; number = f.number }

pub item_there : (hs : List Held) (s i : ℕ) → has_pair (map copy_of hs) s i ≡ true → is_some (item_at hs s i) ≡ true
item_there hs s i e = ap (λ o. is_some (option_map item_of o)) (found hs s i e).at

pub item_is : (hs : List Held) (s i : ℕ) → is_some (item_at hs s i) ≡ has_pair (map copy_of hs) s i
unfolding message_at has_pair
item_is [] s i = refl
item_is (h ∷ hs) s i = elim (is_pair (copy_of h) s i) as (λ b. is_some (option_map item_of (cond b (Some h.message) (message_at hs s i))) ≡ (b || has_pair (map copy_of hs) s i)) [ true ↦ refl | false ↦ item_is hs s i ]

pub some_waiting : (o : Option Item) (ready : Bool) → is_some (waiting_of o ready) ≡ is_some o
some_waiting None ready = refl
some_waiting (Some item) ready = refl

-- the next number of the hold-back is the node's
pub next_is : (config : Config) (me : ℕ) (steps : Steps) (s : ℕ) (items : ℕ → Option Item) (held : HeldBack) → HoldsBack items (own_is_ready config me steps s) held → held.next ≡ own_next config me steps s
next_is config me steps s items held h = elim (cases_lt held.next (own_next config me steps s)) [
  | inl below ↦ absurd (false≢true (sym h.stops ∙ own_below_next config me steps s held.next below))
  | inr above ↦ (elim (cases_lt (own_next config me steps s) held.next) [
    | inl past ↦ absurd (false≢true (sym (own_not_at_next config me steps s) ∙ h.below (own_next config me steps s) past))
    | inr same ↦ omega (arith, above, same)
  ])
]

module _ {A B : Type 0} where
  filter_map-map : (f : A → Option B) (g : A → B) (xs : List A) → ((x : A) → Member x xs → f x ≡ Some (g x)) → filter_map f xs ≡ map g xs
  filter_map-map f g [] h = refl
  filter_map-map f g (x ∷ xs) h = ap (λ o. cons_option o (filter_map f xs)) (h x here) ∙ ap (λ ys. g x ∷ ys) (filter_map-map f g xs (λ y m. h y (there m)))

-- what the hold-back gives is what the definitions deliver
pub turns_are : (config : Config) (me : ℕ) (steps : Steps) (s n : ℕ) (run : List Item) (back : HeldBack) → Turned (item_at (held me steps) s) (own_is_ready config me steps s) n run back → numbered s n run ≡ messages_from (held me steps) s n (own_next config me steps s)
unfolding messages_from
turns_are config me steps s n run back h =
    ap (numbered s n) h.run_is
    ∙ numbered-map s (λ i. unwrap_or (item_at (held me steps) s i) Close) n (back.next - n)
    ∙ sym (filter_map-map (message_at (held me steps) s) (λ i. record { sender = s; number = i; item = unwrap_or (item_at (held me steps) s i) Close }) (range_with_len n (back.next - n)) (λ i m.
    let inside = range_bounds (back.next - n) n i m in
    let below : i < back.next = (let low = h.from in omega (arith, inside.0, inside.1, low)) in
    let f = found (held me steps) s i (own_held_below config me steps s i (h.stands.below i below)) in
    f.at ∙ ap (λ x. Some x) (λ k. record { sender = f.sender k; number = f.number k; item = unwrap_or (option_map item_of (sym f.at k)) Close })))
    ∙ ap (λ k. messages_from (held me steps) s n k) (next_is config me steps s _ back h.stands)

module _ (config : Config) (me : ℕ) (step : Step) (steps : Steps) (accepted : IsOwnAccepted config me (step ∷ steps)) (s i : ℕ) where
  abbrev items_after : ℕ → Option Item
  items_after = item_at (held me (step ∷ steps)) s

  abbrev ready_before : ℕ → Bool
  ready_before = own_is_ready config me steps s

  abbrev ready_after : ℕ → Bool
  ready_after = own_is_ready config me (step ∷ steps) s

  there_all : (k : ℕ) → own_is_ready config me (step ∷ steps) s k ≡ true → is_some (item_at (held me (step ∷ steps)) s k) ≡ true
  there_all k e = item_there (held me (step ∷ steps)) s k (own_held_below config me (step ∷ steps) s k e)

  module _ (back : HeldBack) (pair : has_pair (own_copies me (step ∷ steps)) s i ≡ true) (others : (k : ℕ) → k ≢ i → own_is_ready config me (step ∷ steps) s k ≡ own_is_ready config me steps s k)
      (stands : HoldsBack (item_at (held me (step ∷ steps)) s) (own_is_ready config me steps s) back) where
    -- enough is known of the pair
    pub told_turn : own_known_enough config.mode config me (step ∷ steps) s i ≡ true → Turned items_after ready_after back.next (known_items back i) (known_after back i)
    unfolding own_is_ready
    told_turn enough = knows items_after ready_before ready_after back i stands (item_there (held me (step ∷ steps)) s i pair) ready_is there_all
      where
        here_ready : own_is_ready config me (step ∷ steps) s i ≡ true
        here_ready = λ k. pair k && enough k

        ready_is : (k : ℕ) → own_is_ready config me (step ∷ steps) s k ≡ (own_is_ready config me steps s k || (k == i))
        ready_is k = elim (cases_eq k i) [
          | inl e ↦ ap (own_is_ready config me (step ∷ steps) s) e ∙ here_ready ∙ or_comm true (own_is_ready config me steps s k) ∙ ap (λ b. own_is_ready config me steps s k || b) (sym (eq-eqb k i e))
          | inr e ↦ others k e ∙ sym (or_false (own_is_ready config me steps s k)) ∙ ap (λ b. own_is_ready config me steps s k || b) (sym (ne_eqb k i e))
        ]

    -- not enough is known of it
    pub told_still : own_known_enough config.mode config me (step ∷ steps) s i ≡ false → HoldsBack items_after ready_after back
    unfolding own_is_ready
    told_still lacking = same_stands items_after items_after ready_before ready_after back (λ k. refl) ready_is stands
      where
        here_not : own_is_ready config me (step ∷ steps) s i ≡ false
        here_not = λ k. pair k && lacking k

        ready_is : (k : ℕ) → own_is_ready config me (step ∷ steps) s k ≡ own_is_ready config me steps s k
        ready_is k = elim (cases_eq k i) [
          | inl e ↦
              (ap (own_is_ready config me (step ∷ steps) s) e ∙ here_not
              ∙ sym (ap (own_is_ready config me steps s) e ∙ false_from_ne_true (own_is_ready config me steps s i) (λ t. absurd (false≢true (sym here_not ∙ own_ready_kept config me step steps accepted s i t)))))
          | inr e ↦ others k e
        ]

-- a sender of whom nothing new is held or known
pub back_same : (config : Config) (me : ℕ) (step : Step) (steps : Steps) (s : ℕ) (back : HeldBack) → ((k : ℕ) → item_at (held me (step ∷ steps)) s k ≡ item_at (held me steps) s k) → ((k : ℕ) → own_is_ready config me (step ∷ steps) s k ≡ own_is_ready config me steps s k) →
    HoldsBack (item_at (held me steps) s) (own_is_ready config me steps s) back → HoldsBack (item_at (held me (step ∷ steps)) s) (own_is_ready config me (step ∷ steps) s) back
back_same config me step steps s back items ready h = same_stands (item_at (held me steps) s) (item_at (held me (step ∷ steps)) s) (own_is_ready config me steps s) (own_is_ready config me (step ∷ steps) s) back items ready h

-- one message more is held back, and not yet marked
pub back_more : (config : Config) (me : ℕ) (steps : Steps) (h : Held) (back : HeldBack) → HoldsBack (item_at (held me steps) h.message.sender) (own_is_ready config me steps h.message.sender) back →
    HoldsBack (item_at (held me steps ++ h ∷ []) h.message.sender) (own_is_ready config me steps h.message.sender) (with_item back h.message.number h.message.item)
back_more config me steps h back stands =
    same_stands (with_one (item_at (held me steps) h.message.sender) h.message.number h.message.item) (item_at (held me steps ++ h ∷ []) h.message.sender) (own_is_ready config me steps h.message.sender) (own_is_ready config me steps h.message.sender) (with_item back h.message.number h.message.item)
    (λ k. message_at-more (held me steps) h h.message.sender k ∙ ap (λ b. first_of (item_at (held me steps) h.message.sender k) (if b && h.message.number == k then Some h.message.item else None)) (eq-eqb h.message.sender h.message.sender refl))
    (λ k. refl)
    (holds (item_at (held me steps) h.message.sender) (own_is_ready config me steps h.message.sender) back h.message.number h.message.item stands (λ k e. item_there (held me steps) h.message.sender k (own_held_below config me steps h.message.sender k e)))

-- of another sender nothing more is held
pub item_other : (hs : List Held) (h : Held) (s k : ℕ) → s ≢ h.message.sender → item_at (hs ++ h ∷ []) s k ≡ item_at hs s k
item_other hs h s k e =
    message_at-more hs h s k
    ∙ ap (λ b. first_of (item_at hs s k) (if b && h.message.number == k then Some h.message.item else None)) (ne_eqb h.message.sender s (λ z. e (sym z)))
    ∙ elim (item_at hs s k) as (λ o. first_of o None ≡ o) [ None ↦ refl | Some x ↦ refl ]
