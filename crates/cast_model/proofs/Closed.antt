-- Nothing stands after a close.
use Rattle.std.proofs.Common.{◌≡◌, ℕ, zero, suc, ◌<◌, ◌≤◌, refl, sym, ◌∙◌, ap, subst, Bool, true, false, cond, List, [], ◌∷◌, ◌++◌, length, take, Some, None, inl, inr, ◌⊎◌, arith, length-append, length-take}
use Rattle.std.specs.Prelude.{◌==◌, slice_get}
use Rattle.std.specs.List.{list_any}
use Rattle.std.proofs.lemmas.Bool.{cases_lt, false≢true, eqb-true}
use Rattle.std.proofs.lemmas.List.{append-nil}
use Rattle.cast_message.specs.declared.config.Config.{Config}
use Rattle.cast_message.specs.declared.event.Event.{Event}
use Rattle.cast_message.specs.declared.event.Event.TheVariants.{Order, Send, Ack, Arrive, Crash}
use Rattle.cast_message.specs.declared.message.Item.{Item}
use Rattle.cast_message.specs.declared.message.Item.TheVariants.{Close}
use Rattle.cast_message.specs.declared.message.Message.{Message}
use Rattle.cast_model.specs.History.{History, items_ordered, stream, numbered, broadcast}
use Rattle.cast_model.specs.Delivery.{delivered}
use Rattle.cast_message.specs.Items.{is_close}
use Rattle.cast_model.specs.Headline.{IsClosedOnlyAtEnd, answered}
use Rattle.cast_model.specs.Replies.{causes, fault, IsAccepted, replies, history}
use Rattle.cast_model.proofs.Members.{here, there, list_any-Member, Member-slice_get}
use Rattle.cast_model.proofs.Accepted.{no_cause}
use Rattle.cast_model.proofs.Fronts.{length-numbered}
use Rattle.cast_model.proofs.Answered.{answered-delivered, IsAccepted-history_from}

module _ {A : Type 0} where
  slice_get-append_left : (xs ys : List A) (i : ℕ) → i < length xs → slice_get (xs ++ ys) i ≡ slice_get xs i
  slice_get-append_left [] ys i h = absurd (omega arith)
  slice_get-append_left (x ∷ xs) ys zero h = refl
  slice_get-append_left (x ∷ xs) ys (suc i) h = slice_get-append_left xs ys i (omega arith)

  slice_get_in : (xs : List A) (i : ℕ) (x : A) → slice_get xs i ≡ Some x → i < length xs
  slice_get_in [] i x e = absurd (cc)
  slice_get_in (y ∷ xs) zero x e = omega arith
  slice_get_in (y ∷ xs) (suc i) x e = let h = slice_get_in xs i x e in omega (arith, h)

  slice_get-take : (n : ℕ) (xs : List A) (i : ℕ) (x : A) → slice_get (take n xs) i ≡ Some x → slice_get xs i ≡ Some x
  slice_get-take zero xs i x e = absurd (cc)
  slice_get-take (suc n) [] i x e = e
  slice_get-take (suc n) (y ∷ xs) zero x e = e
  slice_get-take (suc n) (y ∷ xs) (suc i) x e = slice_get-take n xs i x e

slice_get-numbered : (s k : ℕ) (items : List Item) (i : ℕ) (message : Message) → slice_get (numbered s k items) i ≡ Some message → slice_get items i ≡ Some message.item
unfolding numbered
slice_get-numbered s k [] i message e = absurd (cc)
slice_get-numbered s k (item ∷ items) zero message e =
    let m : record { sender = s; number = k; item = item } ≡ message = cc in ap (λ x. Some x) (ap (λ x. x.item) m)
slice_get-numbered s k (item ∷ items) (suc i) message e = slice_get-numbered s (suc k) items i message e

-- an order is accepted only while the stream has no close
pub Order-open : (config : Config) (past : History) (p : ℕ) (item : Item) → fault config past (Order p item) ≡ None → list_any is_close (stream past p) ≡ false
unfolding fault causes
Order-open config past p item e = no_cause _ (causes config past (Order p item)) e (there (there here))

-- a list stays closed in its last place alone, where nothing is added to it, or one item to an open one
grows : (xs ys : List Item) (i : ℕ) → (slice_get xs i ≡ Some Close → suc i ≡ length xs) → (ys ≡ []) ⊎ ((list_any is_close xs ≡ false) × (length ys ≡ 1)) → slice_get (xs ++ ys) i ≡ Some Close → suc i ≡ length (xs ++ ys)
grows xs ys i ih (inl none) e =
    let all : xs ++ ys ≡ xs = ap (λ zs. xs ++ zs) none ∙ append-nil xs in
    ih (ap (λ zs. slice_get zs i) (sym all) ∙ e) ∙ ap length (sym all)
grows xs ys i ih (inr one) e = elim (cases_lt i (length xs)) [
  | inl old ↦ absurd (false≢true (sym one.0 ∙ list_any-Member is_close Close xs (Member-slice_get xs i Close (sym (slice_get-append_left xs ys i old) ∙ e)) refl))
  | inr new ↦ (let inside = slice_get_in (xs ++ ys) i Close e in omega (arith, inside, length-append xs ys, one.1))
]

added : (config : Config) (past : History) (event : Event) → fault config past event ≡ None → (p : ℕ) → (items_ordered event p ≡ []) ⊎ ((list_any is_close (stream past p) ≡ false) × (length (items_ordered event p) ≡ 1))
added config past (Order node item) e p = by_test (node == p) refl
  where
    by_test : (b : Bool) → (node == p) ≡ b → (cond b (item ∷ []) [] ≡ []) ⊎ ((list_any is_close (stream past p) ≡ false) × (length (cond b (item ∷ []) []) ≡ 1))
    by_test true same = inr (subst (λ x. list_any is_close (stream past x) ≡ false) (eqb-true node p same) (Order-open config past node item e), refl)
    by_test false differs = inl refl
added config past (Send from to slot) e p = inl refl
added config past (Ack from to slot) e p = inl refl
added config past (Arrive from seq) e p = inl refl
added config past (Crash node) e p = inl refl

pub close_last : (config : Config) (past : History) → IsAccepted config past → (p i : ℕ) → slice_get (stream past p) i ≡ Some Close → suc i ≡ length (stream past p)
unfolding IsAccepted stream
close_last config [] accepted p i e = absurd (cc)
close_last config (event ∷ past) accepted p i e =
    grows (stream past p) (items_ordered event p) i (close_last config past accepted.0 p i) (added config past event accepted.1 p) e

-- what q delivered has a close in its last place alone
pub delivered_closed : (config : Config) (past : History) → IsAccepted config past → (q s : ℕ) → IsClosedOnlyAtEnd (delivered config past q s)
unfolding delivered broadcast
delivered_closed config past accepted q s i message e close =
    let items = stream past s in
    let all = numbered s 0 items in
    let at : slice_get all i ≡ Some message = slice_get-take _ all i message e in
    let closes : slice_get items i ≡ Some Close = slice_get-numbered s 0 items i message at ∙ ap (λ x. Some x) close in
    let last = close_last config past accepted s i closes in
    let inside = slice_get_in (delivered config past q s) i message e in
    let short : length (delivered config past q s) ≤ length all = rw length-take (omega arith) in
    omega (arith, last, inside, short, length-numbered s 0 items)

pub answered_closed : (config : Config) (events : List Event) (q s : ℕ) → IsClosedOnlyAtEnd (answered events (replies config events) q s)
unfolding IsAccepted
answered_closed config events q s =
    subst IsClosedOnlyAtEnd (sym (answered-delivered config events q s)) (delivered_closed config (history config events) (IsAccepted-history_from config [] events tt) q s)
