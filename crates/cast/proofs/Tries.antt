-- What the check of one order after another says of all of them.
use Rattle.std.proofs.Common.{◌≡◌, ◌<◌, ◌≤◌, ◌+◌, ◌-◌, ℕ, Bool, true, false, Option, Some, None, List, [], ◌∷◌, ◌++◌, length, refl, sym, ap, ◌∙◌, subst, arith, inl, inr}
use Rattle.std.specs.Prelude.{All, IfSome, Vec, option_to_list}
use Rattle.std.specs.List.{filter_map, cons_option, range_with_len, sum}
use Rattle.std.proofs.lemmas.Bool.Decides.{leb_tells}
use Rattle.std.proofs.lemmas.List.Elements.{All-nil, All-cons, filter_map-append}
use Rattle.std.specs.declared.alloc.Global.{Global}
use Rattle.cast_message.specs.declared.message.Item.{Item}
use Rattle.cast_message.specs.declared.message.Message.{Message}
use Rattle.cast.specs.declared.interleavings.Checking.{Checking}
use Rattle.cast.specs.Orders.{Visits, Checks, HoldsAlong, message_at, messages_of, IsFront, IsNext, orders, orders_from}
use Rattle.cast.proofs.Walks.{range_to}

one_item : {X : Type 0} (o : Option X) → cons_option o [] ≡ option_to_list o
one_item None = refl
one_item (Some x) = refl

-- one step more of an order
pub messages_more : (streams : List (List Item)) (order : List ℕ) (n : ℕ) → messages_of streams order n ++ option_to_list (message_at streams order n) ≡ messages_of streams order (n + 1)
messages_more streams order n =
    let f = message_at streams order in
    ap (λ ms. messages_of streams order n ++ ms) (sym (one_item (f n)))
    ∙ sym (filter_map-append f (range_with_len 0 n) (n ∷ []))
    ∙ ap (filter_map f) (range_to n)

module _ {C S : Type 0} (stands : S → List Message → Type 0) (good : C → S → Type 0) where
  -- a good machine stands for the first k messages of the order, for each k up to n
  abbrev pub GoodUpTo : C → List (List Item) → List ℕ → ℕ → Type 0
  GoodUpTo check streams order n = (k : ℕ) → k ≤ n → (s : S) × stands s (messages_of streams order k) × good check s

  pub good_first : (check : C) (streams : List (List Item)) (order : List ℕ) (s : S) → stands s [] → good check s → GoodUpTo check streams order 0
  good_first check streams order s new well k few =
      let first : 0 ≡ k = omega (arith, few) in
      (s, subst (λ n. stands s (messages_of streams order n)) first new, well)

  pub good_next : (check : C) (streams : List (List Item)) (order : List ℕ) (n : ℕ) (s : S) → stands s (messages_of streams order (n + 1)) → good check s
      → GoodUpTo check streams order n → GoodUpTo check streams order (n + 1)
  good_next check streams order n s now well before k few = elim (leb_tells k n) [
    | inl l ↦ before k l.1
    | inr l ↦
        let last : n + 1 ≡ k = omega (arith, few, l.1) in
        (s, subst (λ m. stands s (messages_of streams order m)) last now, well)
  ]

  pub all_hold : (old : Checking C) (all : List (List ℕ)) (new : Checking C) → Visits (Checks stands good) old all new true
      → (new.left + length all ≡ old.left) × All (HoldsAlong stands good old.check.now old.streams.now) all
  unfolding Visits
  all_hold old [] new seen = let same = ap (λ c. c.left) seen.0 in (omega (arith, same), All-nil (HoldsAlong stands good old.check.now old.streams.now))
  all_hold old (order ∷ rest) new (inl stopped) = absurd (cc)
  all_hold old (order ∷ rest) new (inr went) =
      let saw = went.1 in
      let one = saw.holds refl in
      let later = all_hold went.0 rest new went.2 in
      let Holds = HoldsAlong stands good old.check.now old.streams.now in
      let others : All Holds rest = subst (λ c. All (HoldsAlong stands good c.now old.streams.now) rest) saw.same.0
      (subst (λ s. All (HoldsAlong stands good went.0.check.now s.now) rest) saw.same.1 later.1) in
      (omega (arith, one.0, later.0), All-cons Holds order rest one.2 others)

  pub stopped_at_none : (old : Checking C) (all : List (List ℕ)) (new : Checking C) → Visits (Checks stands good) old all new false → new.refused ≡ None → old.left < length all
  unfolding Visits
  stopped_at_none old [] new seen none = absurd (cc)
  stopped_at_none old (order ∷ rest) new (inl stopped) none = let saw = stopped.0 in let nothing = saw.stops refl none in omega (arith, nothing)
  stopped_at_none old (order ∷ rest) new (inr went) none =
      let saw = went.1 in
      let one = (saw.holds refl).0 in
      let later = stopped_at_none went.0 rest new went.2 none in
      omega (arith, one, later)

  -- the walk over what the streams have is a walk over all orders
  of_streams : (counts cs begun : List ℕ) (steps : ℕ) (old new : Checking C) (on all : Bool) → cs ≡ counts → steps ≡ sum counts → begun ≡ [] → on ≡ all
      → Visits (Checks stands good) old (orders_from cs steps begun) new on → Visits (Checks stands good) old (orders counts) new all
  of_streams counts cs begun steps old new on all same total first e seen =
      subst (λ b. Visits (Checks stands good) old (orders counts) new b) e
      (subst (λ os. Visits (Checks stands good) old os new on) (λ i. orders_from (same i) (total i) (first i)) seen)

  pub found_all : (counts cs begun : List ℕ) (steps found : ℕ) (old new : Checking C) (on : Bool) → cs ≡ counts → steps ≡ sum counts → begun ≡ [] → on ≡ true
      → Visits (Checks stands good) old (orders_from cs steps begun) new on → found ≡ old.left - new.left
      → (found ≡ length (orders counts)) × All (HoldsAlong stands good old.check.now old.streams.now) (orders counts)
  found_all counts cs begun steps found old new on same total first e seen is =
      let held = all_hold old (orders counts) new (of_streams counts cs begun steps old new on true same total first e seen) in
      (omega (arith, is, held.0), held.1)

  pub found_more : (counts cs begun : List ℕ) (steps : ℕ) (old new : Checking C) (on : Bool) → cs ≡ counts → steps ≡ sum counts → begun ≡ [] → on ≡ false
      → Visits (Checks stands good) old (orders_from cs steps begun) new on → new.refused ≡ None → old.left < length (orders counts)
  found_more counts cs begun steps old new on same total first e seen none =
      stopped_at_none old (orders counts) new (of_streams counts cs begun steps old new on false same total first e seen) none

  -- the first order that holds, and then those of the rest
  later_next : (old between : Checking C) (order : List ℕ) (rest : List (List ℕ)) (front : List ℕ) → between.check ≡ old.check → between.streams ≡ old.streams
      → HoldsAlong stands good old.check.now old.streams.now order → IsNext (HoldsAlong stands good between.check.now between.streams.now) rest front
      → IsNext (HoldsAlong stands good old.check.now old.streams.now) (order ∷ rest) front
  later_next old between order rest front same_check same_streams holds later =
      let Holds = HoldsAlong stands good old.check.now old.streams.now in
      let others : All Holds later.before = subst (λ c. All (HoldsAlong stands good c.now old.streams.now) later.before) same_check
      (subst (λ s. All (HoldsAlong stands good between.check.now s.now) later.before) same_streams later.hold) in
      record {
        before = order ∷ later.before;
        order = later.order;
        rest = later.rest;
        all_are = ap (λ os. order ∷ os) later.all_are;
        hold = All-cons Holds order later.before holds others;
        next = later.next;
      }

  pub refused_next : (old : Checking C) (all : List (List ℕ)) (new : Checking C) (front : Vec ℕ Global) → Visits (Checks stands good) old all new false → old.refused ≡ None → new.refused ≡ Some front
      → IsNext (HoldsAlong stands good old.check.now old.streams.now) all front.items
  unfolding Visits
  refused_next old [] new front seen none some = absurd (cc)
  refused_next old (order ∷ rest) new front (inl stopped) none some =
      let part : IsFront order front.items = subst (λ r. IfSome r (λ v. IsFront order v.items)) some (stopped.0.refuses refl none) in
      record { before = []; order = order; rest = rest; all_are = refl; hold = All-nil (HoldsAlong stands good old.check.now old.streams.now); next = part }
  refused_next old (order ∷ rest) new front (inr went) none some =
      let one = went.1.holds refl in
      later_next old went.0 order rest front.items went.1.same.0 went.1.same.1 one.2 (refused_next went.0 rest new front went.2 (one.1 ∙ none) some)

  pub found_refused : (counts cs begun : List ℕ) (steps : ℕ) (old new : Checking C) (on : Bool) (front : Vec ℕ Global) → cs ≡ counts → steps ≡ sum counts → begun ≡ [] → on ≡ false
      → Visits (Checks stands good) old (orders_from cs steps begun) new on → old.refused ≡ None → new.refused ≡ Some front
      → IsNext (HoldsAlong stands good old.check.now old.streams.now) (orders counts) front.items
  found_refused counts cs begun steps old new on front same total first e seen none some =
      refused_next old (orders counts) new front (of_streams counts cs begun steps old new on false same total first e seen) none some
