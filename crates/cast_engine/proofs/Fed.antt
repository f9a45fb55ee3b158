-- A client that was told of a log, when the log grows or more is told.
use Rattle.std.proofs.Common.{◌≡◌, ◌≢◌, ℕ, zero, suc, ◌+◌, ◌^◌, ◌%◌, ◌<◌, ◌≤◌, get_or, slice_set, List, [], ◌∷◌, ◌++◌, length, take, slice_get, Option, Some, None, sym, refl, ap, ◌∙◌, subst, ⊎_elim, arith}
use Rattle.std.proofs.lemmas.List.{append-nil, append_assoc, length-append, length-set}
use mathlib.Core.Logic.{dite}
use Rattle.std.proofs.Math.Decide.{dec_lt}
use Rattle.std.proofs.lemmas.Option.{none-some, slice_get_past, slice_get_within}
use Rattle.cast_box.proofs.Closing.{found}
use Rattle.cast_box.specs.Ends.{PutterEnd, IsSamePutter, AreSamePutters}
use Rattle.cast_box.proofs.Same.{putters_set, get_set}
use Rattle.cast_log.specs.declared.entry.Entry.{Entry}
use Rattle.cast_desk.specs.declared.notice.Notice.{Notice}
use Rattle.cast_desk.specs.Feed.{told_by, feed_from, feed, orders_of, orders_in}
use Rattle.cast_desk.proofs.Feeds.{take_all, take_within, orders_within, counted_more, fed_more as fed_more'}
use Rattle.cast_engine.specs.declared.feeding.Place.{Place}
use Rattle.cast_engine.specs.Feeding.{told_at, told_here, IsNext, IsPlaced, IsFed, told_to, AreFed, FedIn, FedAt}
use Rattle.cast_carrier.proofs.Lists.{read_at, take_next}
use Rattle.cast_node.proofs.Logging.{get_left}

take_front : {A : Type 0} (xs ys : List A) (n : ℕ) → n ≤ length xs → take n (xs ++ ys) ≡ take n xs
take_front xs ys zero h = refl
take_front [] ys (suc n) h = absurd (omega arith)
take_front (x ∷ xs) ys (suc n) h = ap (λ l. x ∷ l) (take_front xs ys n (omega arith))

get_none : {A : Type 0} (xs : List A) (n : ℕ) → slice_get xs n ≡ None → length xs ≤ n
get_none [] n e = omega arith
get_none (x ∷ xs) zero e = absurd cc
get_none (x ∷ xs) (suc n) e = let h = get_none xs n e in omega arith

module _ (client : ℕ) (log more : List Entry) (place : Place) (f : IsPlaced client log place) where
  front : take place.entry (log ++ more) ≡ take place.entry log
  front = take_front log more place.entry f.within

  abbrev old_told : List Notice
  old_told = told_here client log place

  abbrev new_told : List Notice
  new_told = told_here client (log ++ more) place

  -- the entry at the place is there still
  same_entry : place.entry < length log → new_told ≡ old_told
  same_entry lt = let it = found log place.entry lt in
      ap (told_at client place.orders) (get_left log more place.entry it.0 it.1 ∙ sym it.1)

  -- the place is at the end of the log: nothing was told of what stands there now
  at_end : length log ≤ place.entry → (place.told ≡ 0) × ((n : Notice) → place.waiting ≡ Some n → ⊥)
  at_end le =
      let none : old_told ≡ [] = ap (told_at client place.orders) (slice_get_past log place.entry le) in
      let short = f.begun in
      let len : length old_told ≡ 0 = ap length none in
      (omega arith, λ n w. none-some n (sym (ap (λ l. slice_get l place.told) none) ∙ f.waits n w))

  pub fed_longer : IsPlaced client (log ++ more) place × (told_to client (log ++ more) place ≡ told_to client log place)
  fed_longer = dite (dec_lt place.entry (length log))
      (λ lt. (
        record {
          within = let w = f.within in let l = length-append log more in omega arith;
          counted = f.counted ∙ ap orders_of (sym front);
          begun = subst (λ l. place.told ≤ length l) (sym (same_entry lt)) f.begun;
          waits = λ n w. ap (λ l. slice_get l place.told) (same_entry lt) ∙ f.waits n w;
          counts = f.counts;
        },
        (λ i. feed_from client 0 (front i) ++ take place.told (same_entry lt i)),
      ))
      (λ no.
      let none = at_end (omega arith) in
      let nothing : (l : List Notice) → take place.told l ≡ [] = λ l. ap (λ n. take n l) none.0 in (
        record {
          within = let w = f.within in let l = length-append log more in omega arith;
          counted = f.counted ∙ ap orders_of (sym front);
          begun = let z = none.0 in omega arith;
          waits = λ n w. absurd (none.1 n w);
          counts = f.counts;
        },
        ap (λ l. feed_from client 0 l ++ take place.told new_told) front ∙ ap (λ l. feed_from client 0 (take place.entry log) ++ l) (nothing new_told ∙ sym (nothing old_told)),
      ))

-- all of the feed was told
pub all_fed : (client : ℕ) (log : List Entry) (place : Place) → IsPlaced client log place → length log ≤ place.entry → told_to client log place ≡ feed log client
all_fed client log place f le =
    let here = told_here client log place in
    let none = at_end client log [] place f le in
    ap (λ l. feed_from client 0 l ++ take place.told here) (take_all log place.entry le) ∙ ap (λ n. feed_from client 0 log ++ take n here) none.0 ∙ append-nil (feed_from client 0 log)

pub fed_more : (log log' : List Entry) (e : Entry) (trays : List (PutterEnd Notice)) (places : List Place) → log' ≡ log ++ e ∷ [] → AreFed log trays places → AreFed log' trays places
fed_more log log' e trays places is f =
    subst (λ l. AreFed l trays places) (sym is) (f.0, λ c tray place a b. let it = f.1 c tray place a b in let more = fed_longer c log (e ∷ []) place it.0 in (more.0, it.1 ∙ sym more.1))

-- a place that goes past an entry of which all was told
module _ (client : ℕ) (log : List Entry) (place : Place) (f : IsPlaced client log place) (lt : place.entry < length log) (e : Entry) (is : e ≡ get_or log place.entry e)
    (none : slice_get (told_by client place.orders e.kind) place.told ≡ None) (orders : ℕ) (counts : orders ≡ orders_in e.kind) (cap : length log < 2 ^ 64)
    (waiting : Option Notice) (quiet : waiting ≡ None) where
  abbrev next : Place
  next = record { entry = place.entry + 1; orders = (place.orders + orders) % 18446744073709551616; told = 0; waiting = waiting }

  here : told_here client log place ≡ told_by client place.orders e.kind
  here = ap (told_at client place.orders) (read_at log place.entry e lt is)

  all_told : take place.told (told_here client log place) ≡ told_by client place.orders e.kind
  all_told =
      let long = get_none (told_by client place.orders e.kind) place.told none in
      ap (take place.told) here ∙ take_all (told_by client place.orders e.kind) place.told long

  pub passed : IsPlaced client log next × (told_to client log next ≡ told_to client log place)
  passed = (
    record {
      within = omega arith;
      counted = counted_more client log place.entry e lt is place.orders orders f.counted counts cap;
      begun = omega arith;
      waits = λ n w. let no : None ≡ Some n = sym quiet ∙ w in absurd cc;
      counts = λ n w. let no : None ≡ Some n = sym quiet ∙ w in absurd cc;
    },
    append-nil (feed_from client 0 (take (place.entry + 1) log)) ∙ sym (fed_more' client log place.entry e lt is (feed_from client 0 (take place.entry log)) _ place.orders refl f.counted refl)
        ∙ ap (λ l. feed_from client 0 (take place.entry log) ++ l) (sym all_told),
  )

-- and one past an entry of a step without news
pub passed_silently : (client : ℕ) (log : List Entry) (place : Place) → IsPlaced client log place → place.entry < length log
    → (e : Entry) → e ≡ get_or log place.entry e → told_by client place.orders e.kind ≡ [] → orders_in e.kind ≡ 0 → length log < 2 ^ 64
    → (waiting : Option Notice) → waiting ≡ None
    → IsPlaced client log (record { entry = place.entry + 1; orders = place.orders; told = 0; waiting = waiting })
    × (told_to client log (record { entry = place.entry + 1; orders = place.orders; told = 0; waiting = waiting }) ≡ told_to client log place)
passed_silently client log place f lt e is none no_order cap waiting quiet =
    let at : Place → Type 0 = λ p. IsPlaced client log p × (told_to client log p ≡ told_to client log place) in
    let told_none : slice_get (told_by client place.orders e.kind) place.told ≡ None =
    ap (λ l. slice_get l place.told) none ∙ slice_get_past [] place.told (omega arith) in
    let few = orders_within (take place.entry log) in
    let short = take_within log place.entry in
    let same : (place.orders + 0) % 18446744073709551616 ≡ place.orders = omega (arith, f.counted, few, short, cap) in
    subst (λ n. at (record { entry = place.entry + 1; orders = n; told = 0; waiting = waiting })) same
    (passed client log place f lt e is told_none 0 (sym no_order) cap waiting quiet)

set_same : {A : Type 0} (xs : List A) (i : ℕ) (x : A) → slice_get xs i ≡ Some x → xs ≡ slice_set xs i x
set_same [] i x e = absurd cc
set_same (y ∷ ys) zero x e = let h : y ≡ x = cc in ap (λ z. z ∷ ys) h
set_same (y ∷ ys) (suc i) x e = ap (λ l. y ∷ l) (set_same ys i x e)

module _ (client : ℕ) (log : List Entry) (trays : List (PutterEnd Notice)) (old place : Place) (f : FedIn client log trays old) (p : IsPlaced client log place) (same : told_to client log place ≡ told_to client log old) where
  -- nothing was put
  pub fed_still : FedAt client log trays trays place
  fed_still = (f.0, f.0, f.1, set_same trays client f.0 f.1, (refl, refl, refl, refl), (p, f.2.1 ∙ sym same))

  module _ (notice : Notice) (next : IsNext client log place notice) where
    the_tray : (was : PutterEnd Notice) → slice_get trays client ≡ Some was → was.put ≡ told_to client log place
    the_tray was at = let h : f.0 ≡ was = let e = sym f.1 ∙ at in cc in ap (λ (t : PutterEnd Notice). t.put) (sym h) ∙ f.2.1 ∙ sym same

    -- the next notice was put
    pub fed_put : (was now : PutterEnd Notice) (new : List (PutterEnd Notice)) → slice_get trays client ≡ Some was → new ≡ slice_set trays client now → IsSamePutter was now → now.put ≡ was.put ++ notice ∷ []
        → FedAt client log trays new (record place { told = place.told + 1; waiting = None })
    fed_put was now new at set s put =
        let here = told_here client log place in
        let more : place.told + 1 ≡ suc place.told = omega arith in (
          was,
          now,
          at,
          set,
          s,
          (
            record {
              within = p.within;
              counted = p.counted;
              begun = let l = slice_get_within here place.told notice next in omega arith;
              waits = λ n w. absurd cc;
              counts = λ n w. absurd cc;
            },
            put ∙ ap (λ l. l ++ notice ∷ []) (the_tray was at) ∙ append_assoc (feed_from client 0 (take place.entry log)) (take place.told here) (notice ∷ [])
                ∙ ap (λ l. feed_from client 0 (take place.entry log) ++ l) (sym (ap (λ n. take n here) more ∙ take_next here place.told notice next)),
          ),
        )

-- what the loop over the clients keeps
pub fed_at : (log : List Entry) (trays : List (PutterEnd Notice)) (places : List Place) (client : ℕ) (place : Place) → AreFed log trays places → slice_get places client ≡ Some place → FedIn client log trays place
fed_at log trays places client place f at =
    let tray = found trays client (let l = f.0 in let w = slice_get_within places client place at in omega arith) in
    (tray.0, tray.1, f.1 client tray.0 place tray.1 at)

pub fed_set : (log : List Entry) (trays new : List (PutterEnd Notice)) (places : List Place) (client : ℕ) (place : Place) → AreFed log trays places → FedAt client log trays new place
    → AreFed log new (slice_set places client place) × AreSamePutters trays new
fed_set log trays new places client place f it =
    let P : List (PutterEnd Notice) → Type 0 = λ l. AreFed log l (slice_set places client place) × AreSamePutters trays l in
    subst P (sym it.3) (
      (
        length-set places client place ∙ f.0 ∙ sym (length-set trays client it.1),
        λ c tray p a b.
            ⊎_elim
            (λ (x : (c ≡ client) × (it.1 ≡ tray)).
            ⊎_elim
            (λ (y : (c ≡ client) × (place ≡ p)).
            let Q : ℕ → PutterEnd Notice → Place → Type 0 = λ c t p. IsFed c log p t.put in
            subst (λ c. Q c tray p) (sym x.0) (subst (λ t. Q client t p) x.1 (subst (Q client it.1) y.1 it.5)))
            (λ (y : (c ≢ client) × (slice_get places c ≡ Some p)). absurd (y.0 x.0))
            (get_set places client c place p b))
            (λ (x : (c ≢ client) × (slice_get trays c ≡ Some tray)).
            ⊎_elim (λ (y : (c ≡ client) × (place ≡ p)). absurd (x.0 y.0)) (λ (y : (c ≢ client) × (slice_get places c ≡ Some p)). f.1 c tray p x.1 y.1) (get_set places client c place p b))
            (get_set trays client c it.1 tray a),
      ),
      putters_set trays client it.0 it.1 it.2 it.4,
    )
