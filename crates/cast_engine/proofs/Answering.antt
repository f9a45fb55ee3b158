-- What became of the orders of a client, read off what the engine did.
use Rattle.std.proofs.Common.{◌≡◌, ℕ, zero, suc, ◌<◌, Bool, true, false, List, [], ◌∷◌, ◌++◌, map, None, sym, refl, ap, ◌∙◌, subst, ⊎_elim, arith}
use Rattle.std.specs.Prelude.{if◌then◌else◌, nat_lt, ◌==◌}
use Rattle.std.specs.List.{filter}
use Rattle.std.proofs.lemmas.List.{append-nil}
use Rattle.std.proofs.lemmas.Bool.{false≢true, ltb-true}
use Rattle.std.proofs.lemmas.Bool.Decides.{nat_tests}
use Rattle.cast_message.proofs.Tests.{turned_about}
use Rattle.cast_message.specs.declared.config.Config.{Config}
use Rattle.cast_message.specs.declared.event.Event.TheVariants.{Order, Send, Ack, Arrive, Crash}
use Rattle.cast_message.specs.declared.event.Outcome.{Outcome}
use Rattle.cast_model.specs.Steps.{Step, Ordered, Sent, Acknowledged, Arrived, Stopped}
use Rattle.cast_model.specs.OwnSteps.{node_reply}
use Rattle.cast_log.specs.declared.entry.Origin.{Origin}
use Rattle.cast_log.specs.declared.entry.Entry.{Entry}
use Rattle.cast_log.specs.declared.entry.EntryKind.{EntryKind}
use Rattle.cast_log.specs.declared.entry.EntryKind.TheVariants.{Step as StepEntry, Refused}
use Rattle.cast_journal.specs.declared.order.OrderIn.{OrderIn}
use Rattle.cast_box.specs.Lists.{of}
use Rattle.cast_node.specs.Linked.{StampedStep, Trail, steps_in, event_of, outcome_in}
use Rattle.cast_journal.specs.Lists.{Has}
use Rattle.cast_journal.specs.Runs.{Read, Moved, Came, Served, Denied, Run, mark, trail_of, log_of, orders_of, order_by, entry_by, IsRead, IsRun, is_own, origin_of}
use Rattle.cast_journal.specs.Journals.{Rises, IsStampedAfter}
use Rattle.cast_engine.specs.Serving.{is_of, origin_in, entries_of, orders_by, before, HasOriginOf, IsOriginIn, IsAnswered, IsAnsweredBy, Matches}
use Rattle.cast_journal.proofs.Lists.{has_left, has_last, has_snoc, has_none, has_filter}

module _ {A B : Type 0} where
  pub matches_snoc : (R : A → B → Type 0) (xs : List A) (ys : List B) (x : A) (y : B) → Matches R xs ys → R x y → Matches R (xs ++ x ∷ []) (ys ++ y ∷ [])
  unfolding Matches
  matches_snoc R [] [] x y m r = (r, tt)
  matches_snoc R (a ∷ xs) (b ∷ ys) x y m r = (m.0, matches_snoc R xs ys x y m.1 r)
  matches_snoc R xs ys x y m r = absurd m

  pub matches_still : (R S : A → B → Type 0) (xs : List A) (ys : List B) → ((x : A) (y : B) → Has xs x → R x y → S x y) → Matches R xs ys → Matches S xs ys
  unfolding Matches
  matches_still R S [] [] f m = tt
  matches_still R S (a ∷ xs) (b ∷ ys) f m = (f a b (zero, refl) m.0, matches_still R S xs ys (λ x y h r. f x y (suc h.0, h.1) r) m.1)
  matches_still R S xs ys f m = absurd m

module _ {A : Type 0} where
  pub filter_snoc : (f : A → Bool) (xs : List A) (x : A) → filter f (xs ++ x ∷ []) ≡ filter f xs ++ (if f x then x ∷ [] else [])
  filter_snoc f [] x = one (f x) x
    where
      one : (b : Bool) (x : A) → (if b then x ∷ [] else []) ≡ [] ++ (if b then x ∷ [] else [])
      one true x = refl
      one false x = refl
  filter_snoc f (y ∷ xs) x = step (f y) y (filter f (xs ++ x ∷ [])) (filter f xs) (filter_snoc f xs x)
    where
      step : (b : Bool) (y : A) (l m : List A) → l ≡ m ++ (if f x then x ∷ [] else []) → (if b then y ∷ l else l) ≡ (if b then y ∷ m else m) ++ (if f x then x ∷ [] else [])
      step true y l m e = ap (λ l. y ∷ l) e
      step false y l m e = e

-- rising stamps of a log with one entry more
pub rises_front : (log : List Entry) (first clock : ℕ) (e : Entry) → Rises first (log ++ e ∷ []) clock → (c : ℕ) × Rises first log c × IsStampedAfter c e × (clock ≡ e.stamp)
unfolding Rises
rises_front [] first clock e r = (first, refl, r.0, r.1)
rises_front (x ∷ xs) first clock e r = let it = rises_front xs x.stamp clock e r.1 in (it.0, (r.0, it.1), it.2, it.3)

rises_over : (log : List Entry) (first clock : ℕ) (e : Entry) → Rises first (log ++ e ∷ []) clock → first < e.stamp
unfolding Rises
rises_over [] first clock e r = r.0.0
rises_over (x ∷ xs) first clock e r = let a = r.0.0 in let b = rises_over xs x.stamp clock e r.1 in omega arith

rises_last : (log : List Entry) (first clock : ℕ) (e x : Entry) → Rises first (log ++ e ∷ []) clock → Has log x → x.stamp < e.stamp
unfolding Rises
rises_last [] first clock e x r h = absurd (has_none x h)
rises_last (y ∷ ys) first clock e x r (zero, is) = let same : y ≡ x = cc in let P : Entry → Type 0 = λ z. z.stamp < e.stamp in subst P same (rises_over ys y.stamp clock e r.1)
rises_last (y ∷ ys) first clock e x r (suc i, is) = rises_last ys y.stamp clock e x r.1 (i, is)

before_more : (stamp : ℕ) (m : StampedStep) (trail : Trail) → stamp < m.stamp → before stamp (m ∷ trail) ≡ before stamp trail
unfolding before
before_more stamp m trail lt = by_test (nat_lt m.stamp stamp) refl
  where
    by_test : (b : Bool) → nat_lt m.stamp stamp ≡ b → (if b then m ∷ trail else before stamp trail) ≡ before stamp trail
    by_test true e = absurd (let l = ltb-true m.stamp stamp e in omega arith)
    by_test false e = refl

all_of : (stamp : ℕ) (m : StampedStep) (trail : Trail) → m.stamp < stamp → before stamp (m ∷ trail) ≡ m ∷ trail
unfolding before
all_of stamp m trail lt = by_test (nat_lt m.stamp stamp) (grind (arith, nat_tests))
  where
    by_test : (b : Bool) → b ≡ true → (if b then m ∷ trail else before stamp trail) ≡ m ∷ trail
    by_test true e = refl
    by_test false e = absurd (false≢true e)

before_all : (stamp : ℕ) (config : Config) (p : ℕ) (run : Run) → ((x : Entry) → Has (log_of config p run) x → x.stamp < stamp) → before stamp (trail_of run) ≡ trail_of run
unfolding before trail_of log_of
before_all stamp config p [] below = refl
before_all stamp config p (Moved s step ∷ rs) below = all_of stamp (mark s step) (trail_of rs) (below _ (has_last (log_of config p rs) _))
before_all stamp config p (Came s x ∷ rs) below = all_of stamp (mark s (Arrived x.frame)) (trail_of rs) (below _ (has_last (log_of config p rs) _))
before_all stamp config p (Served s order ∷ rs) below = all_of stamp (mark s (Ordered order.item)) (trail_of rs) (below _ (has_last (log_of config p rs) _))
before_all stamp config p (Denied s order fault ∷ rs) below = before_all stamp config p rs (λ x h. below x (has_left (log_of config p rs) _ x h))

module _ (config : Config) (p : ℕ) (c : ℕ) where
  abbrev Fits : Run → Type 0
  Fits run = Matches (IsAnswered config p (trail_of run)) (entries_of c (log_of config p run)) (orders_by c (orders_of run))

  -- an answer stays one where a later step is taken
  answered_still : (trail : Trail) (m : StampedStep) (x : Entry) (o : OrderIn) → x.stamp < m.stamp → IsAnswered config p trail x o → IsAnswered config p (m ∷ trail) x o
  answered_still trail m x o lt h = subst (λ t. IsAnsweredBy config p (steps_in config p t) x.kind o) (sym (before_more x.stamp m trail lt)) h

  -- both lists gain one, or neither does
  both_or_none : (R : Entry → OrderIn → Type 0) (es : List Entry) (os : List OrderIn) (e : Entry) (o : OrderIn) (b : Bool) → Matches R es os → R e o
      → Matches R (es ++ (if b then e ∷ [] else [])) (os ++ (if b then o ∷ [] else []))
  both_or_none R es os e o true m r = matches_snoc R es os e o m r
  both_or_none R es os e o false m r = subst (λ l. Matches R l (os ++ [])) (sym (append-nil es)) (subst (Matches R es) (sym (append-nil os)) m)

  entries_snoc : (log : List Entry) (e : Entry) → entries_of c (log ++ e ∷ []) ≡ entries_of c log ++ (if is_of c (origin_in e.kind) then e ∷ [] else [])
  unfolding entries_of
  entries_snoc log e = filter_snoc (λ x. is_of c (origin_in x.kind)) log e

  orders_snoc : (orders : List OrderIn) (o : OrderIn) → orders_by c (orders ++ o ∷ []) ≡ orders_by c orders ++ (if o.client == c then o ∷ [] else [])
  unfolding orders_by
  orders_snoc orders o = filter_snoc (λ x. x.client == c) orders o

  entries_in : (log : List Entry) (x : Entry) → Has (entries_of c log) x → Has log x
  unfolding entries_of
  entries_in log x h = has_filter (λ e. is_of c (origin_in e.kind)) log x h

  -- a step more by which no order is taken
  fits_moved : (stamp : ℕ) (step : Step) (rs : Run) (first clock : ℕ) → Rises first (log_of config p rs ++ entry_by config p (steps_in config p (trail_of rs)) (Moved stamp step) ∷ []) clock → Fits rs
      → Matches (IsAnswered config p (mark stamp step ∷ trail_of rs)) (entries_of c (log_of config p rs ++ entry_by config p (steps_in config p (trail_of rs)) (Moved stamp step) ∷ [])) (orders_by c (orders_of rs ++ []))
  fits_moved stamp step rs first clock r old =
      let log = log_of config p rs in
      let e = entry_by config p (steps_in config p (trail_of rs)) (Moved stamp step) in
      let m = mark stamp step in
      let S : Entry → OrderIn → Type 0 = IsAnswered config p (m ∷ trail_of rs) in
      let still : Matches S (entries_of c log) (orders_by c (orders_of rs)) =
      matches_still (IsAnswered config p (trail_of rs)) S (entries_of c log) (orders_by c (orders_of rs)) (λ x y h a. answered_still (trail_of rs) m x y (rises_last log first clock e x r (entries_in log x h)) a) old in
      subst (λ l. Matches S l (orders_by c (orders_of rs ++ []))) (sym (entries_snoc log e ∙ append-nil (entries_of c log)))
      (subst (λ l. Matches S (entries_of c log) (orders_by c l)) (sym (append-nil (orders_of rs))) still)

  pub run_fits : (run : Run) (first clock : ℕ) → Rises first (log_of config p run) clock → IsRun config p run → Fits run
  unfolding trail_of log_of orders_of IsRun entries_of orders_by Matches
  run_fits [] first clock r is = tt
  run_fits (Moved stamp step ∷ rs) first clock r is =
      let earlier = rises_front (log_of config p rs) first clock (entry_by config p (steps_in config p (trail_of rs)) (Moved stamp step)) r in
      fits_moved stamp step rs first clock r (run_fits rs first earlier.0 earlier.1 is.0)
  run_fits (Came stamp x ∷ rs) first clock r is =
      let earlier = rises_front (log_of config p rs) first clock (entry_by config p (steps_in config p (trail_of rs)) (Came stamp x)) r in
      fits_moved stamp (Arrived x.frame) rs first clock r (run_fits rs first earlier.0 earlier.1 is.0)
  run_fits (Served stamp order ∷ rs) first clock r is =
      let log = log_of config p rs in
      let e = entry_by config p (steps_in config p (trail_of rs)) (Served stamp order) in
      let m = mark stamp (Ordered order.item) in
      let earlier = rises_front log first clock e r in
      let old = run_fits rs first earlier.0 earlier.1 is.0 in
      let S : Entry → OrderIn → Type 0 = IsAnswered config p (m ∷ trail_of rs) in
      let still : Matches S (entries_of c log) (orders_by c (orders_of rs)) =
      matches_still (IsAnswered config p (trail_of rs)) S (entries_of c log) (orders_by c (orders_of rs)) (λ x y h a. answered_still (trail_of rs) m x y (rises_last log first clock e x r (entries_in log x h)) a) old in
      subst (λ l. Matches S l (orders_by c (orders_of rs ++ order ∷ []))) (sym (entries_snoc log e))
      (subst (Matches S (entries_of c log ++ (if order.client == c then e ∷ [] else []))) (sym (orders_snoc (orders_of rs) order))
      (both_or_none S (entries_of c log) (orders_by c (orders_of rs)) e order (order.client == c) still (refl, refl)))
  run_fits (Denied stamp order fault ∷ rs) first clock r is =
      let log = log_of config p rs in
      let e = entry_by config p (steps_in config p (trail_of rs)) (Denied stamp order fault) in
      let earlier = rises_front log first clock e r in
      let old = run_fits rs first earlier.0 earlier.1 is.0 in
      let S : Entry → OrderIn → Type 0 = IsAnswered config p (trail_of rs) in
      let all : before stamp (trail_of rs) ≡ trail_of rs = before_all stamp config p rs (λ x h. rises_last log first clock e x r h) in
      let now : S e order = subst (λ t. IsAnsweredBy config p (steps_in config p t) e.kind order) (sym all) (refl, is.1) in
      subst (λ l. Matches S l (orders_by c (orders_of rs ++ order ∷ []))) (sym (entries_snoc log e))
      (subst (Matches S (entries_of c log ++ (if order.client == c then e ∷ [] else []))) (sym (orders_snoc (orders_of rs) order))
      (both_or_none S (entries_of c log) (orders_by c (orders_of rs)) e order (order.client == c) old now))

-- what is no order has no origin to tell of
moved_origin : (P : Origin → Type 0) (p : ℕ) (step : Step) (outcome : Outcome) → is_own step ≡ true → HasOriginOf P (StepEntry (event_of p step) None outcome)
moved_origin P p (Ordered item) outcome h = absurd (false≢true h)
moved_origin P p (Sent to slot) outcome h = refl
moved_origin P p (Acknowledged to slot) outcome h = refl
moved_origin P p (Arrived frame) outcome h = refl
moved_origin P p Stopped outcome h = refl

pub origin_still : (P Q : Origin → Type 0) (kind : EntryKind) → ((o : Origin) → P o → Q o) → HasOriginOf P kind → HasOriginOf Q kind
origin_still P Q (StepEntry (Order node item) origin outcome) f h = (h.0, h.1, f h.0 h.2)
origin_still P Q (StepEntry (Send from to slot) origin outcome) f h = h
origin_still P Q (StepEntry (Ack from to slot) origin outcome) f h = h
origin_still P Q (StepEntry (Arrive from seq) origin outcome) f h = h
origin_still P Q (StepEntry (Crash node) origin outcome) f h = h
origin_still P Q (Refused origin fault) f h = f origin h

pub run_origins : (config : Config) (p : ℕ) (run : Run) → IsRun config p run → (e : Entry) → Has (log_of config p run) e → HasOriginOf (IsOriginIn (orders_of run)) e.kind
unfolding trail_of log_of orders_of IsRun
run_origins config p [] is e h = absurd (has_none e h)
run_origins config p (r ∷ rs) is e h =
    let new = entry_by config p (steps_in config p (trail_of rs)) r in
    ⊎_elim (λ (x : Has (log_of config p rs) e).
    origin_still (IsOriginIn (orders_of rs)) (IsOriginIn (orders_of rs ++ order_by r)) e.kind (λ o it. (it.0, has_left (orders_of rs) (order_by r) it.0 it.1, it.2)) (run_origins config p rs is.0 e x))
    (λ (x : new ≡ e). subst (λ (z : Entry). HasOriginOf (IsOriginIn (orders_of rs ++ order_by r)) z.kind) x (last r is.1))
    (has_snoc (log_of config p rs) new e h)
  where
    last : (r : Read) → IsRead config p (steps_in config p (trail_of rs)) r → HasOriginOf (IsOriginIn (orders_of rs ++ order_by r)) (entry_by config p (steps_in config p (trail_of rs)) r).kind
    last (Moved stamp step) read = moved_origin (IsOriginIn (orders_of rs ++ [])) p step (outcome_in (node_reply config p (steps_in config p (trail_of rs)) step)) read.2
    last (Came stamp x) read = refl
    last (Served stamp order) read = (origin_of order, refl, (order, has_last (orders_of rs) order, refl))
    last (Denied stamp order fault) read = (order, has_last (orders_of rs) order, refl)

-- where each order carries the number of the putter that put it, those of a client are those that its putter put
pub of_client : (taken : List (ℕ × OrderIn)) (c : ℕ) → ((m : ℕ × OrderIn) → Has taken m → m.1.client ≡ m.0) → orders_by c (map (λ m. m.1) taken) ≡ of c taken
unfolding orders_by
of_client [] c all = refl
of_client (m ∷ ms) c all =
    let rest = of_client ms c (λ n h. all n (suc h.0, h.1)) in
    let same : (m.1.client == c) ≡ (c == m.0) = ap (λ n. n == c) (all m (zero, refl)) ∙ turned_about m.0 c in
    (λ i. if same i then m.1 ∷ rest i else rest i)
