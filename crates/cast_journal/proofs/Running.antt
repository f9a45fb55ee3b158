-- What an engine keeps, by one change of its log or of its boxes.
use Rattle.std.proofs.Common.{◌≡◌, ◌≢◌, ℕ, ◌+◌, max, ◌==◌, Bool, cond, true, List, [], ◌∷◌, ◌++◌, length, map, get_or, Option, Some, None, sym, refl, ap, ◌∙◌, subst, ⊎_elim, eq-eqb, ne_eqb, eqb-true, arith}
use Rattle.std.specs.Prelude.{Ok, Err}
use Rattle.std.specs.List.{filter}
use Rattle.std.specs.Option.{option_to_list}
use Rattle.std.proofs.lemmas.List.{append-nil, map-append, get_or_push, length_push}
use Rattle.std.proofs.lemmas.List.Elements.{filter-append, filter_passes}
use Rattle.cast_message.specs.declared.config.Config.{Config}
use Rattle.cast_message.specs.declared.message.Frame.{Frame}
use Rattle.cast_message.specs.declared.message.Item.{Item}
use Rattle.cast_model.specs.Steps.{Step, Ordered, Sent, Acknowledged, Arrived, Stopped, Steps, making}
use Rattle.cast_model.specs.OwnSteps.{own_made}
use Rattle.cast_log.specs.declared.entry.Entry.{Entry}
use Rattle.cast_log.specs.declared.entry.Origin.{Origin}
use Rattle.cast_node.specs.Kept.{Kept}
use Rattle.cast_log.specs.declared.entry.EntryKind.TheVariants.{Step as StepEntry, Refused}
use Rattle.cast_node.specs.Turns.{kept_after, carry_of, took_of, frame_made}
use Rattle.cast_node.specs.Stands.{Stands}
use Rattle.cast_node.proofs.Continuing.{continues}
use Rattle.cast_node.proofs.Refusals.{faults_are}
use Rattle.cast_node.proofs.Showing.{carries, tells_taken}
use Rattle.cast_journal.specs.declared.order.OrderIn.{OrderIn}
use Rattle.cast_journal.specs.declared.parcel.Parcel.{Parcel}
use Rattle.cast_node.specs.Linked.{Trail, event_of, outcome_in, steps_in, made_in, kept_in, stamped, IsFor}
use Rattle.cast_journal.specs.Runs.{Moved, Came, Served, Denied, mark, trail_of, log_of, orders_of, parcels_of, parcels_for, IsRun, clock_after, AreStamped, made_of, is_own, origin_of, EngineKeeps, Handed}
use Rattle.cast_journal.specs.Journals.{JournalState, LogsStep, LogsRefusal, LogsOrder, OnlyEnds, Halts, KeepsOf}
use Rattle.cast_message.specs.declared.message.FrameKind.{FrameKind}
use Rattle.cast_message.specs.declared.message.FrameKind.TheVariants.{Carry, Took}

-- what was put and what waits, where a parcel was handed on while none waited
handed_all : (put put' : List Parcel) (held' : Option Parcel) (x : Parcel) → Handed put put' held' x → put' ++ option_to_list held' ≡ put ++ x ∷ []
handed_all put put' held' x h =
    ⊎_elim
    (λ (t : (put' ≡ put ++ x ∷ []) × (held' ≡ None)). ap (λ o. put' ++ option_to_list o) t.1 ∙ append-nil put' ∙ t.0)
    (λ (t : (put' ≡ put) × (held' ≡ Some x)). ap (λ o. put' ++ option_to_list o) t.1 ∙ ap (λ l. l ++ x ∷ []) t.0)
    h

-- an order makes no frame
order_makes_none : (p : ℕ) (steps : Steps) (item : Item) → own_made p steps (Ordered item) ≡ []
unfolding own_made
order_makes_none p steps item = refl

nothing_more : (config : Config) (p : ℕ) (trail : Trail) (stamp : ℕ) (step : Step) → own_made p (steps_in config p trail) step ≡ [] → made_in config p trail ≡ made_in config p (mark stamp step ∷ trail)
unfolding made_in
nothing_more config p trail stamp step none = sym (ap (λ l. made_in config p trail ++ map (stamped stamp) l) none ∙ append-nil (made_in config p trail))

-- the parcels for a node, with one more that was taken
for_more : (p : ℕ) (taken : List (ℕ × Parcel)) (m : ℕ × Parcel) → parcels_for p (taken ++ m ∷ []) ≡ parcels_for p taken ++ cond (m.1.frame.to == p) (m.1 ∷ []) []
for_more p taken m =
    let mine : Parcel → Bool = λ x. x.frame.to == p in
    let snd : ℕ × Parcel → Parcel = λ n. n.1 in
    ap (filter mine) (map-append snd taken (m ∷ [])) ∙ filter-append mine (map snd taken) (m.1 ∷ [])

mine_more : (p : ℕ) (taken : List (ℕ × Parcel)) (m : ℕ × Parcel) → m.1.frame.to ≡ p → parcels_for p (taken ++ m ∷ []) ≡ parcels_for p taken ++ m.1 ∷ []
mine_more p taken m to = for_more p taken m ∙ ap (λ b. parcels_for p taken ++ cond b (m.1 ∷ []) []) (eq-eqb m.1.frame.to p to)

other_more : (p : ℕ) (taken : List (ℕ × Parcel)) (m : ℕ × Parcel) → m.1.frame.to ≢ p → parcels_for p (taken ++ m ∷ []) ≡ parcels_for p taken
other_more p taken m to = for_more p taken m ∙ ap (λ b. parcels_for p taken ++ cond b (m.1 ∷ []) []) (ne_eqb m.1.frame.to p to) ∙ append-nil (parcels_for p taken)

-- the parcel that waits is for the node
pub waits_mine : {config : Config} {p : ℕ} {node : Kept} {log : List Entry} {clock : ℕ} {put : List Parcel} {held : Option Parcel} {taken : List (ℕ × Parcel)} {orders : List (ℕ × OrderIn)} (x : Parcel)
    → EngineKeeps config p node log clock put held taken (Some x) orders → x.frame.to ≡ p
waits_mine {p = p} {taken = taken} x k =
    let mine : Parcel → Bool = λ x. x.frame.to == p in
    let before = parcels_of k.run in
    let n = length before in
    let read : get_or (parcels_for p taken) n x ≡ x = ap (λ l. get_or l n x) k.taken_in ∙ get_or_push before x x n refl in
    let long = ap length k.taken_in ∙ length_push before x in
    eqb-true x.frame.to p (ap mine (sym read) ∙ filter_passes mine (map (λ (m : ℕ × Parcel). m.1) taken) n x (omega (arith, long)))

-- where only boxes changed
boxes_kept : {config : Config} {p : ℕ} {node : Kept} {log : List Entry} {clock : ℕ} {put put' : List Parcel} {held held' : Option Parcel} {taken taken' : List (ℕ × Parcel)} {waiting waiting' : Option Parcel} {orders : List (ℕ × OrderIn)}
    → (k : EngineKeeps config p node log clock put held taken waiting orders) → put' ++ option_to_list held' ≡ put ++ option_to_list held → parcels_for p taken' ≡ parcels_of k.run ++ option_to_list waiting'
    → EngineKeeps config p node log clock put' held' taken' waiting' orders
boxes_kept k same taken_in =
    record { run = k.run; runs = k.runs; is_log = k.is_log; stands = k.stands; reached = k.reached; handed = ap (map made_of) same ∙ k.handed; time = k.time; stamped = k.stamped; taken_in = taken_in; ordered = k.ordered }

-- a parcel for the node was taken, and waits
pub taken_kept : (j : JournalState) (put : List Parcel) (held : Option Parcel) (taken : List (ℕ × Parcel)) (orders : List (ℕ × OrderIn)) (m : ℕ × Parcel)
    → KeepsOf j put held taken None orders → m.1.frame.to ≡ j.node.me → KeepsOf j put held (taken ++ m ∷ []) (Some m.1) orders
taken_kept j put held taken orders m k to = boxes_kept k refl (mine_more j.node.me taken m to ∙ ap (λ l. l ++ m.1 ∷ []) (k.taken_in ∙ append-nil (parcels_of k.run)))

-- a parcel for another node was taken, and dropped
pub dropped_kept : (j : JournalState) (put : List Parcel) (held : Option Parcel) (taken : List (ℕ × Parcel)) (waiting : Option Parcel) (orders : List (ℕ × OrderIn)) (m : ℕ × Parcel)
    → KeepsOf j put held taken waiting orders → m.1.frame.to ≢ j.node.me → KeepsOf j put held (taken ++ m ∷ []) waiting orders
dropped_kept j put held taken waiting orders m k to = boxes_kept k refl (other_more j.node.me taken m to ∙ k.taken_in)

-- where only the end was noted
pub ends_kept : (old new : JournalState) (put : List Parcel) (held : Option Parcel) (taken : List (ℕ × Parcel)) (waiting : Option Parcel) (orders : List (ℕ × OrderIn))
    → KeepsOf old put held taken waiting orders → OnlyEnds old new → KeepsOf new put held taken waiting orders
ends_kept old new put held taken waiting orders k e = let P : JournalState → Type 0 = λ j. KeepsOf j put held taken waiting orders in subst P (sym e) k

module _ (old new : JournalState) (put : List Parcel) (held : Option Parcel) (taken : List (ℕ × Parcel)) (waiting : Option Parcel) (orders : List (ℕ × OrderIn)) (k : KeepsOf old put held taken waiting orders) where
  abbrev steps_now : Steps
  steps_now = steps_in old.config old.node.me (trail_of k.run)

  abbrev KeepsOf' : JournalState → List (ℕ × OrderIn) → Type 0
  KeepsOf' j orders' = KeepsOf j put held taken waiting orders'

  -- the node is the same
  at_new : {put' : List Parcel} {held' : Option Parcel} {waiting' : Option Parcel} {orders' : List (ℕ × OrderIn)} (steps : Steps) → Stands old.config old.node.me steps new.node → new.config ≡ old.config
      → EngineKeeps old.config old.node.me new.node new.log new.clock put' held' taken waiting' orders' → KeepsOf new put' held' taken waiting' orders'
  at_new {put' = put'} {held' = held'} {waiting' = waiting'} {orders' = orders'} steps st c e =
      let P : Config → ℕ → Type 0 = λ config p. EngineKeeps config p new.node new.log new.clock put' held' taken waiting' orders' in
      subst (λ config. P config new.node.me) (sym c) (subst (P old.config) (sym st.same_me) e)

  -- nothing more arrived
  none_came : parcels_for old.node.me taken ≡ (parcels_of k.run ++ []) ++ option_to_list waiting
  none_came = k.taken_in ∙ ap (λ xs. xs ++ option_to_list waiting) (sym (append-nil (parcels_of k.run)))

  -- a step of the node's own is one more of the run; what it made was handed on
  moved : (step : Step) (above : ℕ) (l : LogsStep old new step None above) → is_own step ≡ true → IsFor old.node.me step → (put' : List Parcel) (held' : Option Parcel)
      → map made_of (put' ++ option_to_list held') ≡ made_in old.config old.node.me (mark l.stamp step ∷ trail_of k.run) → KeepsOf new put' held' taken waiting orders
  unfolding trail_of log_of orders_of parcels_of IsRun clock_after AreStamped steps_in kept_in
  moved step above l own for_me put' held' handed =
      let go = continues old.config old.node.me steps_now old.node k.stands step (Ok l.answer) new.node l.gives in
      let none = sym (faults_are old.config old.node.me steps_now old.node k.stands step) ∙ l.gives.0 in
      at_new _ go.1 l.logs.same_config (record {
        run = Moved l.stamp step ∷ k.run;
        runs = (k.runs, (none, for_me, own));
        is_log = l.logs.log ∙ (λ i. k.is_log i ++ record { stamp = l.stamp; kind = StepEntry (event_of old.node.me step) None (outcome_in (sym go.0 i)) } ∷ []);
        stands = go.1;
        reached = l.gives.2 ∙ ap (λ n. kept_after n step) k.reached;
        handed = handed;
        time = l.logs.clock;
        stamped = (k.stamped, tt);
        taken_in = none_came;
        ordered = append-nil (orders_of k.run) ∙ k.ordered;
      })

  pub same_me : (step : Step) (origin : Option Origin) (above : ℕ) → LogsStep old new step origin above → new.node.me ≡ old.node.me
  same_me step origin above l = (continues old.config old.node.me steps_now old.node k.stands step (Ok l.answer) new.node l.gives).1.same_me

  stopped : LogsStep old new Stopped None old.clock → KeepsOf new put held taken waiting orders
  unfolding own_made
  stopped l =
      moved Stopped old.clock l refl tt put held
      (k.handed ∙ nothing_more old.config old.node.me (trail_of k.run) l.stamp Stopped refl)

  pub halt_kept : Halts old new → KeepsOf new put held taken waiting orders
  halt_kept h = ⊎_elim (λ e. ends_kept old new put held taken waiting orders k e) (λ l. stopped l) h

  -- an order that was taken from the desk and logged at once
  served : (order : OrderIn) (from : ℕ) → LogsStep old new (Ordered order.item) (Some (origin_of order)) old.clock → KeepsOf' new (orders ++ (from, order) ∷ [])
  unfolding trail_of log_of orders_of parcels_of IsRun clock_after AreStamped steps_in kept_in
  served order from l =
      let step : Step = Ordered order.item in
      let go = continues old.config old.node.me steps_now old.node k.stands step (Ok l.answer) new.node l.gives in
      let none = sym (faults_are old.config old.node.me steps_now old.node k.stands step) ∙ l.gives.0 in
      let snd : ℕ × OrderIn → OrderIn = λ m. m.1 in
      at_new _ go.1 l.logs.same_config (record {
        run = Served l.stamp order ∷ k.run;
        runs = (k.runs, none);
        is_log = l.logs.log ∙ (λ i. k.is_log i ++ record { stamp = l.stamp; kind = StepEntry (event_of old.node.me step) (Some (origin_of order)) (outcome_in (sym go.0 i)) } ∷ []);
        stands = go.1;
        reached = l.gives.2 ∙ ap (λ n. kept_after n step) k.reached;
        handed = k.handed ∙ nothing_more old.config old.node.me (trail_of k.run) l.stamp step (order_makes_none old.node.me steps_now order.item);
        time = l.logs.clock;
        stamped = (k.stamped, tt);
        taken_in = none_came;
        ordered = ap (λ l. l ++ order ∷ []) k.ordered ∙ sym (map-append snd orders ((from, order) ∷ []));
      })

  denied : (order : OrderIn) (from : ℕ) → LogsRefusal old new order → KeepsOf' new (orders ++ (from, order) ∷ [])
  unfolding trail_of log_of orders_of parcels_of IsRun clock_after AreStamped
  denied order from l =
      let step : Step = Ordered order.item in
      let go = continues old.config old.node.me steps_now old.node k.stands step (Err l.fault) new.node l.gives in
      let snd : ℕ × OrderIn → OrderIn = λ m. m.1 in
      at_new _ go.1 l.logs.same_config (record {
        run = Denied l.stamp order l.fault ∷ k.run;
        runs = (k.runs, go.0);
        is_log = l.logs.log ∙ ap (λ g. g ++ record { stamp = l.stamp; kind = Refused (origin_of order) l.fault } ∷ []) k.is_log;
        stands = go.1;
        reached = l.gives.1 ∙ k.reached;
        handed = k.handed;
        time = l.logs.clock;
        stamped = (k.stamped, tt);
        taken_in = none_came;
        ordered = ap (λ l. l ++ order ∷ []) k.ordered ∙ sym (map-append snd orders ((from, order) ∷ []));
      })

  pub order_kept : (order : OrderIn) (from : ℕ) → LogsOrder old new order → KeepsOf new put held taken waiting (orders ++ (from, order) ∷ [])
  order_kept order from h = ⊎_elim (λ l. served order from l) (λ l. denied order from l) h

  -- a step that makes a frame, which is handed on where none waits
  made_now : (step : Step) (above : ℕ) (f : Frame) → LogsStep old new step None above → is_own step ≡ true → IsFor old.node.me step
      → own_made old.node.me steps_now step ≡ f ∷ [] → (x : Parcel) → x.frame ≡ f → x.stamp ≡ new.clock
      → held ≡ None → (put' : List Parcel) (held' : Option Parcel) → Handed put put' held' x → KeepsOf new put' held' taken waiting orders
  unfolding made_in
  made_now step above f l own for_me made x is time none put' held' h =
      let before = made_in old.config old.node.me (trail_of k.run) in
      let all : map made_of put ≡ before = ap (map made_of) (sym (append-nil put) ∙ ap (λ o. put ++ option_to_list o) (sym none)) ∙ k.handed in
      let time_is : x.stamp ≡ l.stamp = time ∙ l.logs.clock in
      let last : made_of x ≡ stamped l.stamp f = λ i. stamped (time_is i) (is i) in
      moved step above l own for_me put' held'
      (ap (map made_of) (handed_all put put' held' x h) ∙ map-append made_of put (x ∷ []) ∙ ap (λ ms. ms ++ made_of x ∷ []) all ∙ ap (λ m. before ++ m ∷ []) last
      ∙ ap (λ fs. before ++ map (stamped l.stamp) fs) (sym made))

-- the parcel that waited arrived
pub arrival_kept : (old new : JournalState) (put : List Parcel) (held : Option Parcel) (taken : List (ℕ × Parcel)) (orders : List (ℕ × OrderIn)) (x : Parcel)
    → KeepsOf old put held taken (Some x) orders → LogsStep old new (Arrived x.frame) None x.stamp → KeepsOf new put held taken None orders
unfolding trail_of log_of orders_of parcels_of IsRun clock_after AreStamped steps_in kept_in own_made
arrival_kept old new put held taken orders x k l =
    let step : Step = Arrived x.frame in
    let steps = steps_in old.config old.node.me (trail_of k.run) in
    let go = continues old.config old.node.me steps old.node k.stands step (Ok l.answer) new.node l.gives in
    let none = sym (faults_are old.config old.node.me steps old.node k.stands step) ∙ l.gives.0 in
    at_new old new put held taken (Some x) orders k _ go.1 l.logs.same_config (record {
      run = Came l.stamp x ∷ k.run;
      runs = (k.runs, (none, waits_mine x k));
      is_log = l.logs.log ∙ (λ i. k.is_log i ++ record { stamp = l.stamp; kind = StepEntry (event_of old.node.me step) None (outcome_in (sym go.0 i)) } ∷ []);
      stands = go.1;
      reached = l.gives.2 ∙ ap (λ n. kept_after n step) k.reached;
      handed = k.handed ∙ nothing_more old.config old.node.me (trail_of k.run) l.stamp step refl;
      time = l.logs.clock;
      stamped = (k.stamped, l.next ∙ ap (λ c. max c x.stamp + 1) k.time);
      taken_in = k.taken_in ∙ sym (append-nil (parcels_of k.run ++ x ∷ []));
      ordered = append-nil (orders_of k.run) ∙ k.ordered;
    })

-- a parcel was taken, and arrived at once
pub came_kept : (old new : JournalState) (put : List Parcel) (held : Option Parcel) (taken : List (ℕ × Parcel)) (orders : List (ℕ × OrderIn)) (m : ℕ × Parcel)
    → KeepsOf old put held taken None orders → m.1.frame.to ≡ old.node.me → LogsStep old new (Arrived m.1.frame) None m.1.stamp → KeepsOf new put held (taken ++ m ∷ []) None orders
came_kept old new put held taken orders m k to l = arrival_kept old new put held (taken ++ m ∷ []) orders m.1 (taken_kept old put held taken orders m k to) l

-- the parcel that waited is put, or waits again
pub flush_kept : (j : JournalState) (put put' : List Parcel) (held held' : Option Parcel) (taken : List (ℕ × Parcel)) (waiting : Option Parcel) (orders : List (ℕ × OrderIn)) (x : Parcel)
    → KeepsOf j put held taken waiting orders → held ≡ Some x → Handed put put' held' x → KeepsOf j put' held' taken waiting orders
flush_kept j put put' held held' taken waiting orders x k is h = boxes_kept k (handed_all put put' held' x h ∙ ap (λ o. put ++ option_to_list o) (sym is)) k.taken_in

module _ (old new : JournalState) (put put' : List Parcel) (held held' : Option Parcel) (taken : List (ℕ × Parcel)) (waiting : Option Parcel) (orders : List (ℕ × OrderIn)) (k : KeepsOf old put held taken waiting orders)
    (x : Parcel) (above : ℕ) (time : x.stamp ≡ new.clock) (none : held ≡ None) (h : Handed put put' held' x) where
  pub made_kept : (kind : FrameKind) (to slot : ℕ) → LogsStep old new (making kind to slot) None above → x.frame ≡ frame_made kind old.node to slot → KeepsOf new put' held' taken waiting orders
  made_kept Carry to slot l is =
      let steps = steps_in old.config old.node.me (trail_of k.run) in
      let clear = sym (faults_are old.config old.node.me steps old.node k.stands (Sent to slot)) ∙ l.gives.0 in
      made_now old new put held taken waiting orders k (Sent to slot) above (carry_of old.node to slot) l refl tt (carries old.config old.node.me steps old.node k.stands to slot clear) x is time none put' held' h
  made_kept Took to slot l is =
      let steps = steps_in old.config old.node.me (trail_of k.run) in
      made_now old new put held taken waiting orders k (Acknowledged to slot) above (took_of old.node to slot) l refl tt (tells_taken old.config old.node.me steps old.node k.stands to slot) x is time none put' held' h
