-- What an engine keeps, call by call.
use Rattle.std.proofs.Common.{◌≡◌, ◌≢◌, ℕ, zero, suc, length, slice_get, ◌+◌, ◌<◌, ◌^◌, List, [], ◌∷◌, ◌++◌, Option, Some, None, sym, refl, ap, ◌∙◌, subst, inl, inr, ⊎_elim, arith, Bool, true, false}
use Rattle.std.specs.Prelude.{IsTrue, IsFalse, IsSome, is_some, replicate}
use Rattle.std.proofs.lemmas.List.{length-replicate}
use Rattle.cast_message.specs.declared.config.Config.{Config}
use Rattle.cast_model.specs.Steps.{Step, Arrived, Stopped, making}
use Rattle.cast_log.specs.declared.entry.Origin.{Origin}
use Rattle.cast_log.specs.declared.entry.Entry.{Entry}
use Rattle.cast_node.specs.Kept.{Kept, nothing_kept}
use Rattle.cast_node.specs.Turns.{frame_made}
use Rattle.cast_box.specs.Ends.{PutterEnd}
use Rattle.cast_desk.specs.declared.desk.Desk.{Desk}
use Rattle.cast_journal.specs.declared.order.OrderIn.{OrderIn}
use Rattle.cast_desk.specs.declared.notice.Notice.{Notice}
use Rattle.cast_journal.specs.declared.parcel.Parcel.{Parcel}
use Rattle.cast_engine.specs.declared.feeding.Place.{Place}
use Rattle.cast_journal.specs.Runs.{EngineKeeps, Handed}
use Rattle.cast_journal.specs.Journals.{JournalState, LogsStep, LogsRefusal, LogsOrder, OnlyEnds, Halts, EndsLate, IsClosed, MayLog, Rises, EndsAs, KeepsOf}
use Rattle.cast_message.specs.declared.message.FrameKind.{FrameKind}
use Rattle.cast_engine.specs.Feeding.{AreFed, IsFed, first_place}
use Rattle.cast_engine.specs.Engines.{taken_at, trays_at, EngineStays, TakesOrder, IsUnused, EngineState, Leaves, HasLastStamp, IsFull}
use Rattle.cast_node.specs.declared.report.EngineEnd.{EngineEnd}
use Rattle.cast_node.specs.declared.report.EngineEnd.TheVariants.{Stopped as AllStopped, ClockFull}
use Rattle.cast_journal.proofs.RunLogs.{keeps_new}
use Rattle.cast_journal.proofs.Running.{taken_kept, dropped_kept, ends_kept, arrival_kept, halt_kept, same_me, order_kept, flush_kept, made_kept}
use Rattle.cast_engine.proofs.Fed.{fed_more}

abbrev pub IsSameJournal : JournalState → JournalState → Type 0
IsSameJournal old new = (new.config ≡ old.config) × (new.node.me ≡ old.node.me) × (new.crash ≡ old.crash)

pub none_held : (held : Option Parcel) → is_some held ≡ false → held ≡ None
none_held None e = refl
none_held (Some x) e = absurd cc

only_same : (old new : JournalState) → new ≡ old → OnlyEnds old new
only_same old new e = subst (λ j. OnlyEnds old j) (sym e) refl

only_ended : (old new : JournalState) (ended : Option EngineEnd) → new ≡ record old { ended = ended } → OnlyEnds old new
only_ended old new ended e = subst (λ j. OnlyEnds old j) (sym e) refl

-- the clock is full where the engine ended so
abbrev pub Late : JournalState → Option Parcel → Type 0
Late j waiting = j.ended ≡ Some ClockFull → IsFull j.clock waiting

-- a step was taken, so that the engine had not ended
not_late : (old new : JournalState) (waiting : Option Parcel) → old.ended ≡ None → new.ended ≡ old.ended → Late new waiting
not_late old new waiting running same e = let none : ◌≡◌ {A = Option EngineEnd} None (Some ClockFull) = sym running ∙ sym same ∙ e in absurd cc

late_still : (old new : JournalState) (waiting : Option Parcel) → Late old waiting → EndsLate old new → Late new waiting
late_still old new waiting was ends e =
    ⊎_elim (λ (t : (old.ended ≡ Some ClockFull) × (new.clock ≡ old.clock)). subst (λ c. IsFull c waiting) (sym t.1) (was t.0)) (λ (t : new.clock + 1 ≡ 2 ^ 64). inl t) (ends e)

-- the same journal after a question
pub stays_same : (old new : JournalState) (put : List Parcel) (held : Option Parcel) (taken : List (ℕ × Parcel)) (waiting : Option Parcel) (desk : Option Desk) (places : List Place)
    → EngineStays old put held taken waiting desk places → new ≡ old → EngineStays new put held taken waiting desk places
stays_same old new put held taken waiting desk places k e = subst (λ j. EngineStays j put held taken waiting desk places) (sym e) k

-- a journal that may log has not ended
pub still_runs : {old new : JournalState} → (new ≡ old) × MayLog old → new.ended ≡ None
still_runs may = ap (λ (j : JournalState). j.ended) may.0 ∙ may.1.running

-- the log grows by an entry at most
pub fed_step : (old new : JournalState) (step : Step) (origin : Option Origin) (above : ℕ) (trays : List (PutterEnd Notice)) (places : List Place)
    → LogsStep old new step origin above → AreFed old.log trays places → AreFed new.log trays places
fed_step old new step origin above trays places l f = fed_more old.log new.log _ trays places l.logs.log f

fed_halt : (old new : JournalState) (trays : List (PutterEnd Notice)) (places : List Place) → Halts old new → AreFed old.log trays places → AreFed new.log trays places
fed_halt old new trays places h f =
    ⊎_elim (λ (e : OnlyEnds old new). subst (λ l. AreFed l trays places) (sym (ap (λ (j : JournalState). j.log) e)) f) (λ l. fed_step old new Stopped None old.clock trays places l f) h

fed_order : (old new : JournalState) (order : OrderIn) (trays : List (PutterEnd Notice)) (places : List Place) → LogsOrder old new order → AreFed old.log trays places → AreFed new.log trays places
fed_order old new order trays places h f =
    ⊎_elim (λ l. fed_step old new _ _ old.clock trays places l f) (λ (l : LogsRefusal old new order). fed_more old.log new.log _ trays places l.logs.log f) h

module _ (old new : JournalState) (put : List Parcel) (held : Option Parcel) (taken : List (ℕ × Parcel)) (waiting : Option Parcel) (desk : Option Desk) (places : List Place) (k : EngineStays old put held taken waiting desk places) where
  pub stays_halt : Halts old new → EndsLate old new → EngineStays new put held taken waiting desk places
  stays_halt h e = record { keeps = halt_kept old new put held taken waiting (taken_at desk) k.keeps h; fed = fed_halt old new (trays_at desk) places h k.fed; late = late_still old new waiting k.late e }

  -- it is the engine of the same node
  pub same_step : (step : Step) (origin : Option Origin) (above : ℕ) → LogsStep old new step origin above → IsSameJournal old new
  same_step step origin above l = (l.logs.same_config, same_me old new put held taken waiting (taken_at desk) k.keeps step origin above l, l.logs.same_crash)

  pub same_halt : Halts old new → IsSameJournal old new
  same_halt h =
      let only : OnlyEnds old new → IsSameJournal old new =
      λ e. (ap (λ (j : JournalState). j.config) e, ap (λ (j : JournalState). j.node.me) e, ap (λ (j : JournalState). j.crash) e) in
      ⊎_elim only (λ l. same_step Stopped None old.clock l) h

  module _ (running : old.ended ≡ None) (same : new.ended ≡ old.ended) where
    module _ (put' : List Parcel) (held' : Option Parcel) (x : Parcel) (above : ℕ) (time : x.stamp ≡ new.clock) (none : held ≡ None) (h : Handed put put' held' x) where
      pub stays_made : (kind : FrameKind) (to slot : ℕ) → LogsStep old new (making kind to slot) None above → x.frame ≡ frame_made kind old.node to slot
          → EngineStays new put' held' taken waiting desk places
      stays_made kind to slot l is = record {
        keeps = made_kept old new put put' held held' taken waiting (taken_at desk) k.keeps x above time none h kind to slot l is;
        fed = fed_step old new (making kind to slot) None above (trays_at desk) places l k.fed;
        late = not_late old new waiting running same;
      }

    -- an order was taken and logged
    pub stays_ordered : (order : OrderIn) (desk' : Option Desk) → TakesOrder desk (Some order) desk' → LogsOrder old new order → EngineStays new put held taken waiting desk' places
    stays_ordered order desk' t h = record {
      keeps = subst (KeepsOf new put held taken waiting) (sym t.1) (order_kept old new put held taken waiting (taken_at desk) k.keeps order t.0 h);
      fed = subst (λ l. AreFed new.log l places) (sym t.2) (fed_order old new order (trays_at desk) places h k.fed);
      late = not_late old new waiting running same;
    }

-- a parcel was taken, which waits, or is for another node
module _ (j : JournalState) (put : List Parcel) (held : Option Parcel) (taken taken' : List (ℕ × Parcel)) (desk : Option Desk) (places : List Place) (number : ℕ) (x : Parcel)
    (k : EngineStays j put held taken None desk places) (is : taken' ≡ taken ++ (number, x) ∷ []) where
  pub stays_taken : x.frame.to ≡ j.node.me → EngineStays j put held taken' (Some x) desk places
  stays_taken to =
      subst (λ l. EngineStays j put held l (Some x) desk places) (sym is)
      (record { keeps = taken_kept j put held taken (taken_at desk) (number, x) k.keeps to; fed = k.fed; late = λ e. late_more (k.late e) })
    where
      late_more : IsFull j.clock None → IsFull j.clock (Some x)
      late_more (inl full) = inl full
      late_more (inr last) = let none = last.1 in absurd cc

  pub stays_dropped : x.frame.to ≢ j.node.me → EngineStays j put held taken' None desk places
  stays_dropped to =
      subst (λ l. EngineStays j put held l None desk places) (sym is)
      (record { keeps = dropped_kept j put held taken None (taken_at desk) (number, x) k.keeps to; fed = k.fed; late = k.late })

-- the arrival of the parcel that waited was logged
pub stays_arrived : (old new : JournalState) (put : List Parcel) (held : Option Parcel) (taken : List (ℕ × Parcel)) (desk : Option Desk) (places : List Place) (x : Parcel)
    → EngineStays old put held taken (Some x) desk places → old.ended ≡ None → new.ended ≡ old.ended → LogsStep old new (Arrived x.frame) None x.stamp → EngineStays new put held taken None desk places
stays_arrived old new put held taken desk places x k running same l = record {
  keeps = arrival_kept old new put held taken (taken_at desk) x k.keeps l;
  fed = fed_step old new (Arrived x.frame) None x.stamp (trays_at desk) places l k.fed;
  late = not_late old new None running same;
}

-- the parcel that waits has the last stamp
pub stays_full : (old new : JournalState) (put : List Parcel) (held : Option Parcel) (taken : List (ℕ × Parcel)) (waiting : Option Parcel) (desk : Option Desk) (places : List Place)
    → EngineStays old put held taken waiting desk places → HasLastStamp waiting → new ≡ record old { ended = Some ClockFull } → EngineStays new put held taken waiting desk places
stays_full old new put held taken waiting desk places k last e = record {
  keeps = ends_kept old new put held taken waiting (taken_at desk) k.keeps (only_ended old new (Some ClockFull) e);
  fed = fed_halt old new (trays_at desk) places (inl (only_ended old new (Some ClockFull) e)) k.fed;
  late = λ _. inr last;
}

-- all engines are quiet
pub stays_stopped : (old new : JournalState) (put : List Parcel) (held : Option Parcel) (taken : List (ℕ × Parcel)) (waiting : Option Parcel) (desk : Option Desk) (places : List Place)
    → EngineStays old put held taken waiting desk places → new ≡ record old { ended = Some AllStopped } → EngineStays new put held taken waiting desk places
stays_stopped old new put held taken waiting desk places k e =
    stays_halt old new put held taken waiting desk places k (inl (only_ended old new (Some AllStopped) e)) (λ full. let other : ◌≡◌ {A = Option EngineEnd} (Some AllStopped) (Some ClockFull) = sym (ap (λ (j : JournalState). j.ended) e) ∙ full in absurd cc)

-- no order was taken
pub stays_unordered : (j : JournalState) (put : List Parcel) (held : Option Parcel) (taken : List (ℕ × Parcel)) (waiting : Option Parcel) (desk desk' : Option Desk) (places : List Place)
    → EngineStays j put held taken waiting desk places → TakesOrder desk None desk' → EngineStays j put held taken waiting desk' places
stays_unordered j put held taken waiting desk desk' places k t = record {
  keeps = subst (KeepsOf j put held taken waiting) (sym t.0) k.keeps;
  fed = subst (λ l. AreFed j.log l places) (sym t.1) k.fed;
  late = k.late;
}

-- the parcel that waited was put, or waits again
pub stays_flushed : (j : JournalState) (put put' : List Parcel) (held held' : Option Parcel) (taken : List (ℕ × Parcel)) (waiting : Option Parcel) (desk : Option Desk) (places : List Place) (x : Parcel)
    → EngineStays j put held taken waiting desk places → held ≡ Some x → Handed put put' held' x → EngineStays j put' held' taken waiting desk places
stays_flushed j put put' held held' taken waiting desk places x k is h =
    record { keeps = flush_kept j put put' held held' taken waiting (taken_at desk) x k.keeps is h; fed = k.fed; late = k.late }

-- a journal that was asked whether an entry may be logged
pub stays_asked : (old new : JournalState) (put : List Parcel) (held : Option Parcel) (taken : List (ℕ × Parcel)) (waiting : Option Parcel) (desk : Option Desk) (places : List Place) (may : Bool)
    → EngineStays old put held taken waiting desk places → (IsTrue may → (new ≡ old) × MayLog old) → (IsFalse may → Halts old new) → EndsLate old new → EngineStays new put held taken waiting desk places
stays_asked old new put held taken waiting desk places true k on off late = stays_same old new put held taken waiting desk places k (on refl).0
stays_asked old new put held taken waiting desk places false k on off late = stays_halt old new put held taken waiting desk places k (off refl) late

-- more was told
pub stays_told : (j : JournalState) (put : List Parcel) (held : Option Parcel) (taken : List (ℕ × Parcel)) (waiting : Option Parcel) (desk desk' : Option Desk) (places places' : List Place)
    → EngineStays j put held taken waiting desk places → taken_at desk' ≡ taken_at desk → AreFed j.log (trays_at desk') places' → EngineStays j put held taken waiting desk' places'
stays_told j put held taken waiting desk desk' places places' k same f = record {
  keeps = subst (KeepsOf j put held taken waiting) (sym same) k.keeps;
  fed = f;
  late = k.late;
}

get_replicate : {A : Type 0} (n : ℕ) (a x : A) (i : ℕ) → slice_get (replicate n a) i ≡ Some x → a ≡ x
get_replicate zero a x i e = absurd cc
get_replicate (suc n) a x zero e = cc
get_replicate (suc n) a x (suc i) e = get_replicate n a x i e

-- a new engine
pub stays_new : (j : JournalState) (config : Config) (me : ℕ) (crash : Option ℕ) (put : List Parcel) (arrived : List (ℕ × Parcel)) (desk : Option Desk) (places : List Place)
    → me < config.nodes → (turns : ℕ) → j ≡ record { config = config; node = nothing_kept config me; log = []; clock = config.first_stamp; crash = crash; ended = None; turns = turns }
    → put ≡ [] → arrived ≡ [] → IsUnused desk → places ≡ replicate (length (trays_at desk)) first_place → EngineStays j put None arrived None desk places
stays_new j config me crash put arrived desk places lt turns is p a u l =
    let P : JournalState → List Parcel → List (ℕ × Parcel) → Type 0 = λ j p a. EngineStays j p None a None desk places in
    let base : JournalState = record { config = config; node = nothing_kept config me; log = []; clock = config.first_stamp; crash = crash; ended = None; turns = turns } in
    subst (λ j. P j put arrived) (sym is) (subst (λ p. P base p arrived) (sym p) (subst (P base []) (sym a) (record {
      keeps =
          let O : List (ℕ × OrderIn) → Type 0 = λ o. EngineKeeps config me (nothing_kept config me) [] config.first_stamp [] None [] None o in
          subst O (sym u.0) (keeps_new config me lt);
      late = λ e. absurd cc;
      fed = (
        ap length l ∙ length-replicate (length (trays_at desk)) first_place,
        λ c tray place s t.
            let e : first_place ≡ place = get_replicate (length (trays_at desk)) first_place place c (ap (λ k. slice_get k c) (sym l) ∙ t) in
            let Q : Place → Type 0 = λ p. IsFed c [] p tray.put in
            subst Q e (record { within = omega arith; counted = refl; begun = omega arith; waits = λ n w. absurd cc; counts = λ n w. absurd cc }, u.1 c tray s),
      );
    })))

replicate_more : {A : Type 0} (n : ℕ) (a : A) → replicate (suc n) a ≡ replicate n a ++ a ∷ []
replicate_more zero a = refl
replicate_more (suc n) a = ap (λ l. a ∷ l) (replicate_more n a)

pub places_more : (n : ℕ) (old new : List Place) → old ≡ replicate n first_place → new ≡ old ++ first_place ∷ [] → new ≡ replicate (n + 1) first_place
places_more n old new o is =
    let more : n + 1 ≡ suc n = omega arith in
    is ∙ ap (λ l. l ++ first_place ∷ []) o ∙ sym (replicate_more n first_place) ∙ ap (λ m. replicate m first_place) (sym more)

back : {A : Type 0} (x y : A) (P : A → Type 0) → x ≡ y → P y → P x
back x y P q v = subst P (sym q) v

-- what it leaves
pub leaves : (i : JournalState) (put : List Parcel) (held : Option Parcel) (taken : List (ℕ × Parcel)) (waiting : Option Parcel) (desk : Option Desk) (places : List Place) (e : EngineState)
    → EngineStays i put held taken waiting desk places → e.config ≡ i.config → e.me ≡ i.node.me → e.crash ≡ i.crash → e.turns ≡ i.turns → e.ended ≡ i.ended → e.outbox.put ≡ put → e.inbox.taken ≡ taken → e.waiting ≡ waiting → e.desk ≡ desk
    → (log : List Entry) (node : Kept) (ended : EngineEnd) → IsClosed i log node ended → Leaves e log node ended
leaves i put held taken waiting desk places e stays c0 m0 cr0 tu en0 p a w d log node ended closed =
    let j = closed.new in
    let k = stays_halt i j put held taken waiting desk places stays closed.halts closed.late in
    let same = same_halt i j put held taken waiting desk places stays closed.halts in
    let c = c0 ∙ sym same.0 in
    let m = m0 ∙ sym same.1 in
    let cr = cr0 ∙ sym same.2 in
    let l = closed.parts.0 in
    let n = closed.parts.1 in
    let en = closed.parts.2 in
    let K : Config → ℕ → Kept → List Entry → List Parcel → List (ℕ × Parcel) → Option Parcel → Option Desk → Type 0 = λ c m n l p a w d. EngineKeeps c m n l j.clock p held a w (taken_at d) in
    record {
      held = held;
      clock = j.clock;
      keeps = back e.config j.config (λ c. K c e.me node log e.outbox.put e.inbox.taken e.waiting e.desk) c
          (back e.me j.node.me (λ m. K j.config m node log e.outbox.put e.inbox.taken e.waiting e.desk) m
          (back node j.node (λ n. K j.config j.node.me n log e.outbox.put e.inbox.taken e.waiting e.desk) n
          (back log j.log (λ l. K j.config j.node.me j.node l e.outbox.put e.inbox.taken e.waiting e.desk) l
          (back e.outbox.put put (λ p. K j.config j.node.me j.node j.log p e.inbox.taken e.waiting e.desk) p
          (back e.inbox.taken taken (λ a. K j.config j.node.me j.node j.log put a e.waiting e.desk) a
          (back e.waiting waiting (λ w. K j.config j.node.me j.node j.log put taken w e.desk) w
          (back e.desk desk (λ d. K j.config j.node.me j.node j.log put taken waiting d) d k.keeps)))))));
      places = places;
      fed = back e.desk desk (λ o. AreFed log (trays_at o) places) d (back log j.log (λ g. AreFed g (trays_at desk) places) l k.fed);
      rises = back e.config j.config (λ c. Rises c.first_stamp log j.clock) c (back log j.log (λ g. Rises j.config.first_stamp g j.clock) l closed.rises);
      ends = back e.config j.config (λ c. EndsAs c.log_limit e.crash (Some ended) log) c
          (back e.crash j.crash (λ o. EndsAs j.config.log_limit o (Some ended) log) cr
          (back (Some ended) j.ended (λ o. EndsAs j.config.log_limit j.crash o log) (sym en) (back log j.log (λ g. EndsAs j.config.log_limit j.crash j.ended g) l closed.ends)));
      before = λ some. en0 ∙ sym (ap (λ (z : JournalState). z.ended) (closed.kept (subst IsSome en0 some))) ∙ en;
      spent = λ out. elim_ended e.ended (λ some. inl (tu ∙ sym (ap (λ (z : JournalState). z.turns) (closed.kept (subst IsSome en0 some))) ∙ closed.spent out)) (λ none. inr none);
      late = λ full. back e.waiting waiting (IsFull j.clock) w (k.late (en ∙ ap (λ (z : EngineEnd). Some z) full));
    }
  where
    elim_ended : {P : Type 0} (o : Option EngineEnd) → (IsSome o → P) → (o ≡ None → P) → P
    elim_ended None some none = none refl
    elim_ended (Some x) some none = some refl
