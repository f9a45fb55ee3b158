-- The stamps of what an engine logged follow its clock.
use Rattle.std.proofs.Common.{◌≡◌, ℕ, Bool, true, false, List, [], ◌∷◌, ◌++◌, map, Option, None, sym, refl, ap, ◌∙◌, subst}
use Rattle.std.specs.Prelude.{if◌then◌else◌}
use Rattle.std.proofs.lemmas.List.{append-nil, map-append}
use Rattle.cast_message.specs.declared.config.Config.{Config}
use Rattle.cast_message.specs.declared.event.Event.TheVariants.{Order, Send, Ack, Arrive, Crash}
use Rattle.cast_message.specs.declared.event.Outcome.{Outcome}
use Rattle.cast_model.specs.Steps.{Step, Ordered, Sent, Acknowledged, Arrived, Stopped, Steps}
use Rattle.cast_model.specs.OwnSteps.{own_made, node_reply}
use Rattle.cast_log.specs.declared.entry.Entry.{Entry}
use Rattle.cast_log.specs.declared.entry.EntryKind.{EntryKind}
use Rattle.cast_log.specs.declared.entry.EntryKind.TheVariants.{Step as StepEntry, Refused}
use Rattle.cast_journal.specs.declared.parcel.Parcel.{Parcel}
use Rattle.cast_journal.specs.Lists.{Has}
use Rattle.cast_journal.proofs.Lists.{has_left, has_right}
use Rattle.cast_node.specs.Linked.{Made, event_of, outcome_in, steps_in, made_in, stamped}
use Rattle.cast_journal.specs.Runs.{Read, Moved, Came as Arrival, Served, Denied, Run, trail_of, log_of, parcels_of, parcel_by, entry_by, IsRead, IsRun, is_own, clock_after, AreStamped, IsStamped}
use Rattle.cast_engine.specs.Clocks.{makes, stamps_made, IsStampedAs, IsStampedBy, Follows}
use Rattle.cast_journal.specs.Journals.{Rises, IsStampedAfter}
use Rattle.cast_engine.specs.Engines.{CameIn}
use Rattle.cast_engine.proofs.Answering.{filter_snoc, rises_front}

-- where more is known of what came
module _ (Came Told : ℕ → ℕ → ℕ → Type 0) (more : (from seq sent : ℕ) → Came from seq sent → Told from seq sent) where
  by_kind : (clock stamp : ℕ) (kind : EntryKind) → IsStampedAs Came clock stamp kind → IsStampedAs Told clock stamp kind
  by_kind clock stamp (StepEntry (Order node item) origin outcome) h = h
  by_kind clock stamp (StepEntry (Send from to slot) origin outcome) h = h
  by_kind clock stamp (StepEntry (Ack from to slot) origin outcome) h = h
  by_kind clock stamp (StepEntry (Arrive from seq) origin outcome) h = (h.0, more from seq h.0 h.1, h.2)
  by_kind clock stamp (StepEntry (Crash node) origin outcome) h = h
  by_kind clock stamp (Refused origin fault) h = h

  pub follows_still : (clock : ℕ) (log : List Entry) → Follows Came clock log → Follows Told clock log
  unfolding Follows
  follows_still clock [] h = tt
  follows_still clock (e ∷ es) h = (by_kind clock e.stamp e.kind h.0, follows_still e.stamp es h.1)

follows_more : (Came : ℕ → ℕ → ℕ → Type 0) (log : List Entry) (first clock : ℕ) (e : Entry) → Rises first log clock → Follows Came first log → IsStampedBy Came clock e → Follows Came first (log ++ e ∷ [])
unfolding Rises Follows
follows_more Came [] first clock e r f by = (subst (λ c. IsStampedBy Came c e) r by, tt)
follows_more Came (x ∷ xs) first clock e r f by = (f.0, follows_more Came xs x.stamp clock e r.1 f.1 by)

-- the clock is what the last entry made it
clock_is : (config : Config) (p : ℕ) (run : Run) (first clock : ℕ) → Rises first (log_of config p run) clock → clock ≡ clock_after first run
unfolding Rises log_of clock_after
clock_is config p [] first clock r = r
clock_is config p (Moved stamp step ∷ rs) first clock r = (rises_front (log_of config p rs) first clock _ r).3
clock_is config p (Arrival stamp x ∷ rs) first clock r = (rises_front (log_of config p rs) first clock _ r).3
clock_is config p (Served stamp order ∷ rs) first clock r = (rises_front (log_of config p rs) first clock _ r).3
clock_is config p (Denied stamp order fault ∷ rs) first clock r = (rises_front (log_of config p rs) first clock _ r).3

module _ (config : Config) (p : ℕ) (taken : List (ℕ × Parcel)) (steps : Steps) (clock : ℕ) where
  by_step : (stamp : ℕ) (step : Step) (outcome : Outcome) → is_own step ≡ true → IsStampedAfter clock (record { stamp = stamp; kind = StepEntry (event_of p step) None outcome })
      → IsStampedAs (CameIn taken) clock stamp (StepEntry (event_of p step) None outcome)
  by_step stamp (Ordered item) outcome own after = after.1 refl
  by_step stamp (Sent to slot) outcome own after = after.1 refl
  by_step stamp (Acknowledged to slot) outcome own after = after.1 refl
  by_step stamp (Arrived frame) outcome own after = absurd cc
  by_step stamp Stopped outcome own after = after.1 refl

  by_read : (r : Read) → IsRead config p steps r → IsStampedAfter clock (entry_by config p steps r) → IsStamped clock r → ((x : Parcel) → Has (parcel_by r) x → (n : ℕ) × Has taken (n, x))
      → IsStampedBy (CameIn taken) clock (entry_by config p steps r)
  by_read (Moved stamp step) is after h was = by_step stamp step (outcome_in (node_reply config p steps step)) is.2 after
  by_read (Arrival stamp x) is after h was = let it = was x (0, refl) in (x.stamp, (it.0, x.frame, it.1, refl, refl), h)
  by_read (Served stamp order) is after h was = after.1 refl
  by_read (Denied stamp order fault) is after h was = after.1 refl

-- the clock gave each entry its stamp
pub run_follows : (config : Config) (p : ℕ) (taken : List (ℕ × Parcel)) (run : Run) (first clock : ℕ) → Rises first (log_of config p run) clock → IsRun config p run → AreStamped first run
    → ((x : Parcel) → Has (parcels_of run) x → (n : ℕ) × Has taken (n, x)) → Follows (CameIn taken) first (log_of config p run)
unfolding log_of parcels_of IsRun AreStamped Follows
run_follows config p taken [] first clock r is h was = tt
run_follows config p taken (r ∷ rs) first clock rises is h was =
    let steps = steps_in config p (trail_of rs) in
    let log = log_of config p rs in
    let e = entry_by config p steps r in
    let earlier = rises_front log first clock e rises in
    let time = clock_is config p rs first earlier.0 earlier.1 in
    let stamped : IsStamped earlier.0 r = subst (λ c. IsStamped c r) (sym time) h.1 in
    follows_more (CameIn taken) log first earlier.0 e earlier.1
    (run_follows config p taken rs first earlier.0 earlier.1 is.0 h.0 (λ x has. was x (has_left (parcels_of rs) (parcel_by r) x has)))
    (by_read config p taken steps earlier.0 r is.1 earlier.2 stamped (λ x has. was x (has_right (parcels_of rs) (parcel_by r) x has)))

-- the stamp of each frame is that of the entry that made it
stamps_snoc : (log : List Entry) (e : Entry) (b : Bool) → makes e.kind ≡ b → stamps_made (log ++ e ∷ []) ≡ stamps_made log ++ (if b then e.stamp ∷ [] else [])
unfolding stamps_made
stamps_snoc log e b is =
    ap (map (λ x. x.stamp)) (filter_snoc (λ x. makes x.kind) log e)
    ∙ map-append (λ (x : Entry). x.stamp) _ _
    ∙ ap (λ l. stamps_made log ++ l) (one (makes e.kind) b is)
  where
    one : (a b : Bool) → a ≡ b → map (λ (x : Entry). x.stamp) (if a then e ∷ [] else []) ≡ (if b then e.stamp ∷ [] else [])
    one true true same = refl
    one false false same = refl
    one true false same = absurd cc
    one false true same = absurd cc

abbrev pub stamp_in : Made → ℕ
stamp_in m = m.stamp

-- a step makes a frame where its entry says so
makes_one : (p : ℕ) (steps : Steps) (stamp : ℕ) (step : Step) (origin : Option _) (outcome : Outcome) → map stamp_in (map (stamped stamp) (own_made p steps step)) ≡ (if makes (StepEntry (event_of p step) origin outcome) then stamp ∷ [] else [])
unfolding own_made
makes_one p steps stamp (Ordered item) origin outcome = refl
makes_one p steps stamp (Sent to slot) origin outcome = refl
makes_one p steps stamp (Acknowledged to slot) origin outcome = refl
makes_one p steps stamp (Arrived frame) origin outcome = refl
makes_one p steps stamp Stopped origin outcome = refl

pub run_made : (config : Config) (p : ℕ) (run : Run) → map stamp_in (made_in config p (trail_of run)) ≡ stamps_made (log_of config p run)
unfolding trail_of log_of made_in stamps_made
run_made config p [] = refl
run_made config p (Moved stamp step ∷ rs) =
    let steps = steps_in config p (trail_of rs) in
    let e = entry_by config p steps (Moved stamp step) in
    map-append stamp_in (made_in config p (trail_of rs)) _ ∙ (λ i. run_made config p rs i ++ makes_one p steps stamp step None (outcome_in (node_reply config p steps step)) i)
    ∙ sym (stamps_snoc (log_of config p rs) e (makes e.kind) refl)
run_made config p (Arrival stamp x ∷ rs) =
    let steps = steps_in config p (trail_of rs) in
    let e = entry_by config p steps (Arrival stamp x) in
    map-append stamp_in (made_in config p (trail_of rs)) _ ∙ (λ i. run_made config p rs i ++ makes_one p steps stamp (Arrived x.frame) None (outcome_in (node_reply config p steps (Arrived x.frame))) i)
    ∙ sym (stamps_snoc (log_of config p rs) e (makes e.kind) refl)
run_made config p (Served stamp order ∷ rs) =
    let steps = steps_in config p (trail_of rs) in
    let e = entry_by config p steps (Served stamp order) in
    map-append stamp_in (made_in config p (trail_of rs)) _ ∙ (λ i. run_made config p rs i ++ makes_one p steps stamp (Ordered order.item) None (outcome_in (node_reply config p steps (Ordered order.item))) i)
    ∙ sym (stamps_snoc (log_of config p rs) e (makes e.kind) refl)
run_made config p (Denied stamp order fault ∷ rs) =
    run_made config p rs ∙ sym (append-nil (stamps_made (log_of config p rs))) ∙ sym (stamps_snoc (log_of config p rs) (entry_by config p (steps_in config p (trail_of rs)) (Denied stamp order fault)) false refl)
