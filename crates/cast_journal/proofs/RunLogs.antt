-- What the log of a run tells, and what is kept before anything was done.
use Rattle.std.proofs.Common.{◌≡◌, ℕ, zero, suc, ◌+◌, ◌<◌, List, [], ◌∷◌, ◌++◌, length, map, slice_get, Option, Some, None, true, sym, refl, ap, ◌∙◌, subst, arith}
use Rattle.std.specs.Prelude.{reverse, slice_index_or, option_map}
use Rattle.std.proofs.lemmas.List.{append-nil, reverse-append}
use Rattle.std.proofs.lemmas.Option.{slice_get-map}
use Rattle.cast_message.specs.declared.config.Config.{Config}
use Rattle.cast_model.specs.Steps.{Step, Ordered, Sent, Acknowledged, Arrived, Stopped}
use Rattle.cast_log.specs.declared.entry.Entry.{Entry}
use Rattle.cast_journal.specs.declared.order.OrderIn.{OrderIn}
use Rattle.cast_journal.specs.declared.parcel.Parcel.{Parcel}
use Rattle.cast_node.specs.Kept.{nothing_kept}
use Rattle.cast_node.specs.Linked.{TakenStep, steps_in, kept_in, taken_in, taken_by, taken, taken_of, AreTaken, IsRising, made_in}
use Rattle.cast_journal.specs.Lists.{Has}
use Rattle.cast_journal.specs.Runs.{Moved, Came, Served, Denied, Run, mark, made_of, trail_of, log_of, orders_of, parcels_of, entry_by, IsRun, is_own, clock_after, AreStamped, Adds, AreArrivals, EngineKeeps}
use Rattle.cast_journal.specs.Journals.{Rises}
use Rattle.cast_node.proofs.Beginning.{stands_for_nothing}
use Rattle.cast_node.proofs.Logging.{one_more, made_numbered}

-- the stamps rise
rises_each : (log : List Entry) (first clock : ℕ) → Rises first log clock → (j : ℕ) (d : Entry) → j < length log → first < (slice_index_or log j d).stamp
unfolding Rises
rises_each [] first clock r j d lt = absurd (omega arith)
rises_each (x ∷ xs) first clock r zero d lt = r.0.0
rises_each (x ∷ xs) first clock r (suc j) d lt = let a = r.0.0 in let b = rises_each xs x.stamp clock r.1 j d (omega arith) in omega arith

pub rises_pairs : (log : List Entry) (first clock : ℕ) → Rises first log clock → IsRising log
unfolding Rises
rises_pairs [] first clock r i j d lt h = absurd (omega arith)
rises_pairs (x ∷ xs) first clock r i zero d lt h = absurd (omega arith)
rises_pairs (x ∷ xs) first clock r zero (suc j) d lt h = rises_each xs x.stamp clock r.1 j d (omega arith)
rises_pairs (x ∷ xs) first clock r (suc i) (suc j) d lt h = rises_pairs xs x.stamp clock r.1 i j d (omega arith) (omega arith)

-- one more entry, and what is told of it
tells_more : (log : List Entry) (e : Entry) (told : List TakenStep) (x : TakenStep) → taken_of e.stamp e.kind ≡ x ∷ [] → taken log ≡ reverse told → taken (log ++ e ∷ []) ≡ reverse (x ∷ told)
tells_more log e told x is before = one_more log e ∙ (λ i. before i ++ is i) ∙ sym (reverse-append (x ∷ []) told)

-- the log tells of the steps
pub run_tells : (config : Config) (p : ℕ) (run : Run) → taken (log_of config p run) ≡ reverse (taken_in config p (trail_of run))
unfolding trail_of log_of taken_in taken
run_tells config p [] = refl
run_tells config p (Moved stamp step ∷ rs) =
    let steps = steps_in config p (trail_of rs) in
    tells_more (log_of config p rs) (entry_by config p steps (Moved stamp step)) (taken_in config p (trail_of rs)) (taken_by config p steps (mark stamp step)) refl (run_tells config p rs)
run_tells config p (Came stamp x ∷ rs) =
    let steps = steps_in config p (trail_of rs) in
    tells_more (log_of config p rs) (entry_by config p steps (Came stamp x)) (taken_in config p (trail_of rs)) (taken_by config p steps (mark stamp (Arrived x.frame))) refl (run_tells config p rs)
run_tells config p (Served stamp order ∷ rs) =
    let steps = steps_in config p (trail_of rs) in
    tells_more (log_of config p rs) (entry_by config p steps (Served stamp order)) (taken_in config p (trail_of rs)) (taken_by config p steps (mark stamp (Ordered order.item))) refl (run_tells config p rs)
run_tells config p (Denied stamp order fault ∷ rs) =
    one_more (log_of config p rs) (entry_by config p (steps_in config p (trail_of rs)) (Denied stamp order fault)) ∙ append-nil (taken (log_of config p rs)) ∙ run_tells config p rs

pub run_taken : (config : Config) (p : ℕ) (run : Run) → IsRun config p run → AreTaken config p (trail_of run)
unfolding trail_of IsRun AreTaken
run_taken config p [] r = tt
run_taken config p (Moved stamp step ∷ rs) r = (run_taken config p rs r.0, r.1.0, r.1.1)
run_taken config p (Came stamp x ∷ rs) r = (run_taken config p rs r.0, r.1.0, r.1.1)
run_taken config p (Served stamp order ∷ rs) r = (run_taken config p rs r.0, r.1, tt)
run_taken config p (Denied stamp order fault ∷ rs) r = run_taken config p rs r.0

own_adds : (stamp : ℕ) (step : Step) → is_own step ≡ true → (xs : List Parcel) → Adds stamp step xs (xs ++ [])
own_adds stamp (Ordered item) own xs = append-nil xs
own_adds stamp (Sent to slot) own xs = append-nil xs
own_adds stamp (Acknowledged to slot) own xs = append-nil xs
own_adds stamp (Arrived frame) own xs = absurd cc
own_adds stamp Stopped own xs = append-nil xs

-- the frames that arrived came in the parcels that did
pub run_arrivals : (config : Config) (p first : ℕ) (run : Run) → IsRun config p run → AreStamped first run → AreArrivals (trail_of run) (parcels_of run)
unfolding trail_of parcels_of IsRun AreStamped AreArrivals
run_arrivals config p first [] r s = refl
run_arrivals config p first (Moved stamp step ∷ rs) r s = (parcels_of rs, run_arrivals config p first rs r.0 s.0, own_adds stamp step r.1.2 (parcels_of rs))
run_arrivals config p first (Came stamp x ∷ rs) r s = (parcels_of rs, run_arrivals config p first rs r.0 s.0, (x, refl, refl, omega (arith, s.1)))
run_arrivals config p first (Served stamp order ∷ rs) r s = (parcels_of rs, run_arrivals config p first rs r.0 s.0, append-nil (parcels_of rs))
run_arrivals config p first (Denied stamp order fault ∷ rs) r s = subst (AreArrivals (trail_of rs)) (sym (append-nil (parcels_of rs))) (run_arrivals config p first rs r.0 s.0)

-- what was put was made
pub handed_made : (config : Config) (p : ℕ) (run : Run) → IsRun config p run → (xs : List Parcel) → map made_of xs ≡ made_in config p (trail_of run)
    → (x : Parcel) → Has xs x → slice_get (made_in config p (trail_of run)) x.frame.seq ≡ Some (made_of x)
handed_made config p run runs xs all x h =
    let made = made_in config p (trail_of run) in
    let at : slice_get made h.0 ≡ Some (made_of x) = ap (λ l. slice_get l h.0) (sym all) ∙ slice_get-map made_of xs h.0 ∙ ap (option_map made_of) h.1 in
    let seq = (made_numbered config p (trail_of run) (run_taken config p run runs) h.0 (made_of x) at).1 in
    ap (slice_get made) seq ∙ at

-- before anything was done
pub keeps_new : (config : Config) (me : ℕ) → me < config.nodes → EngineKeeps config me (nothing_kept config me) [] config.first_stamp [] None [] None []
unfolding trail_of log_of orders_of parcels_of IsRun clock_after AreStamped steps_in kept_in made_in
keeps_new config me lt = record {
  run = [];
  runs = tt;
  is_log = refl;
  stands = stands_for_nothing config me lt;
  reached = refl;
  handed = refl;
  time = refl;
  stamped = tt;
  taken_in = refl;
  ordered = refl;
}
