-- What the log of an engine that ended tells.
use Rattle.std.proofs.Common.{◌≡◌, ℕ, zero, suc, ◌+◌, List, [], ◌∷◌, ◌++◌, map, take, drop, slice_get, Option, Some, None, sym, refl, ap, ◌∙◌, subst, arith}
use Rattle.std.specs.Option.{option_to_list}
use Rattle.std.proofs.lemmas.List.{append_assoc, map-append}
use Rattle.std.proofs.lemmas.Option.{slice_get_within}
use Rattle.cast_box.specs.Lists.{StartsWith}
use Rattle.cast_box.specs.Ends.{PutterEnd}
use Rattle.cast_log.specs.declared.entry.Entry.{Entry}
use Rattle.cast_node.specs.Kept.{Kept}
use Rattle.cast_desk.specs.declared.notice.Notice.{Notice}
use Rattle.cast_desk.specs.Feed.{told_by, feed_from, feed, orders_in, orders_of as orders_in_log}
use Rattle.cast_node.specs.declared.report.EngineEnd.{EngineEnd}
use Rattle.cast_engine.specs.declared.feeding.Place.{Place}
use Rattle.cast_node.specs.Linked.{taken}
use Rattle.cast_journal.specs.Runs.{made_of, trail_of, log_of, orders_of, parcels_of}
use Rattle.cast_journal.specs.Journals.{Rises}
use Rattle.cast_journal.proofs.RunLogs.{rises_pairs, run_tells, run_taken, run_arrivals, handed_made}
use Rattle.cast_journal.proofs.Arrivals.{was_taken}
use Rattle.cast_engine.specs.Feeding.{told_here, told_at, told_to, IsPlaced, AreFed}
use Rattle.cast_engine.specs.Clocks.{Follows, stamps_made}
use Rattle.cast_engine.specs.Engines.{EngineState, CameIn, Leaves, Tells, WereTold, trays_at}
use Rattle.cast_box.proofs.Closing.{found}
use Rattle.cast_journal.proofs.Lists.{has_left}
use Rattle.cast_engine.proofs.Answering.{run_fits, run_origins}
use Rattle.cast_engine.proofs.Stamping.{run_follows, run_made}
use Rattle.cast_engine.specs.Serving.{Serves}
use Rattle.cast_journal.specs.declared.order.OrderIn.{OrderIn}

pub leaves_tell : (e : EngineState) (log : List Entry) (node : Kept) (ended : EngineEnd) → Leaves e log node ended → Tells e log node
leaves_tell e log node ended l =
    let k = l.keeps in
    let rises : Rises e.config.first_stamp (log_of e.config e.me k.run) l.clock = subst (λ g. Rises e.config.first_stamp g l.clock) k.is_log l.rises in
    record {
      trail = trail_of k.run;
      tells = record {
        rising = rises_pairs log e.config.first_stamp l.clock l.rises;
        tells = ap taken k.is_log ∙ run_tells e.config e.me k.run;
        accepted = run_taken e.config e.me k.run k.runs;
        stands = k.stands;
        reached = k.reached;
      };
      sent = λ x h. handed_made e.config e.me k.run k.runs (e.outbox.put ++ option_to_list l.held) k.handed x (has_left e.outbox.put (option_to_list l.held) x h);
      handed = (map made_of (option_to_list l.held), sym k.handed ∙ map-append made_of e.outbox.put (option_to_list l.held));
      serves =
          let O : List OrderIn → Type 0 = λ o. Serves e.config e.me log (trail_of k.run) o in
          let L : List Entry → Type 0 = λ l. Serves e.config e.me l (trail_of k.run) (orders_of k.run) in
          subst O k.ordered (subst L (sym k.is_log) (record {
            matches = λ c. run_fits e.config e.me c k.run e.config.first_stamp l.clock rises k.runs;
            origins = run_origins e.config e.me k.run k.runs;
          }));
      parcels = parcels_of k.run;
      arrived = run_arrivals e.config e.me e.config.first_stamp k.run k.runs k.stamped;
      taken_in = k.taken_in;
      stamps = subst (Follows (CameIn e.inbox.taken) e.config.first_stamp) (sym k.is_log) (run_follows e.config e.me e.inbox.taken k.run e.config.first_stamp l.clock rises k.runs k.stamped (was_taken e.me e.inbox.taken (parcels_of k.run) e.waiting k.taken_in));
      made = run_made e.config e.me k.run ∙ ap stamps_made (sym k.is_log);
    }

-- the feed of a log in two parts
feed_parts : (client number : ℕ) (xs ys : List Entry) → feed_from client number (xs ++ ys) ≡ feed_from client number xs ++ feed_from client (number + orders_in_log xs) ys
feed_parts client number [] ys = let same : number ≡ number + 0 = omega arith in ap (λ n. feed_from client n ys) same
feed_parts client number (x ∷ xs) ys =
    let same : number + orders_in x.kind + orders_in_log xs ≡ number + orders_in_log (x ∷ xs) = omega arith in
    ap (λ l. told_by client number x.kind ++ l) (feed_parts client (number + orders_in x.kind) xs ys)
    ∙ sym (append_assoc (told_by client number x.kind) (feed_from client (number + orders_in x.kind) xs) _)
    ∙ ap (λ n. feed_from client number (x ∷ xs) ++ feed_from client n ys) same

split_at : {A : Type 0} (xs : List A) (n : ℕ) → xs ≡ take n xs ++ drop n xs
split_at xs zero = refl
split_at [] (suc n) = refl
split_at (x ∷ xs) (suc n) = ap (λ l. x ∷ l) (split_at xs n)

get_drop : {A : Type 0} (xs : List A) (n : ℕ) (x : A) → slice_get xs n ≡ Some x → (rest : List A) × (drop n xs ≡ x ∷ rest)
get_drop [] n x e = absurd cc
get_drop (y ∷ ys) zero x e = let h : y ≡ x = cc in (ys, ap (λ z. z ∷ ys) h)
get_drop (y ∷ ys) (suc n) x e = get_drop ys n x e

-- what stands at a place of a list, if anything does, begins the rest from there
here_begins : (client orders : ℕ) (log : List Entry) (n : ℕ) (o : Option Entry) → slice_get log n ≡ o → (rest : List Notice) × (feed_from client orders (drop n log) ≡ told_at client orders o ++ rest)
here_begins client orders log n None e = (feed_from client orders (drop n log), refl)
here_begins client orders log n (Some x) e = let it = get_drop log n x e in (feed_from client (orders + orders_in x.kind) it.0, ap (feed_from client orders) it.1)

pub told_begins : (client : ℕ) (log : List Entry) (place : Place) → IsPlaced client log place → StartsWith (feed log client) (told_to client log place)
told_begins client log place f =
    let n = place.entry in
    let here = told_here client log place in
    let after = here_begins client place.orders log n (slice_get log n) refl in
    let zero_on : 0 + orders_in_log (take n log) ≡ place.orders = omega (arith, f.counted) in (
      drop place.told here ++ after.0,
      ap (feed_from client 0) (split_at log n) ∙ feed_parts client 0 (take n log) (drop n log) ∙ ap (λ m. feed_from client 0 (take n log) ++ feed_from client m (drop n log)) zero_on
          ∙ ap (λ l. feed_from client 0 (take n log) ++ l) (after.1 ∙ ap (λ l. l ++ after.0) (split_at here place.told) ∙ append_assoc (take place.told here) (drop place.told here) after.0)
          ∙ sym (append_assoc (feed_from client 0 (take n log)) (take place.told here) (drop place.told here ++ after.0)),
    )

pub fed_told : (log : List Entry) (trays : List (PutterEnd Notice)) (places : List Place) → AreFed log trays places → WereTold log trays
fed_told log trays places f c tray at =
    let place = found places c (let w = f.0 in let k = slice_get_within trays c tray at in omega arith) in
    let it = f.1 c tray place.0 at place.1 in
    subst (StartsWith (feed log c)) (sym it.1) (told_begins c log place.0 it.0)

pub leaves_told : (e : EngineState) (log : List Entry) (node : Kept) (ended : EngineEnd) → Leaves e log node ended → WereTold log (trays_at e.desk)
leaves_told e log node ended l = fed_told log (trays_at e.desk) l.places l.fed
