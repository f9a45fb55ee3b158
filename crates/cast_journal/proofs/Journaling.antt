-- A journal that logs one entry more.
use Rattle.std.proofs.Common.{◌≡◌, ◌≢◌, ℕ, ◌+◌, ◌<◌, ◌≤◌, Bool, true, false, List, [], ◌∷◌, ◌++◌, length, slice_get, Option, Some, None, sym, refl, ap, ◌∙◌, subst, ⊎_elim, arith}
use Rattle.std.specs.Prelude.{if◌then◌else◌}
use Rattle.std.specs.FinMap as finite
use Rattle.std.proofs.lemmas.Bool.{false≢true}
use Rattle.std.proofs.lemmas.List.{length-append}
use Rattle.cast_message.specs.declared.config.Config.{Config}
use Rattle.cast_message.specs.declared.event.Answer.{Answer}
use Rattle.cast_message.specs.declared.message.FrameBody.{FrameBody}
use Rattle.cast_message.specs.declared.message.FrameBody.TheVariants.{Carry, Took}
use Rattle.cast_message.specs.declared.message.Message.{Message}
use Rattle.cast_model.specs.Steps.{Step, Ordered, Sent, Acknowledged, Arrived, Stopped, making}
use Rattle.cast_model.specs.OwnSteps.{is_stop}
use Rattle.cast_model.proofs.Round.{slice_get_last}
use Rattle.std.specs.Prelude.{Ok}
use Rattle.cast_log.specs.declared.entry.Entry.{Entry}
use Rattle.cast_log.specs.declared.entry.EntryKind.{EntryKind}
use Rattle.cast_node.specs.Kept.{Kept, link_to, holds}
use Rattle.cast_node.specs.Turns.{Told, unmoved, kept_after, arrived_body, acknowledged, may_arrive, with_taken, told_more, taken_up, Gives}
use Rattle.cast_node.specs.declared.report.EngineEnd.{EngineEnd}
use Rattle.cast_node.specs.declared.report.EngineEnd.TheVariants.{Crashed, LogFull, ClockFull, Stopped as AllStopped, TurnLimit}
use Rattle.cast_node.specs.Linked.{event_of}
use Rattle.cast_message.specs.declared.message.FrameKind.{FrameKind}
use Rattle.cast_message.specs.declared.message.FrameKind.TheVariants as kinds
use Rattle.cast_node.proofs.Logging.{get_snoc}
use Rattle.cast_journal.specs.Journals.{Rises, IsStampedAfter, is_crash, is_crash_event, EndsAs, JournalKeeps, JournalState, MayLog}

abbrev pub entry : ℕ → EntryKind → Entry
entry stamp kind = record { stamp = stamp; kind = kind }

pub rises_more : (log : List Entry) (first clock : ℕ) (e : Entry) → Rises first log clock → IsStampedAfter clock e → Rises first (log ++ e ∷ []) e.stamp
unfolding Rises
rises_more [] first clock e r next = ((omega (arith, r, next.0), λ other. omega (arith, r, next.1 other)), refl)
rises_more (x ∷ xs) first clock e r next = (r.0, rises_more xs x.stamp clock e r.1 next)

module _ (limit : ℕ) (crash : Option ℕ) (log : List Entry) (ends : EndsAs limit crash None log) (room : length log < limit) where
  longer : (e : Entry) → length (log ++ e ∷ []) ≡ length log + 1
  longer e = length-append log (e ∷ [])

  -- one entry more, with which an engine ends only where it is its crash
  by_entry : (e : Entry) (ended : Option EngineEnd) → ((end : EngineEnd) → ended ≡ Some end → end ≡ Crashed)
      → (is_crash e.kind ≡ true → (crash ≡ Some (length log)) × (ended ≡ Some Crashed))
      → (ended ≢ Some Crashed → (n : ℕ) → crash ≡ Some n → length log < n) → (ended ≡ Some Crashed → is_crash e.kind ≡ true)
      → EndsAs limit crash ended (log ++ e ∷ [])
  by_entry e ended only loud due crashed = record {
    within = let l = longer e in omega arith;
    full = λ h. let no = only LogFull h in absurd cc;
    below = λ h. let no = only ClockFull h in absurd cc;
    rested = λ h. let no = only AllStopped h in absurd cc;
    used_up = λ h. let no = only TurnLimit h in absurd cc;
    due = λ h n is. let s = due h n is in let l = longer e in omega arith;
    last = λ i x at c. ⊎_elim (λ (y : slice_get log i ≡ Some x). let no : None ≡ Some Crashed = (ends.last i x y c).2 in absurd cc)
        (λ (y : (i ≡ length log) × (e ≡ x)).
        let own = loud (ap (λ (z : Entry). is_crash z.kind) y.1 ∙ c) in
        let l = longer e in
        (omega (arith, y.0), own.0 ∙ ap (λ n. Some n) (sym y.0), own.1)) (get_snoc log e x i at);
    crashed = λ h. (length log, e, slice_get_last log e, crashed h);
  }

  pub ends_more : (e : Entry) → is_crash e.kind ≡ false → ((n : ℕ) → crash ≡ Some n → length log < n) → EndsAs limit crash None (log ++ e ∷ [])
  ends_more e quiet safe = by_entry e None (λ end h. absurd cc) (λ loud. absurd (false≢true (sym quiet ∙ loud))) (λ h. safe) (λ h. absurd cc)

  pub ends_crash : (e : Entry) → is_crash e.kind ≡ true → crash ≡ Some (length log) → EndsAs limit crash (Some Crashed) (log ++ e ∷ [])
  ends_crash e loud due = by_entry e (Some Crashed) (λ end h. cc) (λ _. (due, refl)) (λ h. absurd (h refl)) (λ h. loud)

-- a step other than a crash leaves a node alive
either_live : (b : Bool) (x y : Told) (live : Bool) → x.kept.live ≡ live → y.kept.live ≡ live → (if b then x else y).kept.live ≡ live
either_live true x y live p q = p
either_live false x y live p q = q

acknowledged_live : (kept : Kept) (from slot : ℕ) (o : Option Message) → (acknowledged kept from slot o).kept.live ≡ kept.live
acknowledged_live kept from slot None = refl
acknowledged_live kept from slot (Some m) = refl

body_live : (kept : Kept) (from : ℕ) (body : FrameBody) → (arrived_body kept from body).kept.live ≡ kept.live
body_live kept from (Carry slot m) =
    let k = with_taken kept from slot in
    either_live (holds k m.sender m.number) (told_more k m.sender m.number from) (taken_up k m from) kept.live refl refl
body_live kept from (Took slot) = acknowledged_live kept from slot (finite.get (link_to kept from).owed slot)

pub live_after : (kept : Kept) (step : Step) → is_stop step ≡ false → (kept_after kept step).live ≡ kept.live
live_after kept (Ordered item) h = refl
live_after kept (Sent to slot) h = refl
live_after kept (Acknowledged to slot) h = refl
live_after kept (Arrived frame) h = either_live (may_arrive kept frame) (arrived_body kept frame.from frame.body) (unmoved kept) kept.live (body_live kept frame.from frame.body) refl
live_after kept Stopped h = absurd (false≢true (sym h))

module _ (config : Config) (room room' : ℕ) (node node' : Kept) (log log' : List Entry) (clock stamp : ℕ) (crash : Option ℕ) (ended : Option EngineEnd) (turns : ℕ) (kind : EntryKind)
    (k : JournalKeeps config room node log clock crash ended turns) (running : ended ≡ None) (fits : length log < config.log_limit) (later : IsStampedAfter clock (entry stamp kind))
    (is : log' ≡ log ++ entry stamp kind ∷ []) (same : room' ≡ room) where
  rest : EndsAs config.log_limit crash None log
  rest = let P : Option EngineEnd → Type 0 = λ o. EndsAs config.log_limit crash o log in subst P running k.ends

  pub keeps_logged : is_crash kind ≡ false → ((n : ℕ) → crash ≡ Some n → length log < n) → node'.live ≡ node.live → JournalKeeps config room' node' log' stamp crash ended turns
  keeps_logged quiet safe live = record {
    has_room = omega (arith, k.has_room, same);
    rises = subst (λ l. Rises config.first_stamp l stamp) (sym is) (rises_more log config.first_stamp clock (entry stamp kind) k.rises later);
    ends = let P : Option EngineEnd → List Entry → Type 0 = λ o l. EndsAs config.log_limit crash o l in
        subst (λ o. P o log') (sym running) (subst (P None) (sym is) (ends_more config.log_limit crash log rest fits (entry stamp kind) quiet safe));
    lives = λ h. live ∙ k.lives h;
    spent = λ h. let none = running in absurd cc;
  }

  pub keeps_crashed : is_crash kind ≡ true → crash ≡ Some (length log) → JournalKeeps config room' node' log' stamp crash (Some Crashed) turns
  keeps_crashed loud due = record {
    has_room = omega (arith, k.has_room, same);
    rises = subst (λ l. Rises config.first_stamp l stamp) (sym is) (rises_more log config.first_stamp clock (entry stamp kind) k.rises later);
    ends = subst (λ l. EndsAs config.log_limit crash (Some Crashed) l) (sym is) (ends_crash config.log_limit crash log rest fits (entry stamp kind) loud due);
    lives = λ h. absurd (h refl);
    spent = λ h. absurd cc;
  }

pub gives_live : (kept new : Kept) (step : Step) (answer : Answer) → Gives kept step (Ok answer) new → is_stop step ≡ false → new.live ≡ kept.live
gives_live kept new step answer g h = ap (λ (k : Kept). k.live) g.2 ∙ live_after kept step h

abbrev pub state : Config → Kept → List Entry → ℕ → Option ℕ → Option EngineEnd → ℕ → JournalState
state config node log clock crash ended turns = record { config = config; node = node; log = log; clock = clock; crash = crash; ended = ended; turns = turns }

-- a node that makes a frame goes on
pub making_goes_on : (p : ℕ) (kind : FrameKind) (to slot : ℕ) → (is_crash_event (event_of p (making kind to slot)) ≡ false) × (is_stop (making kind to slot) ≡ false)
making_goes_on p kinds.Carry to slot = (refl, refl)
making_goes_on p kinds.Took to slot = (refl, refl)

-- the same, as the functions need it
pub logged : (config : Config) (room room' : ℕ) (node node' : Kept) (log log' : List Entry) (clock stamp : ℕ) (crash : Option ℕ) (ended : Option EngineEnd) (turns : ℕ) (kind : EntryKind) (j : JournalState)
    → state config node log clock crash ended turns ≡ j → MayLog j → JournalKeeps config room node log clock crash ended turns → IsStampedAfter clock (entry stamp kind) → log' ≡ log ++ entry stamp kind ∷ [] → room' ≡ room
    → is_crash kind ≡ false → node'.live ≡ node.live → JournalKeeps config room' node' log' stamp crash ended turns
logged config room room' node node' log log' clock stamp crash ended turns kind j is may k later e r quiet live =
    let m : MayLog (state config node log clock crash ended turns) = subst MayLog (sym is) may in
    keeps_logged config room room' node node' log log' clock stamp crash ended turns kind k m.running m.room later e r quiet m.safe live

pub crashed : (config : Config) (room room' : ℕ) (node node' : Kept) (log log' : List Entry) (clock stamp : ℕ) (crash : Option ℕ) (ended : Option EngineEnd) (turns : ℕ) (kind : EntryKind) (j : JournalState)
    → state config node log clock crash ended turns ≡ j → j.ended ≡ None → length j.log < j.config.log_limit → j.crash ≡ Some (length j.log) → JournalKeeps config room node log clock crash ended turns → IsStampedAfter clock (entry stamp kind)
    → log' ≡ log ++ entry stamp kind ∷ [] → room' ≡ room → is_crash kind ≡ true → JournalKeeps config room' node' log' stamp crash (Some Crashed) turns
crashed config room room' node node' log log' clock stamp crash ended turns kind j is running fits due k later e r loud =
    let P : JournalState → Type 0 = λ j. (j.ended ≡ None) × (length j.log < j.config.log_limit) × (j.crash ≡ Some (length j.log)) in
    let m : P (state config node log clock crash ended turns) = subst P (sym is) (running, fits, due) in
    keeps_crashed config room room' node node' log log' clock stamp crash ended turns kind k m.0 m.1 later e r loud m.2

pub begun : (config : Config) (room : ℕ) (node : Kept) (log : List Entry) (clock : ℕ) (crash : Option ℕ) (turns : ℕ) → config.log_limit ≤ room → log ≡ [] → clock ≡ config.first_stamp → node.live ≡ true
    → JournalKeeps config room node log clock crash None turns
unfolding Rises
begun config room node log clock crash turns r e c l = subst (λ log. JournalKeeps config room node log clock crash None turns) (sym e) (record {
  has_room = r;
  rises = c;
  ends = record { within = omega arith; full = λ h. absurd cc; below = λ h. absurd cc; rested = λ h. absurd cc; used_up = λ h. absurd cc; due = λ h n is. omega arith; last = λ i x at. absurd cc; crashed = λ h. absurd cc };
  lives = λ h. l;
  spent = λ h. absurd cc;
})
