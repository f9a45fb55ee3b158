-- A script is played event by event, and what an observer has seen grows with it.
use Rattle.std.proofs.Common.{◌≡◌, ℕ, ◌+◌, ◌<◌, List, [], ◌∷◌, ◌++◌, length, drop, get_or, Bool, true, false, Option, Some, None, Result, Ok, Err, refl, sym, ap, ◌∙◌, subst, append_assoc, append-nil, inl, inr}
use Rattle.std.specs.Prelude.{not, is_some, is_ok}
use Rattle.cast_message.proofs.Lists.{drop-next}
use Rattle.cast_message.specs.declared.config.Config.{Config}
use Rattle.cast_message.specs.declared.event.Event.{Event}
use Rattle.cast_message.specs.declared.event.Event.TheVariants.{Send, Ack, Arrive}
use Rattle.cast_message.specs.declared.event.Answer.{Answer}
use Rattle.cast_message.specs.declared.event.StepFault.{StepFault}
use Rattle.cast_model.specs.History.{History}
use Rattle.cast_model.specs.Replies.{fault, answer, reply, reply_by, after}
use Rattle.cast_model.specs.Rounds.{Due, due, events_for, plan_from, plan}
use Rattle.cast_model.proofs.Round.{with_all, Counted}
use Rattle.cast_model.proofs.RoundFaults.{Going, Going-next, Going-start}
use Rattle.cast_script.specs.declared.script.ScriptEvent.{ScriptEvent}
use Rattle.cast_script.specs.declared.script.ScriptEvent.TheVariants.{Settle}
use Rattle.cast_world.specs.Group.{State, Stands, Continues}
use Rattle.cast_world.specs.Moves.{IsSilent}
use Rattle.cast_world.specs.Plans.{events_from}
use Rattle.cast_world.specs.Rounds.{TakesSilently}
use Rattle.cast_world.specs.Settled.{SettlesSilently}
use Rattle.cast_world.proofs.Running.{settled as settled_step}
use Rattle.cast_world.proofs.Stepping.{made_count}
use Rattle.cast_text.specs.declared.fault.TextFault.{TextFault}
use Rattle.cast_text.specs.Played.{Played, Taken, SettleBegun, SettleEnded, Left, tried, one_left, round_left, joined, settled, left_by, played_from, Seeing, Observes, Overlooks, Skips, Plays, PlaysAll, ShowsReply}

-- ---- whether an event is refused

pub answered : (refusal : Option StepFault) (a : Answer) → is_ok (reply_by refusal a) ≡ not (is_some refusal)
answered None a = refl
answered (Some refusal) a = refl

none_by : (refusal : Option StepFault) (all : Bool) → all ≡ true → all ≡ not (is_some refusal) → refusal ≡ None
none_by None all yea is = refl
none_by (Some refusal) all yea is = absurd (cc)

some_by : (refusal : Option StepFault) (all : Bool) → all ≡ false → all ≡ not (is_some refusal) → (r : StepFault) × (refusal ≡ Some r)
some_by None all nay is = absurd (cc)
some_by (Some refusal) all nay is = (refusal, refl)

pub went_on : (stopped all : Bool) → all ≡ true → all ≡ not stopped → stopped ≡ false
went_on false all yea is = refl
went_on true all yea is = absurd (cc)

pub went_no_further : (stopped all : Bool) → all ≡ false → all ≡ not stopped → stopped ≡ true
went_no_further true all nay is = refl
went_no_further false all nay is = absurd (cc)

after_none : (config : Config) (now : History) (event : Event) → fault config now event ≡ None → after config now event ≡ event ∷ now
unfolding after
after_none config now event none = rw none refl

after_some : (config : Config) (now : History) (event : Event) (refusal : StepFault) → fault config now event ≡ Some refusal → after config now event ≡ now
unfolding after
after_some config now event refusal some = rw some refl

-- ---- events one list after another

-- with this taken before
abbrev pub later : List Played → Left → Left
later seen left = record { took = seen ++ left.took; past = left.past; stopped = left.stopped }

later_twice : (first second : List Played) (left : Left) → later first (later second left) ≡ later (first ++ second) left
later_twice first second left k = record { took = sym (append_assoc first second left.took) k; past = left.past; stopped = left.stopped }

module _ (config : Config) (index : ℕ) where
  abbrev taken : History → Event → Played
  taken now event = Taken index event (reply config now event)

  tried_on : (now : History) (event : Event) (rest : List Event) → fault config now event ≡ None → tried config index now (event ∷ rest) ≡ later (taken now event ∷ []) (tried config index (event ∷ now) rest)
  unfolding tried
  tried_on now event rest none = rw none refl

  tried_end : (now : History) (event : Event) (rest : List Event) (refusal : StepFault) → fault config now event ≡ Some refusal → tried config index now (event ∷ rest) ≡ record { took = taken now event ∷ []; past = now; stopped = true }
  unfolding tried
  tried_end now event rest refusal some = rw some refl

  -- the first list was accepted
  tried_append : (now : History) (xs ys : List Event) → (tried config index now xs).stopped ≡ false → tried config index now (xs ++ ys) ≡ joined (tried config index now xs) (tried config index (tried config index now xs).past ys)
  unfolding tried
  tried_append now [] ys e = refl
  tried_append now (x ∷ xs) ys e = by_fault (tried_append (x ∷ now) xs ys) (fault config now x) refl
    where
      by_fault : ((tried config index (x ∷ now) xs).stopped ≡ false → tried config index (x ∷ now) (xs ++ ys) ≡ joined (tried config index (x ∷ now) xs) (tried config index (tried config index (x ∷ now) xs).past ys)) →
          (o : Option StepFault) → fault config now x ≡ o → tried config index now (x ∷ (xs ++ ys)) ≡ joined (tried config index now (x ∷ xs)) (tried config index (tried config index now (x ∷ xs)).past ys)
      by_fault ih None none =
          let on = tried_on now x xs none in
          tried_on now x (xs ++ ys) none ∙ ap (later (taken now x ∷ [])) (ih (sym (ap (λ left. left.stopped) on) ∙ e)) ∙ sym (λ k. joined (on k) (tried config index (on k).past ys))
      by_fault ih (Some refusal) some = let clash : true ≡ false = sym (ap (λ left. left.stopped) (tried_end now x xs refusal some)) ∙ e in absurd (cc)

  -- it was refused
  tried_stops : (now : History) (xs ys : List Event) → (tried config index now xs).stopped ≡ true → tried config index now (xs ++ ys) ≡ tried config index now xs
  unfolding tried
  tried_stops now [] ys e = let clash : false ≡ true = e in absurd (cc)
  tried_stops now (x ∷ xs) ys e = by_fault (tried_stops (x ∷ now) xs ys) (fault config now x) refl
    where
      by_fault : ((tried config index (x ∷ now) xs).stopped ≡ true → tried config index (x ∷ now) (xs ++ ys) ≡ tried config index (x ∷ now) xs) → (o : Option StepFault) → fault config now x ≡ o → tried config index now (x ∷ (xs ++ ys)) ≡ tried config index now (x ∷ xs)
      by_fault ih None none = let on = tried_on now x xs none in tried_on now x (xs ++ ys) none ∙ ap (later (taken now x ∷ [])) (ih (sym (ap (λ left. left.stopped) on) ∙ e)) ∙ sym on
      by_fault ih (Some refusal) some = tried_end now x (xs ++ ys) refusal some ∙ sym (tried_end now x xs refusal some)

  -- what has happened once all were accepted
  tried_past : (now : History) (xs : List Event) → (tried config index now xs).stopped ≡ false → (tried config index now xs).past ≡ with_all now xs
  unfolding tried
  tried_past now [] e = refl
  tried_past now (x ∷ xs) e = by_fault (tried_past (x ∷ now) xs) (fault config now x) refl
    where
      by_fault : ((tried config index (x ∷ now) xs).stopped ≡ false → (tried config index (x ∷ now) xs).past ≡ with_all (x ∷ now) xs) → (o : Option StepFault) → fault config now x ≡ o → (tried config index now (x ∷ xs)).past ≡ with_all now (x ∷ xs)
      by_fault ih None none = let on = tried_on now x xs none in ap (λ left. left.past) on ∙ ih (sym (ap (λ left. left.stopped) on) ∙ e)
      by_fault ih (Some refusal) some = let clash : true ≡ false = sym (ap (λ left. left.stopped) (tried_end now x xs refusal some)) ∙ e in absurd (cc)

  -- whatever comes of it, the first of the events is taken first
  tried_first : (now : History) (event : Event) (rest : List Event) (o : Option StepFault) → fault config now event ≡ o → (others : List Played) × ((tried config index now (event ∷ rest)).took ≡ taken now event ∷ others)
  tried_first now event rest None none = ((tried config index (event ∷ now) rest).took, ap (λ left. left.took) (tried_on now event rest none))
  tried_first now event rest (Some refusal) some = ([], ap (λ left. left.took) (tried_end now event rest refusal some))

  plan_is : (past : History) → plan config past ≡ plan_from past [] (due config past)
  unfolding plan
  plan_is past = refl

  -- the events that settle the next slot are the plan's
  pub slot_events : (past now : History) (before ds : List Due) (d : Due) (world : State) → Stands config now world → Going config past now before (d ∷ ds) → events_from world d ≡ events_for past before d
  unfolding events_for Counted
  slot_events past now before ds d world st going =
      λ k. Send d.from d.to d.slot
      ∷ Arrive d.from ((made_count config now world st d.from ∙ going.counted d.from) k)
      ∷ Ack d.to d.from d.slot
      ∷ Arrive d.to ((made_count config now world st d.to ∙ going.counted d.to) k)
      ∷ []

  plan_next : (past : History) (before ds : List Due) (d : Due) → plan_from past before (d ∷ ds) ≡ events_for past before d ++ plan_from past (before ++ d ∷ []) ds
  unfolding plan_from
  plan_next past before ds d = refl

-- ---- what an observer sees

module _ {O : Type 0} {saw : Seeing O} {ready : O → Type 0} (laws : Observes saw ready) (config : Config) (index : ℕ) where
  -- ---- one event

  pub event_shown : (past : History) (event : Event) (said : Result Answer StepFault) (world : State) (result : Result Bool TextFault) (old new : O) → Continues config past event said world → ShowsReply saw index event said old new result → Plays saw config (one_left config index past event) world old new result
  unfolding reply
  event_shown past event said world (Ok accepted) old new step shows =
      let here = settled_step config past event said world step shows.0 in
      (shows.1 ∙ ap is_ok here.0 ∙ answered (fault config past event) (answer config past event), here.1, subst (λ r. saw old new (Ok tt) (Taken index event r ∷ [])) here.0 shows.2)
  event_shown past event said world (Err why) old new step shows = elim shows [
    | inl told ↦ subst (λ r. saw old new (Err why) (Taken index event r ∷ [])) (settled_step config past event said world step told.0).0 told.1
    | inr wanted ↦ wanted.1 (Taken index event (reply config past event) ∷ [])
  ]

  pub event_overlooked : (past : History) (event : Event) (world : State) (o : O) → IsSilent (reply config past event) × Stands config (event ∷ past) world →
      ((answer : Answer) → IsSilent (Ok answer) → saw o o (Ok tt) (Taken index event (Ok answer) ∷ [])) → Plays saw config (one_left config index past event) world o o (Ok true)
  event_overlooked past event world o silent overlooks = by_reply (reply config past event) refl silent.0
    where
      by_reply : (r : Result Answer StepFault) → reply config past event ≡ r → IsSilent r → Plays saw config (one_left config index past event) world o o (Ok true)
      by_reply (Err refusal) e quiet = absurd quiet
      by_reply (Ok answer) e quiet = event_shown past event (Ok answer) world (Ok true) o o (e, silent.1) (refl, refl, overlooks answer quiet)

  -- ---- events up to the first that is refused

  -- some of the events were taken, none was refused, and they were seen
  pub record IsTrying (past : History) (events rest : List Event) (world : State) (old new : O) : Type 0 where
    pub now : History
    pub seen : List Played
    pub stands : Stands config now world
    pub sees : saw old new (Ok tt) seen
    pub same : tried config index past events ≡ later seen (tried config index now rest)

  pub trying_none : (past : History) (events : List Event) (world : State) (o : O) → Stands config past world → saw o o (Ok tt) [] → IsTrying past events events world o o
  trying_none past events world o st none = record { now = past; seen = []; stands = st; sees = none; same = refl }

  -- the next of the events
  pub trying_next : {past : History} {events : List Event} {world : State} {old new : O} (i : ℕ) (event : Event) → i < length events → event ≡ get_or events i event →
      IsTrying past events (drop i events) world old new → IsTrying past events (event ∷ drop (i + 1) events) world old new
  trying_next {past = past} {events = events} {world = world} {old = old} {new = new} i event within is trying =
      subst (λ rest. IsTrying past events rest world old new) (drop-next events i event within is) trying

  module _ (past : History) (events rest : List Event) (event : Event) (world world' : State) (old mid new : O) (t : IsTrying past events (event ∷ rest) world old mid) where
    -- one more event, accepted
    pub trying_more : (all : Bool) → all ≡ true → Plays saw config (one_left config index t.now event) world' mid new (Ok all) → IsTrying past events rest world' old new
    trying_more all yea plays =
        let none = none_by (fault config t.now event) all yea plays.0 in
        record {
          now = event ∷ t.now;
          seen = t.seen ++ Taken index event (reply config t.now event) ∷ [];
          stands = subst (λ h. Stands config h world') (after_none config t.now event none) plays.1;
          sees = laws.more old mid new (Ok tt) t.seen (Taken index event (reply config t.now event) ∷ []) t.sees plays.2;
          same = t.same ∙ ap (later t.seen) (tried_on config index t.now event rest none) ∙ later_twice t.seen (Taken index event (reply config t.now event) ∷ []) (tried config index (event ∷ t.now) rest);
        }

    -- one more event, refused
    pub trying_refused : (all : Bool) → all ≡ false → Plays saw config (one_left config index t.now event) world' mid new (Ok all) → Plays saw config (tried config index past events) world' old new (Ok false)
    trying_refused all nay plays =
        let r = some_by (fault config t.now event) all nay plays.0 in
        let is = t.same ∙ ap (later t.seen) (tried_end config index t.now event rest r.0 r.1) in (
          sym (ap (λ left. not left.stopped) is),
          subst (λ h. Stands config h world') (after_some config t.now event r.0 r.1 ∙ sym (ap (λ left. left.past) is)) plays.1,
          subst (saw old new (Ok tt)) (sym (ap (λ left. left.took) is)) (laws.more old mid new (Ok tt) t.seen (Taken index event (reply config t.now event) ∷ []) t.sees plays.2),
        )

    -- one more event, at which the observer failed
    pub trying_breaks : (why : TextFault) → saw mid new (Err why) (Taken index event (reply config t.now event) ∷ []) → saw old new (Err why) (tried config index past events).took
    trying_breaks why breaks =
        let one = Taken index event (reply config t.now event) in
        let first = tried_first config index t.now event rest (fault config t.now event) refl in
        let is = ap (λ left. left.took) t.same ∙ ap (λ took. t.seen ++ took) first.1 ∙ sym (append_assoc t.seen (one ∷ []) first.0) in
        subst (saw old new (Err why)) (sym is) (laws.broken old new why (t.seen ++ one ∷ []) first.0 (laws.more old mid new (Err why) t.seen (one ∷ []) t.sees breaks))

  -- no event is left
  pub trying_done : (past : History) (events rest : List Event) (world : State) (old new : O) → rest ≡ [] → IsTrying past events rest world old new → Plays saw config (tried config index past events) world old new (Ok true)
  unfolding tried
  trying_done past events rest world old new none t =
      let is = t.same ∙ ap (λ events. later t.seen (tried config index t.now events)) none in (
        sym (ap (λ left. not left.stopped) is),
        subst (λ h. Stands config h world) (sym (ap (λ left. left.past) is)) t.stands,
        subst (saw old new (Ok tt)) (sym (ap (λ left. left.took) is ∙ append-nil t.seen)) t.sees,
      )

  -- ---- events of which each was silent

  none_where_silent : (refusal : Option StepFault) (a : Answer) → IsSilent (reply_by refusal a) → refusal ≡ None
  none_where_silent None a quiet = refl
  none_where_silent (Some refusal) a quiet = absurd quiet

  -- an observer that overlooks such an event
  module _ (o : O) (here : ready o) (overlooks : Overlooks saw ready o) where
    one_overlooked : (now : History) (event : Event) (r : Result Answer StepFault) → reply config now event ≡ r → IsSilent r → saw o o (Ok tt) (Taken index event r ∷ [])
    one_overlooked now event (Err refusal) e quiet = absurd quiet
    one_overlooked now event (Ok answer) e quiet = overlooks index event answer here quiet

    pub silent_seen : (now : History) (events : List Event) (world : State) → TakesSilently config now events world → Plays saw config (tried config index now events) world o o (Ok true)
    unfolding TakesSilently tried reply
    silent_seen now [] world st = (refl, st, laws.none o here)
    silent_seen now (event ∷ events) world took =
        let none = none_where_silent (fault config now event) (answer config now event) took.0 in
        let on = tried_on config index now event events none in
        let rest = silent_seen (event ∷ now) events world took.1 in
        let one = Taken index event (reply config now event) in (
          rest.0 ∙ sym (ap (λ left. not left.stopped) on),
          subst (λ h. Stands config h world) (sym (ap (λ left. left.past) on)) rest.1,
          subst (saw o o (Ok tt)) (sym (ap (λ left. left.took) on)) (laws.more o o o (Ok tt) (one ∷ []) (tried config index (event ∷ now) events).took (one_overlooked now event (reply config now event) refl took.0) rest.2),
        )

  -- ---- slot by slot

  -- the slots before were settled, and none of their events was refused
  pub record IsRound (past : History) (before ds : List Due) (world : State) (old new : O) : Type 0 where
    pub trying : IsTrying past (plan config past) (plan_from past before ds) world old new
    pub going : Going config past trying.now before ds

  -- these slots are left, where others were settled before
  pub record IsRoundLeft (past : History) (ds : List Due) (world : State) (old new : O) : Type 0 where
    pub before : List Due
    pub round : IsRound past before ds world old new

  pub round_none : (past : History) (world : State) (ds : List Due) (o : O) → Stands config past world → saw o o (Ok tt) [] → ds ≡ due config past → IsRoundLeft past ds world o o
  round_none past world ds o st none is =
      subst (λ all. IsRoundLeft past all world o o) (sym is) (record {
        before = [];
        round = record {
          trying = record { now = past; seen = []; stands = st; sees = none; same = ap (tried config index past) (plan_is config index past) };
          going = Going-start config past;
        };
      })

  pub plays_these : (now : History) (xs ys : List Event) (world' : State) (old new : O) (result : Result Bool TextFault) → xs ≡ ys →
      Plays saw config (tried config index now xs) world' old new result → Plays saw config (tried config index now ys) world' old new result
  plays_these now xs ys world' old new result same plays = subst (λ events. Plays saw config (tried config index now events) world' old new result) same plays

  module _ (past : History) (before ds : List Due) (d : Due) (world world' : State) (old mid new : O) (round : IsRound past before (d ∷ ds) world old mid) where
    abbrev these : List Event
    these = events_for past before d

    abbrev others : List Event
    others = plan_from past (before ++ d ∷ []) ds

    -- none of its events was refused
    pub round_more : (all : Bool) → all ≡ true → Plays saw config (tried config index round.trying.now these) world' mid new (Ok all) → IsRoundLeft past ds world' old new
    round_more all yea plays =
        let t = round.trying in
        let left = tried config index t.now these in
        let fine = went_on left.stopped all yea plays.0 in
        let after = tried_past config index t.now these fine in
        record {
          before = before ++ d ∷ [];
          round = record {
            trying = record {
              now = with_all t.now these;
              seen = t.seen ++ left.took;
              stands = subst (λ h. Stands config h world') after plays.1;
              sees = laws.more old mid new (Ok tt) t.seen left.took t.sees plays.2;
              same = t.same
                  ∙ ap (later t.seen) (ap (tried config index t.now) (plan_next config index past before ds d) ∙ tried_append config index t.now these others fine)
                  ∙ later_twice t.seen left.took (tried config index left.past others)
                  ∙ ap (λ h. later (t.seen ++ left.took) (tried config index h others)) after;
            };
            going = Going-next config past t.now before d ds round.going;
          };
        }

    -- one was
    pub round_refused : (all : Bool) → all ≡ false → Plays saw config (tried config index round.trying.now these) world' mid new (Ok all) → Plays saw config (round_left config index past) world' old new (Ok false)
    round_refused all nay plays =
        let t = round.trying in
        let left = tried config index t.now these in
        let ended = went_no_further left.stopped all nay plays.0 in
        let is = t.same ∙ ap (later t.seen) (ap (tried config index t.now) (plan_next config index past before ds d) ∙ tried_stops config index t.now these others ended) in (
          sym (ap (λ left. not left.stopped) is ∙ ap not ended),
          subst (λ h. Stands config h world') (sym (ap (λ left. left.past) is)) plays.1,
          subst (saw old new (Ok tt)) (sym (ap (λ left. left.took) is)) (laws.more old mid new (Ok tt) t.seen left.took t.sees plays.2),
        )

    -- the observer failed at them
    pub round_breaks : (why : TextFault) → saw mid new (Err why) (tried config index round.trying.now these).took → saw old new (Err why) (round_left config index past).took
    round_breaks why breaks = by_end (tried config index round.trying.now these).stopped refl
      where
        failed : saw old new (Err why) (round.trying.seen ++ (tried config index round.trying.now these).took)
        failed = laws.more old mid new (Err why) round.trying.seen (tried config index round.trying.now these).took round.trying.sees breaks

        by_end : (b : Bool) → (tried config index round.trying.now these).stopped ≡ b → saw old new (Err why) (round_left config index past).took
        by_end false fine =
            let t = round.trying in
            let left = tried config index t.now these in
            let rest = (tried config index left.past others).took in
            let is = t.same ∙ ap (later t.seen) (ap (tried config index t.now) (plan_next config index past before ds d) ∙ tried_append config index t.now these others fine) in
            subst (saw old new (Err why)) (sym (ap (λ left. left.took) is ∙ sym (append_assoc t.seen left.took rest))) (laws.broken old new why (t.seen ++ left.took) rest failed)
        by_end true ended =
            let t = round.trying in
            let is = t.same ∙ ap (later t.seen) (ap (tried config index t.now) (plan_next config index past before ds d) ∙ tried_stops config index t.now these others ended) in
            subst (saw old new (Err why)) (sym (ap (λ left. left.took) is)) failed

  -- the first of them were settled by events that the observer overlooks
  module _ (past : History) (old o : O) (here : ready o) where
    round_after : Overlooks saw ready o → (front rest : List Due) (world new : State) → IsRoundLeft past (front ++ rest) world old o → SettlesSilently world front new → IsRoundLeft past rest new old o
    unfolding SettlesSilently
    round_after overlooks [] rest world new left same = subst (λ w. IsRoundLeft past rest w old o) (sym same) left
    round_after overlooks (d ∷ front) rest world new left settles =
        let t = left.round.trying in
        let seen = silent_seen o here overlooks t.now (events_from world d) settles.0 (settles.1 config t.now t.stands) in
        let plays = plays_these t.now (events_from world d) (events_for past left.before d) settles.0 o o (Ok true) (slot_events config index past t.now left.before (front ++ rest) d world t.stands left.round.going) seen in
        round_after overlooks front rest settles.0 new (round_more past left.before (front ++ rest) d world settles.0 old o o left.round true refl plays) settles.2

    pub round_skips : (ds rest : List Due) (world new : State) → IsRoundLeft past ds world old o → Skips saw ready o world ds rest new → IsRoundLeft past rest new old o
    round_skips ds rest world new left skips = elim skips [
      | inl same ↦ subst (λ w. IsRoundLeft past rest w old o) (sym same.1) (subst (λ all. IsRoundLeft past all world old o) same.0 left)
      | inr settled ↦ round_after settled.0 settled.1.front rest world new (subst (λ all. IsRoundLeft past all world old o) settled.1.split left) settled.1.settles
    ]

  -- no slot is left
  pub round_done : (past : History) (ds : List Due) (world : State) (old new : O) → ds ≡ [] → IsRoundLeft past ds world old new → Plays saw config (round_left config index past) world old new (Ok true)
  unfolding plan_from
  round_done past ds world old new none left = trying_done past (plan config past) (plan_from past left.before ds) world old new (ap (plan_from past left.before) none) left.round.trying

  -- ---- a settle

  module _ (past : History) (old mid : O) (begun : saw old mid (Ok tt) (SettleBegun ∷ [])) where
    pub settle_breaks : (new : O) (why : TextFault) → saw mid new (Err why) (settled config index past).took → saw old new (Err why) (left_by config index past Settle).took
    settle_breaks new why breaks =
        let took = (settled config index past).took in
        laws.broken old new why (SettleBegun ∷ took) (SettleEnded index ∷ []) (laws.more old mid new (Err why) (SettleBegun ∷ []) took begun breaks)

    pub settle_done : (world : State) (next new : O) (result : Result (Unit {0}) TextFault) → PlaysAll saw config (settled config index past) world mid next (Ok tt) → saw next new result (SettleEnded index ∷ []) →
        PlaysAll saw config (left_by config index past Settle) world old new result
    settle_done world next new result played ended =
        let took = (settled config index past).took in
        by_result result (laws.more old next new result (SettleBegun ∷ took) (SettleEnded index ∷ []) (laws.more old mid next (Ok tt) (SettleBegun ∷ []) took begun played.1) ended)
      where
        by_result : (result : Result (Unit {0}) TextFault) → saw old new result (left_by config index past Settle).took → PlaysAll saw config (left_by config index past Settle) world old new result
        by_result (Ok done) seen = (played.0, seen)
        by_result (Err why) seen = seen

-- ---- the whole script

module _ {O : Type 0} {saw : Seeing O} {ready : O → Type 0} (laws : Observes saw ready) (config : Config) where
  -- the events of the script so far were taken, and seen
  pub record IsPlaying (whole : List Played) (index : ℕ) (rest : List ScriptEvent) (world : State) (old new : O) : Type 0 where
    pub now : History
    pub seen : List Played
    pub stands : Stands config now world
    pub sees : saw old new (Ok tt) seen
    pub parts : whole ≡ seen ++ played_from config index now rest

  pub playing_none : (events : List ScriptEvent) (world : State) (o : O) → Stands config [] world → saw o o (Ok tt) [] → IsPlaying (played_from config 0 [] events) 0 events world o o
  playing_none events world o st none = record { now = []; seen = []; stands = st; sees = none; parts = refl }

  pub playing_next : {whole : List Played} {world : State} {old new : O} (items events : List ScriptEvent) (i : ℕ) (event : ScriptEvent) → items ≡ events → i < length items → event ≡ get_or items i event →
      IsPlaying whole i (drop i events) world old new → IsPlaying whole i (event ∷ drop (i + 1) events) world old new
  playing_next {whole = whole} {world = world} {old = old} {new = new} items events i event same within is playing =
      subst (λ rest. IsPlaying whole i rest world old new) (ap (drop i) (sym same) ∙ drop-next items i event within is ∙ ap (λ es. event ∷ drop (i + 1) es) same) playing

  module _ (whole : List Played) (index : ℕ) (event : ScriptEvent) (rest : List ScriptEvent) (world world' : State) (old mid new : O) (p : IsPlaying whole index (event ∷ rest) world old mid) where
    abbrev left : Left
    left = left_by config index p.now event

    goes_on : whole ≡ (p.seen ++ left.took) ++ played_from config (index + 1) left.past rest
    unfolding played_from
    goes_on = p.parts ∙ sym (append_assoc p.seen left.took (played_from config (index + 1) left.past rest))

    pub playing_more : PlaysAll saw config left world' mid new (Ok tt) → IsPlaying whole (index + 1) rest world' old new
    playing_more plays = record {
      now = left.past;
      seen = p.seen ++ left.took;
      stands = plays.0;
      sees = laws.more old mid new (Ok tt) p.seen left.took p.sees plays.1;
      parts = goes_on;
    }

    pub playing_breaks : (why : TextFault) → saw mid new (Err why) left.took → saw old new (Err why) whole
    playing_breaks why breaks =
        subst (saw old new (Err why)) (sym goes_on) (laws.broken old new why (p.seen ++ left.took) (played_from config (index + 1) left.past rest) (laws.more old mid new (Err why) p.seen left.took p.sees breaks))

  -- no event is left
  pub playing_done : (whole : List Played) (index : ℕ) (rest : List ScriptEvent) (world : State) (old new : O) → rest ≡ [] → IsPlaying whole index rest world old new → saw old new (Ok tt) whole
  unfolding played_from
  playing_done whole index rest world old new none p = subst (saw old new (Ok tt)) (sym (p.parts ∙ ap (λ r. p.seen ++ played_from config index p.now r) none ∙ append-nil p.seen)) p.sees
