-- The record of a script is good.
use Rattle.std.proofs.Common.{◌≡◌, ℕ, ◌+◌, ◌*◌, ◌^◌, ◌<◌, ◌≤◌, Bool, true, false, cond, nat_le, List, [], ◌∷◌, ◌++◌, append_assoc, append-nil, length, Option, Some, None, refl, sym, ap, subst, ◌∙◌, arith}
use Rattle.std.specs.List.{AllByRecursion}
use Rattle.std.proofs.lemmas.Bool.Decides.{nat_tests}
use Rattle.std.proofs.lemmas.List.Elements.{recursion_from_All}
use Rattle.cast_message.specs.declared.config.Config.{Config}
use Rattle.cast_message.specs.declared.config.Mode.{Mode}
use Rattle.cast_message.specs.declared.config.Mode.TheVariants.{Basic, Uniform}
use Rattle.cast_message.specs.declared.event.Event.{Event}
use Rattle.cast_message.specs.declared.event.StepFault.{StepFault}
use Rattle.cast_message.specs.Limits.{fault_factor}
use Rattle.cast_model.specs.History.{History, stream, is_live}
use Rattle.cast_model.specs.Delivery.{delivery_log}
use Rattle.cast_model.specs.Headline.{decided}
use Rattle.cast_model.specs.Replies.{fault, reply, after, after_by, history_from, replies, replies_from}
use Rattle.cast_model.specs.Rounds.{Due, due, events_for, plan_from, plan}
use Rattle.cast_record.specs.declared.line.Line.{Line}
use Rattle.cast_record.specs.declared.line.Line.TheVariants.{Head, Head2, End}
use Rattle.cast_record.specs.declared.verdict.Verdict.TheVariants.{Good}
use Rattle.cast_record.specs.Lines.{head_of, head_by, lines_for}
use Rattle.cast_record.specs.Ranges.{IsWithin}
use Rattle.cast_record.specs.Rules as said
use Rattle.cast_record.specs.Text.{record_text}
use Rattle.cast_record.specs.Verdicts.{verdict, verdict_after}
use Rattle.cast_judge.specs.Judged.{verdict_of}
use Rattle.cast_judge.specs.Stands.{items_of}
use Rattle.cast_script.specs.declared.script.Script.{Script}
use Rattle.cast_script.specs.declared.script.ScriptEvent.{ScriptEvent}
use Rattle.cast_script.specs.declared.script.ScriptEvent.TheVariants.{Core, Settle}
use Rattle.cast_text.specs.Ranges.{HasEventRange, HasScriptRange, HaveScriptRanges}
use Rattle.cast_text.specs.Played.{Played, Taken, SettleBegun, SettleEnded, Left, tried, tried_by, round_left, joined, settled, left_by, played_from, played}
use Rattle.cast_text.specs.Recorded.{lines_of, record_of}
use Rattle.cast_text.specs.RecordLaws.{lines_of-append}
use Rattle.cast_record.proofs.WritingLemmas.{record_text-append}
use Rattle.cast_text.proofs.SaidSoFar.{end_sound}
use Rattle.cast_text.proofs.GoodLines.{goes_none, goes_one, goes_then}
use Rattle.cast_text.proofs.Goodness.{counts, Told, Grown}
use Rattle.cast_text.proofs.Records.{event_grows}

grown_none : (config : Config) (events : List Event) (past : History) (xs : List Line) → Told config events past xs → Grown config past xs []
grown_none config events past xs t = record { events = events; lines = xs; goes = goes_none xs; told = t }

-- ---- some events, up to the first that is refused

abbrev HaveEventRanges : List Event → Type 0
HaveEventRanges [] = Unit {0}
HaveEventRanges (event ∷ events) = HasEventRange event × HaveEventRanges events

abbrev LeftGrows : Config → List Line → Left → Type 0
LeftGrows config xs left = Grown config left.past xs (lines_of left.took)

tried_grows : (config : Config) (events : List Event) (past : History) (xs : List Line) (index : ℕ) (tries : List Event) → HaveEventRanges tries → index < 2 ^ 64 → Told config events past xs → LeftGrows config xs (tried config index past tries)
unfolding tried after lines_of
tried_grows config events past xs index [] ranges fits t = grown_none config events past xs t
tried_grows config events past xs index (event ∷ tries) ranges fits t =
    by_fault config past xs index event (tried config index (event ∷ past) tries) (fault config past event) refl (event_grows config events past xs index event ranges.0 fits t)
    (λ events' ys told. tried_grows config events' (event ∷ past) ys index tries ranges.1 fits told)
  where
    by_fault : (config : Config) (past : History) (xs : List Line) (index : ℕ) (event : Event) (rest : Left) (o : Option StepFault) → fault config past event ≡ o → Grown config (after_by (fault config past event) past event) xs (lines_for index event (reply config past event))
        → ((events' : List Event) (ys : List Line) → Told config events' (event ∷ past) ys → LeftGrows config ys rest)
        → LeftGrows config xs (tried_by (fault config past event) (Taken index event (reply config past event)) past rest)
    by_fault config past xs index event rest None e grown goes_on =
        let one = subst (λ o. Grown config (after_by o past event) xs (lines_for index event (reply config past event))) e grown in
        let others = goes_on one.events one.lines one.told in
        subst (λ o. LeftGrows config xs (tried_by o (Taken index event (reply config past event)) past rest)) (sym e) (record {
          events = others.events;
          lines = others.lines;
          goes = goes_then xs (lines_for index event (reply config past event)) one.lines (lines_of rest.took) others.lines one.goes others.goes;
          told = others.told;
        })
    by_fault config past xs index event rest (Some refusal) e grown goes_on =
        subst (λ o. LeftGrows config xs (tried_by o (Taken index event (reply config past event)) past rest)) (sym e)
        (subst (Grown config past xs) (sym (append-nil (lines_for index event (reply config past event)))) (subst (λ o. Grown config (after_by o past event) xs (lines_for index event (reply config past event))) e grown))

-- ---- rounds

ranges_append : (xs ys : List Event) → HaveEventRanges xs → HaveEventRanges ys → HaveEventRanges (xs ++ ys)
ranges_append [] ys a b = b
ranges_append (x ∷ xs) ys a b = (a.0, ranges_append xs ys a.1 b)

-- a plan orders nothing
plan_ranges : (past : History) (before ds : List Due) → HaveEventRanges (plan_from past before ds)
unfolding plan_from events_for
plan_ranges past before [] = tt
plan_ranges past before (d ∷ ds) = ranges_append (events_for past before d) (plan_from past (before ++ d ∷ []) ds) (tt, (tt, (tt, (tt, tt)))) (plan_ranges past (before ++ d ∷ []) ds)

round_grows : (config : Config) (events : List Event) (past : History) (xs : List Line) (index : ℕ) → index < 2 ^ 64 → Told config events past xs → LeftGrows config xs (round_left config index past)
unfolding plan
round_grows config events past xs index fits t = tried_grows config events past xs index (plan config past) (plan_ranges past [] (due config past)) fits t

rounds_grow : (config : Config) (events : List Event) (past : History) (xs : List Line) (index : ℕ) → index < 2 ^ 64 → Told config events past xs → LeftGrows config xs (settled config index past)
rounds_grow config events past xs index fits t = go (round_left config index past) (round_left config index past).stopped (round_grows config events past xs index fits t)
  where
    go : (first : Left) (b : Bool) → LeftGrows config xs first → LeftGrows config xs (cond b first (joined first (round_left config index first.past)))
    go first true one = one
    go first false one =
        let next = round_left config index first.past in
        let other = round_grows config one.events first.past one.lines index fits one.told in
        subst (Grown config next.past xs) (sym (lines_of-append first.took next.took)) (record {
          events = other.events;
          lines = other.lines;
          goes = goes_then xs (lines_of first.took) one.lines (lines_of next.took) other.lines one.goes other.goes;
          told = other.told;
        })

-- ---- the events of a script

-- where a settle begins and ends no line says
settle_lines : (index : ℕ) (took : List Played) → lines_of (SettleBegun ∷ (took ++ SettleEnded index ∷ [])) ≡ lines_of took
unfolding lines_of
settle_lines index took = lines_of-append took (SettleEnded index ∷ []) ∙ append-nil (lines_of took)

script_event_grows : (config : Config) (events : List Event) (past : History) (xs : List Line) (index : ℕ) (event : ScriptEvent) → HasScriptRange event → index < 2 ^ 64 → Told config events past xs → LeftGrows config xs (left_by config index past event)
unfolding lines_of
script_event_grows config events past xs index (Core event) range fits t =
    subst (Grown config (after config past event) xs) (sym (append-nil (lines_for index event (reply config past event)))) (event_grows config events past xs index event range fits t)
script_event_grows config events past xs index Settle range fits t =
    subst (Grown config (settled config index past).past xs) (sym (settle_lines index (settled config index past).took)) (rounds_grow config events past xs index fits t)

at_end : (xs : List Line) → verdict_of (End ∷ xs) [] ≡ Good
unfolding verdict_after
at_end xs = refl

-- all of them, and the end
lines_good : (config : Config) (events : List Event) (past : History) (xs : List Line) (index : ℕ) (list : List ScriptEvent) → AllByRecursion HasScriptRange list → index + length list < 2 ^ 64 → Told config events past xs
    → verdict_of xs (record_text (lines_of (played_from config index past list) ++ End ∷ [])) ≡ Good
unfolding played_from lines_of
lines_good config events past xs index [] ranges fits t = ended xs (end_sound config (stream past) (counts config past) (is_live past) (decided (replies config events)) xs t.says)
  where
    ended : (xs : List Line) → said.broken xs End ≡ None → verdict_of xs (record_text (End ∷ [])) ≡ Good
    ended xs sound = ap (verdict_of xs) (sym (append-nil (record_text (End ∷ [])))) ∙ (goes_one xs End tt sound).goes [] ∙ at_end xs
lines_good config events past xs index (event ∷ list) ranges fits t =
    let left = left_by config index past event in
    let rest = lines_of (played_from config (index + 1) left.past list) ++ End ∷ [] in
    let one = script_event_grows config events past xs index event ranges.0 (omega arith) t in
    ap (λ ls. verdict_of xs (record_text (ls ++ End ∷ []))) (lines_of-append left.took (played_from config (index + 1) left.past list))
    ∙ ap (λ ls. verdict_of xs (record_text ls)) (append_assoc (lines_of left.took) (lines_of (played_from config (index + 1) left.past list)) (End ∷ []))
    ∙ ap (verdict_of xs) (record_text-append (lines_of left.took) rest)
    ∙ one.goes.goes (record_text rest)
    ∙ lines_good config one.events left.past one.lines (index + 1) list ranges.1 (omega arith) one.told

-- ---- the head

-- what a head says
pub record IsHead (config : Config) (head : Line) : Type 0 where
  pub within : IsWithin head
  pub sound : said.broken [] head ≡ None
  pub told : Told config [] [] (head ∷ [])

head1_told : (config : Config) → Told config [] [] (Head config.nodes config.faults config.choices ∷ [])
unfolding history_from replies_from decided stream is_live delivery_log said.group_of said.has_broadcast said.deliveries_of said.has_crashed said.values_in items_of
head1_told config = record {
  is = refl;
  says = record { goes_on = refl; some = omega arith; group = refl; items = λ p. refl; numbered = λ m. refl; delivered = λ q s. refl; crashed = λ p. refl; decided = λ j w m. m };
  within = λ p item m. elim m [ ];
}

head2_told : (config : Config) (mode : Mode) → Told config [] [] (Head2 config.nodes config.faults config.choices mode ∷ [])
unfolding history_from replies_from decided stream is_live delivery_log said.group_of said.has_broadcast said.deliveries_of said.has_crashed said.values_in items_of
head2_told config mode = record {
  is = refl;
  says = record { goes_on = refl; some = omega arith; group = refl; items = λ p. refl; numbered = λ m. refl; delivered = λ q s. refl; crashed = λ p. refl; decided = λ j w m. m };
  within = λ p item m. elim m [ ];
}

head1_sound : (n f k : ℕ) → said.broken [] (Head n f k) ≡ None
unfolding said.broken
head1_sound n f k = refl

head2_sound : (n f k : ℕ) (mode : Mode) → said.broken [] (Head2 n f k mode) ≡ None
unfolding said.broken
head2_sound n f k mode = refl

head_is : (config : Config) → IsHead config (head_of config)
head_is config = by_mode config.mode config.mode_in_range
  where
    two : IsHead config (Head2 config.nodes config.faults config.choices Basic)
    two = record {
      within = ((config.some_node, config.nodes_in_range, config.faults_in_range, config.some_choice, config.choices_in_range), tt);
      sound = head2_sound config.nodes config.faults config.choices Basic;
      told = head2_told config Basic;
    }

    near : (n : ℕ) → nat_le n 16 ≡ true → n ≤ 16
    near n e = grind (arith, nat_tests)

    by_count : (b : Bool) → nat_le config.nodes 16 ≡ b → IsHead config (cond b (Head config.nodes config.faults config.choices) (Head2 config.nodes config.faults config.choices Basic))
    by_count true e = record {
      within = (config.some_node, near config.nodes e, config.faults_in_range, config.some_choice, config.choices_in_range);
      sound = head1_sound config.nodes config.faults config.choices;
      told = head1_told config;
    }
    by_count false e = two

    by_mode : (mode : Mode) → fault_factor mode * config.faults < config.nodes → IsHead config (head_by mode config.nodes config.faults config.choices)
    by_mode Basic range = by_count (nat_le config.nodes 16) refl
    by_mode Uniform range = record {
      within = ((config.some_node, config.nodes_in_range, config.faults_in_range, config.some_choice, config.choices_in_range), range);
      sound = head2_sound config.nodes config.faults config.choices Uniform;
      told = head2_told config Uniform;
    }

-- the record of a script, whose numbers and bytes are in their ranges, is good
pub record_is_good : (script : Script) → HaveScriptRanges script.events → length script.events < 2 ^ 64 → verdict (record_text (record_of script)) ≡ Good
unfolding verdict
record_is_good script ranges fits =
    let head = head_is script.config in
    ap verdict (record_text-append (head_of script.config ∷ []) (lines_of (played script) ++ End ∷ []))
    ∙ (goes_one [] (head_of script.config) head.within head.sound).goes (record_text (lines_of (played script) ++ End ∷ []))
    ∙ lines_good script.config [] [] (head_of script.config ∷ []) 0 script.events (recursion_from_All HasScriptRange script.events ranges) (omega arith) head.told
