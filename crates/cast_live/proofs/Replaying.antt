-- The record of a replay is that of the run.
use Rattle.std.proofs.Common.{◌≡◌, ℕ, ◌+◌, ◌*◌, ◌<◌, ◌≤◌, ◌^◌, Bool, true, false, cond, nat_le, List, [], ◌∷◌, ◌++◌, length, map, reverse, Option, Some, None, Result, Ok, Err, refl, sym, ap, subst, ◌∙◌, arith, drop, get_or, append_assoc}
use Rattle.std.specs.List.{All, AllByRecursion}
use Rattle.std.specs.Io.KnownBytes.{Appends}
use Rattle.std.proofs.Math.Bridge.{le_prop}
use Rattle.std.proofs.lemmas.List.{length-reverse, drop_all}
use Rattle.std.proofs.lemmas.List.Elements.{recursion_from_All, All-from_recursion}
use Rattle.cast_message.proofs.Lists.{drop-next}
use Rattle.cast_message.specs.Limits.{fault_factor}
use Rattle.cast_message.specs.declared.config.Config.{Config}
use Rattle.cast_message.specs.declared.config.Mode.{Mode}
use Rattle.cast_message.specs.declared.config.Mode.TheVariants.{Basic, Uniform}
use Rattle.cast_message.specs.declared.event.Answer.{Answer}
use Rattle.cast_message.specs.declared.event.Answer.TheVariants.{Ordered, Sent, Arrived, Down}
use Rattle.cast_message.specs.declared.event.Event.{Event}
use Rattle.cast_message.specs.declared.event.Event.TheVariants.{Order, Send, Ack, Arrive, Crash}
use Rattle.cast_message.specs.declared.event.Outcome.{Outcome}
use Rattle.cast_message.specs.declared.event.StepFault.{StepFault}
use Rattle.cast_message.specs.declared.message.Message.{Message}
use Rattle.cast_message.specs.declared.message.Decision.{Decision}
use Rattle.cast_model.specs.History.{History}
use Rattle.cast_model.specs.Replies.{fault, answer, reply, after, after_by, history_from, history, replies_from, replies}
use Rattle.cast_record.specs.declared.line.Line.{Line}
use Rattle.cast_record.specs.declared.line.Line.TheVariants.{Head, Head2, Delivered, Decided, End}
use Rattle.cast_record.specs.declared.verdict.Verdict.TheVariants.{Good}
use Rattle.cast_record.specs.Lines.{head_by, head_of, outcome_lines, answer_lines, lines_for}
use Rattle.cast_record.specs.Text.{record_text}
use Rattle.cast_record.specs.Verdicts.{verdict}
use Rattle.cast_script.specs.declared.script.Script.{Script}
use Rattle.cast_script.specs.declared.script.ScriptEvent.TheVariants.{Core}
use Rattle.cast_message.specs.declared.settings.Settings.{Settings}
use Rattle.cast_script.specs.Replay.{script_text, replay, IsReplayIn}
use Rattle.cast_script.specs.Script.{group_in, settings_in, said}
use Rattle.cast_text.specs.Ranges.{HasEventRange, HasScriptRange}
use Rattle.cast_text.specs.Played.{played_from}
use Rattle.cast_text.specs.Recorded.{lines_of, record_of}
use Rattle.cast_live.specs.Replayed.{lines_told, is_refusal, record_of_accepted, RecordsReplay}
use Rattle.cast_text.specs.Text.{WritesRecord, Writes}
use Rattle.cast_text.specs.declared.fault.TextFault.{TextFault}
use Rattle.cast_text.specs.RecordLaws.{writes_then}
use Rattle.cast_record.proofs.WrittenLemmas.{IsGoing}
use Rattle.cast_text.proofs.GoodRecords.{record_is_good}
use Rattle.cast_record.proofs.WritingLemmas.{record_text-append}

-- ---- a configuration is its values

abbrev AreWithin : Settings → Type 0
AreWithin s = (1 ≤ s.nodes) × (s.nodes ≤ 64) × (s.faults < s.nodes) × (1 ≤ s.choices) × (s.choices ≤ s.nodes) × (1 ≤ s.item_limit) × (s.item_limit ≤ 4096)
    × (1 ≤ s.log_limit) × (s.log_limit ≤ 65536) × (1 ≤ s.box_size) × (s.box_size ≤ 4096) × (fault_factor s.mode * s.faults < s.nodes)

abbrev made_of : (s : Settings) → AreWithin s → Config
made_of s w = record {
  nodes = s.nodes;
  faults = s.faults;
  choices = s.choices;
  item_limit = s.item_limit;
  log_limit = s.log_limit;
  box_size = s.box_size;
  first_stamp = s.first_stamp;
  mode = s.mode;
  some_node = w.0;
  nodes_in_range = w.1;
  faults_in_range = w.2;
  some_choice = w.3;
  choices_in_range = w.4;
  some_item = w.5;
  items_in_range = w.6;
  some_entry = w.7;
  log_in_range = w.8;
  some_place = w.9;
  box_in_range = w.10;
  mode_in_range = w.11;
}

abbrev within_of : (c : Config) → AreWithin (group_in c)
within_of c = (c.some_node, c.nodes_in_range, c.faults_in_range, c.some_choice, c.choices_in_range, c.some_item, c.items_in_range, c.some_entry, c.log_in_range, c.some_place, c.box_in_range, c.mode_in_range)

one_proof : (s : Settings) (v w : AreWithin s) → v ≡ w
one_proof s v w i = (le_prop v.0 w.0 i, le_prop v.1 w.1 i, le_prop v.2 w.2 i, le_prop v.3 w.3 i, le_prop v.4 w.4 i, le_prop v.5 w.5 i, le_prop v.6 w.6 i, le_prop v.7 w.7 i, le_prop v.8 w.8 i, le_prop v.9 w.9 i, le_prop v.10 w.10 i, le_prop v.11 w.11 i)

one_config : (s t : Settings) → s ≡ t → (v : AreWithin s) (w : AreWithin t) → made_of s v ≡ made_of t w
one_config s t e v w = subst (λ t. (w : AreWithin t) → made_of s v ≡ made_of t w) e (λ w. ap (made_of s) (one_proof s v w)) w

same_config : (a b : Config) → group_in a ≡ group_in b → a ≡ b
same_config a b e = one_config (group_in a) (group_in b) e (within_of a) (within_of b)

-- ---- the lines of the script are those of the run

script_lines : (config : Config) (index : ℕ) (past : History) (events : List Event) → lines_of (played_from config index past (map Core events)) ≡ lines_told index events (replies_from config past events)
unfolding played_from lines_of lines_told replies_from
script_lines config index past [] = refl
script_lines config index past (event ∷ events) = ap (λ ls. lines_for index event (reply config past event) ++ ls) (script_lines config (index + 1) (after config past event) events)

pub record_of_replay : (config : Config) (events : List Event) (script : Script) → said script ≡ replay config events → record_of script ≡ record_of_accepted config events
record_of_replay config events script e =
    let one = same_config script.config config (ap (λ s. s.settings.group) e) in
    let happened : script.events ≡ map Core events = ap (λ s. s.events) e in
    ap (λ c. head_of c ∷ (lines_of (played_from c 0 [] script.events) ++ End ∷ [])) one
    ∙ ap (λ es. head_of config ∷ (lines_of (played_from config 0 [] es) ++ End ∷ [])) happened
    ∙ ap (λ ls. head_of config ∷ (ls ++ End ∷ [])) (script_lines config 0 [] events)

replays : (config : Config) (events : List Event) → IsReplayIn (script_text config events) config events → (old new : Option (List ℕ)) → WritesRecord (Some (script_text config events)) old new
    → Appends old new (record_text (record_of_accepted config events))
replays config events law old new w =
    subst (λ ls. Appends old new (record_text ls)) (record_of_replay config events w.script (law (Ok w.script) w.read.1)) w.appends

-- ---- it is good

abbrev script_made : Config → List Event → Script
script_made config events = record { config = config; turns = 4000000; events = map Core events; plan = record { faults = [] }; jobs = [] }

core_ranges : (events : List Event) → AllByRecursion HasEventRange events → AllByRecursion HasScriptRange (map Core events)
core_ranges [] ranges = tt
core_ranges (e ∷ es) ranges = (ranges.0, core_ranges es ranges.1)

core_length : (events : List Event) → length (map Core events) ≡ length events
core_length [] = refl
core_length (e ∷ es) = omega (arith, core_length es)

pub good_replay : (config : Config) (events : List Event) → All HasEventRange events → length events < 2 ^ 64 → verdict (record_text (record_of_accepted config events)) ≡ Good
good_replay config events ranges few =
    let script = script_made config events in
    let all = All-from_recursion HasScriptRange (map Core events) (core_ranges events (recursion_from_All HasEventRange events ranges)) in
    ap (λ ls. verdict (record_text ls)) (sym (record_of_replay config events script refl)) ∙ record_is_good script all (omega (arith, core_length events))

-- ---- accepted events leave no refusal

abbrev AreAllAccepted : Config → History → List Event → Type 0
AreAllAccepted config past [] = Unit {0}
AreAllAccepted config past (event ∷ events) = (fault config past event ≡ None) × AreAllAccepted config (event ∷ past) events

at_most : (config : Config) (past : History) (events : List Event) → length (history_from config past events) ≤ length past + length events
unfolding history_from after
at_most config past [] = omega arith
at_most config past (event ∷ events) = at_most_by config past event events (fault config past event) (at_most config (event ∷ past) events) (at_most config past events)
  where
    at_most_by : (config : Config) (past : History) (event : Event) (events : List Event) (o : Option StepFault) → length (history_from config (event ∷ past) events) ≤ length (event ∷ past) + length events
        → length (history_from config past events) ≤ length past + length events → length (history_from config (after_by o past event) events) ≤ length past + length (event ∷ events)
    at_most_by config past event events None on still = omega arith
    at_most_by config past event events (Some refusal) on still = omega arith

all_accepted : (config : Config) (past : History) (events : List Event) → length (history_from config past events) ≡ length past + length events → AreAllAccepted config past events
unfolding history_from after
all_accepted config past [] e = tt
all_accepted config past (event ∷ events) e =
    all_by config past event events (fault config past event) refl e (λ l. all_accepted config (event ∷ past) events l) (at_most config past events)
  where
    all_by : (config : Config) (past : History) (event : Event) (events : List Event) (o : Option StepFault) → fault config past event ≡ o
        → length (history_from config (after_by o past event) events) ≡ length past + length (event ∷ events)
        → (length (history_from config (event ∷ past) events) ≡ length (event ∷ past) + length events → AreAllAccepted config (event ∷ past) events)
        → length (history_from config past events) ≤ length past + length events → AreAllAccepted config past (event ∷ events)
    all_by config past event events None is l others few = (is, others (omega arith))
    all_by config past event events (Some refusal) is l others few = absurd (omega arith)

abbrev NoneRefused : List Line → Type 0
NoneRefused lines = AllByRecursion (λ line. is_refusal line ≡ false) lines

both : (xs ys : List Line) → NoneRefused xs → NoneRefused ys → NoneRefused (xs ++ ys)
both [] ys a b = b
both (x ∷ xs) ys a b = (a.0, both xs ys a.1 b)

deliveries_none : (node : ℕ) (messages : List Message) → NoneRefused (map (Delivered node) messages)
deliveries_none node [] = tt
deliveries_none node (m ∷ ms) = (refl, deliveries_none node ms)

decisions_none : (node : ℕ) (decisions : List Decision) → NoneRefused (map (Decided node) decisions)
decisions_none node [] = tt
decisions_none node (d ∷ ds) = (refl, decisions_none node ds)

outcome_none : (node : ℕ) (outcome : Outcome) → NoneRefused (outcome_lines node outcome)
outcome_none node outcome = both (map (Delivered node) outcome.deliveries) (map (Decided node) outcome.decisions) (deliveries_none node outcome.deliveries) (decisions_none node outcome.decisions)

answer_none : (event : Event) (a : Answer) → NoneRefused (answer_lines event a)
answer_none (Order node item) (Ordered number outcome) = (refl, outcome_none node outcome)
answer_none (Order node item) (Sent seq) = tt
answer_none (Order node item) (Arrived q outcome) = tt
answer_none (Order node item) Down = tt
answer_none (Send from to slot) a = tt
answer_none (Ack from to slot) a = tt
answer_none (Arrive from seq) (Ordered number outcome) = tt
answer_none (Arrive from seq) (Sent s) = tt
answer_none (Arrive from seq) (Arrived node outcome) = outcome_none node outcome
answer_none (Arrive from seq) Down = tt
answer_none (Crash node) (Ordered number outcome) = tt
answer_none (Crash node) (Sent seq) = tt
answer_none (Crash node) (Arrived q outcome) = tt
answer_none (Crash node) Down = (refl, tt)

told_none : (config : Config) (index : ℕ) (past : History) (events : List Event) → AreAllAccepted config past events → NoneRefused (lines_told index events (replies_from config past events))
unfolding lines_told replies_from reply after
told_none config index past [] accepted = tt
told_none config index past (event ∷ events) accepted =
    rw accepted.0 (both (answer_lines event (answer config past event)) (lines_told (index + 1) events (replies_from config (event ∷ past) events))
    (answer_none event (answer config past event)) (told_none config (index + 1) (event ∷ past) events accepted.1))

head_none : (mode : Mode) (n f k : ℕ) → is_refusal (head_by mode n f k) ≡ false
head_none Basic n f k = go (nat_le n 16)
  where
    go : (b : Bool) → is_refusal (cond b (Head n f k) (Head2 n f k Basic)) ≡ false
    go true = refl
    go false = refl
head_none Uniform n f k = refl

none_refused : (config : Config) (events : List Event) → history config events ≡ reverse events → All (λ line. is_refusal line ≡ false) (record_of_accepted config events)
none_refused config events e =
    let all = all_accepted config [] events (omega (arith, ap length e, length-reverse events)) in
    let middle = lines_told 0 events (replies config events) in
    All-from_recursion (λ line. is_refusal line ≡ false) (record_of_accepted config events)
    (head_none config.mode config.nodes config.faults config.choices, both middle (End ∷ []) (told_none config 0 [] events all) (refl, tt))

pub records_replay : (config : Config) (events : List Event) → IsReplayIn (script_text config events) config events → All HasEventRange events → length events < 2 ^ 64 → RecordsReplay config events
records_replay config events law ranges few = record {
  replays = replays config events law;
  not_refused = λ read_failed failed old new why h. law (Err why) h.0.1;
  good = good_replay config events ranges few;
  none_refused = none_refused config events;
}

-- ---- the next lines of a run

-- what is left of a text is written, or broke off
pub writes_last : {old mid : Option (List ℕ)} {f : Bool} {text : List ℕ} (new : Option (List ℕ)) (g : Bool) (result : Result (Unit {0}) TextFault) (rest : List ℕ) → IsGoing old mid f text rest → Writes mid new g result rest → Writes old new g result text
writes_last {old = old} {mid = mid} {f = f} new g result rest going wrote =
    subst (Writes old new g result) (sym going.parts) (writes_then old mid new f g result going.front rest (record { appends = going.appends; sound = going.sound }) wrote)

pub told-next : (index : ℕ) (events : List Event) (results : List (Result Answer StepFault)) (event : Event) (result : Result Answer StepFault) → index < length events → length results ≡ length events
    → event ≡ get_or events index event → result ≡ get_or results index result
    → record_text (lines_told index (drop index events) (drop index results) ++ End ∷ [])
    ≡ record_text (lines_for index event result) ++ record_text (lines_told (index + 1) (drop (index + 1) events) (drop (index + 1) results) ++ End ∷ [])
unfolding lines_told
told-next index events results event result within same is here =
    let first = drop-next events index event within is in
    let answer = drop-next results index result (omega arith) here in
    let now = lines_for index event result in
    let later = lines_told (index + 1) (drop (index + 1) events) (drop (index + 1) results) in
    (λ i. record_text (lines_told index (first i) (answer i) ++ End ∷ []))
    ∙ ap record_text (append_assoc now later (End ∷ []))
    ∙ record_text-append now (later ++ End ∷ [])

pub told-end : (index : ℕ) (events : List Event) (results : List (Result Answer StepFault)) → length events ≤ index → record_text (lines_told index (drop index events) (drop index results) ++ End ∷ []) ≡ record_text (End ∷ [])
unfolding lines_told
told-end index events results past = ap (λ es. record_text (lines_told index es (drop index results) ++ End ∷ [])) (drop_all index events past)
