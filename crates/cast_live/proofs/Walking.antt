-- A walk over the merged events of a run, event by event, and the text that is left of their record.
use Rattle.std.proofs.Common.{◌≡◌, ℕ, ◌+◌, ◌<◌, ◌^◌, false, List, [], ◌∷◌, ◌++◌, length, Option, Some, None, MatchOption, Result, Bool, sym, refl, ap, subst, ◌∙◌, append_assoc, append-nil, length-append, arith}
use Rattle.std.specs.List.{All, AllByRecursion}
use Rattle.std.proofs.lemmas.List.Elements.{All-from_recursion}
use Rattle.std.specs.Result.{IsErrAnd}
use Rattle.std.proofs.lemmas.Result.{err_from_is_err_and}
use Rattle.cast_message.specs.declared.config.Config.{Config}
use Rattle.cast_message.specs.declared.event.Answer.{Answer}
use Rattle.cast_message.specs.declared.event.Event.{Event}
use Rattle.cast_message.specs.declared.event.StepFault.{StepFault}
use Rattle.cast_model.specs.History.{History}
use Rattle.cast_model.specs.Replies.{history, history_from, replies_from, reply, after}
use Rattle.cast_record.specs.declared.line.Line.TheVariants.{End}
use Rattle.cast_record.specs.Lines.{head_of, lines_for}
use Rattle.cast_record.specs.Text.{record_text}
use Rattle.cast_record.proofs.WritingLemmas.{record_text-append}
use Rattle.cast_text.specs.Ranges.{HasEventRange}
use Rattle.cast_text.specs.Text.{BreaksOff, Writes}
use Rattle.cast_text.specs.declared.fault.TextFault.{TextFault}
use Rattle.cast_text.specs.declared.fault.TextFault.TheVariants as faults
use Rattle.cast_record.proofs.WrittenLemmas.{IsGoing}
use Rattle.cast_world.specs.Group.{State, Stands}
use Rattle.cast_live.specs.Replayed.{lines_told, record_of_accepted}
use Rattle.cast_live.specs.Walk.{IsWalk}

all_more : {A : Type 0} (P : A → Type 0) (xs : List A) (x : A) → AllByRecursion P xs → P x → AllByRecursion P (xs ++ x ∷ [])
all_more P [] x all more = (more, tt)
all_more P (y ∷ ys) x all more = (all.0, all_more P ys x all.1 more)

abbrev pub walk_begins : (config : Config) (events : List Event) (world : State) → Stands config [] world → IsWalk config events 0 events world
walk_begins config events world stands = record { past = []; stands = stands; ends = refl; seen = []; parts = refl; count = (refl, omega arith); ranges = tt }

-- what is left to be written of the record
abbrev pub rest_text : Config → ℕ → History → List Event → List ℕ
rest_text config index past left = record_text (lines_told index left (replies_from config past left) ++ End ∷ [])

pub text_begins : (config : Config) (events : List Event) → record_text (record_of_accepted config events) ≡ record_text (head_of config ∷ []) ++ rest_text config 0 [] events
text_begins config events = record_text-append (head_of config ∷ []) (lines_told 0 events (replies_from config [] events) ++ End ∷ [])

module _ (config : Config) (events : List Event) (index : ℕ) (left : List Event) (world : State) (w : IsWalk config events index left world) where
  module _ (event : Event) (rest : List Event) (is : left ≡ event ∷ rest) (later : State) (answered : Result Answer StepFault)
      (step : (answered ≡ reply config w.past event) × Stands config (after config w.past event) later) where
    pub text_left : rest_text config index w.past left ≡ record_text (lines_for index event answered) ++ rest_text config (index + 1) (after config w.past event) rest
    unfolding lines_told replies_from
    text_left =
        let now = lines_for index event answered in
        let then = lines_told (index + 1) rest (replies_from config (after config w.past event) rest) in
        ap (rest_text config index w.past) is
        ∙ ap (λ a. record_text ((lines_for index event a ++ then) ++ End ∷ [])) (sym step.0)
        ∙ ap record_text (append_assoc now then (End ∷ []))
        ∙ record_text-append now (then ++ End ∷ [])

    module _ (next : ℕ) (more : (next ≡ index + 1) × (next < 2 ^ 64)) where
      pub ends_next : history_from config (after config w.past event) rest ≡ history config events
      unfolding history_from
      ends_next = sym (ap (history_from config w.past) is) ∙ w.ends

      pub parts_next : events ≡ (w.seen ++ event ∷ []) ++ rest
      parts_next = w.parts ∙ ap (λ l. w.seen ++ l) is ∙ sym (append_assoc w.seen (event ∷ []) rest)

      pub count_next : next ≡ length (w.seen ++ event ∷ [])
      count_next = let n = w.count.0 in let m = more.0 in let l = length-append w.seen (event ∷ []) in omega arith

      pub ranges_next : HasEventRange event → AllByRecursion HasEventRange (w.seen ++ event ∷ [])
      ranges_next range = all_more HasEventRange w.seen event w.ranges range

      abbrev pub walk_next : HasEventRange event → IsWalk config events next rest later
      walk_next range = record {
        past = after config w.past event;
        stands = step.1;
        ends = ends_next;
        seen = w.seen ++ event ∷ [];
        parts = parts_next;
        count = (count_next, more.1);
        ranges = ranges_next range;
      }

      pub text_next : rest_text config index w.past left ≡ record_text (lines_for index event answered) ++ rest_text config next (after config w.past event) rest
      text_next = text_left ∙ ap (λ n. record_text (lines_for index event answered) ++ rest_text config n (after config w.past event) rest) (sym more.0)

  module _ (none : left ≡ []) where
    pub walk_ends : Stands config (history config events) world
    unfolding history_from
    walk_ends = subst (λ past. Stands config past world) (sym (ap (history_from config w.past) none) ∙ w.ends) w.stands

    whole : events ≡ w.seen
    whole = w.parts ∙ ap (λ l. w.seen ++ l) none ∙ append-nil w.seen

    pub all_ranges : All HasEventRange events
    all_ranges = subst (All HasEventRange) (sym whole) (All-from_recursion HasEventRange w.seen w.ranges)

    pub few_events : length events < 2 ^ 64
    few_events = let n = w.count in let same = ap length whole in omega arith

    pub text_ends : rest_text config index w.past left ≡ record_text (End ∷ [])
    unfolding lines_told replies_from
    text_ends = ap (rest_text config index w.past) none

-- the next event, and that none is left
pub took : (found : Option Event) (old new : List Event) (event : Event) → MatchOption found (old ≡ []) (λ e. old ≡ e ∷ new) → found ≡ Some event → old ≡ event ∷ new
took None old new event h is = absurd cc
took (Some e) old new event h is = h ∙ (let same : e ≡ event = cc in ap (λ x. x ∷ new) same)

pub took_none : (found : Option Event) (old new : List Event) → MatchOption found (old ≡ []) (λ e. old ≡ e ∷ new) → found ≡ None → old ≡ []
took_none None old new h is = h
took_none (Some e) old new h is = absurd cc

-- memory is wanted before a text is written, and while it is
pub wants : {old new : Option (List ℕ)} {failed : Bool} {text : List ℕ} (result : Result (Unit {0}) TextFault) → IsErrAnd result (λ fault. fault ≡ faults.Memory) → BreaksOff faults.Memory old new failed text → Writes old new failed result text
wants result answered broke = let p = err_from_is_err_and result answered in rw (p.1, p.2) broke

pub going_wants : {old new : Option (List ℕ)} {failed : Bool} {text rest : List ℕ} → IsGoing old new failed text rest → BreaksOff faults.Memory old new failed text
going_wants {rest = rest} going = (going.sound, record { front = going.front; rest = rest; parts = going.parts; appends = going.appends })
