-- The first of all steps that are left of logs is that at hand with the least stamp, of equal ones the first log's.
use Rattle.std.proofs.Common.{◌≡◌, ℕ, zero, suc, ◌+◌, ◌-◌, ◌<◌, ◌≤◌, refl, sym, ◌∙◌, ap, subst, List, [], ◌∷◌, ◌++◌, length, map, take, get_or, Option, inl, inr, arith, drop, slice_get, Some, None, Bool, true, false}
use Rattle.std.specs.Prelude.{slice_index_or, slice_set}
use Rattle.std.specs.List.{remove}
use Rattle.std.proofs.lemmas.Bool.{cases_lt}
use Rattle.std.proofs.lemmas.List.{map-append, take_more}
use Rattle.cast_message.specs.declared.event.Event.{Event}
use Rattle.cast_message.specs.declared.event.Outcome.{Outcome}
use Rattle.cast_message.specs.declared.event.StepFault.{StepFault}
use Rattle.cast_log.specs.declared.entry.Entry.{Entry}
use Rattle.cast_log.specs.declared.entry.Origin.{Origin}
use Rattle.cast_log.specs.declared.entry.EntryKind.{EntryKind}
use Rattle.cast_log.specs.Logged.{is_step, step_event}
use Rattle.cast_log.specs.declared.entry.EntryKind.TheVariants.{Step as StepEntry, Refused}
use Rattle.cast_node.specs.declared.report.NodeReport.{NodeReport}
use Rattle.cast_node.specs.Linked.{taken_of, taken}
use Rattle.cast_merge.specs.declared.merge.First.{First}
use Rattle.cast_merge.specs.declared.merge.Front.{Front}
use Rattle.cast_merge.specs.ByStamp.{LoggedStep, merge, stamp_of, without_outcome, logged_steps, merged_logs, logs_of}
use Rattle.cast_merge.specs.Fronts.{event_or, event_there, IsStep, HasStamp, first_step, entries_left, steps_left, merged_left, IsFirst, AreFirsts}
use Rattle.cast_merge.proofs.Regrouping.{merge-nil, second_first, first_first, merge-assoc, merged_halves, merged_one}

-- none of them goes before a step with this stamp, for the first doesn't
abbrev NotBefore : ℕ → List LoggedStep → Type 0
NotBefore n [] = Unit {0}
NotBefore n (y ∷ ys) = n ≤ y.stamp

goes_first : (x : LoggedStep) (xs ys : List LoggedStep) → NotBefore x.stamp ys → merge stamp_of (x ∷ xs) ys ≡ x ∷ merge stamp_of xs ys
goes_first x xs [] h = merge-nil stamp_of (x ∷ xs) ∙ ap (λ all. x ∷ all) (sym (merge-nil stamp_of xs))
goes_first x xs (y ∷ ys) h = first_first stamp_of x y xs ys h

not_before-merge : (n : ℕ) (x : LoggedStep) (xs ys : List LoggedStep) → n ≤ x.stamp → NotBefore n ys → NotBefore n (merge stamp_of (x ∷ xs) ys)
not_before-merge n x xs [] l h = subst (NotBefore n) (sym (merge-nil stamp_of (x ∷ xs))) l
not_before-merge n x xs (y ∷ ys) l h = elim (cases_lt (stamp_of y) (stamp_of x)) [
  | inl m ↦ subst (NotBefore n) (sym (second_first stamp_of x y xs ys m)) h
  | inr m ↦ subst (NotBefore n) (sym (first_first stamp_of x y xs ys m)) l
]

not_before-left : (n : ℕ) (fronts : List Front) → ((k : ℕ) (d : Front) → k < length fronts → n ≤ (slice_index_or fronts k d).stamp) → NotBefore n (merged_left fronts)
unfolding merged_left
not_before-left n [] each = record {}
not_before-left n (f ∷ fronts) each =
    not_before-merge n (first_step f) (logged_steps (entries_left f)) (merged_left fronts) (each zero f (omega arith)) (not_before-left n fronts (λ k d l. each (suc k) d (omega (arith, l))))

-- what is left once the step at hand of the first front is taken
head_taken : (f : Front) (fronts : List Front) → IsFirst (f ∷ fronts) zero → merged_left (f ∷ fronts) ≡ first_step f ∷ merge stamp_of (logged_steps (entries_left f)) (merged_left fronts)
unfolding merged_left
head_taken f fronts first =
    goes_first (first_step f) (logged_steps (entries_left f)) (merged_left fronts) (not_before-left f.stamp fronts (λ k d l. first.later (suc k) d (omega arith) (omega (arith, l))))

-- and that of a later one
later_taken : (g f : Front) (fronts rest : List Front) → f.stamp < g.stamp → merged_left fronts ≡ first_step f ∷ merged_left rest → merged_left (g ∷ fronts) ≡ first_step f ∷ merged_left (g ∷ rest)
unfolding merged_left
later_taken g f fronts rest l is = ap (merge stamp_of (steps_left g)) is ∙ second_first stamp_of (first_step g) (first_step f) (logged_steps (entries_left g)) (merged_left rest) l

first_after : (g : Front) (fronts : List Front) (place : ℕ) → IsFirst (g ∷ fronts) (suc place) → IsFirst fronts place
first_after g fronts place first = let w = first.within in record {
  within = omega (arith, w);
  earlier = λ k d l. first.earlier (suc k) d (omega (arith, l));
  later = λ k d l m. first.later (suc k) d (omega (arith, l)) (omega (arith, m));
}

smaller_stamp : (g f : Front) (fronts : List Front) (place : ℕ) → IsFirst (g ∷ fronts) (suc place) → f ≡ get_or fronts place f → f.stamp < g.stamp
smaller_stamp g f fronts place first is = subst (λ (z : Front). z.stamp < g.stamp) (sym is) (first.earlier zero f (omega arith))

-- the log has a further step
pub goes_on : (fronts : List Front) (place : ℕ) (f next : Front) → IsFirst fronts place → f ≡ get_or fronts place f → logged_steps (entries_left f) ≡ steps_left next → merged_left fronts ≡ first_step f ∷ merged_left (slice_set fronts place next)
unfolding merged_left
goes_on [] place f next first is left = let w = first.within in absurd (omega (arith, w))
goes_on (g ∷ fronts) zero f next first is left =
    head_taken g fronts first
    ∙ ap (λ (z : Front). first_step z ∷ merge stamp_of (logged_steps (entries_left z)) (merged_left fronts)) (sym is)
    ∙ ap (λ steps. first_step f ∷ merge stamp_of steps (merged_left fronts)) left
goes_on (g ∷ fronts) (suc place) f next first is left =
    later_taken g f fronts (slice_set fronts place next) (smaller_stamp g f fronts place first is) (goes_on fronts place f next (first_after g fronts place first) is left)

-- that was its last
pub ends_there : (fronts : List Front) (place : ℕ) (f : Front) → IsFirst fronts place → f ≡ get_or fronts place f → logged_steps (entries_left f) ≡ [] → merged_left fronts ≡ first_step f ∷ merged_left (remove fronts place)
unfolding merged_left merge
ends_there [] place f first is left = let w = first.within in absurd (omega (arith, w))
ends_there (g ∷ fronts) zero f first is left =
    head_taken g fronts first
    ∙ ap (λ (z : Front). first_step z ∷ merge stamp_of (logged_steps (entries_left z)) (merged_left fronts)) (sym is)
    ∙ ap (λ steps. first_step f ∷ merge stamp_of steps (merged_left fronts)) left
ends_there (g ∷ fronts) (suc place) f first is left =
    later_taken g f fronts (remove fronts place) (smaller_stamp g f fronts place first is) (ends_there fronts place f (first_after g fronts place first) is left)

-- one log more is read
left-push : (fronts : List Front) (f : Front) → merged_left (fronts ++ f ∷ []) ≡ merge stamp_of (merged_left fronts) (steps_left f)
unfolding merged_left merge
left-push [] f = merge-nil stamp_of (steps_left f)
left-push (g ∷ fronts) f = ap (merge stamp_of (steps_left g)) (left-push fronts f) ∙ sym (merge-assoc stamp_of (steps_left g) (merged_left fronts) (steps_left f))

logs_more : (reports : List NodeReport) (i : ℕ) (report : NodeReport) → i < length reports → report ≡ get_or reports i report
    → merged_logs (logs_of (take (i + 1) reports)) ≡ merge stamp_of (merged_logs (logs_of (take i reports))) (logged_steps report.log)
logs_more reports i report l is =
    ap (λ all. merged_logs (logs_of all)) (take_more reports i report l ∙ ap (λ x. take i reports ++ x ∷ []) (sym is))
    ∙ ap merged_logs (map-append (λ (report : NodeReport). report.log) (take i reports) (report ∷ []))
    ∙ merged_halves (logs_of (take i reports)) (report.log ∷ [])
    ∙ ap (merge stamp_of (merged_logs (logs_of (take i reports)))) (merged_one report.log)

pub read_more : (reports : List NodeReport) (i : ℕ) (report : NodeReport) (fronts pushed : List Front) (f : Front) → i < length reports → report ≡ get_or reports i report → pushed ≡ fronts ++ f ∷ []
    → logged_steps report.log ≡ steps_left f → merged_left fronts ≡ merged_logs (logs_of (take i reports)) → merged_left pushed ≡ merged_logs (logs_of (take (i + 1) reports))
read_more reports i report fronts pushed f l is push left h =
    ap merged_left push ∙ left-push fronts f ∙ ap (λ all. merge stamp_of all (steps_left f)) h ∙ ap (merge stamp_of (merged_logs (logs_of (take i reports)))) (sym left) ∙ sym (logs_more reports i report l is)

pub read_none : (reports : List NodeReport) (i : ℕ) (report : NodeReport) (fronts : List Front) → i < length reports → report ≡ get_or reports i report
    → logged_steps report.log ≡ [] → merged_left fronts ≡ merged_logs (logs_of (take i reports)) → merged_left fronts ≡ merged_logs (logs_of (take (i + 1) reports))
read_none reports i report fronts l is none h =
    h ∙ sym (merge-nil stamp_of (merged_logs (logs_of (take i reports)))) ∙ ap (merge stamp_of (merged_logs (logs_of (take i reports)))) (sym none) ∙ sym (logs_more reports i report l is)

-- no group is left
pub none_first : (fronts : List Front) (firsts : List First) → AreFirsts fronts firsts → length firsts ≡ 0 → length fronts ≡ 0
none_first fronts firsts are none = let a = are.all in omega (arith, a, none)

-- a log whose first entry tells a step, and one whose first entry tells none
pub begins_with_step : (log rest : List Entry) (e : Entry) (event : Event) (origin : Option Origin) (outcome : Outcome) → log ≡ e ∷ rest → e.kind ≡ StepEntry event origin outcome
    → logged_steps log ≡ record { stamp = e.stamp; event = event } ∷ logged_steps rest
unfolding taken
begins_with_step log rest e event origin outcome is kind = ap logged_steps is ∙ ap (λ k. map without_outcome (taken_of e.stamp k ++ taken rest)) kind

pub begins_with_none : (log rest : List Entry) (e : Entry) (origin : Origin) (fault : StepFault) → log ≡ e ∷ rest → e.kind ≡ Refused origin fault → logged_steps rest ≡ logged_steps log
unfolding taken
begins_with_none log rest e origin fault is kind = sym (ap logged_steps is ∙ ap (λ k. map without_outcome (taken_of e.stamp k ++ taken rest)) kind)

pub tells_none : (log : List Entry) → length log ≡ 0 → logged_steps log ≡ []
unfolding taken
tells_none [] none = refl
tells_none (e ∷ log) none = absurd (omega (arith, none))

-- what is left of a log from an entry on begins with it
pub begins_at : (log : List Entry) (i : ℕ) (e : Entry) → slice_get log i ≡ Some e → drop i log ≡ e ∷ drop (i + 1) log
begins_at [] i e at = absurd cc
begins_at (x ∷ log) zero e at = let same : x ≡ e = cc in ap (λ y. y ∷ log) same
begins_at (x ∷ log) (suc i) e at = let same : suc (i + 1) ≡ suc i + 1 = omega arith in begins_at log i e at ∙ ap (λ n. e ∷ drop n (x ∷ log)) same

-- a step, or a refused order, is there or is not
pub step_left : (log : List Entry) (i stamp : ℕ) (e : Entry) (kind : EntryKind) → slice_get log i ≡ Some e → e.kind ≡ kind → true ≡ is_step kind → stamp ≡ e.stamp
    → logged_steps (drop i log) ≡ record { stamp = stamp; event = event_there (slice_get log (i + 1 - 1)) } ∷ logged_steps (drop (i + 1) log)
step_left log i stamp e (StepEntry event origin outcome) at tells is stamps =
    let back : i + 1 - 1 ≡ i = omega arith in
    let there : event_there (slice_get log (i + 1 - 1)) ≡ event = ap (λ n. event_there (slice_get log n)) back ∙ ap event_there at ∙ ap (λ k. event_or (step_event k)) tells in
    begins_with_step (drop i log) (drop (i + 1) log) e event origin outcome (begins_at log i e at) tells
    ∙ (λ j. record { stamp = sym stamps j; event = sym there j } ∷ logged_steps (drop (i + 1) log))
step_left log i stamp e (Refused origin fault) at tells is stamps = absurd cc

pub refusal_left : (log : List Entry) (i : ℕ) (e : Entry) (kind : EntryKind) → slice_get log i ≡ Some e → e.kind ≡ kind → false ≡ is_step kind
    → logged_steps (drop (i + 1) log) ≡ logged_steps (drop i log)
refusal_left log i e (StepEntry event origin outcome) at tells is = absurd cc
refusal_left log i e (Refused origin fault) at tells is = begins_with_none (drop i log) (drop (i + 1) log) e origin fault (begins_at log i e at) tells

pub step_there : (log : List Entry) (i stamp : ℕ) (found : Option Entry) (is : Bool) → slice_get log i ≡ found → IsStep is found → is ≡ true → HasStamp stamp found
    → logged_steps (drop i log) ≡ record { stamp = stamp; event = event_there (slice_get log (i + 1 - 1)) } ∷ logged_steps (drop (i + 1) log)
step_there log i stamp None is at step holds stamps = absurd step
step_there log i stamp (Some e) is at step holds stamps = step_left log i stamp e e.kind at refl (sym holds ∙ step) stamps

pub none_there : (log : List Entry) (i : ℕ) (found : Option Entry) (is : Bool) → slice_get log i ≡ found → IsStep is found → is ≡ false
    → logged_steps (drop (i + 1) log) ≡ logged_steps (drop i log)
none_there log i None is at step no_step = absurd step
none_there log i (Some e) is at step no_step = refusal_left log i e e.kind at refl (sym no_step ∙ step)

-- and from its end on nothing is left
pub left_none : (log : List Entry) (i : ℕ) → length log ≤ i → logged_steps (drop i log) ≡ []
unfolding taken
left_none [] zero past = refl
left_none [] (suc i) past = refl
left_none (x ∷ log) zero past = absurd (omega arith)
left_none (x ∷ log) (suc i) past = left_none log i (omega arith)

-- no log
pub none_left : (fronts : List Front) → length fronts ≡ 0 → merged_left fronts ≡ []
unfolding merged_left
none_left [] none = refl
none_left (f ∷ fronts) none = absurd (omega (arith, none))

pub none_read : (fronts : List Front) → fronts ≡ [] → merged_left fronts ≡ merged_logs []
unfolding merged_left merged_logs
none_read fronts is = ap merged_left is
