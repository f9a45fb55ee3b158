-- A part of a script that is refused.
use Rattle.std.proofs.Common.{◌≡◌, ℕ, ◌+◌, ◌<◌, List, [], ◌∷◌, length, Option, Some, None, Result, Ok, Err, refl, sym, ap, ◌∙◌, subst, arith}
use Rattle.json.specs.Json.{value}
use Rattle.json.specs.Lex.{lex, punctuate}
use Rattle.serde_json.specs.Data.{Data}
use Rattle.serde_json.specs.Read.{read}
use Rattle.cast_message.specs.Limits.{first_config_fault}
use Rattle.cast_message.specs.Settings.{causes_of}
use Rattle.cast_message.specs.declared.config.ConfigFault.{ConfigFault}
use Rattle.cast_message.specs.declared.message.Item.{Item}
use Rattle.cast_script.specs.declared.script.ScriptEvent.{ScriptEvent}
use Rattle.cast_script.specs.declared.script.RunSettings.{RunSettings}
use Rattle.cast_message.specs.declared.plan.Fault.{Fault}
use Rattle.cast_script.specs.declared.script.ScriptFault.{ScriptFault}
use Rattle.cast_script.specs.declared.script.ScriptFault.TheVariants.{NotJson, Shape, Config, Memory}
use Rattle.cast_script.specs.Faults.{◌>>=◌, elements_from, Refuses}
use Rattle.cast_script.specs.Element.{event_of, fault_of, job_of}
use Rattle.cast_script.specs.Script.{unless, checked, script_in, IsValue}

-- the fault of a part is that of the whole
part_refused : {A B : Type 0} (fault : ScriptFault) (part : Result A ScriptFault) (next : A → Result B ScriptFault) → Refuses fault part → Refuses fault (part >>= next)
part_refused NotJson part next h = absurd h
part_refused (Shape index) part next h = rw h refl
part_refused (Config cause) part next h = rw h refl
part_refused Memory part next h = tt

pub jobs_refused : (settings : RunSettings) (es fs js : List Data) (events : List ScriptEvent) (faults : List Fault) (m n : ℕ) (fault : ScriptFault)
    → m ≡ 1 + length es → n ≡ 1 + length es + length fs
    → elements_from event_of 1 es ≡ Ok events → elements_from fault_of m fs ≡ Ok faults
    → Refuses fault (elements_from job_of n js) → Refuses fault (script_in settings es fs js)
unfolding script_in
jobs_refused settings es fs js events faults m n fault first_fault first_job events_read faults_read refused =
    let faults_read' = rw first_fault at faults_read in
    let refused' = rw first_job at refused in
    rw (events_read, faults_read') (part_refused fault _ _ refused')

-- the check of a configuration has a cause for each refusal
config_cause : (settings : RunSettings) (fault : ScriptFault) → checked settings ≡ Err fault → (cause : ConfigFault) × (fault ≡ Config cause)
config_cause s fault e = by_cause (first_config_fault (causes_of s.group)) e
  where
    by_cause : (o : Option ConfigFault) → unless o s ≡ Err fault → (cause : ConfigFault) × (fault ≡ Config cause)
    by_cause None e = absurd (cc)
    by_cause (Some cause) e = (cause, cc)

pub checked_refused : (settings : RunSettings) (fault : ScriptFault) → checked settings ≡ Err fault → Refuses fault (checked settings)
checked_refused settings fault e =
    let cause = config_cause settings fault e in
    subst (λ f. Refuses f (checked settings)) (sym cause.1) (e ∙ ap Err cause.1)

pub config_refused : (settings : RunSettings) (es fs js : List Data) (events : List ScriptEvent) (faults : List Fault) (jobs : List (ℕ × List Item)) (m n : ℕ) (fault : ScriptFault)
    → m ≡ 1 + length es → n ≡ 1 + length es + length fs
    → elements_from event_of 1 es ≡ Ok events → elements_from fault_of m fs ≡ Ok faults → elements_from job_of n js ≡ Ok jobs
    → Refuses fault (checked settings) → Refuses fault (script_in settings es fs js)
unfolding script_in
config_refused settings es fs js events faults jobs m n fault first_fault first_job events_read faults_read jobs_read refused =
    let faults_read' = rw first_fault at faults_read in
    let jobs_read' = rw first_job at jobs_read in
    rw (events_read, faults_read', jobs_read') (part_refused fault _ _ refused)

-- nothing is read of an empty text
nothing_read : read [] ≡ None
unfolding lex punctuate value
nothing_read = refl

pub value_takes_bytes : (bytes : List ℕ) (d : Data) → IsValue bytes d → 0 < length bytes
value_takes_bytes [] d is = let same : None ≡ Some d = sym nothing_read ∙ is.1 in absurd (cc)
value_takes_bytes (x ∷ xs) d is = omega arith
