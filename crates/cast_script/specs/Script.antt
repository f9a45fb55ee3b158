-- The script that a text is, or why it is none.
--     script_of d            what the value d says as a script, or the fault
--     said script            what a script says
--     Reads result bytes     the result is what the bytes say
use Rattle.std.specs.Prelude.{◌≡◌, ℕ, ◌+◌, ◌<◌, List, length, codes, if◌then◌else◌, Option, Some, None, Result, Ok, Err, IsUtf8}
use Rattle.serde_json.specs.Data.{Data}
use Rattle.serde_json.specs.Read.{read}
use Rattle.cast_message.specs.Limits.{first_config_fault}
use Rattle.cast_message.specs.Settings.{causes_of}
use Rattle.cast_message.specs.declared.config.Config.{Config as Checked}
use Rattle.cast_message.specs.declared.config.ConfigFault.{ConfigFault}
use Rattle.cast_message.specs.declared.message.Item.{Item}
use Rattle.cast_script.specs.declared.script.Script.{Script}
use Rattle.cast_script.specs.declared.script.ScriptEvent.{ScriptEvent}
use Rattle.cast_message.specs.declared.settings.Settings.{Settings}
use Rattle.cast_script.specs.declared.script.RunSettings.{RunSettings}
use Rattle.cast_message.specs.declared.plan.Fault.{Fault}
use Rattle.cast_script.specs.declared.script.ScriptFault.{ScriptFault}
use Rattle.cast_script.specs.declared.script.ScriptFault.TheVariants.{NotJson, Shape, Config, Memory}
use Rattle.cast_script.specs.Faults.{◌>>=◌, elements_from}
use Rattle.cast_script.specs.Element.{event_of, fault_of, job_of}
use Rattle.cast_script.specs.Members.{has_known_members, settings_of, list_of}

-- What a script says, without the proofs that its configuration is within the limits.
pub record Said : Type 0 where
  pub settings : RunSettings
  pub events : List ScriptEvent
  pub plan : List Fault
  pub jobs : List (ℕ × List Item)

-- the values of a configuration
abbrev pub group_in : Checked → Settings
group_in config = record {
  nodes = config.nodes;
  faults = config.faults;
  choices = config.choices;
  item_limit = config.item_limit;
  log_limit = config.log_limit;
  box_size = config.box_size;
  first_stamp = config.first_stamp;
  mode = config.mode;
}

-- these, and the turns
abbrev pub settings_in : Checked → ℕ → RunSettings
settings_in config turns = record { group = group_in config; turns = turns }

abbrev pub said : Script → Said
said script = record {
  settings = settings_in script.config script.turns;
  events = script.events;
  plan = script.plan.faults;
  jobs = script.jobs;
}

-- no fault, or the fault
abbrev pub unless : Option ConfigFault → RunSettings → Result RunSettings ScriptFault
unless None settings = Ok settings
unless (Some fault) settings = Err (Config fault)

-- the settings, if they are within the limits of a configuration
abbrev pub checked : RunSettings → Result RunSettings ScriptFault
checked settings = unless (first_config_fault (causes_of settings.group)) settings

-- a member of the wrong kind, or absent though it is needed
abbrev pub or_whole : {A : Type 0} → Option A → Result A ScriptFault
or_whole None = Err (Shape 0)
or_whole (Some x) = Ok x

-- What the settings and the values in the three lists say. The elements are counted on from 1, and all of them are tried
-- before the limits of the configuration.
unfoldable pub script_in : RunSettings → List Data → List Data → List Data → Result Said ScriptFault
script_in settings events plan jobs = do
  happens ← elements_from event_of 1 events
  faults ← elements_from fault_of (1 + length events) plan
  clients ← elements_from job_of (1 + length events + length plan) jobs
  within ← checked settings
  Ok (record { settings = within; events = happens; plan = faults; jobs = clients })

-- what a value says
unfoldable pub script_of : Data → Result Said ScriptFault
script_of d = if has_known_members d then (do
  settings ← or_whole (settings_of d)
  events ← or_whole (list_of (codes "events") d)
  plan ← or_whole (list_of (codes "plan") d)
  jobs ← or_whole (list_of (codes "jobs") d)
  script_in settings events plan jobs) else Err (Shape 0)

-- the bytes are a text that is this value
abbrev pub IsValue : List ℕ → Data → Type 0
IsValue bytes d = IsUtf8 bytes × (read bytes ≡ Some d)

-- what the bytes say; memory may run out for any bytes, if there are some
abbrev pub Reads : Result Script ScriptFault → List ℕ → Type 0
Reads (Ok script) bytes = (d : Data) × IsValue bytes d × (script_of d ≡ Ok (said script))
Reads (Err NotJson) bytes = (d : Data) → IsValue bytes d → ⊥
Reads (Err (Shape index)) bytes = (d : Data) × IsValue bytes d × (script_of d ≡ Err (Shape index))
Reads (Err (Config fault)) bytes = (d : Data) × IsValue bytes d × (script_of d ≡ Err (Config fault))
Reads (Err Memory) bytes = 0 < length bytes
