-- The script of a run: its configuration, and what happened, as core events.
--     event_text event               an event, an array of words, numbers and bytes
--     script_text config events      the whole text, one event a line
--     replay config events           what it says
--     SaysReplay text config events  the text is JSON of a value that says that
--     IsReplayIn text config events  whatever reading the text yields is that, or memory ran out
use Rattle.std.specs.Prelude.{◌≡◌, ℕ, List, [], ◌∷◌, ◌++◌, map, codes, decimal, flat_map, Result, Ok, Err}
use Rattle.std.specs.List.{join_with_byte}
use Rattle.serde_json.specs.Data.{Data}
use Rattle.cast_message.specs.declared.config.Config.{Config as Checked}
use Rattle.cast_message.specs.declared.event.Event.{Event}
use Rattle.cast_message.specs.declared.event.Event.TheVariants.{Order, Send, Ack, Arrive, Crash}
use Rattle.cast_message.specs.declared.message.Item.{Item}
use Rattle.cast_message.specs.declared.message.Item.TheVariants.{Data as Bytes, Propose, Close}
use Rattle.cast_record.specs.Hex.{hex}
use Rattle.cast_record.specs.Modes.{mode_word}
use Rattle.cast_script.specs.declared.script.Script.{Script}
use Rattle.cast_script.specs.declared.script.ScriptEvent.TheVariants.{Core}
use Rattle.cast_script.specs.declared.script.ScriptFault.{ScriptFault}
use Rattle.cast_script.specs.declared.script.ScriptFault.TheVariants.{Memory}
use Rattle.cast_script.specs.Script.{Said, settings_in, said, script_of, IsValue, Reads}

-- What is at a place of an array, or is the value of a member.
pub data Atom : Type 0 where
  word : List ℕ → Atom
  number : ℕ → Atom
  digits : List ℕ → Atom

-- a word between quotes
abbrev pub word_text : List ℕ → List ℕ
word_text s = 34 ∷ s ++ 34 ∷ []

abbrev pub atom_text : Atom → List ℕ
atom_text (word s) = word_text s
atom_text (number n) = decimal n
atom_text (digits bytes) = word_text (hex bytes)

abbrev pub item_atoms : Item → List Atom
item_atoms (Bytes payload) = word (codes "data") ∷ digits payload ∷ []
item_atoms (Propose instance value) = word (codes "propose") ∷ number instance ∷ number value ∷ []
item_atoms Close = word (codes "close") ∷ []

abbrev pub event_atoms : Event → List Atom
event_atoms (Order node item) = word (codes "order") ∷ number node ∷ item_atoms item
event_atoms (Send from to slot) = word (codes "send") ∷ number from ∷ number to ∷ number slot ∷ []
event_atoms (Ack from to slot) = word (codes "ack") ∷ number from ∷ number to ∷ number slot ∷ []
event_atoms (Arrive from seq) = word (codes "arrive") ∷ number from ∷ number seq ∷ []
event_atoms (Crash node) = word (codes "crash") ∷ number node ∷ []

abbrev pub event_text : Event → List ℕ
event_text event = 91 ∷ join_with_byte 44 (map atom_text (event_atoms event)) ++ 93 ∷ []

-- the events after the first, each on its own line
abbrev pub others_text : List Event → List ℕ
others_text events = flat_map (λ event. 44 ∷ 10 ∷ event_text event) events

abbrev pub events_text : List Event → List ℕ
events_text [] = []
events_text (event ∷ events) = 10 ∷ event_text event ++ others_text events

-- the members that are no lists
abbrev pub members : Checked → List (List ℕ × Atom)
members config =
    (codes "nodes", number config.nodes)
    ∷ (codes "faults", number config.faults)
    ∷ (codes "choices", number config.choices)
    ∷ (codes "item_limit", number config.item_limit)
    ∷ (codes "log_limit", number config.log_limit)
    ∷ (codes "box_size", number config.box_size)
    ∷ (codes "first_stamp", number config.first_stamp)
    ∷ (codes "mode", word (mode_word config.mode))
    ∷ []

-- a member, and the comma after it
abbrev pub member_text : List ℕ × Atom → List ℕ
member_text member = word_text member.0 ++ (58 ∷ (atom_text member.1 ++ 44 ∷ []))

abbrev pub members_text : List (List ℕ × Atom) → List ℕ
members_text list = flat_map member_text list

abbrev pub script_text : Checked → List Event → List ℕ
script_text config events =
    123 ∷ members_text (members config)
    ++ (codes "\"events\":[" ++ (events_text events ++ codes "\n]}"))

-- ---- what the text says

-- the configuration and the events, and the defaults of the members that are absent
abbrev pub replay : Checked → List Event → Said
replay config events = record {
  settings = settings_in config 4000000;
  events = map Core events;
  plan = [];
  jobs = [];
}

-- the text is JSON of a value that says that
pub record SaysReplay (text : List ℕ) (config : Checked) (events : List Event) : Type 0 where
  pub value : Data
  pub is : IsValue text value
  pub says : script_of value ≡ Ok (replay config events)

-- the script is that, or memory ran out
abbrev pub IsReplay : Checked → List Event → Result Script ScriptFault → Type 0
IsReplay config events (Ok script) = said script ≡ replay config events
IsReplay config events (Err fault) = fault ≡ Memory

-- whatever reading the text yields is that, and reading may yield it
abbrev pub IsReplayIn : List ℕ → Checked → List Event → Type 0
IsReplayIn text config events =
    (result : Result Script ScriptFault) → Reads result text → IsReplay config events result
