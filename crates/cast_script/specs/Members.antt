-- The members of a script's object.
--     has_known_members d     d is an object, and has no other members than a script's
--     group_of d              the values of the configuration
--     settings_of d           what the members say that aren't lists
--     list_of name d          the values in the list of this name, or none if it is absent
use Rattle.std.specs.Prelude.{ℕ, List, [], codes, ◌||◌, ◌&&◌, Bool, true, false, Option, Some, None, option_and_then}
use Rattle.std.specs.Str.{bytes_eq}
use Rattle.serde_json.specs.Data.{Data, Members, no_members, member}
use Rattle.serde_json.specs.Find.{get, as_object, as_str}
use Rattle.cast_message.specs.declared.config.Mode.{Mode}
use Rattle.cast_message.specs.declared.config.Mode.TheVariants.{Basic}
use Rattle.cast_message.specs.declared.settings.Settings.{Settings}
use Rattle.cast_script.specs.declared.script.RunSettings.{RunSettings}
use Rattle.cast_record.specs.Modes.{mode_named}
use Rattle.cast_record.specs.Options.{◌>>=◌}
use Rattle.cast_script.specs.Element.{number_of, places_of}

abbrev pub is_member : List ℕ → Bool
is_member name =
    bytes_eq name (codes "nodes") || bytes_eq name (codes "faults")
    || bytes_eq name (codes "choices") || bytes_eq name (codes "item_limit")
    || bytes_eq name (codes "log_limit") || bytes_eq name (codes "box_size")
    || bytes_eq name (codes "first_stamp") || bytes_eq name (codes "turns")
    || bytes_eq name (codes "mode") || bytes_eq name (codes "events")
    || bytes_eq name (codes "plan") || bytes_eq name (codes "jobs")

abbrev pub all_known : Members → Bool
all_known no_members = true
all_known (member name d others) = is_member name && all_known others

abbrev pub known_in : Option Members → Bool
known_in None = false
known_in (Some members) = all_known members

abbrev pub has_known_members : Data → Bool
has_known_members d = known_in (as_object d)

-- a number that must be there
abbrev pub needed : List ℕ → Data → Option ℕ
needed name d = option_and_then number_of (get name d)

abbrev pub or_number : ℕ → Option Data → Option ℕ
or_number absent None = Some absent
or_number absent (Some d) = number_of d

-- a number, or its default if it is absent
abbrev pub number_else : List ℕ → ℕ → Data → Option ℕ
number_else name absent d = or_number absent (get name d)

abbrev pub or_basic : Option Data → Option Mode
or_basic None = Some Basic
or_basic (Some d) = option_and_then mode_named (as_str d)

abbrev pub mode_of : Data → Option Mode
mode_of d = or_basic (get (codes "mode") d)

abbrev pub or_empty : Option Data → Option (List Data)
or_empty None = Some []
or_empty (Some d) = places_of d

abbrev pub list_of : List ℕ → Data → Option (List Data)
list_of name d = or_empty (get name d)

unfoldable pub group_of : Data → Option Settings
group_of d = do
  nodes ← needed (codes "nodes") d
  faults ← needed (codes "faults") d
  choices ← needed (codes "choices") d
  item_limit ← number_else (codes "item_limit") 4096 d
  log_limit ← number_else (codes "log_limit") 65536 d
  box_size ← number_else (codes "box_size") 64 d
  first_stamp ← number_else (codes "first_stamp") 0 d
  mode ← mode_of d
  Some (record {
    nodes = nodes;
    faults = faults;
    choices = choices;
    item_limit = item_limit;
    log_limit = log_limit;
    box_size = box_size;
    first_stamp = first_stamp;
    mode = mode;
  })

unfoldable pub settings_of : Data → Option RunSettings
settings_of d = do
  group ← group_of d
  turns ← number_else (codes "turns") 4000000 d
  Some (record { group = group; turns = turns })
