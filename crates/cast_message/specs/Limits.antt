-- The limits of a configuration and of a group, which this project sets for itself.
--     first_config_fault (config_causes ..)   the first value outside its limits
--     config_code fault                       the number of that refusal
--     most_nodes, most_items, most_entries, most_places, payload_limit, frame_limit
--                                             the limits themselves
use Rattle.std.specs.Prelude.{◌*◌, ℕ, Bool, not, ◌&&◌, nat_le, if◌then◌else◌, List, [], ◌∷◌, Option, Some, None}
use Rattle.cast_message.specs.declared.config.ConfigFault.{ConfigFault}
use Rattle.cast_message.specs.declared.config.ConfigFault.TheVariants.{Nodes, Faults, Choices, ItemLimit, LogLimit, BoxSize, Mode as NotUniform}
use Rattle.cast_message.specs.declared.config.Mode.{Mode}
use Rattle.cast_message.specs.declared.config.Mode.TheVariants.{Basic, Uniform}

-- this many times the faults must be fewer than the nodes in a mode
abbrev pub fault_factor : Mode → ℕ
fault_factor Basic = 0
fault_factor Uniform = 2

-- why a configuration may be refused: whether the cause holds, and the refusal
pub record ConfigCause : Type 0 where
  pub holds : Bool
  pub refusal : ConfigFault

abbrev pub is_outside : ℕ → ℕ → ℕ → Bool
is_outside low high n = not (nat_le low n && nat_le n high)

unfoldable pub first_config_fault : List ConfigCause → Option ConfigFault
first_config_fault [] = None
first_config_fault (cause ∷ causes) = if cause.holds then Some cause.refusal else first_config_fault causes

-- the most nodes in a group
abbrev pub most_nodes : ℕ
most_nodes = 64

-- the causes of the counts of nodes, before others
abbrev pub count_causes : ℕ → ℕ → ℕ → List ConfigCause → List ConfigCause
count_causes nodes faults choices others =
    record { holds = is_outside 1 most_nodes nodes; refusal = Nodes }
    ∷ record { holds = nat_le nodes faults; refusal = Faults }
    ∷ record { holds = is_outside 1 nodes choices; refusal = Choices }
    ∷ others

-- the most items in a stream, entries in the log of a running node, and items in a box between threads
abbrev pub most_items : ℕ
most_items = 4096

abbrev pub most_entries : ℕ
most_entries = 65536

abbrev pub most_places : ℕ
most_places = 4096

-- the causes of the sizes, before others
abbrev pub size_causes : ℕ → ℕ → ℕ → List ConfigCause → List ConfigCause
size_causes item_limit log_limit box_size others =
    record { holds = is_outside 1 most_items item_limit; refusal = ItemLimit }
    ∷ record { holds = is_outside 1 most_entries log_limit; refusal = LogLimit }
    ∷ record { holds = is_outside 1 most_places box_size; refusal = BoxSize }
    ∷ others

-- the causes, in the order in which they are tried
unfoldable pub config_causes : ℕ → ℕ → ℕ → ℕ → ℕ → ℕ → Mode → List ConfigCause
config_causes nodes faults choices item_limit log_limit box_size mode =
    count_causes nodes faults choices (size_causes item_limit log_limit box_size
    (record { holds = nat_le nodes (fault_factor mode * faults); refusal = NotUniform } ∷ []))

abbrev pub config_code : ConfigFault → ℕ
config_code Nodes = 1
config_code Faults = 2
config_code Choices = 3
config_code ItemLimit = 4
config_code LogLimit = 5
config_code BoxSize = 6
config_code NotUniform = 7

-- the most bytes in a payload
abbrev pub payload_limit : ℕ
payload_limit = 1024

-- the most frames that a node makes
abbrev pub frame_limit : ℕ
frame_limit = 1048576
