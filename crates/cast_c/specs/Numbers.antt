-- The meaning of the numbers that cross to C.
--     mode_in, first_fault, first_code    a mode; the first fault of a configuration; its number
--     IsOf numbers config                 the configuration of the numbers
--     item_in, event_in                   an item and an event, with the bytes, or None if no kind has this number
--     orders_bytes event                  whether it orders bytes, which are copied before the event is taken
--     says, status_of, Tells              a verdict's numbers and status; what the export of a judged record reports
--     IsNew numbers world                 a group with this configuration in which nothing has happened
use Rattle.std.specs.Prelude.{◌≡◌, ℕ, ◌==◌, List, [], Bool, true, false, Option, None, Some, Result, Ok, Err, if◌then◌else◌}
use Rattle.std.specs.declared.alloc.AllocError.{AllocError}
use Rattle.std.specs.Option.{option_map}
use Rattle.cast_message.specs.declared.config.Config.{Config}
use Rattle.cast_message.specs.declared.config.ConfigFault.{ConfigFault}
use Rattle.cast_message.specs.declared.config.ConfigFault.TheVariants as faults
use Rattle.cast_message.specs.declared.config.Mode.{Mode}
use Rattle.cast_message.specs.declared.config.Mode.TheVariants.{Basic, Uniform}
use Rattle.cast_message.specs.Limits.{config_causes, config_code, first_config_fault}
use Rattle.cast_message.specs.declared.event.Event.{Event}
use Rattle.cast_message.specs.declared.event.Event.TheVariants.{Order, Send, Ack, Arrive, Crash}
use Rattle.cast_message.specs.declared.message.Item.{Item}
use Rattle.cast_message.specs.declared.message.Item.TheVariants.{Data, Propose, Close}
use Rattle.cast_world.specs.Group.{State, Stands}
use Rattle.cast_record.specs.declared.verdict.Verdict.{Verdict}
use Rattle.cast_record.specs.declared.verdict.Verdict.TheVariants.{Good, Bad}
use Rattle.cast_c.specs.declared.numbers.ConfigNumbers.{ConfigNumbers}
use Rattle.cast_c.specs.declared.numbers.EventNumbers.{EventNumbers}
use Rattle.cast_c.specs.declared.numbers.VerdictNumbers.{VerdictNumbers}

abbrev pub mode_in : ℕ → Option Mode
mode_in number =
    if number == 0 then Some Basic else if number == 1 then Some Uniform else None

abbrev pub fault_in : ConfigNumbers → Option Mode → Option ConfigFault
fault_in numbers None = Some faults.Mode
fault_in numbers (Some mode) = first_config_fault (config_causes numbers.nodes numbers.faults
    numbers.choices numbers.item_limit numbers.log_limit numbers.box_size mode)

abbrev pub first_fault : ConfigNumbers → Option ConfigFault
first_fault numbers = fault_in numbers (mode_in numbers.mode)

abbrev pub first_code : ConfigNumbers → Option ℕ
first_code numbers = option_map config_code (first_fault numbers)

pub record IsOf (numbers : ConfigNumbers) (config : Config) : Type 0 where
  pub nodes : config.nodes ≡ numbers.nodes
  pub faults : config.faults ≡ numbers.faults
  pub choices : config.choices ≡ numbers.choices
  pub item_limit : config.item_limit ≡ numbers.item_limit
  pub log_limit : config.log_limit ≡ numbers.log_limit
  pub box_size : config.box_size ≡ numbers.box_size
  pub first_stamp : config.first_stamp ≡ numbers.first_stamp
  pub mode : mode_in numbers.mode ≡ Some config.mode

abbrev pub item_in : EventNumbers → List ℕ → Option Item
item_in numbers bytes =
    if numbers.item == 0 then Some (Data bytes)
    else if numbers.item == 1 then Some (Propose numbers.number numbers.value)
    else if numbers.item == 2 then Some Close
    else None

abbrev pub event_in : EventNumbers → List ℕ → Option Event
event_in numbers bytes =
    if numbers.kind == 0 then option_map (Order numbers.node) (item_in numbers bytes)
    else if numbers.kind == 1 then Some (Send numbers.node numbers.to numbers.number)
    else if numbers.kind == 2 then Some (Ack numbers.node numbers.to numbers.number)
    else if numbers.kind == 3 then Some (Arrive numbers.node numbers.number)
    else if numbers.kind == 4 then Some (Crash numbers.node)
    else None

-- whether it orders bytes, which are copied before the event is taken
abbrev pub orders_bytes : Event → Bool
orders_bytes (Order node (Data bytes)) = true
orders_bytes _ = false

abbrev pub says : Verdict → VerdictNumbers
says Good = record { line = 0; rule = 0 }
says (Bad line rule) = record { line = line; rule = rule }

abbrev pub status_of : Verdict → ℕ
status_of Good = 0
status_of (Bad line rule) = 3

-- what the export of a judged record reports
abbrev pub Tells : Result Verdict AllocError → ℕ → VerdictNumbers → Type 0
Tells (Ok said) status told = (status ≡ status_of said) × (told ≡ says said)
Tells (Err refused) status told = status ≡ 5

-- a group with this configuration in which nothing has happened
pub record IsNew (numbers : ConfigNumbers) (world : State) : Type 0 where
  pub config : Config
  pub same : IsOf numbers config
  pub stands : Stands config [] world
