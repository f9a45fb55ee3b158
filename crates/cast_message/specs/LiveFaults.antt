-- The numbers of the refusals of a group.
use Rattle.std.specs.Prelude.{ℕ}
use Rattle.cast_message.specs.declared.live_fault.LiveFault.{LiveFault}
use Rattle.cast_message.specs.declared.live_fault.LiveFault.TheVariants.{Jobs, Gates, Plan, Memory, Threads}

abbrev pub live_code : LiveFault → ℕ
live_code Jobs = 1
live_code Gates = 2
live_code Plan = 3
live_code Memory = 4
live_code Threads = 5
