-- A peer with a checked configuration is one with its numbers.
use Rattle.std.proofs.Common.{Option, Some, None, ℕ}
use Rattle.std.specs.Prelude.{IsSomeAnd}
use Rattle.cast_message.specs.declared.config.Config.{Config}
use Rattle.cast_peer.specs.New.{IsNew}
use Rattle.cast_peer.specs.declared.peer.Peer.{Peer}
use Rattle.cast_c.specs.Numbers.{IsOf}
use Rattle.cast_c.specs.Peers.{IsNewPeer}
use Rattle.cast_c.specs.declared.numbers.ConfigNumbers.{ConfigNumbers}

pub of_numbers : (numbers : ConfigNumbers) (config : Config) (group me : ℕ) → IsOf numbers config → (peer : Option Peer) → IsSomeAnd peer (IsNew config group me) → IsSomeAnd peer (IsNewPeer numbers group me)
of_numbers numbers config group me same (Some peer) new = record { config = config; same = same; new = new }
of_numbers numbers config group me same None new = new
