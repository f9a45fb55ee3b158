-- What a new peer is.
--     IsNew config group me peer      it has done nothing, and has these numbers
--     no_node_of config me            why there is none: there is no such node, or memory ran out
use Rattle.std.specs.Prelude.{◌≡◌, ℕ, ◌-◌, ◌^◌, nat_lt, if◌then◌else◌}
use Rattle.cast_message.specs.declared.config.Config.{Config}
use Rattle.cast_message.specs.declared.event.StepFault.{StepFault}
use Rattle.cast_message.specs.declared.event.StepFault.TheVariants.{NoNode, Memory}
use Rattle.cast_peer.specs.Peers.{begun}
use Rattle.cast_peer.specs.declared.peer.Peer.{Peer}

pub record IsNew (config : Config) (group me : ℕ) (peer : Peer) : Type 0 where
  pub config_is : peer.config ≡ config
  pub group_is : peer.group ≡ group
  pub journal_is : peer.journal ≡ begun config me (2 ^ 64 - 1)

abbrev pub no_node_of : Config → ℕ → StepFault
no_node_of config me = if nat_lt me config.nodes then Memory else NoNode
