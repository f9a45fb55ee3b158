use Rattle.std.proofs.Common.{◌∙◌, sym, ap}
use Rattle.std.specs.Prelude.{is_some}
use Rattle.std.specs.Option.{option_copied}
use Rattle.cast_node.specs.Outgoing.{links_of}
use Rattle.cast_node.proofs.Wholes.{word_keeps}
use Rattle.cast_node.proofs.node.Node.take_acknowledged.Goals as goal

pub acknowledge-requires-clause-owed : goal.acknowledge-requires-clause-owed
acknowledge-requires-clause-owed c = ap is_some (sym c.message.ensures ∙ ap option_copied c.in-Some.is)

pub invariant_of-self-2 : goal.invariant_of-self-2
invariant_of-self-2 c = word_keeps c.self.invariant c.args.from c.args.slot c.in-Some.message.now (links_of c.acknowledge.new.self) c.acknowledge.ensures c.knowers_with-knowers.result c.tell.new.self c.in_ok-outcome.ensures.ok
