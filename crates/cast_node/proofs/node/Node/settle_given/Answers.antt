use Rattle.std.proofs.Common.{◌∙◌, ◌+◌, arith, ap, sym, subst}
use Rattle.std.specs.Prelude.{is_some}
use Rattle.cast_message.specs.declared.message.Message.{Message}
use Rattle.cast_message.specs.declared.message.Item.TheVariants.{Close}
use Rattle.cast_node.specs.Outgoing.{links_of}
use Rattle.cast_node.specs.Settling.{MaySettle, SettlesGiven}
use Rattle.cast_node.specs.Sound.{slots_of}
use Rattle.cast_node.proofs.Settling.{owed, told, settles_given}
use Rattle.cast_node.proofs.Wholes.{whole, send_fine, word_keeps}
use Rattle.cast_node.proofs.node.Node.settle_given.Goals as goal

pub add_knower-requires-clause-node : goal.add_knower-requires-clause-node
add_knower-requires-clause-node c =
    let inside = (send_fine _ c.args.to c.args.slot (subst (λ k. MaySettle k c.args.to c.args.slot c.args.sent.now.sender c.args.sent.now.number) (sym c.self.view_is) c.requires).clear).0 in
    let range = c.self.inside.config.nodes_in_range in
    omega (arith, inside, range)

pub acknowledge-requires-clause-to : goal.acknowledge-requires-clause-to
acknowledge-requires-clause-to c =
    let inside = (send_fine _ c.args.to c.args.slot (subst (λ k. MaySettle k c.args.to c.args.slot c.args.sent.now.sender c.args.sent.now.number) (sym c.self.view_is) c.requires).clear).0 in
    let peers = c.self.invariant.peers_out in
    omega (arith, inside, peers)

pub acknowledge-requires-clause-owed : goal.acknowledge-requires-clause-owed
acknowledge-requires-clause-owed c =
    let kept = whole c.self.inside.config c.self.inside.me c.self.inside.live c.self.inside.frames c.self.inside.stream.items (links_of c.self.inside.outgoing) (slots_of c.self.inside.incoming.items) c.self.inside.deliveries in
    ap is_some (owed kept c.args.to c.args.slot c.args.sent.now.sender c.args.sent.now.number (subst (λ k. MaySettle k c.args.to c.args.slot c.args.sent.now.sender c.args.sent.now.number) (sym c.self.view_is) c.requires))

pub overflow_add-self : goal.overflow_add-self
overflow_add-self c =
    let few = (send_fine _ c.args.to c.args.slot (subst (λ k. MaySettle k c.args.to c.args.slot c.args.sent.now.sender c.args.sent.now.number) (sym c.self.view_is) c.requires).clear).1 in
    omega (arith, few)

pub invariant_of-self : goal.invariant_of-self
invariant_of-self c =
    let kept = whole c.self.inside.config c.self.inside.me c.self.inside.live c.self.inside.frames c.self.inside.stream.items (links_of c.self.inside.outgoing) (slots_of c.self.inside.incoming.items) c.self.inside.deliveries in
    let may = subst (λ k. MaySettle k c.args.to c.args.slot c.args.sent.now.sender c.args.sent.now.number) (sym c.self.view_is) c.requires in
    let message : Message = record { sender = c.args.sent.now.sender; number = c.args.sent.now.number; item = Close } in
    word_keeps c.self.invariant c.args.to c.args.slot message (links_of c.acknowledge.new.self) c.acknowledge.ensures _ c.add_knower.new.self (c.add_knower.ensures ∙ (told kept c.args.to c.args.slot c.args.sent.now.sender c.args.sent.now.number may).0)

pub returns : goal.returns
returns c =
    let kept = whole c.self.inside.config c.self.inside.me c.self.inside.live c.self.inside.frames c.self.inside.stream.items (links_of c.self.inside.outgoing) (slots_of c.self.inside.incoming.items) c.self.inside.deliveries in
    let may = subst (λ k. MaySettle k c.args.to c.args.slot c.args.sent.now.sender c.args.sent.now.number) (sym c.self.view_is) c.requires in
    subst (λ k. SettlesGiven k c.args.to c.args.slot (whole c.self.inside.config c.self.inside.me c.self.inside.live (c.self.inside.frames + 1) c.self.inside.stream.items (links_of c.acknowledge.new.self) (slots_of c.self.inside.incoming.items) c.add_knower.new.self)) c.self.view_is
    (settles_given kept c.args.to c.args.slot c.args.sent.now.sender c.args.sent.now.number may (links_of c.acknowledge.new.self) c.add_knower.new.self c.acknowledge.ensures c.add_knower.ensures)
