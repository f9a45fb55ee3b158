use Rattle.std.proofs.Common.{◌∙◌, refl, ap, length}
use Rattle.std.proofs.Math.ListN.{length-set}
use Rattle.cast_message.specs.declared.message.Message.{Message}
use Rattle.cast_node.specs.Kept.{Kept}
use Rattle.cast_node.specs.Outgoing.{links_of}
use Rattle.cast_node.specs.Sound.{slots_of}
use Rattle.cast_node.specs.Delivering.{Delivering}
use Rattle.cast_node.proofs.Parts.{slots_same, slots_taken}
use Rattle.cast_node.proofs.DeliveryTables.{told_keeps}
use Rattle.cast_node.proofs.Wholes.{keeps_rows, whole, held_again}
use Rattle.cast_node.proofs.node.Node.take_again_silently.Goals as goal

pub returns-then-is_err-clause-not : goal.returns-then-is_err-clause-not
returns-then-is_err-clause-not c _ =
    (λ k. whole c.self.inside.config c.self.inside.me c.self.inside.live c.self.inside.frames c.self.inside.stream.items (links_of c.self.inside.outgoing) (slots_same c.self.inside.incoming.items c.from-2.result c.args.from c.index_mut-link.result.now c.reserve.new.self c.index_mut-link.ensures.value c.reserve.ensures.same k) c.self.inside.deliveries) ∙ c.self.view_is

pub returns-then-not-tell_silently-clause-not : goal.returns-then-not-tell_silently-clause-not
returns-then-not-tell_silently-clause-not c _ =
    (λ k. whole c.self.inside.config c.self.inside.me c.self.inside.live c.self.inside.frames c.self.inside.stream.items (links_of c.self.inside.outgoing) (slots_same c.self.inside.incoming.items c.from-2.result c.args.from c.index_mut-link.result.now c.reserve.new.self c.index_mut-link.ensures.value c.reserve.ensures.same k) (c.tell_silently.ensures.not c.if-not-tell_silently.true k)) ∙ c.self.view_is

pub invariant_of-self-2 : goal.invariant_of-self-2
invariant_of-self-2 c =
    let done = (c.tell_silently.ensures.told c.if-not-tell_silently.false) in
    let told = told_keeps c.self.inside.config c.self.inside.deliveries c.args.sender c.args.number c.knowers_with-knowers.result in
    keeps_rows c.self.inside.config c.self.inside.me c.self.inside.stream.items c.self.inside.closed c.self.inside.proposed (links_of c.self.inside.outgoing) _ (slots_of c.self.inside.incoming.items) _ c.self.inside.deliveries c.tell_silently.new.self c.self.invariant refl
    (ap length (slots_taken c.self.inside.incoming.items c.from-2.result c.args.from c.index_mut-link.result.now c.reserve.new.self c.index_mut-link.ensures.value c.reserve.ensures.same c.self.inside.config c.args.self.now c.requires.from (ap (λ (k : Kept). k.config) c.self.view_is) c.self.invariant.peers_in (c.from-2.ensures ∙ c.from.view_is) c.args.slot c.take_reserved.new.self c.take_reserved.ensures.after) ∙ length-set (slots_of c.self.inside.incoming.items) c.args.from _)
    (ap (λ (d : Delivering). length d.hold_back) done ∙ told.0) (ap (λ (d : Delivering). length d.knowers) done ∙ told.1) c.self.invariant.owes

pub returns-clause-took : goal.returns-clause-took
returns-clause-took c item _ =
    held_again c.self.inside.config c.self.inside.me c.self.inside.live c.self.inside.frames c.self.inside.stream.items (links_of c.self.inside.outgoing) (slots_of c.self.inside.incoming.items) c.self.inside.deliveries c.args.self.now c.self.view_is c.args.from c.args.slot (let message : Message = record { sender = c.args.sender; number = c.args.number; item = item } in message) _ (slots_taken c.self.inside.incoming.items c.from-2.result c.args.from c.index_mut-link.result.now c.reserve.new.self c.index_mut-link.ensures.value c.reserve.ensures.same c.self.inside.config c.args.self.now c.requires.from (ap (λ (k : Kept). k.config) c.self.view_is) c.self.invariant.peers_in (c.from-2.ensures ∙ c.from.view_is) c.args.slot c.take_reserved.new.self c.take_reserved.ensures.after) c.knowers_with-knowers.result c.tell_silently.new.self c.requires.held c.knowers_with-knowers.ensures (c.tell_silently.ensures.told c.if-not-tell_silently.false)
