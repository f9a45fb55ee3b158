use Rattle.std.proofs.Common.{◌≡◌, ◌∙◌, false, refl, ap, sym, subst, length, arith}
use Rattle.std.proofs.Math.ListN.{length-set}
use Rattle.cast_message.proofs.Results.{on_err}
use Rattle.cast_message.specs.declared.message.Message.{Message}
use Rattle.cast_node.specs.Kept.{Kept, holds}
use Rattle.cast_node.specs.Outgoing.{links_of}
use Rattle.cast_node.specs.Sound.{slots_of, Owes, IsWithin}
use Rattle.cast_node.specs.Delivering.{Delivering, waiting_in, told_in}
use Rattle.cast_node.specs.Turns.{given_from}
use Rattle.cast_node.proofs.Parts.{slots_same, slots_taken}
use Rattle.cast_node.proofs.DeliveryTables.{told_keeps}
use Rattle.cast_node.proofs.Wholes.{keeps_all, keeps_rows, whole, fresh, carry_fine}
use Rattle.cast_node.proofs.Owing.{owes_given, length_given}
use Rattle.cast_node.proofs.node.Node.take_carried.Goals as goal

pub returns-then-holds-clause-outcome : goal.returns-then-holds-clause-outcome
returns-then-holds-clause-outcome c = c.take_again.ensures.outcome c.args.message.now.item

pub returns-then-holds-clause-ok : goal.returns-then-holds-clause-ok
returns-then-holds-clause-ok c = c.take_again.ensures.ok c.args.message.now.item

pub invariant_of-self : goal.invariant_of-self
invariant_of-self c =
    keeps_all c.self.inside.config c.self.inside.me c.self.inside.stream.items c.self.inside.closed c.self.inside.proposed (links_of c.self.inside.outgoing) _ (slots_of c.self.inside.incoming.items) _ c.self.inside.deliveries c.self.inside.deliveries c.self.invariant c.self.inside.stream.items c.self.inside.proposed refl refl c.make_room.ensures.links (slots_same c.self.inside.incoming.items c.from-2.result c.args.from c.index_mut-link.result.now c.make_room.new.link c.index_mut-link.ensures.value c.make_room.ensures.slots) refl

pub returns-in_err-make_room-clause-err : goal.returns-in_err-make_room-clause-err
returns-in_err-make_room-clause-err c =
    on_err c.from_residual-in_err-make_room.result ((λ k. whole c.self.inside.config c.self.inside.me c.self.inside.live c.self.inside.frames c.self.inside.stream.items (c.make_room.ensures.links k) (slots_same c.self.inside.incoming.items c.from-2.result c.args.from c.index_mut-link.result.now c.make_room.new.link c.index_mut-link.ensures.value c.make_room.ensures.slots k) c.self.inside.deliveries) ∙ c.self.view_is)

pub invariant_of-self-in_err-outcome : goal.invariant_of-self-in_err-outcome
invariant_of-self-in_err-outcome c =
    keeps_all c.self.inside.config c.self.inside.me c.self.inside.stream.items c.self.inside.closed c.self.inside.proposed (links_of c.self.inside.outgoing) _ (slots_of c.self.inside.incoming.items) _ c.self.inside.deliveries c.take_up.new.self c.self.invariant c.self.inside.stream.items c.self.inside.proposed refl refl c.make_room.ensures.links (slots_same c.self.inside.incoming.items c.from-2.result c.args.from c.index_mut-link.result.now c.make_room.new.link c.index_mut-link.ensures.value c.make_room.ensures.slots) c.in_err-outcome.ensures.err

pub returns-in_err-outcome-clause-err : goal.returns-in_err-outcome-clause-err
returns-in_err-outcome-clause-err c =
    on_err c.from_residual-in_err-outcome.result ((λ k. whole c.self.inside.config c.self.inside.me c.self.inside.live c.self.inside.frames c.self.inside.stream.items (c.make_room.ensures.links k) (slots_same c.self.inside.incoming.items c.from-2.result c.args.from c.index_mut-link.result.now c.make_room.new.link c.index_mut-link.ensures.value c.make_room.ensures.slots k) (c.in_err-outcome.ensures.err k)) ∙ c.self.view_is)

pub invariant_of-self-2 : goal.invariant_of-self-2
invariant_of-self-2 c =
    let message = c.in_ok-given.given in
    let brought = c.in_ok-fresh.fresh in
    let all = links_of c.self.inside.outgoing in
    let gave = c.give.ensures ∙ ap (given_from 0 c.self.inside.me c.args.from message) c.make_room.ensures.links in
    let done = c.in_ok-outcome.ensures.ok in
    let told = told_keeps c.self.inside.config (waiting_in c.self.inside.deliveries brought) brought.sender brought.number c.first_members-members.result in
    let fine = carry_fine c.args.self.now c.args.slot c.args.message.now.sender c.args.message.now.number c.requires.fits in
    let same = c.in_ok-given.ensures.ok in
    let within_limits : IsWithin c.self.inside.config.nodes c.self.inside.config.item_limit message = (
      omega (arith, fine.0, ap (λ (k : Kept). k.config.nodes) c.self.view_is, ap (λ (m : Message). m.sender) same),
      omega (arith, fine.1, ap (λ (k : Kept). k.config.item_limit) c.self.view_is, ap (λ (m : Message). m.number) same),
    ) in
    keeps_rows c.self.inside.config c.self.inside.me c.self.inside.stream.items c.self.inside.closed c.self.inside.proposed (links_of c.self.inside.outgoing) _ (slots_of c.self.inside.incoming.items) _ c.self.inside.deliveries c.take_up.new.self c.self.invariant
    (ap length gave ∙ length_given 0 c.self.inside.me c.args.from message.sender message all)
    (ap length (slots_taken c.self.inside.incoming.items c.from-2.result c.args.from c.index_mut-link.result.now c.make_room.new.link c.index_mut-link.ensures.value c.make_room.ensures.slots c.self.inside.config c.args.self.now c.requires.from (ap (λ (k : Kept). k.config) c.self.view_is) c.self.invariant.peers_in (c.from-2.ensures ∙ c.from.view_is) c.args.slot c.take_reserved.new.self c.take_reserved.ensures.after) ∙ length-set (slots_of c.self.inside.incoming.items) c.args.from _)
    (ap (λ (d : Delivering). length d.hold_back) done ∙ told.0 ∙ length-set c.self.inside.deliveries.hold_back brought.sender _) (ap (λ (d : Delivering). length d.knowers) done ∙ told.1)
    (subst (Owes c.self.inside.config.nodes c.self.inside.config.item_limit) (sym gave) (owes_given (IsWithin c.self.inside.config.nodes c.self.inside.config.item_limit) 0 c.self.inside.me c.args.from message.sender message all within_limits c.self.invariant.owes))

pub returns-clause-ok : goal.returns-clause-ok
returns-clause-ok c =
    let message = c.args.message.now in
    let new : holds c.args.self.now message.sender message.number ≡ false = sym (ap (λ k. holds k message.sender message.number) c.self.view_is) ∙ sym c.holds.ensures ∙ c.if-holds.false in
    let brought = c.in_ok-fresh.ensures.ok in
    fresh c.self.inside.config c.self.inside.me c.self.inside.live c.self.inside.frames c.self.inside.stream.items (links_of c.self.inside.outgoing) (slots_of c.self.inside.incoming.items) c.self.inside.deliveries c.args.self.now c.self.view_is c.args.from c.args.slot message _ (slots_taken c.self.inside.incoming.items c.from-2.result c.args.from c.index_mut-link.result.now c.make_room.new.link c.index_mut-link.ensures.value c.make_room.ensures.slots c.self.inside.config c.args.self.now c.requires.from (ap (λ (k : Kept). k.config) c.self.view_is) c.self.invariant.peers_in (c.from-2.ensures ∙ c.from.view_is) c.args.slot c.take_reserved.new.self c.take_reserved.ensures.after) c.first_members-members.result _ c.take_up.new.self new
    (c.first_members-members.ensures ∙ ap (λ (m : Message). Rattle.cast_node.specs.Delivering.first_members c.self.inside.me m.sender c.args.from) brought)
    (c.give.ensures ∙ (λ k. given_from 0 c.self.inside.me c.args.from (c.in_ok-given.ensures.ok k) (c.make_room.ensures.links k)))
    (c.in_ok-outcome.ensures.ok ∙ (λ k. told_in c.self.inside.config (waiting_in c.self.inside.deliveries (brought k)) (brought k).sender (brought k).number c.first_members-members.result))
