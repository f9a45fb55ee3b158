use Rattle.std.proofs.Common.{◌<◌, ◌∙◌, ◌++◌, ◌∷◌, [], refl, ap, sym, subst, length, arith}
use Rattle.std.proofs.Math.ListN.{length-set}
use Rattle.cast_message.specs.Items.{is_close}
use Rattle.cast_message.specs.declared.message.Message.{Message}
use Rattle.cast_node.specs.Delivering.{Delivering, waiting_in}
use Rattle.cast_node.specs.Outgoing.{links_of}
use Rattle.cast_node.specs.Sound.{Owes, IsWithin, slots_of, with_proposal, without_proposal}
use Rattle.cast_node.specs.Turns.{given_from}
use Rattle.cast_node.proofs.DeliveryTables.{told_keeps}
use Rattle.cast_node.proofs.Wholes.{keeps_all, keeps_own, withdrawn, OrderFine, order_fine}
use Rattle.cast_node.proofs.Owing.{owes_given, length_given}
use Rattle.cast_node.proofs.node.Node.take_own.Goals as goal

pub take_up-requires-clause-number : goal.take_up-requires-clause-number
take_up-requires-clause-number c =
    let fine = subst (λ k. OrderFine k c.args.item) (sym c.self.view_is) (order_fine c.args.self.now c.args.item c.requires) in
    let room = c.self.invariant.room (c.self.invariant.closes ∙ fine.unclosed) in
    omega (arith, room, c.len-number.ensures, c.self.inside.stream.ok.0, c.self.inside.config.items_in_range)

pub invariant_of-self-in-Ok : goal.invariant_of-self-in-Ok
invariant_of-self-in-Ok c =
    let fine = subst (λ k. OrderFine k c.args.item) (sym c.self.view_is) (order_fine c.args.self.now c.args.item c.requires) in
    let ds = c.self.inside.deliveries in
    let me = c.self.inside.me in
    let all = links_of c.self.inside.outgoing in
    let number = c.len-number.result in
    let message : Message = record { sender = me; number = number; item = c.args.item } in
    let given : Message = record { sender = me; number = number; item = c.in_ok-copy.field-0 } in
    let done = c.in-Ok.ensures.ok in
    let told = told_keeps c.self.inside.config (waiting_in ds message) me number c.first_members.result in
    let gave = c.give.ensures ∙ ap (given_from 0 me me given) c.reserve-2.ensures.same in
    let room = c.self.invariant.room (c.self.invariant.closes ∙ fine.unclosed) in
    let within : (me < c.self.inside.config.nodes) × (number < c.self.inside.config.item_limit) = (c.self.invariant.place, omega (arith, room, c.len-number.ensures, c.self.inside.stream.ok.0)) in
    keeps_own c.self.inside.config me c.self.inside.stream.items _ c.self.inside.closed _ c.self.inside.proposed _ all _ (slots_of c.self.inside.incoming.items) ds c.take_up.new.self c.args.item c.self.invariant fine.unclosed fine.room
    (c.push_reserved.ensures.items ∙ (λ k. c.reserve.ensures.items k ++ c.in_ok-kept.ensures.ok k ∷ []))
    (c.is_close-self-inside.ensures ∙ ap is_close c.in_ok-kept.ensures.ok)
    (c.in_ok-propose.ensures.ok ∙ ap (with_proposal c.self.inside.proposed) c.in_ok-kept.ensures.ok)
    (ap length gave ∙ length_given 0 me me me given all)
    (ap (λ (d : Delivering). length d.hold_back) done ∙ told.0 ∙ length-set ds.hold_back me _)
    (ap (λ (d : Delivering). length d.knowers) done ∙ told.1)
    (subst (Owes c.self.inside.config.nodes c.self.inside.config.item_limit) (sym gave) (owes_given (IsWithin c.self.inside.config.nodes c.self.inside.config.item_limit) 0 me me me given all within c.self.invariant.owes))

pub invariant_of-self-in-Err-3 : goal.invariant_of-self-in-Err-3
invariant_of-self-in-Err-3 c =
    let fine = subst (λ k. OrderFine k c.args.item) (sym c.self.view_is) (order_fine c.args.self.now c.args.item c.requires) in
    keeps_all c.self.inside.config c.self.inside.me c.self.inside.stream.items c.self.inside.closed c.self.inside.proposed (links_of c.self.inside.outgoing) _ (slots_of c.self.inside.incoming.items) _ c.self.inside.deliveries _ c.self.invariant _ _ c.reserve.ensures.items
    (c.withdraw.ensures ∙ (λ k. without_proposal ((c.in_ok-propose.ensures.ok ∙ ap (with_proposal c.self.inside.proposed) c.in_ok-kept.ensures.ok) k) (c.in_ok-kept.ensures.ok k)) ∙ withdrawn c.self.inside.proposed c.self.inside.stream.items c.args.item c.self.invariant.proposals fine.first)
    c.reserve-2.ensures.same refl c.in-Err.ensures.err
