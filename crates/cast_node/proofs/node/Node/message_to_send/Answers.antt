use Rattle.std.proofs.Common.{◌≡◌, Some, unwrap_or, sym, ap, ◌∙◌, arith}
use Rattle.std.specs.FinMap as finite
use Rattle.std.specs.Option.{option_copied}
use Rattle.cast_message.specs.declared.message.Item.TheVariants.{Close}
use Rattle.cast_message.specs.declared.message.Message.{Message}
use Rattle.cast_node.specs.Kept.{link_to}
use Rattle.cast_node.proofs.node.Node.message_to_send.Goals as goal

pub returns-clause-message : goal.returns-clause-message
returns-clause-message c =
    let found : finite.get (link_to c.args.self.now c.args.to).owed c.args.slot ≡ Some c.in-Some-message.message.now = sym (ap (λ k. finite.get (link_to k c.args.to).owed c.args.slot) c.self.view_is) ∙ sym c.message.ensures ∙ ap option_copied c.in-Some-message.is in
    ap (λ o. unwrap_or {T = Message} o (record { sender = 0; number = 0; item = Close })) (sym found)

pub returns-clause-small : goal.returns-clause-small
returns-clause-small c =
    let owed = c.self.invariant.owes c.args.to c.args.slot c.in-Some-message.message.now (sym c.message.ensures ∙ ap option_copied c.in-Some-message.is) in
    omega (arith, owed.1, c.self.inside.config.items_in_range)
