use Rattle.std.proofs.Common.{◌∙◌, subst}
use Rattle.cast_message.specs.declared.message.Message.{Message}
use Rattle.cast_link.specs.Links.{Link, IsOwedUntil}
use Rattle.cast_node.proofs.Owing.{until_through, seen_here}
use Rattle.cast_node.proofs.outgoing.Outgoing.owed_until.Goals as goal

pub returns : goal.returns
returns c =
    let seen = seen_here _ _ c.from.result c.args.to c.index.result.now _ c.self.view_is (c.from.ensures ∙ c.to.view_is) c.requires c.index.ensures in
    subst (λ (l : Link Message). IsOwedUntil l.owed c.args.from c.owed_until.result) seen (until_through c.self.inside.messages.items c.index.result.now.link.owed c.args.from c.owed_until.result c.owed_until.ensures)
