use Rattle.std.proofs.Common.{◌∙◌, subst}
use Rattle.cast_message.specs.declared.message.Message.{Message}
use Rattle.cast_link.specs.Links.{Link, IsLeastFrom}
use Rattle.cast_node.proofs.Owing.{least_through, seen_here}
use Rattle.cast_node.proofs.outgoing.Outgoing.least_owed.Goals as goal

pub returns : goal.returns
returns c =
    let seen = seen_here _ _ c.from.result c.args.to c.index.result.now _ c.self.view_is (c.from.ensures ∙ c.to.view_is) c.requires c.index.ensures in
    subst (λ (l : Link Message). IsLeastFrom l.owed c.args.from c.least_owed.result) seen (least_through c.self.inside.messages.items c.index.result.now.link.owed c.args.from c.least_owed.result c.least_owed.ensures)
