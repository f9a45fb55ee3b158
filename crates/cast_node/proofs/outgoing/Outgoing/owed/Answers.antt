use Rattle.std.proofs.Common.{sym, ap, ◌∙◌}
use Rattle.std.specs.FinMap as finite
use Rattle.cast_node.proofs.Owing.{len_through, seen_here}
use Rattle.cast_node.proofs.outgoing.Outgoing.owed.Goals as goal

pub returns : goal.returns
returns c =
    let seen = seen_here _ _ c.from.result c.args.to c.index.result.now _ c.self.view_is (c.from.ensures ∙ c.to.view_is) c.requires c.index.ensures in
    c.owed.ensures ∙ sym (len_through c.self.inside.messages.items c.index.result.now.link.owed) ∙ ap (λ l. finite.len l.owed) seen
