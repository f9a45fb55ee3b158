use Rattle.std.proofs.Common.{◌∙◌, ap}
use Rattle.cast_node.proofs.Owing.{seen_here}
use Rattle.cast_node.proofs.outgoing.Outgoing.given.Goals as goal

pub returns : goal.returns
returns c = c.given.ensures ∙ ap (λ l. l.given) (seen_here _ _ c.from.result c.args.to c.index.result.now _ c.self.view_is (c.from.ensures ∙ c.to.view_is) c.requires c.index.ensures)
