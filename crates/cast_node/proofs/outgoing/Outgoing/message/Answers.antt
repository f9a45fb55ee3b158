use Rattle.std.proofs.Common.{Some, option_map, [], sym, ap, ◌∙◌, arith}
use Rattle.std.specs.FinMap as finite
use Rattle.std.specs.Option.{option_copied}
use Rattle.std.proofs.lemmas.List.{get_or_default}
use Rattle.cast_node.specs.Outgoing.{kept_message}
use Rattle.cast_node.proofs.Owing.{get_through, link_here, seen_here}
use Rattle.cast_node.proofs.outgoing.Outgoing.message.Goals as goal

pub returns-in_err-place : goal.returns-in_err-place
returns-in_err-place c =
    let messages = c.self.inside.messages.items in
    let seen = seen_here _ _ c.from.result c.args.to c.index.result.now _ c.self.view_is (c.from.ensures ∙ c.to.view_is) c.requires c.index.ensures in
    ap option_copied c.from_residual.ensures
    ∙ ap (option_map (kept_message messages)) c.in_err-place.ensures
    ∙ sym (get_through messages c.index.result.now.link.owed c.args.slot)
    ∙ ap (λ l. finite.get l.owed c.args.slot) seen

pub index-requires-2 : goal.index-requires-2
index-requires-2 c =
    let here = link_here _ _ c.from.result c.args.to c.index.result.now _ c.self.view_is (c.from.ensures ∙ c.to.view_is) c.requires c.index.ensures in
    let kept = c.self.invariant.below c.args.to c.args.slot c.in_ok-place.place.now (ap (λ l. finite.get l.owed c.args.slot) (sym here) ∙ sym c.in_ok-place.ensures) in
    omega (arith, kept, c.self.inside.messages.ok.0)

pub returns : goal.returns
returns c =
    let messages = c.self.inside.messages.items in
    let here = link_here _ _ c.from.result c.args.to c.index.result.now _ c.self.view_is (c.from.ensures ∙ c.to.view_is) c.requires c.index.ensures in
    let seen = seen_here _ _ c.from.result c.args.to c.index.result.now _ c.self.view_is (c.from.ensures ∙ c.to.view_is) c.requires c.index.ensures in
    let kept = c.self.invariant.below c.args.to c.args.slot c.in_ok-place.place.now (ap (λ l. finite.get l.owed c.args.slot) (sym here) ∙ sym c.in_ok-place.ensures) in
    ap Some (c.index-2.ensures ∙ get_or_default messages c.in_ok-place.place.now _ (kept_message [] 0) kept)
    ∙ ap (option_map (kept_message messages)) c.in_ok-place.ensures
    ∙ sym (get_through messages c.index.result.now.link.owed c.args.slot)
    ∙ ap (λ l. finite.get l.owed c.args.slot) seen
