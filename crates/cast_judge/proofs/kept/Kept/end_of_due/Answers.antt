use Rattle.std.proofs.Common.{◌≡◌, ◌∙◌, sym, ap, subst, slice_index, arith}
use Rattle.std.proofs.lemmas.Bool.Decides.{nat_tests}
use Rattle.std.proofs.lemmas.Grind.{common_steps}
use Rattle.std.proofs.lemmas.Option.{IfSome_then}
use Rattle.cast_judge.specs.ItemList.{BeginsWithWord}
use Rattle.cast_judge.specs.declared.kept_node.KeptNode.{KeptNode}
use Rattle.cast_judge.proofs.DueLemmas.{due}
use Rattle.cast_judge.proofs.kept.Kept.end_of_due.Goals as goal

pub returns : goal.returns
returns c =
    let d = c.args.delivery.now in
    let same : c.args.delivery.now.number ≡ c.count_from.result = grind (arith, nat_tests, common_steps) in
    IfSome_then c.end_of_word.result c.end_of_word.ensures (λ end begins.
    due c.args.self.now d end c.in-Body.is c.in_ok-node.ensures.0 c.in_ok-node-2.ensures.0
    (ap (λ (s : KeptNode). s.crashed) (sym c.in_ok-node.ensures.1) ∙ c.if-node.false)
    (same ∙ c.count_from.ensures ∙ ap (λ (s : KeptNode). slice_index s.delivered d.sender) c.in_ok-node.ensures.1)
    (subst (λ (s : KeptNode). BeginsWithWord s.items d.number d.rest.now end) c.in_ok-node-2.ensures.1 begins))
