use Rattle.std.proofs.Common.{◌≡◌, ap, sym, subst, inr, ◌∙◌, ◌++◌, ◌∷◌, Option, Some, option_to_list}
use Rattle.std.specs.Vec.Iter.{into_iter_items}
use Rattle.cast_message.specs.declared.message.Item.{Item}
use Rattle.cast_run.specs.Submissions.{SubmitsNext}
use Rattle.cast_run.proofs.Submitting.{back_is}
use Rattle.cast_run.proofs.submissions.Submissions.submit_next.Goals as goal
use Rattle.cast_run.proofs.submissions.Submissions.submit_next.Goals.{In_ok-item}

-- what is left is the item and those after it
left : (g : _) (c : In_ok-item g) → c.args.self.now ≡ c.in_ok-item.item ∷ into_iter_items c.take_first.new.later
left g c = sym c.self.view_is ∙ c.in_ok-item.ensures.first

pub returns-in-Err-clause-next : goal.returns-in-Err-clause-next
returns-in-Err-clause-next g c =
    let later = into_iter_items c.take_first.new.later in
    let item = c.in_ok-item.item in
    let refusal = c.in-Err.ensures.fault in
    let kept : c.keep.new.refused ≡ Some item = c.keep.ensures ∙ ap (λ x. Some x) (back_is c.args.client.now item c.in-Err.fault refusal) in
    let view = option_to_list c.keep.new.refused ++ later in
    subst (λ l. SubmitsNext l view c.args.client.now c.submit.new.self) (sym (left g (goal.at.returns-in-Err-clause-next g c).In_ok-item))
    (inr (ap (λ (r : Option Item). option_to_list r ++ later) kept, c.in-Err.ensures.kept, (c.in-Err.fault, refusal)))
