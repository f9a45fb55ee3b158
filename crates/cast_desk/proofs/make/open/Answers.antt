use Rattle.std.proofs.Common.{◌≡◌, ◌∙◌, ◌∷◌, ◌++◌, [], length, sym, ap, rules, slice_get}
use Rattle.std.proofs.lemmas.List.{append_assoc, append-nil}
use Rattle.std.specs.Vec.Iter.{into_iter_items}
use Rattle.cast_box.proofs.Closing.{get_middle, no_length}
use Rattle.cast_desk.proofs.Making.{made_more, made_as, made_all}
use Rattle.cast_desk.proofs.make.open.Goals as goal

pub add_client-requires : goal.add_client-requires
add_client-requires c =
    let seen = c.loop-putter.yielded in
    let whole = sym c.into_iter-putter-iterator.ensures.into_iter_gives.0 ∙ c.loop-putter.invariant.2 ∙ ap (λ l. seen ++ l) c.in-Some.ensures.steps.0 in
    (c.in-Ok.ensures.ends.1.0 (length seen) c.in-Some.putter (ap (λ l. slice_get l (length seen)) whole ∙ get_middle seen c.in-Some.putter _)).2

pub loop-putter-preserved : goal.loop-putter-preserved
loop-putter-preserved c =
    let now = c.loop-putter.invariant in
    let seen = c.loop-putter.yielded in
    let all = c.loop-putter.all.items in
    let trays = c.loop-putter.trays.items in
    let p = c.in-Some.putter in
    let (tray, taker, is, more_trays, more_clients) = c.in_ok-add_client.ensures in (
      tt,
      tt,
      now.2 ∙ ap (λ l. seen ++ l) c.in-Some.ensures.steps.0 ∙ sym (append_assoc seen (p ∷ []) (into_iter_items c.next.new.self)),
      made_as c.args.size c.args.first_ticket (seen ++ p ∷ []) _ _ _ _ more_clients more_trays (made_more c.args.size c.args.first_ticket seen all trays now.3 p tray taker is),
    )

pub returns : goal.returns
returns c =
    let now = c.loop-putter.invariant in
    let seen = c.loop-putter.yielded in
    let none : into_iter_items c.loop-putter.putter-iterator ≡ [] = no_length _ (search rules) in
    let all = sym c.into_iter-putter-iterator.ensures.into_iter_gives.0 ∙ now.2 ∙ ap (λ l. seen ++ l) none ∙ append-nil seen in
    let made = c.in-Ok.ensures.ends in
    let it = made_all c.args.size c.args.first_ticket c.in-Ok.putters.items seen c.loop-putter.all.items c.loop-putter.trays.items c.in-Ok.orders all made.0 made.1 made.2 now.3 in
    (it.0, it.1 ∙ made.3, it.2)
