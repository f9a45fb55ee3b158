use Rattle.std.proofs.Common.{◌≡◌, sym, subst, rules, length, List}
use Rattle.cast_box.specs.Ends.{PutterEnd}
use Rattle.cast_journal.specs.declared.parcel.Parcel.{Parcel}
use Rattle.cast_run.specs.Fresh.{AreNewOutboxes, IsNewBox}
use Rattle.cast_run.proofs.Grid.{grid_none, grid_wide, grid_more, grid_done}
use Rattle.cast_run.proofs.make.make_boxes.Goals as goal

pub loop-outbox-init : goal.loop-outbox-init
loop-outbox-init c =
    let outs = c.in_ok-outboxes in
    let P : List (PutterEnd Parcel) → Type 0 = λ l. AreNewOutboxes c.args.nodes c.args.size l outs.carriers.items in
    (tt, tt, grid_none c.args.nodes c.args.size _ outs.carriers.items (subst P (sym c.into_iter-outbox-iterator.ensures.into_iter_gives.0) outs.ensures) _ c.new-all.ensures.items)

pub add_column-requires : goal.add_column-requires
add_column-requires c =
    let outs = c.in_ok-outboxes in
    let box = c.in_ok-putters in
    let P : List (PutterEnd Parcel) → Type 0 = λ l. AreNewOutboxes c.args.nodes c.args.size l outs.carriers.items in
    let new = subst P (sym c.into_iter-outbox-iterator.ensures.into_iter_gives.0) outs.ensures in
    let sized = subst (λ n. IsNewBox n box.putters.items box.inbox) c.inbox_size-places.ensures box.ensures.0 in
    grid_wide c.args.nodes c.args.size _ outs.carriers.items new _ _ _ c.loop-outbox.carriers.items c.loop-outbox.invariant.2 c.in-Some.outbox _ c.in-Some.ensures.steps.0 box.putters.items box.inbox sized box.ensures.1

pub loop-outbox-preserved : goal.loop-outbox-preserved
loop-outbox-preserved c =
    let outs = c.in_ok-outboxes in
    let box = c.in_ok-putters in
    let P : List (PutterEnd Parcel) → Type 0 = λ l. AreNewOutboxes c.args.nodes c.args.size l outs.carriers.items in
    let new = subst P (sym c.into_iter-outbox-iterator.ensures.into_iter_gives.0) outs.ensures in
    let sized = subst (λ n. IsNewBox n box.putters.items box.inbox) c.inbox_size-places.ensures box.ensures.0 in (
      tt,
      tt,
      grid_more c.args.nodes c.args.size _ outs.carriers.items new _ _ _ c.loop-outbox.carriers.items c.loop-outbox.invariant.2 c.in-Some.outbox _ c.in-Some.ensures.steps.0 box.putters.items box.inbox sized box.ensures.1
          _ _ c.in_ok-add_column.ensures c.in_ok-push.ensures.items,
    )

pub returns : goal.returns
returns c =
    let outs = c.in_ok-outboxes in
    let P : List (PutterEnd Parcel) → Type 0 = λ l. AreNewOutboxes c.args.nodes c.args.size l outs.carriers.items in
    let new = subst P (sym c.into_iter-outbox-iterator.ensures.into_iter_gives.0) outs.ensures in
    let done : length c.loop-outbox.outbox-iterator.rest.items ≡ 0 = search rules in
    grid_done c.args.nodes c.args.size _ outs.carriers.items new _ _ _ c.loop-outbox.carriers.items c.loop-outbox.invariant.2 done
