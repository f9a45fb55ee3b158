use Rattle.std.proofs.Common.{◌∙◌, ◌<◌, length, arith}
use Rattle.std.proofs.lemmas.List.{length-set}
use Rattle.std.proofs.lemmas.Bool.{or_parts}
use Rattle.cast_box.proofs.Same.{putters_again}
use Rattle.cast_carrier.proofs.Lists.{read_at}
use Rattle.cast_engine.proofs.Fed.{fed_at, fed_set}
use Rattle.cast_engine.proofs.Few.{tells_next}
use Rattle.cast_engine.proofs.Causes.{told_next}
use Rattle.std.proofs.lemmas.Option.{slice_get_within}
use Rattle.cast_engine.proofs.feeding.notify_all.Goals as goal

pub notify-moved-requires : goal.notify-moved-requires
notify-moved-requires g c =
    let l = c.loop-client in
    let within : l.client < length l.places.items = omega (arith, c.loop-client-test.true, c.len-client-end.ensures, l.invariant.3, l.places.ok) in
    fed_at c.args.log.now.entries l.desk.trays.items l.places.items l.client c.index_mut.result.now l.invariant.0 (read_at l.places.items l.client c.index_mut.result.now within c.index_mut.ensures.value)

pub loop-client-preserved : goal.loop-client-preserved
loop-client-preserved g c =
    let l = c.loop-client in
    let fed = c.notify-moved.ensures.fed in
    let it = fed_set c.args.log.now.entries l.desk.trays.items c.notify-moved.new.desk.trays.items l.places.items l.client c.notify-moved.new.place l.invariant.0 fed in
    let next = tells_next c.args.desk.now.trays.items l.desk.trays.items c.notify-moved.new.desk.trays.items l.client fed.1 l.invariant.4 l.invariant.5 fed.3 c.notify-moved.ensures.few in (
      it.0,
      c.notify-moved.ensures.orders ∙ l.invariant.1,
      putters_again c.args.desk.now.trays.items l.desk.trays.items c.notify-moved.new.desk.trays.items l.invariant.2 it.1,
      length-set l.places.items l.client c.notify-moved.new.place ∙ l.invariant.3,
      next.0,
      next.1,
      λ quiet. let neither = or_parts l.moved c.notify-moved.result quiet in c.notify-moved.ensures.idle neither.1 ∙ l.invariant.6 neither.0,
      told_next c.args.log.now.entries c.args.desk.now.trays.items l.desk.trays.items c.notify-moved.new.desk.trays.items l.places.items l.client fed.1 c.notify-moved.new.place c.notify-moved.result l.invariant.5 fed.3 l.invariant.7 c.notify-moved.ensures.told,
    )

pub returns-clause-told : goal.returns-clause-told
returns-clause-told g c k place at =
    let l = c.loop-client in
    l.invariant.7 k place (let w = slice_get_within l.places.items k place at in omega (arith, c.loop-client-test.false, c.len-client-end.ensures, l.invariant.3)) at
