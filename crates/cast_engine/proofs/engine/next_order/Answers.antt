use Rattle.std.proofs.Common.{ap, sym, subst, List}
use Rattle.cast_box.specs.Ends.{PutterEnd, AreSamePutters}
use Rattle.cast_box.proofs.Same.{putters_same}
use Rattle.cast_desk.specs.declared.notice.Notice.{Notice}
use Rattle.cast_engine.proofs.Again.{desk_used}
use Rattle.cast_engine.proofs.engine.next_order.Goals as goal

pub returns-in-Some-clause-same : goal.returns-in-Some-clause-same
returns-in-Some-clause-same g c =
    let d = c.in-Some.desk in
    let P : List (PutterEnd Notice) → Type 0 = λ l. AreSamePutters d.trays.items l in
    desk_used c.args.desk.now d c.take.new.self c.in-Some.is c.take.ensures.same.0 (subst P (ap (λ v. v.items) (sym c.take.ensures.same.1)) (putters_same d.trays.items))
