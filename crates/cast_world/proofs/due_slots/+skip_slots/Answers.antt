use Rattle.std.proofs.Common.{◌≡◌, ◌<◌, ◌∙◌, sym, subst, arith, get_or, length}
use Rattle.std.proofs.lemmas.Bool.{ltb-true}
use Rattle.cast_world.proofs.DueRuns.{skip_within, skip_beyond}
use Rattle.cast_world.proofs.due_slots.+skip_slots.Goals as goal

pub returns-then-count-run-clause-slots : goal.returns-then-count-run-clause-slots
returns-then-count-run-clause-slots t c =
    let within = subst (λ xs. c.args.place < length xs) c.deref.ensures.value (ltb-true _ _ (sym c.in-Some.ensures.lookup.0)) in
    let found = subst (λ xs. c.in-Some.field-0.now ≡ get_or xs c.args.place c.in-Some.field-0.now) c.deref.ensures.value c.in-Some.ensures.lookup.1 in
    skip_within c.args.place c.args.count c.args.runs.now.items c.in-Some.field-0.now c.after.result within found (omega (arith, c.if-count-run.true)) c.after.ensures

pub returns-clause-slots : goal.returns-clause-slots
returns-clause-slots t c =
    let within = subst (λ xs. c.args.place < length xs) c.deref.ensures.value (ltb-true _ _ (sym c.in-Some.ensures.lookup.0)) in
    let found = subst (λ xs. c.in-Some.field-0.now ≡ get_or xs c.args.place c.in-Some.field-0.now) c.deref.ensures.value c.in-Some.ensures.lookup.1 in
    c.skip_slots.ensures.slots ∙ skip_beyond c.args.place c.args.count c.args.runs.now.items c.in-Some.field-0.now within found (omega (arith, c.if-count-run.false))
