use Rattle.std.proofs.Common.{◌∙◌, ◌++◌, ap, length, slice_get}
use Rattle.cast_box.proofs.Closing.{get_middle}
use Rattle.cast_run.proofs.threads.start_all.Goals as goal

pub start-requires-after_bounds : goal.start-requires-after_bounds
start-requires-after_bounds g c =
    let l = c.loop-actor in
    let actor = c.in-Some.actor in
    let whole = l.invariant.2.0 ∙ ap (λ rest. l.yielded ++ rest) c.in-Some.ensures.steps.0 in
    λ bounds outlives. c.requires.begun (length l.yielded) actor (ap (λ all. slice_get all (length l.yielded)) whole ∙ get_middle l.yielded actor _)
