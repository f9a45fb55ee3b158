use Rattle.std.proofs.Common.{◌≡◌, ◌<◌, ◌+◌, ◌++◌, sym, subst, drop, get_or, length}
use Rattle.std.proofs.lemmas.Bool.{ltb-true}
use Rattle.cast_world.specs.DueRuns.{slots_of}
use Rattle.cast_world.proofs.DueRuns.{first_split}
use Rattle.cast_world.proofs.due_slots.DueSlots.first_run.Goals as goal

pub returns-clause-some : goal.returns-clause-some
returns-clause-some c =
    let run = c.in_ok-get.field-0.now in
    let within = subst (λ xs. c.self.inside.place < length xs) c.deref.ensures.value (ltb-true _ _ (sym c.in_ok-get.ensures.lookup.0)) in
    subst (λ all. all ≡ slots_of run ++ drop (run.more + 1) all) c.self.view_is (first_split c.self.inside.place c.self.inside.runs.items run within (subst (λ xs. run ≡ get_or xs c.self.inside.place run) c.deref.ensures.value c.in_ok-get.ensures.lookup.1))
