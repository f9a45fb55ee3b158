use Rattle.std.proofs.Common.{◌∙◌, ap, arith, length, length-append}
use Rattle.cast_world.specs.DueRuns.{slots_from}
use Rattle.cast_world.proofs.DueRuns.{length-pushed}
use Rattle.cast_world.proofs.due_slots.DueSlots.push_run.Goals as goal

pub invariant_of-self-2 : goal.invariant_of-self-2
invariant_of-self-2 c =
    let items = c.in_ok-push.ensures.items in
    let before = c.self.invariant in
    let within = before.0 in
    let longer = ap length items ∙ length-append c.self.inside.runs.items _ in
    let slots = ap (λ runs. length (slots_from c.self.inside.place runs)) items ∙ length-pushed c.self.inside.place c.self.inside.runs.items _ within in
    let counted = before.1 in
    let most = before.2 in
    let few = c.if-end-first.false in
    let some = c.requires in
    (omega (arith, longer, within), omega (arith, slots, counted, some), omega (arith, few, most))
