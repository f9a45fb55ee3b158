use Rattle.std.proofs.Common.{◌≡◌, ◌∙◌, ap, subst, length}
use Rattle.cast_world.specs.Group.{marks_at}
use Rattle.cast_world.specs.Plans.{events_of, events_from}
use Rattle.cast_world.specs.Rounds.{TakesAll}
use Rattle.cast_world.proofs.world.World.settle.Goals as goal

pub returns : goal.returns
returns c config past st =
    let same : c.events-events.result ≡ events_from c.args.self.now c.args.due.now =
    c.events-events.ensures ∙ (λ k. events_of c.args.due.now (c.frame_count-carry.ensures.value k) (c.frame_count-took.ensures.value k)) ∙ ap (λ due. events_of c.args.due.now (length (marks_at c.args.self.now due.from)) (length (marks_at c.args.self.now due.to))) c.due.view_is in
    subst (λ es. TakesAll config past es c.take_all.result c.take_all.new.self) same (c.take_all.ensures config past st)
