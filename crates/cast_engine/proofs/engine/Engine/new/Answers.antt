use Rattle.std.proofs.Common.{ap, ◌∙◌}
use Rattle.std.specs.Prelude.{replicate}
use Rattle.cast_engine.specs.Feeding.{first_place}
use Rattle.cast_engine.proofs.Staying.{stays_new}
use Rattle.cast_engine.proofs.engine.Engine.new.Goals as goal

pub invariant_of-result : goal.invariant_of-result
invariant_of-result c = (
  stays_new c.in_ok-journal.journal c.args.config.now c.args.me c.args.crash c.args.boxes.outbox.put c.args.boxes.inbox.taken _ c.in_ok-places.places.items c.requires.node c.args.turns c.in_ok-journal.ensures c.requires.outbox
      c.requires.inbox c.requires.desk (c.in_ok-places.ensures ∙ ap (λ n. replicate n first_place) c.count_clients.ensures),
  c.in_ok-resend.ensures.keeps _,
)
