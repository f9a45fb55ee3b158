-- The replies so far are those of the definitions, and the world stands for the accepted events so far.
use Rattle.std.proofs.Common.{◌≡◌, take}
use Rattle.cast_model.specs.Replies.{history, replies}
use Rattle.cast_world.specs.Group.{Stands}
use Rattle.cast_world.proofs.run.run_events.Given as goal

abbrev pub invariant-loop-event : goal.invariant-loop-event
invariant-loop-event l = record {
  replied : l.replies ≡ replies l.fn.config (take l.event-index l.events);
  stands : Stands l.fn.config (history l.fn.config (take l.event-index l.events)) l.world;
}
