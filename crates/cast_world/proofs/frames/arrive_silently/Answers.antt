use Rattle.std.proofs.Common.{◌∙◌, sym}
use Rattle.cast_node.specs.Calls.{silent_reply}
use Rattle.cast_world.proofs.Marks.{gives_word, gives_again}
use Rattle.cast_world.proofs.frames.arrive_silently.Goals as goal

pub returns-then-is_acknowledgement-clause-took : goal.returns-then-is_acknowledgement-clause-took
returns-then-is_acknowledgement-clause-took c config nodes seq silent =
    gives_word config nodes c.args.mark.now c.args.node.now c.arrive_took_silently.new.self c.requires c.args.from seq silent_reply _ c.from-slot.ensures (sym c.is_acknowledgement.ensures ∙ c.if-is_acknowledgement.true) (c.arrive_took_silently.ensures.took silent seq)

pub returns-then-carries_held-clause-took : goal.returns-then-carries_held-clause-took
returns-then-carries_held-clause-took c config nodes seq silent =
    gives_again config nodes c.args.mark.now c.args.node.now c.arrive_again_silently.new.self c.requires c.args.from seq silent_reply _ _ c.from-slot.ensures c.from.ensures (sym c.is_acknowledgement.ensures ∙ c.if-is_acknowledgement.false) (c.arrive_again_silently.ensures.took silent)
