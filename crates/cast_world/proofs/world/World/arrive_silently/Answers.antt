use Rattle.std.proofs.Common.{◌∙◌, ap, map, refl, sym}
use Rattle.cast_node.specs.Calls.{silent_reply}
use Rattle.cast_world.specs.Group.{frame_in}
use Rattle.cast_world.specs.declared.frames.Mark.{Mark}
use Rattle.cast_world.proofs.Sounding.{arrived_me, sound_arrived, arrived_steps}
use Rattle.cast_world.proofs.world.World.arrive_silently.Goals as goal

pub arrive_silently-requires : goal.arrive_silently-requires
arrive_silently-requires c = sym (arrived_me (record { config = c.self.inside.config; nodes = c.self.inside.nodes.items; marks = map (λ row. row.items) c.self.inside.marks.items }) c.self.invariant c.args.from c.args.seq c.in-Ok.mark c.in-Ok.ensures
    c.from-place.result (c.from-place.ensures ∙ ap (λ (m : Mark). m.to) c.mark.view_is) c.index_mut.result.now c.index_mut.ensures.value)

pub invariant_of-self-2 : goal.invariant_of-self-2
invariant_of-self-2 c =
    sound_arrived (record { config = c.self.inside.config; nodes = c.self.inside.nodes.items; marks = map (λ row. row.items) c.self.inside.marks.items }) c.self.invariant c.args.from c.args.seq c.in-Ok.mark c.in-Ok.ensures
    c.from-place.result (c.from-place.ensures ∙ ap (λ (m : Mark). m.to) c.mark.view_is) c.index_mut.result.now c.index_mut.ensures.value (frame_in c.self.inside.config c.self.inside.nodes.items c.args.from c.args.seq c.in-Ok.mark) refl c.arrive_silently.new.node (silent_reply c.in-Ok.mark.to) (c.if-not-arrive_silently.ensures.took c.self.inside.config c.self.inside.nodes.items c.args.seq refl)

pub returns-clause-took : goal.returns-clause-took
returns-clause-took c =
    arrived_steps (record { config = c.self.inside.config; nodes = c.self.inside.nodes.items; marks = map (λ row. row.items) c.self.inside.marks.items }) c.self.invariant c.args.from c.args.seq c.in-Ok.mark c.in-Ok.ensures
    c.from-place.result (c.from-place.ensures ∙ ap (λ (m : Mark). m.to) c.mark.view_is) c.index_mut.result.now c.index_mut.ensures.value (frame_in c.self.inside.config c.self.inside.nodes.items c.args.from c.args.seq c.in-Ok.mark) refl c.arrive_silently.new.node (silent_reply c.in-Ok.mark.to) (c.if-not-arrive_silently.ensures.took c.self.inside.config c.self.inside.nodes.items c.args.seq refl) c.args.self.now (sym c.self.view_is)
