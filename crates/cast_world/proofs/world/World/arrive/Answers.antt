use Rattle.std.proofs.Common.{◌∙◌, ap, map, sym}
use Rattle.cast_message.specs.declared.message.Frame.{Frame}
use Rattle.cast_world.specs.declared.frames.Mark.{Mark}
use Rattle.cast_world.proofs.Sounding.{arrived_me, sound_arrived, arrived_steps}
use Rattle.cast_world.proofs.world.World.arrive.Goals as goal

pub arrive-requires : goal.arrive-requires
arrive-requires c =
    ap (λ (f : Frame). f.to) (c.in_ok-frame.ensures c.self.inside.config)
    ∙ sym (arrived_me (record { config = c.self.inside.config; nodes = c.self.inside.nodes.items; marks = map (λ row. row.items) c.self.inside.marks.items }) c.self.invariant c.args.from c.args.seq c.in_ok-mark.mark c.in_ok-mark.ensures
    c.from-place.result (c.from-place.ensures ∙ ap (λ (m : Mark). m.to) c.mark.view_is) c.index_mut.result.now c.index_mut.ensures.value)

pub invariant_of-self : goal.invariant_of-self
invariant_of-self c =
    sound_arrived (record { config = c.self.inside.config; nodes = c.self.inside.nodes.items; marks = map (λ row. row.items) c.self.inside.marks.items }) c.self.invariant c.args.from c.args.seq c.in_ok-mark.mark c.in_ok-mark.ensures
    c.from-place.result (c.from-place.ensures ∙ ap (λ (m : Mark). m.to) c.mark.view_is) c.index_mut.result.now c.index_mut.ensures.value c.in_ok-frame.frame (c.in_ok-frame.ensures c.self.inside.config) c.arrive.new.node c.arrive.result c.arrive.ensures

pub returns : goal.returns
returns c =
    arrived_steps (record { config = c.self.inside.config; nodes = c.self.inside.nodes.items; marks = map (λ row. row.items) c.self.inside.marks.items }) c.self.invariant c.args.from c.args.seq c.in_ok-mark.mark c.in_ok-mark.ensures
    c.from-place.result (c.from-place.ensures ∙ ap (λ (m : Mark). m.to) c.mark.view_is) c.index_mut.result.now c.index_mut.ensures.value c.in_ok-frame.frame (c.in_ok-frame.ensures c.self.inside.config) c.arrive.new.node c.arrive.result c.arrive.ensures c.args.self.now (sym (c.self.view_is ∙ c.in_default.ensures.not))
