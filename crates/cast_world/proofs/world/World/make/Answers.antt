use Rattle.std.proofs.Common.{◌∙◌, arith, map, sym, subst}
use Rattle.std.specs.Prelude.{slice_set}
use Rattle.cast_model.specs.Steps.{making}
use Rattle.cast_node.specs.Turns.{frame_made}
use Rattle.cast_world.specs.Group.{mark_of}
use Rattle.cast_world.specs.Moves.{MakesFrame}
use Rattle.cast_node.specs.Calls.{number_reply}
use Rattle.cast_world.proofs.Sounding.{made_so, kept_so, sound_sent, sent_rows, made_in}
use Rattle.cast_world.proofs.world.World.make.Goals as goal

pub invariant_of-self : goal.invariant_of-self
invariant_of-self c =
    sound_sent (λ row. row.items) c.self.inside.config c.self.inside.nodes.items c.self.inside.marks.items c.self.invariant c.from-place.result (omega (arith, c.if-place-len.false, c.len.ensures))
    c.index_mut.result.now c.make.new.node c.index_mut.ensures.value (making c.args.kind c.args.to c.args.slot) c.index_mut-2.result.now c.index_mut-2.ensures.value c.make.new.made (λ k. mark_of (frame_made c.args.kind k c.args.to c.args.slot))
    (number_reply c.make.result) c.make.ensures.gives (made_in c.args.kind c.index_mut.result.now c.args.to c.args.slot) (made_so _ c.make.result c.make.ensures.made) (kept_so _ c.make.result c.make.ensures.same)

pub returns : goal.returns
returns c =
    subst (λ p. MakesFrame c.args.self.now c.args.kind p c.args.to c.args.slot (number_reply c.make.result)
    (record { config = c.self.inside.config; nodes = slice_set c.self.inside.nodes.items c.from-place.result c.make.new.node; marks = map (λ row. row.items) (slice_set c.self.inside.marks.items c.from-place.result c.make.new.made) }))
    (c.from-place.ensures ∙ c.from.view_is)
    (sent_rows (λ row. row.items) c.self.inside.config c.self.inside.nodes.items c.self.inside.marks.items c.self.invariant c.from-place.result (omega (arith, c.if-place-len.false, c.len.ensures))
    c.index_mut.result.now c.make.new.node c.index_mut.ensures.value (making c.args.kind c.args.to c.args.slot) c.index_mut-2.result.now c.index_mut-2.ensures.value c.make.new.made (λ k. mark_of (frame_made c.args.kind k c.args.to c.args.slot))
    c.args.self.now (sym c.self.view_is) (number_reply c.make.result) c.make.ensures.gives (made_so _ c.make.result c.make.ensures.made) (kept_so _ c.make.result c.make.ensures.same))
