use Rattle.std.proofs.Common.{sym, ap, ◌∙◌}
use Rattle.cast_link.specs.Taken.{bit_of}
use Rattle.cast_link.specs.Links.{Outward}
use Rattle.cast_link.proofs.Marks.{more_room}
use Rattle.cast_link.proofs.link_out.LinkOut.reserve.Goals as goal

pub invariant_of-self-2 : goal.invariant_of-self-2
invariant_of-self-2 g c =
    let base = c.self.inside.base in
    let at = c.bit_of-next.ensures ∙ ap (bit_of base) (c.given.ensures ∙ sym (ap (λ (o : Outward g.row.T.Denot). o.link.given) c.self.view_is)) in
    more_room base c.self.inside.places.items c.reserve.new.self.items c.self.inside.marks.items c.make_room.new.words.items c.self.inside.owed c.bit_of-next.result c.self.invariant c.reserve.ensures.items c.make_room.ensures.same c.make_room.ensures.more at c.make_room.ensures.few
