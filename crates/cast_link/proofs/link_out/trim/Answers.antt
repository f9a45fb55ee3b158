use Rattle.std.proofs.Common.{◌<◌, length, slice_index_or, refl, sym, ap, ◌∙◌, arith}
use Rattle.cast_link.specs.Links.{owed_map}
use Rattle.cast_link.proofs.Windows.{owed_map-next, popped}
use Rattle.cast_link.proofs.link_out.trim.Goals as goal

pub loop-places-preserved : goal.loop-places-preserved
loop-places-preserved g c =
    let i = c.loop-places.invariant in
    let places = c.loop-places.places.items in
    let within : 0 < length places = omega (arith, c.in-Some-None.ensures.variant.0 refl, c.loop-places.places.ok) in
    let nothing = ap (slice_index_or places 0) (sym c.in-Some-None.field-0-is) ∙ sym c.in-Some-None.ensures.lookup ∙ c.in-Some-None.field-0-is in
    let shape = popped places c.pop_front.new.self.items within nothing c.pop_front.ensures.rest in
    record {
      later = omega (arith, i.later);
      given = omega (arith, ap length shape, i.given);
      same = sym (owed_map-next c.loop-places.base c.pop_front.new.self.items) ∙ ap (owed_map c.loop-places.base) (sym shape) ∙ i.same;
    }
