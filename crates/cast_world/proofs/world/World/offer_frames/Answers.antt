use Rattle.std.proofs.Common.{◌∙◌, ◌∷◌, ◌++◌, [], ap, append_assoc, sym}
use Rattle.std.specs.List.{filter}
use Rattle.cast_model.specs.Rounds.{Due}
use Rattle.cast_world.specs.Plans.{due_of}
use Rattle.cast_world.specs.Offers.{is_possible, makings}
use Rattle.cast_world.proofs.Offering.{grown, made_both}
use Rattle.cast_world.proofs.world.World.offer_frames.Goals as goal

pub slots-preserved : goal.slots-preserved
slots-preserved c =
    let before = c.slots.invariant.before in
    let next = c.in-Some.next in
    record {
      before = before ++ next ∷ [];
      so_far = λ config past st.
          let so_far = c.slots.invariant.so_far config past st in (
            append_assoc before (next ∷ []) c.pop_front.new.self ∙ sym (ap (λ slots. before ++ slots) c.in-Some.ensures.some) ∙ so_far.0,
            grown makings (is_possible config past) before next c.args.events.now.items c.slots.events.items c.offer-in-Some.new.events.items so_far.1
                (made_both (is_possible config past) (due_of c.next.inside.from c.next.inside.to c.next.inside.slot) c.slots.events.items c.offer.new.events.items c.offer-in-Some.new.events.items (c.in_ok-offer.ensures config past st) (c.in_ok-offer-2.ensures config past st)
                ∙ ap (λ (d : Due). c.slots.events.items ++ filter (is_possible config past) (makings d)) c.next.view_is),
          );
    }
