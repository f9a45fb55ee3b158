use Rattle.std.proofs.Common.{◌∙◌, ◌∷◌, ◌++◌, [], refl, ap, sym, length, length-append, append_assoc, arith}
use Rattle.cast_world.proofs.Numbering.{counted_none, plan_none, counted_few, counted_more, plan_more, plan_made}
use Rattle.cast_world.proofs.world.World.round_plan.Goals as goal

pub slots-init : goal.slots-init
slots-init c = record {
  before = [];
  counted = counted_none _ refl;
  few = omega (arith, c.len.ensures.len, c.len.ensures.few);
  plan = λ config past st. (c.in_ok-due.ensures.found config past st, plan_none past c.in_ok-events.events.items c.in_ok-events.ensures.items);
}

pub add_events-requires : goal.add_events-requires
add_events-requires c =
    let few = counted_few c.slots.invariant.before c.slots.made (omega (arith, c.slots.invariant.few)) c.slots.invariant.counted in
    record { size = c.slots.invariant.counted.size; from = few c.in-Some.slot.from; to = few c.in-Some.slot.to }

pub count_frames-requires : goal.count_frames-requires
count_frames-requires c =
    let few = counted_few c.slots.invariant.before c.slots.made (omega (arith, c.slots.invariant.few)) c.slots.invariant.counted in
    record { size = c.slots.invariant.counted.size; from = few c.in-Some.slot.from; to = few c.in-Some.slot.to }

pub slots-preserved : goal.slots-preserved
slots-preserved c =
    let before = c.slots.invariant.before in
    let slot = c.in-Some.slot in
    let left = c.pop_front.new.self in
    let count = c.slots.invariant.counted in
    let first = c.in-Some.ensures.some in
    record {
      before = before ++ slot ∷ [];
      counted = counted_more before slot c.slots.made c.count_frames.new.made count c.count_frames.ensures.size c.count_frames.ensures.counted;
      few = omega (arith, c.slots.invariant.few, ap length first, length-append before (slot ∷ []));
      plan = λ config past st.
          let so_far = c.slots.invariant.plan config past st in
          let split = ap (λ slots. before ++ slots) first in
          let whole = sym split ∙ so_far.0 in (
            append_assoc before (slot ∷ []) left ∙ whole,
            plan_more config past c.args.self.now st before left slot c.slots.made c.slots.events.items c.add_events.new.events.items whole count
                so_far.1 c.in_ok-add_events.ensures,
          );
    }

pub returns : goal.returns
returns c = record {
  exact = λ config past st.
      let all = c.slots.invariant.plan config past st in
      c.from_vec.ensures ∙ plan_made config past c.args.self.now st c.slots.invariant.before _ c.slots.events.items all.0 c.in_default.ensures.none all.1;
}
