use Rattle.std.proofs.Common.{ap, ◌∙◌, ◌||◌, nat_lt}
use Rattle.cast_carrier.proofs.Sifting.{waits_none, waits_kept, waits_longer, goes_now, hands_nothing, hands_parcel}
use Rattle.cast_carrier.proofs.carrier.take_over.Goals as goal

pub returns-then-fate-clause-waits : goal.returns-then-fate-clause-waits
returns-then-fate-clause-waits g c = waits_none c.args.fate c.args.delayed.now.items c.args.parcel c.pass_time.new.delayed.items c.pass_time.ensures.waits

pub returns-then-fate-gt0-clause-waits : goal.returns-then-fate-gt0-clause-waits
returns-then-fate-gt0-clause-waits g c =
    waits_kept c.args.fate c.args.delayed.now.items c.args.parcel c.pass_time.new.delayed.items c.keep.new.delayed.items c.keep.ensures.0 c.if-fate.false c.if-fate-gt0.true c.pass_time.ensures.waits c.keep.ensures.1

pub returns-clause-waits : goal.returns-clause-waits
returns-clause-waits g c = waits_none c.args.fate c.args.delayed.now.items c.args.parcel c.pass_time.new.delayed.items c.pass_time.ensures.waits

pub returns-then-fate-clause-hands : goal.returns-then-fate-clause-hands
returns-then-fate-clause-hands g c =
    hands_nothing c.args.room c.args.fate c.args.inboxes.now.items c.pass_time.new.inboxes.items c.args.delayed.now.items c.args.parcel c.pass_time.ensures.hands (ap (λ b. b || nat_lt 0 c.args.fate.delay) c.if-fate.true)

pub returns-then-fate-gt0-clause-hands : goal.returns-then-fate-gt0-clause-hands
returns-then-fate-gt0-clause-hands g c =
    hands_nothing c.args.room c.args.fate c.args.inboxes.now.items c.pass_time.new.inboxes.items c.args.delayed.now.items c.args.parcel c.pass_time.ensures.hands
    (ap (λ b. b || nat_lt 0 c.args.fate.delay) c.if-fate.false ∙ waits_longer c.args.fate.delay c.if-fate-gt0.true)

pub returns-clause-hands : goal.returns-clause-hands
returns-clause-hands g c =
    hands_parcel c.args.room c.args.fate c.args.inboxes.now.items c.pass_time.new.inboxes.items c.hand_on.new.inboxes.items c.args.delayed.now.items c.args.parcel c.pass_time.ensures.hands
    (ap (λ b. b || nat_lt 0 c.args.fate.delay) c.if-fate.false ∙ goes_now c.args.fate.delay c.if-fate-gt0.false) c.hand_on.ensures
