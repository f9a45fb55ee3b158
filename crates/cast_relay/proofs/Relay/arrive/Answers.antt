use Rattle.std.proofs.Common.{◌≡◌, ◌<◌, length, not, sym, ap, ◌∙◌, if◌then◌else◌}
use Rattle.std.specs.Prelude.{slice_set}
use Rattle.std.specs.FinSet as set
use Rattle.std.proofs.lemmas.List.{get_or_default}
use Rattle.cast_relay.specs.declared.Taken.TheVariants.{New, Known}
use Rattle.cast_relay.specs.Pairs.{holds, with_pair}
use Rattle.cast_relay.proofs.Senders.{seen, put, answer}
use Rattle.cast_relay.proofs.Relay.arrive.Goals as goal
use Rattle.cast_relay.proofs.Relay.arrive.Goals.{In_ok-added}

-- the pair is one of those held, once its number is in its sender's set
with_it : (c : In_ok-added) → seen c.self.inside.me c.self.inside.own (slice_set c.make_places.new.numbers.items c.place_of-place.result c.insert.new.self) ≡ with_pair c.args.self.now c.args.message.now.sender c.args.message.now.number
with_it c =
    let room = c.make_places.new.numbers.items in
    let place = c.place_of-place.result in
    let within : place < length room = c.in_ok-make_places.ensures.ok in
    put c.self.inside.numbers.items room c.args.self.now c.self.inside.me c.self.inside.own c.args.message.now.sender place c.args.message.now.number c.insert.new.self c.self.view_is c.make_places.ensures.same c.place_of-place.ensures.value within
    (c.in_ok-added.ensures.ok ∙ ap (λ n. set.insert n c.args.message.now.number) (c.index_mut.ensures.value ∙ get_or_default room place _ set.empty within))

-- it was held where its number was not added
was_held : (c : In_ok-added) → holds c.args.self.now c.args.message.now.sender c.args.message.now.number ≡ not c.in_ok-added.added
was_held c =
    let room = c.make_places.new.numbers.items in
    let place = c.place_of-place.result in
    answer c.args.self.now c.args.message.now.sender c.args.message.now.number c.self.inside.numbers.items room c.self.inside.me c.self.inside.own place c.in_ok-added.added c.self.view_is c.make_places.ensures.same c.place_of-place.ensures.value
    (c.in_ok-added.ensures.test ∙ ap (λ n. not (set.contains n c.args.message.now.number)) (c.index_mut.ensures.value ∙ get_or_default room place _ set.empty c.in_ok-make_places.ensures.ok))

pub returns-clause-ok : goal.returns-clause-ok
returns-clause-ok c = with_it (goal.at.returns-clause-ok c).In_ok-added

pub returns-clause-taken : goal.returns-clause-taken
returns-clause-taken c = sym (ap (λ b. if b then Known else New) (was_held (goal.at.returns-clause-taken c).In_ok-added ∙ ap not c.if-not-added.false))

pub returns-then-not-added-clause-ok : goal.returns-then-not-added-clause-ok
returns-then-not-added-clause-ok c = with_it (goal.at.returns-then-not-added-clause-ok c).In_ok-added

pub returns-then-not-added-clause-taken : goal.returns-then-not-added-clause-taken
returns-then-not-added-clause-taken c = sym (ap (λ b. if b then Known else New) (was_held (goal.at.returns-then-not-added-clause-taken c).In_ok-added ∙ ap not c.if-not-added.true))
