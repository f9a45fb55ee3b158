use Rattle.std.proofs.Common.{◌≡◌, ◌≤◌, ◌<◌, ◌*◌, ◌%◌, ◌/◌, ◌^◌, length, slice_index, slice_set, bit_or, ◌∙◌, sym, ap, subst, refl, arith}
use Rattle.std.specs.List.{All}
use Rattle.std.specs.Ordering.{nat_cmp}
use Rattle.std.proofs.lemmas.List.{get_or_default}
use Rattle.std.proofs.lemmas.Map.Views.{All-insert_key}
use Rattle.cast_message.specs.Members.{insert-member}
use Rattle.cast_message.specs.Numbers.{number_set}
use Rattle.cast_message.proofs.Numbers.{far_added, near_added}
use Rattle.cast_message.proofs.number_set.NumberSet.insert.Goals as goal

pub returns-then-contains-clause-ok : goal.returns-then-contains-clause-ok
returns-then-contains-clause-ok c = insert-member c.args.self.now c.args.number (sym c.contains.ensures ∙ c.if-contains.true)

pub invariant_of-self-then-number-ge-BITS : goal.invariant_of-self-then-number-ge-BITS
invariant_of-self-then-number-ge-BITS c =
    (c.self.invariant.0, subst (All (λ number. 4096 ≤ number)) (sym c.in_ok-insert.ensures.keys) (All-insert_key nat_cmp c.args.number (λ number. 4096 ≤ number) c.self.inside.far.keys c.self.invariant.1 c.if-number-ge-BITS.true))

pub returns-then-number-ge-BITS-clause-ok : goal.returns-then-number-ge-BITS-clause-ok
returns-then-number-ge-BITS-clause-ok c = far_added c.self.inside.words.items c.self.inside.far.keys c.insert.new.self.keys c.args.self.now c.args.number c.self.view_is (omega arith) c.in_ok-insert.ensures.updates.0

pub returns-clause-ok : goal.returns-clause-ok
returns-clause-ok c =
    let room = c.make_room.new.words.items in
    let place = c.args.number / 64 in
    let within : place < length room = c.in_ok-make_room.ensures.ok in
    let word : c.index_mut.result.now ≡ slice_index room place = c.index_mut.ensures.value ∙ get_or_default room place _ 0 within in
    ap (λ w. number_set (slice_set room place (bit_or w (1 * 2 ^ (c.args.number % 64) % 2 ^ 64))) c.self.inside.far.keys) word
    ∙ near_added c.self.inside.words.items room c.self.inside.far.keys c.args.self.now c.args.number place c.self.view_is (omega arith) c.make_room.ensures.same refl within
