use Rattle.std.proofs.Common.{◌≡◌, ◌≤◌, ◌<◌, ◌*◌, ◌%◌, ◌/◌, ◌^◌, slice_index, slice_set, bit_and, ◌∙◌, sym, ap, subst, arith}
use Rattle.std.specs.Int.{bit_not, w64}
use Rattle.std.specs.List.{All}
use Rattle.std.proofs.lemmas.List.{get_or_default}
use Rattle.std.proofs.lemmas.Map.Views.{All-remove_key}
use Rattle.std.specs.Ordering.{nat_cmp}
use Rattle.std.specs.BTreeMap.{is_at}
use Rattle.cast_message.specs.Members.{remove-absent}
use Rattle.cast_message.specs.Numbers.{number_set}
use Rattle.cast_message.proofs.Numbers.{far_removed, near_removed, has_word}
use Rattle.cast_message.proofs.number_set.NumberSet.remove.Goals as goal

pub returns-then-not-contains-clause-members : goal.returns-then-not-contains-clause-members
returns-then-not-contains-clause-members c = sym (remove-absent c.args.self.now c.args.number (sym c.contains.ensures ∙ c.if-not-contains.true))

pub invariant_of-self : goal.invariant_of-self
invariant_of-self c =
    (c.self.invariant.0, subst (All (λ number. 4096 ≤ number)) (sym c.remove.ensures.keys) (All-remove_key (is_at (nat_cmp c.args.number)) (λ number. 4096 ≤ number) c.self.inside.far.keys c.self.invariant.1))

pub returns-then-number-ge-BITS-clause-members : goal.returns-then-number-ge-BITS-clause-members
returns-then-number-ge-BITS-clause-members c = far_removed c.self.inside.words.items c.self.inside.far.keys c.remove.new.self.keys c.args.self.now c.args.number c.self.view_is c.self.invariant.0 c.if-number-ge-BITS.true c.remove.ensures.updates.0

pub index_mut-requires : goal.index_mut-requires
index_mut-requires c =
    let within = has_word c.self.inside.words.items c.self.inside.far.keys c.args.self.now c.args.number c.self.view_is (omega (arith, c.if-number-ge-BITS.false)) c.self.invariant.1 (sym c.contains.ensures ∙ c.if-not-contains.false) in
    omega (arith, within, c.self.inside.words.ok)

pub returns-clause-members : goal.returns-clause-members
returns-clause-members c =
    let words = c.self.inside.words.items in
    let place = c.args.number / 64 in
    let near : c.args.number < 4096 = omega (arith, c.if-number-ge-BITS.false) in
    let within = has_word words c.self.inside.far.keys c.args.self.now c.args.number c.self.view_is near c.self.invariant.1 (sym c.contains.ensures ∙ c.if-not-contains.false) in
    let word : c.index_mut.result.now ≡ slice_index words place = c.index_mut.ensures.value ∙ get_or_default words place _ 0 within in
    ap (λ w. number_set (slice_set words place (bit_and w (bit_not w64 (1 * 2 ^ (c.args.number % 64) % 2 ^ 64)))) c.self.inside.far.keys) word
    ∙ near_removed words c.self.inside.far.keys c.args.self.now c.args.number c.self.view_is near (omega (arith, within)) c.self.invariant.1
