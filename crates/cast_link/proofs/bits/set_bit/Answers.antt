use Rattle.std.proofs.Common.{◌/◌, ◌%◌, ◌*◌, ◌^◌, bit_or, slice_set, ◌∙◌, ap, arith}
use Rattle.std.proofs.lemmas.List.{get_or_default}
use Rattle.cast_message.specs.Bits.{is_set}
use Rattle.cast_message.proofs.Places.{is_set-with_place}
use Rattle.cast_link.proofs.bits.set_bit.Goals as goal

pub returns-clause-bits : goal.returns-clause-bits
returns-clause-bits c other =
    let words = c.args.words.now.items in
    let place = c.args.bit / 64 in
    ap (λ w. is_set (slice_set words place (bit_or w (1 * 2 ^ (c.args.bit % 64) % 2 ^ 64))) other) (c.index_mut.ensures.value ∙ get_or_default words place _ 0 c.requires)
    ∙ is_set-with_place words c.args.bit other (omega (arith, c.requires))
