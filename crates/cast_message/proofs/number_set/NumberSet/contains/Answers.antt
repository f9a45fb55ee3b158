use Rattle.std.proofs.Common.{◌≡◌, ◌<◌, ◌≤◌, ◌^◌, length, slice_index, ◌%◌, ◌/◌, bit_and, nat_eq, ◌∙◌, sym, ap, arith}
use Rattle.std.proofs.lemmas.Bool.Decides.{nat_tests}
use Rattle.std.proofs.lemmas.List.{get_or_default}
use Rattle.cast_message.proofs.Places.{is_set-test}
use Rattle.cast_message.proofs.Numbers.{is_number-in, far_number, near_number, no_bit}
use Rattle.cast_message.proofs.number_set.NumberSet.contains.Goals as goal

pub returns-then-number-ge-BITS : goal.returns-then-number-ge-BITS
returns-then-number-ge-BITS c = c.contains.ensures ∙ sym (far_number c.self.inside.words.items c.self.inside.far.keys c.args.number c.self.invariant.0 c.if-number-ge-BITS.true) ∙ is_number-in _ _ c.args.self.now c.self.view_is c.args.number (omega arith)

pub returns-in-Some : goal.returns-in-Some
returns-in-Some c =
    let words = c.self.inside.words.items in
    let within : c.args.number / 64 < length c.deref.result.now = grind (arith, nat_tests, c.in-Some.ensures.lookup.0) in
    let word : c.in-Some.word.now ≡ slice_index words (c.args.number / 64) = c.in-Some.ensures.lookup.1 ∙ get_or_default c.deref.result.now (c.args.number / 64) _ 0 within ∙ ap (λ ws. slice_index ws (c.args.number / 64)) c.deref.ensures.value in
    ap (λ w. nat_eq (bit_and (w / 2 ^ (c.args.number % 64)) 1) 1) word
    ∙ is_set-test words c.args.number
    ∙ sym (near_number words c.self.inside.far.keys c.args.number (omega (arith, c.if-number-ge-BITS.false)) c.self.invariant.1)
    ∙ is_number-in words c.self.inside.far.keys c.args.self.now c.self.view_is c.args.number (omega arith)

pub returns-in-None : goal.returns-in-None
returns-in-None c =
    let words = c.self.inside.words.items in
    let past : length c.deref.result.now ≤ c.args.number / 64 = grind (arith, nat_tests, c.in-None.ensures.lookup.0) in
    sym (no_bit words c.args.number (omega (arith, past, ap length c.deref.ensures.value)))
    ∙ sym (near_number words c.self.inside.far.keys c.args.number (omega (arith, c.if-number-ge-BITS.false)) c.self.invariant.1)
    ∙ is_number-in words c.self.inside.far.keys c.args.self.now c.self.view_is c.args.number (omega arith)
