use Rattle.std.proofs.Common.{◌≡◌, [], ap, sym, ◌∙◌, drop, arith}
use Rattle.std.proofs.lemmas.Grind.{common_steps}
use Rattle.std.specs.Str.{all_ascii_digits}
use Rattle.cast_record.specs.Numbers.{read_on}
use Rattle.cast_record.proofs.NumberLemmas.{value_from}
use Rattle.cast_record.proofs.numbers.value_of_digits.Goals as goal

pub returns : goal.returns
returns c =
    let none : drop c.loop-digit.digit-index c.args.digits.now ≡ [] = grind (arith, common_steps) in
    sym (value_from c.args.digits.now c.loop-digit.value (sym c.loop-digit.invariant.digits ∙ ap all_ascii_digits none) (sym c.loop-digit.invariant.value ∙ ap (read_on c.loop-digit.value) none) (omega arith))
