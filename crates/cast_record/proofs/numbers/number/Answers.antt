use Rattle.std.proofs.Common.{rules, ◌≡◌, None}
use Rattle.cast_record.specs.Numbers.{number_of}
use Rattle.cast_record.proofs.NumberLemmas.{is_word}
use Rattle.cast_record.proofs.numbers.number.Goals as goal

pub returns-in-empty-clause-word : goal.returns-in-empty-clause-word
returns-in-empty-clause-word c =
    let none : None ≡ number_of c.args.word.now = search rules in
    is_word c.args.word.now None none

pub returns-in-empty-2-clause-word : goal.returns-in-empty-2-clause-word
returns-in-empty-2-clause-word c =
    let none : None ≡ number_of c.args.word.now = search rules in
    is_word c.args.word.now None none
