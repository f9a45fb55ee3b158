use Rattle.std.proofs.Common.{◌≡◌, ◌∙◌, ◌∷◌, ap, sym, refl, is_some, Option, Some, None, option_map}
use Rattle.std.specs.Str.{bytes_eq}
use Rattle.cast_record.specs.Parts.{parts_of}
use Rattle.cast_record.specs.WordLines.{line_said}
use Rattle.cast_record.specs.declared.word_line.WordLine.{WordLine}
use Rattle.cast_record.proofs.MigrationLemmas.{head_found, head_missed, one_word}
use Rattle.cast_record.proofs.migration.is_head.Goals as goal

some_said : (o : Option WordLine) → is_some (option_map line_said o) ≡ is_some o
some_said None = refl
some_said (Some line) = refl

pub returns-then-eq-clause-yes : goal.returns-then-eq-clause-yes
returns-then-eq-clause-yes c found =
    let cut = c.split_part.ensures ∙ ap (λ rest. c.split_part.result.0.now ∷ parts_of 32 (option_map (λ r. r.now) rest)) c.in-Some.is in
    head_found c.args.bytes.now c.split_part.result.0.now c.in-Some.rest.now (option_map line_said c.head.result) cut (sym (c.eq.ensures ∙ ap (λ bytes. bytes_eq c.split_part.result.0.now bytes) c.as_slice.ensures) ∙ c.if-eq.true) c.head.ensures (some_said c.head.result ∙ sym c.is_some.ensures ∙ found)

pub returns-then-eq-clause-no : goal.returns-then-eq-clause-no
returns-then-eq-clause-no c missed =
    let cut = c.split_part.ensures ∙ ap (λ rest. c.split_part.result.0.now ∷ parts_of 32 (option_map (λ r. r.now) rest)) c.in-Some.is in
    head_missed c.args.bytes.now c.split_part.result.0.now c.in-Some.rest.now (option_map line_said c.head.result) cut (sym (c.eq.ensures ∙ ap (λ bytes. bytes_eq c.split_part.result.0.now bytes) c.as_slice.ensures) ∙ c.if-eq.true) c.head.ensures (some_said c.head.result ∙ sym c.is_some.ensures ∙ missed)

pub returns-in-None-clause-no : goal.returns-in-None-clause-no
returns-in-None-clause-no c missed =
    let cut = c.split_part.ensures ∙ ap (λ rest. c.split_part.result.0.now ∷ parts_of 32 (option_map (λ r. r.now) rest)) c.in-None.is in
    one_word c.args.bytes.now c.split_part.result.0.now cut
