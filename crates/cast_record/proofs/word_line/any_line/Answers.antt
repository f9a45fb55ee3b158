use Rattle.std.proofs.Common.{◌∙◌, ◌∷◌, ap, option_map}
use Rattle.cast_record.specs.Parts.{parts_of}
use Rattle.cast_record.proofs.ReadLemmas.{line_by_parts, line_by_one_part}
use Rattle.cast_record.proofs.word_line.any_line.Goals as goal

pub returns-in-Some : goal.returns-in-Some
returns-in-Some c =
    let cut = c.split_part.ensures ∙ ap (λ rest. c.split_part.result.0.now ∷ parts_of 32 (option_map (λ r. r.now) rest)) c.in-Some.is in
    c.words.ensures ∙ line_by_parts c.args.bytes.now c.split_part.result.0.now c.in-Some.rest.now cut

pub returns-in-None : goal.returns-in-None
returns-in-None c =
    let cut = c.split_part.ensures ∙ ap (λ rest. c.split_part.result.0.now ∷ parts_of 32 (option_map (λ r. r.now) rest)) c.in-None.is in
    c.end.ensures ∙ line_by_one_part c.args.bytes.now c.split_part.result.0.now cut
