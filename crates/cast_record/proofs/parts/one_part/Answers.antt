use Rattle.std.proofs.Common.{◌∙◌, ◌∷◌, nat_eq, ap, sym, option_map}
use Rattle.cast_record.specs.Parts.{parts_of}
use Rattle.cast_record.specs.Reading.{one_of}
use Rattle.cast_record.proofs.PartLemmas.{more_than_one}
use Rattle.cast_record.proofs.parts.one_part.Goals as goal

pub returns-in_default-Some : goal.returns-in_default-Some
returns-in_default-Some c =
    let part = c.split_part.result.0.now in
    sym (ap one_of c.split_part.ensures
    ∙ ap (λ rest. one_of (part ∷ parts_of c.args.separator (option_map (λ r. r.now) rest))) c.in_default-Some.is-1
    ∙ more_than_one part (λ b. nat_eq b c.args.separator) c.in_default-Some.field-0-1.now)
