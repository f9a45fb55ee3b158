use Rattle.std.proofs.Common.{◌∷◌, ap, ◌∙◌}
use Rattle.json.specs.Reads.{token_of}
use Rattle.cast_script.proofs.plain.word.Goals as goal

pub returns-in-Some-String : goal.returns-in-Some-String
returns-in-Some-String c = c.in-Some-String.ensures.value ∙ ap (λ t. token_of t ∷ c.next.new.self) c.in-Some-String.field-0-is
