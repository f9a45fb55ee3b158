use Rattle.std.proofs.Common.{◌≡◌, ◌∷◌, refl, ap, ◌∙◌}
use Rattle.json.specs.Token.{Token}
use Rattle.json.specs.Reads.{token_of}
use Rattle.serde_json.specs.Data.{number, unsigned}
use Rattle.cast_script.proofs.PlainLemmas.{ok_with}
use Rattle.cast_script.proofs.plain.number.Goals as goal

pub returns : goal.returns
returns c =
    let first : c.args.reader.now ≡ Token.number c.in-Some-Number.text.now ∷ c.next.new.self = c.in-Some-Number.ensures.value ∙ ap (λ t. token_of t ∷ c.next.new.self) c.in-Some-Number.field-0-is in
    ok_with c.unsigned.result (λ n h. (number (unsigned n), (c.in-Some-Number.text.now, first, h), refl)) c.unsigned.ensures
