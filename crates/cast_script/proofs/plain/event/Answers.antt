use Rattle.std.proofs.Common.{◌≡◌, ◌∷◌, ap, ◌∙◌}
use Rattle.json.specs.Token.{Token}
use Rattle.json.specs.Reads.{token_of}
use Rattle.serde_json.specs.Data.{string}
use Rattle.cast_script.proofs.PlainLemmas.{ok_with}
use Rattle.cast_script.proofs.plain.event.Goals as goal

pub returns : goal.returns
returns c =
    let opened : c.args.reader.now ≡ Token.begin_array ∷ c.next.new.self = c.in-Some-BeginArray.ensures.value ∙ ap (λ t. token_of t ∷ c.next.new.self) c.in-Some-BeginArray.field-0-is in
    ok_with c.event_by.result (λ event h. (c.next.new.self, string c.in_ok-name.name.now ∷ h.0, opened, (c.word.new.reader, c.in_ok-name.ensures, h.1), h.2)) c.event_by.ensures
