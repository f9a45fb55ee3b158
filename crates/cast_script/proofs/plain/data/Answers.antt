use Rattle.std.proofs.Common.{◌∷◌, []}
use Rattle.serde_json.specs.Data.{string}
use Rattle.cast_script.proofs.PlainLemmas.{gives_ok, ok_with}
use Rattle.cast_script.proofs.plain.data.Goals as goal

pub returns : goal.returns
returns c =
    let item = c.data_item.result in
    ok_with item (λ item is. (string c.in_ok-digits.digits.now ∷ [], (c.word.new.reader, c.in_ok-digits.ensures, c.in_ok-end.ensures), is)) (gives_ok item _ c.data_item.ensures)
