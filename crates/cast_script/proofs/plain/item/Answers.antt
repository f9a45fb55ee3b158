use Rattle.std.proofs.Common.{◌∷◌}
use Rattle.serde_json.specs.Data.{string}
use Rattle.cast_script.proofs.PlainLemmas.{ok_with}
use Rattle.cast_script.proofs.plain.item.Goals as goal

pub returns : goal.returns
returns c = ok_with c.item_by.result (λ item h. (string c.in_ok-name.name.now ∷ h.0, (c.word.new.reader, c.in_ok-name.ensures, h.1), h.2)) c.item_by.ensures
