use Rattle.std.proofs.Common.{◌≡◌, Some, IfOk, subst, sym, ap, ◌∙◌}
use Rattle.cast_record.specs.Numbers.{number_of as number_in_words}
use Rattle.serde_json.specs.Data.{unsigned}
use Rattle.serde_json.specs.Read.{number_of}
use Rattle.cast_script.specs.declared.element.Unread.TheVariants.{Shape}
use Rattle.cast_script.proofs.PlainLemmas.{number_or}
use Rattle.cast_script.proofs.plain.unsigned.Goals as goal

pub returns : goal.returns
returns c =
    let bytes = c.as_bytes.ensures.value in
    let read = number_or c.args.text.now c.number.result Shape (c.number.ensures.exact ∙ ap number_in_words bytes) in
    subst (λ r. IfOk r (λ n. number_of c.args.text.now ≡ Some (unsigned n))) (sym c.ok_or.ensures.value) read
