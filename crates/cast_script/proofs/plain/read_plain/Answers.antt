use Rattle.std.proofs.Common.{◌≡◌, ◌∷◌, [], Ok, IfOk, IsUtf8, sym, ap, ◌∙◌, subst, arith}
use Rattle.std.proofs.lemmas.Grind.{common_steps}
use Rattle.json.specs.Token.{Token}
use Rattle.json.specs.Lex.{tokens}
use Rattle.json.specs.Reads.{token_of}
use Rattle.serde_json.specs.Data.{Members, object}
use Rattle.serde_json.specs.View.{view}
use Rattle.cast_script.specs.declared.element.Unread.TheVariants.{Shape}
use Rattle.cast_script.specs.Plain.{IsLike, SaysMembers}
use Rattle.cast_script.specs.Script.{Reads, script_of, said}
use Rattle.cast_script.proofs.PlainLemmas.{some_or, plain_value}
use Rattle.cast_script.proofs.plain.read_plain.Goals as goal

pub returns : goal.returns
returns c =
    let bytes = c.args.bytes.now in
    let shown = view c.in_ok-parts.parts.others in
    let events = c.in_ok-parts.parts.events in
    let after = c.next.new.self in
    let none : c.members.new.reader ≡ [] = grind (arith, common_steps) in
    let says : SaysMembers after shown events [] = subst (SaysMembers after shown events) none c.in_ok-parts.ensures in
    let opened : c.in_ok-reader.reader ≡ Token.begin_object ∷ after = c.in-Some-BeginObject.ensures.value ∙ ap (λ t. token_of t ∷ after) c.in-Some-BeginObject.field-0-is in
    let whole : tokens bytes ≡ Token.begin_object ∷ after = ap tokens (sym c.in-Ok.ensures.cases.0) ∙ sym c.in_ok-reader.ensures.ok ∙ opened in
    let utf8 : IsUtf8 bytes = c.in-Ok.ensures.cases.1 in
    let value = plain_value bytes after shown events whole says in
    subst (λ r. IfOk r (λ script. Reads (Ok script) bytes)) (sym c.ok_or.ensures.value)
    (some_or (λ script. (found : Members) → IsLike found shown events → script_of (object found) ≡ Ok (said script)) (λ script. Reads (Ok script) bytes) c.script.result Shape (λ script h. (object says.1, (utf8, value), h says.1 says.5)) c.script.ensures)
