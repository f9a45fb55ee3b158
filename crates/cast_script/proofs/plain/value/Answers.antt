use Rattle.std.proofs.Common.{◌≡◌, ◌∷◌, Some, refl, sym, ap, ◌∙◌, arith, rules}
use Rattle.json.specs.Token.{Token}
use Rattle.json.specs.Json as json
use Rattle.json.specs.Reads.{token_of}
use Rattle.serde_json.specs.Data.{string, array, no_items}
use Rattle.serde_json.specs.View.{view, items_view}
use Rattle.serde_json.specs.declared.value.Value.{String, Array, the_lemmas}
use Rattle.serde_json.proofs.Views.{view-Array}
use Rattle.cast_script.proofs.plain.value.Goals as goal

pub returns-in_ok-unsigned-in-Some-Number : goal.returns-in_ok-unsigned-in-Some-Number
returns-in_ok-unsigned-in-Some-Number c =
    let first : c.args.reader.now ≡ Token.number c.in-Some-Number.text.now ∷ c.next.new.self = c.in-Some-Number.ensures.value ∙ ap (λ t. token_of t ∷ c.next.new.self) c.in-Some-Number.field-0-is in
    (json.number c.in-Some-Number.text.now, first, omega arith, rw (c.in_ok-unsigned-in-Some-Number.ensures, c.from.ensures) refl)

pub returns-in_ok-from_str-in-Some-String : goal.returns-in_ok-from_str-in-Some-String
returns-in_ok-from_str-in-Some-String c =
    let first : c.args.reader.now ≡ Token.string c.in-Some-String.text.now ∷ c.next.new.self = c.in-Some-String.ensures.value ∙ ap (λ t. token_of t ∷ c.next.new.self) c.in-Some-String.field-0-is in
    let text = c.in_ok-from_str-in-Some-String in
    let seen : view (String text.field-0) ≡ string c.in-Some-String.text.now = search (rules, the_lemmas) ∙ ap string text.ensures.ok in
    (json.string c.in-Some-String.text.now, first, omega arith, ap Some (sym seen))

pub returns-in_ok-end-in-Some-BeginArray : goal.returns-in_ok-end-in-Some-BeginArray
returns-in_ok-end-in-Some-BeginArray c =
    let opened : c.args.reader.now ≡ Token.begin_array ∷ c.next.new.self = c.in-Some-BeginArray.ensures.value ∙ ap (λ t. token_of t ∷ c.next.new.self) c.in-Some-BeginArray.field-0-is in
    let seen : view (Array c.new.result) ≡ array no_items = view-Array c.new.result ∙ ap (λ vs. array (items_view vs)) c.new.ensures.items in
    (json.array json.no_items, opened ∙ ap (λ ts. Token.begin_array ∷ ts) c.in_ok-end-in-Some-BeginArray.ensures, omega arith, ap Some (sym seen))
