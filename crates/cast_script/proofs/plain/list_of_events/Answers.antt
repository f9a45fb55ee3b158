use Rattle.std.proofs.Common.{◌≡◌, ◌∷◌, sym, ap, ◌∙◌, subst}
use Rattle.json.specs.Token.{Token}
use Rattle.json.specs.Reads.{token_of}
use Rattle.cast_script.specs.Plain.{IsEvent}
use Rattle.cast_script.proofs.PlainLemmas.{IsReading, reading_start, reading_next, reading_done, closed}
use Rattle.cast_script.proofs.plain.list_of_events.Goals as goal

pub events-init : goal.events-init
events-init c = subst (IsReading c.next.new.self c.next.new.self) (sym c.new-events.ensures) (reading_start c.next.new.self)

pub events-preserved : goal.events-preserved
events-preserved c =
    let same : c.take_end_array.new.self ≡ c.events.reader = c.events-test.ensures.1 in
    let is = subst (λ old. IsEvent old c.in_ok-event.event c.event.new.reader) same c.in_ok-event.ensures in
    subst (IsReading c.next.new.self c.event.new.reader) (sym c.in_ok-push.ensures.ok) (reading_next c.next.new.self c.events.reader c.event.new.reader c.events.events c.in_ok-event.event c.events.invariant is)

pub returns : goal.returns
returns c =
    let opened : c.args.reader.now ≡ Token.begin_array ∷ c.next.new.self = c.in-Some-BeginArray.ensures.value ∙ ap (λ t. token_of t ∷ c.next.new.self) c.in-Some-BeginArray.field-0-is in
    let end = closed c.events.reader c.take_end_array.new.self c.events-test.ensures in
    (c.next.new.self, opened, reading_done c.next.new.self c.events.reader c.take_end_array.new.self c.events.events c.events.invariant end)
