-- What a log makes a node notify its client of.
use Rattle.std.specs.Prelude.{ℕ, ◌+◌, List, [], ◌∷◌, ◌++◌, map, if◌then◌else◌, ◌==◌, Option, Some, Ok, Err}
use Rattle.cast_message.specs.declared.event.Event.{Event}
use Rattle.cast_message.specs.declared.event.Event.TheVariants.{Order}
use Rattle.cast_message.specs.declared.event.Outcome.{Outcome}
use Rattle.cast_message.specs.declared.event.StepFault.{StepFault}
use Rattle.cast_log.specs.declared.entry.Origin.{Origin}
use Rattle.cast_log.specs.declared.entry.Entry.{Entry}
use Rattle.cast_log.specs.declared.entry.EntryKind.{EntryKind}
use Rattle.cast_log.specs.declared.entry.EntryKind.TheVariants.{Step, Refused}
use Rattle.cast_desk.specs.declared.notice.Notice.{Notice}
use Rattle.cast_desk.specs.declared.notice.Notice.TheVariants.{Reply, Delivered, Decided}

-- how many orders an event is: one or none
abbrev pub order_count : Event → ℕ
order_count (Order node item) = 1
order_count _ = 0

abbrev pub orders_in : EntryKind → ℕ
orders_in (Step event origin outcome) = order_count event
orders_in (Refused origin fault) = 0

-- the reply to the client's order, which was taken with this number
abbrev pub reply_of : ℕ → Event → Option Origin → ℕ → List Notice
reply_of client (Order node item) (Some origin) number =
    if origin.client == client then Reply origin.ticket (Ok number) ∷ [] else []
reply_of client _ _ number = []

abbrev pub refusal_of : ℕ → Origin → StepFault → List Notice
refusal_of client origin fault = if origin.client == client then Reply origin.ticket (Err fault) ∷ [] else []

abbrev pub news_of : Outcome → List Notice
news_of outcome = map Delivered outcome.deliveries ++ map Decided outcome.decisions

-- what one entry says to the client, when this many of the node's orders came before it
abbrev pub told_by : ℕ → ℕ → EntryKind → List Notice
told_by client number (Step event origin outcome) = reply_of client event origin number ++ news_of outcome
told_by client number (Refused origin fault) = refusal_of client origin fault

abbrev pub feed_from : ℕ → ℕ → List Entry → List Notice
feed_from client number [] = []
feed_from client number (e ∷ es) =
    told_by client number e.kind ++ feed_from client (number + orders_in e.kind) es

abbrev pub feed : List Entry → ℕ → List Notice
feed log client = feed_from client 0 log

-- the number of orders in a log
abbrev pub orders_of : List Entry → ℕ
orders_of [] = 0
orders_of (e ∷ es) = orders_in e.kind + orders_of es
