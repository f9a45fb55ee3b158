-- What an element of a script means: a value that is an array, with exactly these places.
--     item_of places     "data",HEX or "propose",j,v or "close"
--     event_of d         ["order",p,ITEM..], ["send",p,q,slot], ["ack",p,q,slot], ["arrive",from,seq], ["crash",p],
--                        ["settle"]
--     fault_of d         ["lose",KIND,p,q,o,m], ["repeat",KIND,p,q,o,m], ["delay",KIND,p,q,o,m,c], ["crash",p,e]
--     job_of d           [p,[[ITEM..],[ITEM..],..]]
use Rattle.std.specs.Prelude.{ℕ, List, [], ◌∷◌, codes, if◌then◌else◌, Option, Some, None, option_map, option_and_then}
use Rattle.std.specs.Str.{bytes_eq}
use Rattle.serde_json.specs.Data.{Data}
use Rattle.serde_json.specs.Find.{as_number, as_u64, as_str, as_array}
use Rattle.cast_message.specs.declared.message.Item.{Item}
use Rattle.cast_message.specs.declared.message.Item.TheVariants.{Data as Bytes, Propose, Close}
use Rattle.cast_message.specs.declared.event.Event.{Event}
use Rattle.cast_message.specs.declared.event.Event.TheVariants.{Order, Send, Ack, Arrive, Crash as Down}
use Rattle.cast_script.specs.declared.element.LinkSlot.{LinkSlot}
use Rattle.cast_script.specs.declared.script.ScriptEvent.{ScriptEvent}
use Rattle.cast_script.specs.declared.script.ScriptEvent.TheVariants.{Core, Settle}
use Rattle.cast_message.specs.declared.plan.Fault.{Fault}
use Rattle.cast_message.specs.declared.plan.Frames.{Frames}
use Rattle.cast_message.specs.declared.plan.Fault.TheVariants.{Lose, Repeat, Delay, Crash}
use Rattle.cast_message.specs.declared.message.FrameKind.{FrameKind}
use Rattle.cast_message.specs.declared.message.FrameKind.TheVariants.{Carry, Took}
use Rattle.cast_message.specs.Items.{byte_sized}
use Rattle.cast_record.specs.Options.{◌>>=◌}
use Rattle.cast_record.specs.Unhex.{unhex}
use Rattle.cast_script.specs.Places.{places}

-- the places of an array
abbrev pub places_of : Data → Option (List Data)
places_of d = option_map places (as_array d)

-- a number from 0 to 2^64 - 1
abbrev pub number_of : Data → Option ℕ
number_of d = option_and_then as_u64 (as_number d)

-- a number from 0 to 255
abbrev pub node_of : Data → Option ℕ
node_of d = option_and_then byte_sized (number_of d)

-- what the first reader with this name makes of the places
abbrev pub among : {A : Type 0} → List (List ℕ × (List Data → Option A)) → List ℕ → List Data → Option A
among [] name ds = None
among (reader ∷ others) name ds = if bytes_eq name reader.0 then reader.1 ds else among others name ds

-- what the word in the first place makes of the others
abbrev pub by_name : {A : Type 0} → (List ℕ → List Data → Option A) → List Data → Option A
by_name read [] = None
by_name read (word ∷ ds) = option_and_then (λ name. read name ds) (as_str word)

-- two places, each read in its way, joined
abbrev pub both : {A B C : Type 0} → (Data → Option A) → (Data → Option B) → (A → B → C) → List Data → Option C
both first second make (d ∷ e ∷ []) = do
  a ← first d
  b ← second e
  Some (make a b)
both first second make _ = None

-- ---- items

abbrev pub data_of : List Data → Option Item
data_of (digits ∷ []) = option_map Bytes (option_and_then unhex (as_str digits))
data_of _ = None

abbrev pub proposal_of : List Data → Option Item
proposal_of ds = both number_of number_of Propose ds

abbrev pub close_of : List Data → Option Item
close_of [] = Some Close
close_of _ = None

abbrev pub item_named : List ℕ → List Data → Option Item
item_named name ds =
    among ((codes "data", data_of) ∷ (codes "propose", proposal_of) ∷ (codes "close", close_of) ∷ []) name ds

abbrev pub item_of : List Data → Option Item
item_of ds = by_name item_named ds

-- ---- events

abbrev pub order_of : List Data → Option Event
order_of [] = None
order_of (p ∷ ds) = do
  node ← node_of p
  item ← item_of ds
  Some (Order node item)

-- a link, and one of its slots
abbrev pub link_slot_of : List Data → Option LinkSlot
link_slot_of (p ∷ q ∷ s ∷ []) = do
  from ← node_of p
  to ← node_of q
  slot ← number_of s
  Some (record { from = from; to = to; slot = slot })
link_slot_of _ = None

abbrev pub send_of : List Data → Option ScriptEvent
send_of ds = option_map (λ place. Core (Send place.from place.to place.slot)) (link_slot_of ds)

abbrev pub ack_of : List Data → Option ScriptEvent
ack_of ds = option_map (λ place. Core (Ack place.from place.to place.slot)) (link_slot_of ds)

abbrev pub arrive_of : List Data → Option ScriptEvent
arrive_of ds = both node_of number_of (λ from seq. Core (Arrive from seq)) ds

abbrev pub crash_of : List Data → Option ScriptEvent
crash_of (p ∷ []) = do
  node ← node_of p
  Some (Core (Down node))
crash_of _ = None

abbrev pub settle_of : List Data → Option ScriptEvent
settle_of [] = Some Settle
settle_of _ = None

-- the readers of events that are no orders, by their names
abbrev pub other_events : List (List ℕ × (List Data → Option ScriptEvent))
other_events =
    (codes "send", send_of) ∷ (codes "ack", ack_of) ∷ (codes "arrive", arrive_of)
    ∷ (codes "crash", crash_of) ∷ (codes "settle", settle_of) ∷ []

abbrev pub event_named : List ℕ → List Data → Option ScriptEvent
event_named name ds =
    among ((codes "order", λ places. option_map Core (order_of places)) ∷ other_events) name ds

abbrev pub event_at : List Data → Option ScriptEvent
event_at ds = by_name event_named ds

abbrev pub event_of : Data → Option ScriptEvent
event_of d = option_and_then event_at (places_of d)

-- ---- faults

abbrev pub kind_named : List ℕ → Option FrameKind
kind_named name =
    if bytes_eq name (codes "carry") then Some Carry
    else (if bytes_eq name (codes "took") then Some Took else None)

abbrev pub kind_of : Data → Option FrameKind
kind_of d = option_and_then kind_named (as_str d)

-- the frames that these places name
abbrev pub frames_at : Data → Data → Data → Data → Data → Option Frames
frames_at k p q o m = do
  kind ← kind_of k
  from ← node_of p
  to ← node_of q
  first ← number_of o
  step ← number_of m
  Some (record { kind = kind; from = from; to = to; first = first; step = step })

abbrev pub frames_of : List Data → Option Frames
frames_of (k ∷ p ∷ q ∷ o ∷ m ∷ []) = frames_at k p q o m
frames_of _ = None

abbrev pub lose_of : List Data → Option Fault
lose_of ds = option_map Lose (frames_of ds)

abbrev pub repeat_of : List Data → Option Fault
repeat_of ds = option_map Repeat (frames_of ds)

abbrev pub delay_of : List Data → Option Fault
delay_of (k ∷ p ∷ q ∷ o ∷ m ∷ c ∷ []) = do
  frames ← frames_at k p q o m
  count ← number_of c
  Some (Delay frames count)
delay_of _ = None

abbrev pub engine_crash_of : List Data → Option Fault
engine_crash_of ds = both node_of number_of Crash ds

abbrev pub fault_named : List ℕ → List Data → Option Fault
fault_named name ds =
    among ((codes "lose", lose_of) ∷ (codes "repeat", repeat_of) ∷ (codes "delay", delay_of)
    ∷ (codes "crash", engine_crash_of) ∷ []) name ds

abbrev pub fault_at : List Data → Option Fault
fault_at ds = by_name fault_named ds

abbrev pub fault_of : Data → Option Fault
fault_of d = option_and_then fault_at (places_of d)

-- ---- jobs

-- the item, if there is one, before the others, if there are any
abbrev pub before : Option Item → Option (List Item) → Option (List Item)
before None others = None
before (Some item) others = option_map (λ items. item ∷ items) others

-- the items that the values are, each an array
abbrev pub items_of : List Data → Option (List Item)
items_of [] = Some []
items_of (d ∷ ds) = before (option_and_then item_of (places_of d)) (items_of ds)

abbrev pub job_at : List Data → Option (ℕ × List Item)
job_at (p ∷ ds ∷ []) = do
  node ← node_of p
  list ← places_of ds
  items ← items_of list
  Some (node, items)
job_at _ = None

abbrev pub job_of : Data → Option (ℕ × List Item)
job_of d = option_and_then job_at (places_of d)
