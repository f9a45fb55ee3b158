-- What an event adds to a picture, by the reply to it. Each event that is shown has a column of its own. An accepted order has
-- a mark there, and so have an arrival, a crash and a refusal. After the mark come those of what was delivered and decided. An
-- event that is not shown has no column and no mark, but a crash ends its node's line even so.
--     drawn_after sheet index event reply     the picture after an event that has this place in the script
--     settle_begun, settle_ended              the picture as a settle begins, and is over
--     wants_memory sheet index event reply    whether what the event adds takes memory
use Rattle.std.specs.Prelude.{ℕ, ◌+◌, ◌==◌, Bool, true, false, not, ◌||◌, is_some, if◌then◌else◌, List, [], ◌∷◌, ◌++◌, length, map, slice_get, slice_index_or, slice_set, Option, Some, None, Result, Ok, Err}
use Rattle.cast_message.specs.declared.event.Event.{Event}
use Rattle.cast_message.specs.declared.event.Event.TheVariants.{Order, Send, Ack, Arrive, Crash}
use Rattle.cast_message.specs.declared.event.Answer.{Answer}
use Rattle.cast_message.specs.declared.event.Answer.TheVariants.{Ordered, Sent, Arrived, Down}
use Rattle.cast_message.specs.declared.event.Outcome.{Outcome}
use Rattle.cast_message.specs.declared.event.StepFault.{StepFault}
use Rattle.cast_message.specs.declared.message.Item.{Item}
use Rattle.cast_draw.specs.declared.links.Pair.{Pair}
use Rattle.cast_draw.specs.declared.frames.Cargo.{Cargo}
use Rattle.cast_draw.specs.declared.frames.Cargo.TheVariants.{Message}
use Rattle.cast_draw.specs.declared.frames.Cargo.TheVariants as cargos
use Rattle.cast_draw.specs.declared.frames.Fate.TheVariants.{UnderWay}
use Rattle.cast_draw.specs.declared.frames.MadeFrame.{MadeFrame}
use Rattle.cast_draw.specs.declared.deeds.At.{At}
use Rattle.cast_draw.specs.declared.mark.Shown.{Shown}
use Rattle.cast_draw.specs.declared.mark.Shown.TheVariants.{Broadcast, Arrival, Refusal}
use Rattle.cast_draw.specs.declared.mark.Shown.TheVariants as marks
use Rattle.cast_draw.specs.Gifts.{Gifts, holding, is_held, slot_of}
use Rattle.cast_draw.specs.MadeFrames.{with_arrival}
use Rattle.cast_draw.specs.Deeds.{deeds, done_by}
use Rattle.cast_draw.specs.Sheet.{Sheet, shows}

-- what a node holds and gives. The default stands where there is no such node
abbrev pub gifts_at : List Gifts → ℕ → Gifts
gifts_at gifts node = slice_index_or gifts node (record { me = 0; held = []; given = [] })

-- the node holds a message, which came from this one
abbrev pub held_at : List Gifts → ℕ → Pair → ℕ → List Gifts
held_at gifts node pair source = slice_set gifts node (holding (gifts_at gifts node) pair source)

-- a mark in the next column
abbrev pub with_mark : Sheet → ℕ → Shown → Sheet
with_mark sheet index shown =
    record sheet { marks = sheet.marks ++ record { column = sheet.columns; event = index; shown = shown } ∷ [] }

-- the next column is full
abbrev pub with_column : Sheet → Sheet
with_column sheet = record sheet { columns = sheet.columns + 1 }

-- what was delivered and decided, in the next column, which is then full
abbrev pub with_outcome : Sheet → ℕ → ℕ → Outcome → Sheet
with_outcome sheet index node outcome =
    let at : At = record { column = sheet.columns; event = index; node = node } in
    record sheet {
      columns = sheet.columns + 1;
      marks = sheet.marks ++ map (done_by at) (deeds outcome.deliveries outcome.decisions);
    }

-- a broadcast
abbrev pub ordered : Sheet → ℕ → ℕ → Item → ℕ → Outcome → Sheet
ordered sheet index node item number outcome =
    let held = record sheet { gifts = held_at sheet.gifts node (record { sender = node; number = number }) node } in
    if shows sheet.window index
    then with_outcome (with_mark held index (Broadcast node number item)) index node outcome
    else held

-- the frames that a node made
abbrev pub made_at : List (List MadeFrame) → ℕ → List MadeFrame
made_at made node = slice_index_or made node []

abbrev pub new_frame : Sheet → ℕ → ℕ → ℕ → ℕ → Cargo → MadeFrame
new_frame sheet index from to slot cargo = record {
  from = from;
  seq = length (made_at sheet.made from);
  to = to;
  slot = slot;
  cargo = cargo;
  index = index;
  column = if shows sheet.window index then sheet.columns else 0;
  is_shown = shows sheet.window index;
  fate = UnderWay;
}

-- a frame more
abbrev pub sent : Sheet → ℕ → ℕ → ℕ → ℕ → Cargo → Sheet
sent sheet index from to slot cargo =
    record sheet {
      made = slice_set sheet.made from (made_at sheet.made from ++ new_frame sheet index from to slot cargo ∷ []);
      columns = if shows sheet.window index then sheet.columns + 1 else sheet.columns;
    }

abbrev pub sent_slot : Sheet → ℕ → ℕ → ℕ → ℕ → Option Pair → Sheet
sent_slot sheet index from to slot None = sheet
sent_slot sheet index from to slot (Some pair) = sent sheet index from to slot (Message pair)

-- what a frame carries is held where it arrives
abbrev pub held_of_cargo : List Gifts → ℕ → Cargo → ℕ → List Gifts
held_of_cargo gifts node (Message pair) from = held_at gifts node pair from
held_of_cargo gifts node cargos.Ack from = gifts

-- an arrival, with the frame as it was before
abbrev pub arrived : Sheet → ℕ → ℕ → ℕ → ℕ → Outcome → Option MadeFrame → Sheet
arrived sheet index from seq node outcome None = sheet
arrived sheet index from seq node outcome (Some frame) =
    let brought = record sheet {
      gifts = held_of_cargo sheet.gifts node frame.cargo from;
      made = slice_set sheet.made from (with_arrival (made_at sheet.made from) seq (shows sheet.window index));
    } in
    if shows sheet.window index
    then with_outcome (with_mark brought index (Arrival frame node)) index node outcome
    else brought

-- a crash, where the node's line ends
abbrev pub crashed : Sheet → ℕ → ℕ → Sheet
crashed sheet index node =
    let down = record sheet { crashes = slice_set sheet.crashes node (Some sheet.columns) } in
    if shows sheet.window index then with_column (with_mark down index (marks.Crash node)) else down

-- a refusal
abbrev pub refused : Sheet → ℕ → StepFault → Sheet
refused sheet index fault =
    if shows sheet.window index then with_column (with_mark sheet index (Refusal fault)) else sheet

-- an answer that is not one to the event leaves nothing
abbrev pub answered : Sheet → ℕ → Event → Answer → Sheet
answered sheet index (Order node item) (Ordered number outcome) = ordered sheet index node item number outcome
answered sheet index (Send from to slot) (Sent seq) = sent_slot sheet index from to slot (slot_of (gifts_at sheet.gifts from) to slot)
answered sheet index (Ack from to slot) (Sent seq) = sent sheet index from to slot cargos.Ack
answered sheet index (Arrive from seq) (Arrived node outcome) = arrived sheet index from seq node outcome (slice_get (made_at sheet.made from) seq)
answered sheet index (Crash node) Down = crashed sheet index node
answered sheet index event answer = sheet

abbrev pub drawn_after : Sheet → ℕ → Event → Result Answer StepFault → Sheet
drawn_after sheet index event (Ok answer) = answered sheet index event answer
drawn_after sheet index event (Err fault) = refused sheet index fault

-- a message that the node does not hold yet
abbrev pub is_new : Gifts → Cargo → Bool
is_new gifts (Message pair) = not (is_held gifts.held pair)
is_new gifts cargos.Ack = false

-- an arrival that is shown is drawn, and a message that is new there is held; where there is no such frame nothing is
abbrev pub arrival_wants : Bool → Gifts → Option MadeFrame → Bool
arrival_wants is_shown gifts None = false
arrival_wants is_shown gifts (Some frame) = is_shown || is_new gifts frame.cargo

-- what a node orders is held, and each frame that is made is kept; the rest is drawn
abbrev pub answer_wants : Sheet → ℕ → Event → Answer → Bool
answer_wants sheet index (Order node item) (Ordered number outcome) = true
answer_wants sheet index (Send from to slot) (Sent seq) = is_some (slot_of (gifts_at sheet.gifts from) to slot)
answer_wants sheet index (Ack from to slot) (Sent seq) = true
answer_wants sheet index (Arrive from seq) (Arrived node outcome) = arrival_wants (shows sheet.window index) (gifts_at sheet.gifts node) (slice_get (made_at sheet.made from) seq)
answer_wants sheet index (Crash node) Down = shows sheet.window index
answer_wants sheet index event answer = false

abbrev pub wants_memory : Sheet → ℕ → Event → Result Answer StepFault → Bool
wants_memory sheet index event (Ok answer) = answer_wants sheet index event answer
wants_memory sheet index event (Err fault) = shows sheet.window index

abbrev pub settle_begun : Sheet → Sheet
settle_begun sheet = record sheet { settle = sheet.columns }

-- a ground behind the columns of the settle; without an event it has one column
abbrev pub settle_ended : Sheet → ℕ → Sheet
settle_ended sheet index =
    let end = if sheet.settle == sheet.columns then sheet.columns + 1 else sheet.columns in
    if shows sheet.window index
    then record sheet {
      columns = end;
      grounds = sheet.grounds ++ record { from = sheet.settle; to = end; event = index } ∷ [];
    }
    else sheet
