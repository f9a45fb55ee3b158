-- What is held back of one sender, and what a call changes.
--     HeldBack                      the number whose turn is next, whether a Close had its turn, and what waits, by number
--     came held i                   the number had its turn or waits
--     with_item held i item         a message is kept; if two have the same number, the first counts
--     with_mark held i              a message that waits is marked
--     run_from i waiting            the items marked from a number, without a gap
--     advanced held                 these items had their turn
--     known_items, known_after      the items that a mark releases, and what is held then
--     offered_items, offered_after  the same, if the message is kept first
--     heard_items, heard_after      the same for a mark, or for an item that is offered
use Rattle.std.specs.Prelude.{ℕ, ◌+◌, ◌==◌, nat_lt, Bool, true, false, ◌&&◌, ◌||◌, if◌then◌else◌, List, [], ◌∷◌, length, slice_index_or, Option, Some, None, is_some}
use Rattle.std.specs.List.{list_any}
use Rattle.std.specs.Ordering.{nat_cmp}
use Rattle.std.specs.Map.{lookup, set_value}
use Rattle.std.specs.BTreeMap.{insert_entry, is_at}
use Rattle.cast_message.specs.declared.message.Item.{Item}
use Rattle.cast_message.specs.Items.{is_close}
use Rattle.cast_fifo.specs.declared.waiting.Waiting.{Waiting}

pub record HeldBack : Type 0 where
  pub next : ℕ
  pub closed : Bool
  pub waiting : List (ℕ × Waiting)

abbrev pub nothing_held : HeldBack
nothing_held = record { next = 0; closed = false; waiting = [] }

abbrev pub held_of : List HeldBack → ℕ → HeldBack
held_of all sender = slice_index_or all sender nothing_held

abbrev pub waiting_at : List (ℕ × Waiting) → ℕ → Option Waiting
waiting_at waiting number = lookup (is_at (nat_cmp number)) waiting

abbrev pub came : HeldBack → ℕ → Bool
came held number = nat_lt number held.next || is_some (waiting_at held.waiting number)

abbrev pub with_waiting : HeldBack → ℕ → Waiting → HeldBack
with_waiting held number waiting =
    record held { waiting = insert_entry nat_cmp held.waiting number waiting }

abbrev pub with_item : HeldBack → ℕ → Item → HeldBack
with_item held number item =
    if came held number
    then held
    else with_waiting held number (record { item = item; known = false })

abbrev pub item_due : Option Waiting → Option Item
item_due None = None
item_due (Some w) = if w.known then Some w.item else None

-- the item of the message that waits, or else the offered one
abbrev pub item_first : Option Waiting → Option Item → Option Item
item_first None offered = offered
item_first (Some w) offered = Some w.item

abbrev pub marked : List (ℕ × Waiting) → ℕ → Option Waiting → List (ℕ × Waiting)
marked waiting number None = waiting
marked waiting number (Some w) =
    set_value (is_at (nat_cmp number)) waiting (record { item = w.item; known = true })

abbrev pub with_mark : HeldBack → ℕ → HeldBack
with_mark held number =
    record held { waiting = marked held.waiting number (waiting_at held.waiting number) }

abbrev pub run_from : ℕ → List (ℕ × Waiting) → List Item
run_from next [] = []
run_from next (entry ∷ entries) =
    if entry.0 == next && entry.1.known then entry.1.item ∷ run_from (next + 1) entries else []

-- what waits after them
abbrev pub rest_from : ℕ → List (ℕ × Waiting) → List (ℕ × Waiting)
rest_from next [] = []
rest_from next (entry ∷ entries) =
    if entry.0 == next && entry.1.known then rest_from (next + 1) entries else entry ∷ entries

abbrev pub advanced : HeldBack → HeldBack
advanced held =
    record {
      next = held.next + length (run_from held.next held.waiting);
      closed = held.closed || list_any is_close (run_from held.next held.waiting);
      waiting = rest_from held.next held.waiting;
    }

abbrev pub known_items : HeldBack → ℕ → List Item
known_items held number = run_from held.next (with_mark held number).waiting

abbrev pub known_after : HeldBack → ℕ → HeldBack
known_after held number = advanced (with_mark held number)

abbrev pub offered_items : HeldBack → ℕ → Item → List Item
offered_items held number item = known_items (with_item held number item) number

abbrev pub offered_after : HeldBack → ℕ → Item → HeldBack
offered_after held number item = known_after (with_item held number item) number

abbrev pub heard_items : HeldBack → ℕ → Option Item → List Item
heard_items held number None = known_items held number
heard_items held number (Some item) = offered_items held number item

abbrev pub heard_after : HeldBack → ℕ → Option Item → HeldBack
heard_after held number None = known_after held number
heard_after held number (Some item) = offered_after held number item
