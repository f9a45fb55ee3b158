-- The items that a job submits, one after another.
--     AreFirst given left sent           the first of the items given were submitted, and the others are left
--     SubmitsNext left left' .. ..       the next item was submitted, or the desk refused it
--     IsTicketOf client client' ticket   the ticket of the order that was put, or None if none was
use Rattle.std.specs.Prelude.{◌≡◌, ◌+◌, ℕ, ◌⊎◌, List, [], ◌∷◌, ◌++◌, length, map, Option, Some, None}
use Rattle.cast_message.specs.declared.message.Item.{Item}
use Rattle.cast_desk.specs.Desk.{ClientState, IsRefusal, next_ticket}
use Rattle.cast_desk.specs.declared.client.DeskFault.{DeskFault}
use Rattle.cast_desk.specs.declared.client.DeskFault.TheVariants.{Full, Tickets}
use Rattle.cast_journal.specs.declared.order.OrderIn.{OrderIn}

-- these orders have the first of the items, and these items are left
abbrev pub AreFirst : List Item → List Item → List OrderIn → Type 0
AreFirst given left sent = map (λ o. o.item) sent ++ left ≡ given

-- the item that was handed back
abbrev pub item_in : DeskFault → Item
item_in (Full item) = item
item_in (Tickets item) = item

-- the client's next order, with this item
abbrev pub order_of : ClientState → Item → OrderIn
order_of client item = record { client = client.number; ticket = next_ticket client; item = item }

abbrev pub SubmitsNext : List Item → List Item → ClientState → ClientState → Type 0
SubmitsNext [] left client client' = (left ≡ []) × (client'.orders.put ≡ client.orders.put)
SubmitsNext (item ∷ others) left client client' =
    ((left ≡ others) × (client'.orders.put ≡ client.orders.put ++ order_of client item ∷ []))
    ⊎ ((left ≡ item ∷ others) × (client'.orders.put ≡ client.orders.put)
    × ((fault : DeskFault) × IsRefusal client item fault))

abbrev pub IsTicketOf : ClientState → ClientState → Option ℕ → Type 0
IsTicketOf client client' None = client'.orders.put ≡ client.orders.put
IsTicketOf client client' (Some ticket) =
    (ticket ≡ next_ticket client) × (length client'.orders.put ≡ length client.orders.put + 1)
