-- Clients and desks, as contracts see them.
use Rattle.std.specs.Prelude.{◌≡◌, ℕ, ◌+◌, ◌-◌, ◌<◌, ◌≤◌, ◌^◌, min, List, [], ◌∷◌, ◌++◌, length, map, slice_get, slice_set, Some, Result, MatchResult}
use Rattle.cast_box.specs.declared.opening.BoxFault.{BoxFault}
use Rattle.cast_box.specs.declared.ends.Full.{Full as Refused}
use Rattle.cast_box.specs.Ends.{PutterEnd, TakerEnd, IsSamePutter, IsSameTaker, AreAllEnds, AreNew, WasFull, FilledItAlone, IsSize, IsFirstFault}
use Rattle.cast_message.specs.declared.message.Item.{Item}
use Rattle.cast_journal.specs.declared.order.OrderIn.{OrderIn}
use Rattle.cast_desk.specs.declared.notice.Notice.{Notice}
use Rattle.cast_desk.specs.declared.client.DeskFault.{DeskFault}
use Rattle.cast_desk.specs.declared.client.DeskFault.TheVariants.{Full, Tickets}

-- a client: its number at its node, its first ticket, its putter at the desk and the taker of its tray
pub record ClientState : Type 0 where
  pub number : ℕ
  pub first_ticket : ℕ
  pub orders : PutterEnd OrderIn
  pub tray : TakerEnd Notice

-- the client still has the same number, first ticket and ends
abbrev pub IsSameClient : ClientState → ClientState → Type 0
IsSameClient old new =
    (new.number ≡ old.number) × (new.first_ticket ≡ old.first_ticket) × IsSamePutter old.orders new.orders
    × IsSameTaker old.tray new.tray

-- the orders carry the client's number and consecutive tickets from `first` on
abbrev pub AreInTurn : ℕ → ℕ → List OrderIn → Type 0
AreInTurn client first orders =
    (i : ℕ) (o : OrderIn) → slice_get orders i ≡ Some o → (o.client ≡ client) × (o.ticket ≡ first + i)

-- the next ticket that the client gives
abbrev pub next_ticket : ClientState → ℕ
next_ticket c = c.first_ticket + length c.orders.put

-- the number of notices, or the greatest 64-bit number if there are more
abbrev pub counted : List (ℕ × Notice) → ℕ
counted taken = min (length taken) (2 ^ 64 - 1)

-- why the item was handed back: the next ticket is 2^64 - 1, which is never given, or else the desk's box was full
abbrev pub IsRefusal : ClientState → Item → DeskFault → Type 0
IsRefusal c item (Full back) =
    (back ≡ item) × (next_ticket c + 1 < 2 ^ 64) × WasFull c.orders × FilledItAlone c.orders
IsRefusal c item (Tickets back) = (back ≡ item) × (next_ticket c + 1 ≡ 2 ^ 64)

-- the notice was put into this client's tray, or found it full; no other tray changed
abbrev pub IsPutAt : List (PutterEnd Notice) → ℕ → Notice → Result (Unit {0}) (Refused Notice)
    → List (PutterEnd Notice) → Type 0
IsPutAt old client notice result new =
    (was : PutterEnd Notice) × (now : PutterEnd Notice)
    × (slice_get old client ≡ Some was) × (new ≡ slice_set old client now) × IsSamePutter was now
    × MatchResult result (λ _. now.put ≡ was.put ++ notice ∷ [])
    (λ full. (full.item ≡ notice) × (now.put ≡ was.put) × WasFull was × FilledItAlone was)

-- these are all the ends of a desk's boxes, the clients by number
pub record IsDeskOf (clients : List ClientState) (orders : TakerEnd OrderIn) (trays : List (PutterEnd Notice))
    : Type 0 where
  pub desk : AreAllEnds (map (λ c. c.orders) clients) orders
  pub width : length trays ≡ length clients
  pub tray : (c : ℕ) (client : ClientState) (tray : PutterEnd Notice) → slice_get clients c ≡ Some client
      → slice_get trays c ≡ Some tray
      → AreAllEnds (tray ∷ []) client.tray
  pub number : (c : ℕ) (client : ClientState) → slice_get clients c ≡ Some client → client.number ≡ c

-- nothing was submitted, given or taken; all boxes have `size` places, and each tray has one putter
pub record IsNewDesk (size first_ticket : ℕ) (clients : List ClientState) (orders : TakerEnd OrderIn)
    (trays : List (PutterEnd Notice)) : Type 0 where
  pub client : (c : ℕ) (client : ClientState) → slice_get clients c ≡ Some client
      → (client.first_ticket ≡ first_ticket) × (client.orders.put ≡ []) × (client.orders.size ≡ size)
      × (client.orders.putters ≡ orders.putters) × (client.tray.taken ≡ []) × (client.tray.size ≡ size)
  pub desk : (orders.taken ≡ []) × (orders.size ≡ size)
  pub tray : (c : ℕ) (tray : PutterEnd Notice) → slice_get trays c ≡ Some tray
      → (tray.put ≡ []) × (tray.size ≡ size) × (tray.putters ≡ 1)

-- a client with these ends
abbrev pub new_client : ℕ → ℕ → PutterEnd OrderIn → TakerEnd Notice → ClientState
new_client number first orders tray =
    record { number = number; first_ticket = first; orders = orders; tray = tray }

-- these are the ends of a new tray of `size` places
abbrev pub IsNewTray : ℕ → PutterEnd Notice → TakerEnd Notice → Type 0
IsNewTray size putter taker =
    AreAllEnds (putter ∷ []) taker × AreNew (putter ∷ []) taker × (taker.size ≡ size)

abbrev pub IsClients : ℕ → Type 0
IsClients clients = (0 < clients) × (clients ≤ 4)

abbrev pub IsFaultOf : ℕ → ℕ → BoxFault → Type 0
IsFaultOf size clients = IsFirstFault (IsSize size) (IsClients clients)
