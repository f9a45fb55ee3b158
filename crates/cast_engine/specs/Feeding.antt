-- How much of a log a client has learned.
--     IsFed client log place put       the tray got what the feed has up to the place
--     AreFed log trays places          each client's tray did
--     next_at client log place         the next notice
--     IsToldNoMore client log tray p   why no notice is put
--     AreTold log old new places       each client got a notice, or there is such a cause
use Rattle.std.specs.Prelude.{◌≡◌, Bool, true, false, ℕ, ◌+◌, ◌<◌, ◌≤◌, ◌^◌, List, [], ◌++◌, length, take, slice_get, slice_set, Option, Some, None, ◌⊎◌}
use Rattle.cast_box.specs.Ends.{PutterEnd, IsSamePutter, WasFull, FilledItAlone}
use Rattle.cast_message.specs.Items.{has_bytes}
use Rattle.cast_log.specs.declared.entry.Entry.{Entry}
use Rattle.cast_desk.specs.declared.notice.Notice.{Notice}
use Rattle.cast_desk.specs.declared.notice.Notice.TheVariants.{Delivered}
use Rattle.cast_desk.specs.Feed.{told_by, feed_from, feed, orders_of}
use Rattle.cast_engine.specs.declared.feeding.Place.{Place}

-- what the entry, if there is one, says to the client after this many orders of the node
abbrev pub told_at : ℕ → ℕ → Option Entry → List Notice
told_at client orders None = []
told_at client orders (Some e) = told_by client orders e.kind

-- what the entry at the place says
abbrev pub told_here : ℕ → List Entry → Place → List Notice
told_here client log place = told_at client place.orders (slice_get log place.entry)

-- what it says next
abbrev pub next_at : ℕ → List Entry → Place → Option Notice
next_at client log place = slice_get (told_here client log place) place.told

-- the notice is the next one
abbrev pub IsNext : ℕ → List Entry → Place → Notice → Type 0
IsNext client log place notice = next_at client log place ≡ Some notice

-- the notice, if there is one, has a delivered message with bytes; to copy it takes memory
abbrev pub takes_memory : Option Notice → Bool
takes_memory (Some (Delivered message)) = has_bytes message.item
takes_memory _ = false

-- what the client got, up to the place
abbrev pub told_to : ℕ → List Entry → Place → List Notice
told_to client log place =
    feed_from client 0 (take place.entry log) ++ take place.told (told_here client log place)

pub record IsPlaced (client : ℕ) (log : List Entry) (place : Place) : Type 0 where
  pub within : place.entry ≤ length log
  pub counted : place.orders ≡ orders_of (take place.entry log)
  pub begun : place.told ≤ length (told_here client log place)
  pub waits : (notice : Notice) → place.waiting ≡ Some notice → IsNext client log place notice
  pub counts : (notice : Notice) → place.waiting ≡ Some notice
      → place.told + 1 < 2 ^ 64  -- one more notice can be counted

abbrev pub IsFed : ℕ → List Entry → Place → List Notice → Type 0
IsFed client log place put = IsPlaced client log place × (put ≡ told_to client log place)

abbrev pub AreFed : List Entry → List (PutterEnd Notice) → List Place → Type 0
AreFed log trays places =
    (length places ≡ length trays)
    × ((c : ℕ) (tray : PutterEnd Notice) (place : Place) → slice_get trays c ≡ Some tray
    → slice_get places c ≡ Some place → IsFed c log place tray.put)

-- the client's tray got the feed up to the place
abbrev pub FedIn : ℕ → List Entry → List (PutterEnd Notice) → Place → Type 0
FedIn client log trays place =
    (tray : PutterEnd Notice) × (slice_get trays client ≡ Some tray)
    × IsFed client log place tray.put

-- a tray may have got one more notice, and has the feed up to the place
abbrev pub FedAt : ℕ → List Entry → List (PutterEnd Notice) → List (PutterEnd Notice) → Place → Type 0
FedAt client log old new place =
    (was : PutterEnd Notice) × (now : PutterEnd Notice)
    × (slice_get old client ≡ Some was) × (new ≡ slice_set old client now) × IsSamePutter was now
    × IsFed client log place now.put

-- why a client gets no more: it got all of its feed, its tray was full, or the next notice takes memory
abbrev pub IsToldNoMore : ℕ → List Entry → PutterEnd Notice → Place → Type 0
IsToldNoMore client log tray place =
    (told_to client log place ≡ feed log client)
    ⊎ ((WasFull tray × FilledItAlone tray) ⊎ (takes_memory (next_at client log place) ≡ true))

-- the place of a client that got nothing
abbrev pub first_place : Place
first_place = record { entry = 0; orders = 0; told = 0; waiting = None }

-- what was put into the tray, if there is one
abbrev pub put_into : Option (PutterEnd Notice) → List Notice
put_into None = []
put_into (Some tray) = tray.put

-- each tray got at most this many more notices
abbrev pub TellEach : ℕ → List (PutterEnd Notice) → List (PutterEnd Notice) → Type 0
TellEach count old new =
    (c : ℕ) → length (put_into (slice_get new c)) ≤ length (put_into (slice_get old c)) + count

-- the client's tray got one more notice, or there is a cause why not
abbrev pub IsTold : Bool → ℕ → List Entry → List (PutterEnd Notice) → List (PutterEnd Notice) → Place → Type 0
IsTold true client log old new place =
    length (put_into (slice_get new client)) ≡ length (put_into (slice_get old client)) + 1
IsTold false client log old new place =
    (tray : PutterEnd Notice) × (slice_get old client ≡ Some tray)
    × IsToldNoMore client log tray place

-- each client's tray got one more notice, or there is a cause why not
abbrev pub AreTold : List Entry → List (PutterEnd Notice) → List (PutterEnd Notice) → List Place → Type 0
AreTold log old new places =
    (c : ℕ) (place : Place) → slice_get places c ≡ Some place → (told : Bool)
    × IsTold told c log old new place
