-- What happened to the orders of a client.
--     entries_of c log                     the entries with an origin at client c
--     IsAnswered config p trail e order    the entry took the order as a step, or refused it as the steps before it say
--     Matches R xs ys                      the two lists are related one for one, in order
--     HasOriginOf P kind                   an order's entry, taken or refused, has an origin with P; no other has one
--     Serves config p log trail orders     each client's entries match its orders; each order in the log is one of them
use Rattle.std.specs.Prelude.{◌≡◌, ℕ, ◌==◌, nat_lt, Bool, false, if◌then◌else◌, List, [], ◌∷◌, Option, Some, None}
use Rattle.std.specs.List.{filter}
use Rattle.cast_message.specs.declared.config.Config.{Config}
use Rattle.cast_message.specs.declared.event.Event.TheVariants.{Order}
use Rattle.cast_model.specs.Replies.{IsRefused}
use Rattle.cast_model.specs.Steps.{Steps, Ordered}
use Rattle.cast_model.specs.OwnSteps.{own_fault}
use Rattle.cast_log.specs.declared.entry.Origin.{Origin}
use Rattle.cast_log.specs.declared.entry.Entry.{Entry}
use Rattle.cast_log.specs.declared.entry.EntryKind.{EntryKind}
use Rattle.cast_log.specs.declared.entry.EntryKind.TheVariants.{Step as StepEntry, Refused}
use Rattle.cast_journal.specs.declared.order.OrderIn.{OrderIn}
use Rattle.cast_node.specs.Linked.{Trail, steps_in}
use Rattle.cast_journal.specs.Lists.{Has}
use Rattle.cast_journal.specs.Runs.{origin_of}

abbrev pub is_of : ℕ → Option Origin → Bool
is_of c None = false
is_of c (Some origin) = origin.client == c

abbrev pub origin_in : EntryKind → Option Origin
origin_in (StepEntry event origin outcome) = origin
origin_in (Refused origin fault) = Some origin

unfoldable pub entries_of : ℕ → List Entry → List Entry
entries_of c log = filter (λ e. is_of c (origin_in e.kind)) log

unfoldable pub orders_by : ℕ → List OrderIn → List OrderIn
orders_by c orders = filter (λ o. o.client == c) orders

-- the steps with smaller stamps
unfoldable pub before : ℕ → Trail → Trail
before stamp [] = []
before stamp (mark ∷ trail) = if nat_lt mark.stamp stamp then mark ∷ trail else before stamp trail

abbrev pub IsAnsweredBy : Config → ℕ → Steps → EntryKind → OrderIn → Type 0
IsAnsweredBy config p earlier (StepEntry event origin outcome) order =
    (event ≡ Order p order.item) × (origin ≡ Some (origin_of order))
IsAnsweredBy config p earlier (Refused origin fault) order =
    (origin ≡ origin_of order) × IsRefused (own_fault config p earlier (Ordered order.item)) fault

abbrev pub IsAnswered : Config → ℕ → Trail → Entry → OrderIn → Type 0
IsAnswered config p trail e order =
    IsAnsweredBy config p (steps_in config p (before e.stamp trail)) e.kind order

unfoldable pub Matches : {A B : Type 0} → (A → B → Type 0) → List A → List B → Type 0
Matches R [] [] = Unit {0}
Matches R [] (y ∷ ys) = ⊥
Matches R (x ∷ xs) [] = ⊥
Matches R (x ∷ xs) (y ∷ ys) = R x y × Matches R xs ys

-- an entry of an order, taken or refused, has an origin with this property; no other entry has an origin
abbrev pub HasOriginOf : (Origin → Type 0) → EntryKind → Type 0
HasOriginOf P (StepEntry (Order node item) origin outcome) = (o : Origin) × (origin ≡ Some o) × P o
HasOriginOf P (StepEntry event origin outcome) = origin ≡ None
HasOriginOf P (Refused origin fault) = P origin

abbrev pub IsOriginIn : List OrderIn → Origin → Type 0
IsOriginIn orders origin = (order : OrderIn) × Has orders order × (origin ≡ origin_of order)

-- each client's entries match its orders, and each order in the log is one of these
pub record Serves (config : Config) (p : ℕ) (log : List Entry) (trail : Trail)
    (orders : List OrderIn) : Type 0 where
  pub matches : (c : ℕ) → Matches (IsAnswered config p trail) (entries_of c log) (orders_by c orders)
  pub origins : (e : Entry) → Has log e → HasOriginOf (IsOriginIn orders) e.kind
