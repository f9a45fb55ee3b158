-- The sheet of what was delivered.
--     transfer_of bytes, transfer_in item    the transfer in these bytes, and in an item
--     received journal a, sent journal a     what account a received in all by these messages, and what it sent
--     IsSheetOf sheet journal                the sheet has these sums for each account
use Rattle.std.specs.Prelude.{◌≡◌, ℕ, ◌+◌, ◌-◌, ◌*◌, ◌^◌, ◌<◌, ◌==◌, nat_lt, ◌&&◌, min, if◌then◌else◌, List, [], ◌∷◌, length, slice_index, slice_set, Option, Some, None}
use Rattle.std.specs.List.{sum_by}
use Rattle.cast.specs.Types.{Item, Message, Data}
use Rattle.examples.specs.declared.ledger.transfer.Transfer.{Transfer}
use Rattle.examples.specs.declared.ledger.sheet.Sheet.{Sheet}

abbrev pub account_count : ℕ
account_count = 4

-- the two accounts, and the amount, its high byte first
abbrev pub transfer_of : List ℕ → Option Transfer
transfer_of (from ∷ to ∷ high ∷ low ∷ []) =
    if nat_lt from account_count && nat_lt to account_count
    then Some (record { from = from; to = to; amount = 256 * high + low })
    else None
transfer_of _ = None

abbrev pub transfer_in : Item → Option Transfer
transfer_in (Data bytes) = transfer_of bytes
transfer_in _ = None

abbrev pub received_by : ℕ → Option Transfer → ℕ
received_by a None = 0
received_by a (Some t) = if t.to == a then t.amount else 0

abbrev pub sent_by : ℕ → Option Transfer → ℕ
sent_by a None = 0
sent_by a (Some t) = if t.from == a then t.amount else 0

abbrev pub received : List Message → ℕ → ℕ
received journal a = sum_by (λ m. received_by a (transfer_in m.item)) journal

abbrev pub sent : List Message → ℕ → ℕ
sent journal a = sum_by (λ m. sent_by a (transfer_in m.item)) journal

-- a sum as far as 64 bits hold it
abbrev pub capped : ℕ → ℕ
capped n = min n (2 ^ 64 - 1)

-- the sums with this amount added at one account
abbrev pub added : List ℕ → ℕ → ℕ → List ℕ
added sums a amount = slice_set sums a (capped (slice_index sums a + amount))

-- these are the sums for each account
pub record AreSums (sums : List ℕ) (total : ℕ → ℕ) : Type 0 where
  pub size : length sums ≡ account_count
  pub each : (a : ℕ) → a < account_count → slice_index sums a ≡ capped (total a)

pub record IsSheetOf (sheet : Sheet) (journal : List Message) : Type 0 where
  pub received : AreSums sheet.received (received journal)
  pub sent : AreSums sheet.sent (sent journal)
