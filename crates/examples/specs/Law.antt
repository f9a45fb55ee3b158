-- At rest all live nodes have the same sheet.
use Rattle.std.specs.Prelude.{◌≡◌, ℕ, List, slice_get, Some}
use Rattle.cast.specs.Types.{Config, Fault, ClientReport}
use Rattle.cast.specs.Rounds.{Rest, Live, FewCrashedIn}
use Rattle.cast.specs.Followed.{IsFollowed, past_of}
use Rattle.cast.specs.declared.followed.Followed.{Followed}
use Rattle.cast.specs.declared.follower.Follower.{Follower}
use Rattle.examples.specs.declared.ledger.sheet.Sheet.{Sheet}
use Rattle.examples.specs.Sheets.{IsSheetOf}

-- the node with this sheet is live
abbrev pub IsAtLiveNode : Config → Followed Sheet → ℕ → Sheet → Type 0
IsAtLiveNode config run i sheet =
    (client : ClientReport) × (slice_get run.machines.items i ≡ Some sheet)
    × (slice_get run.clients.items i ≡ Some client)
    × Live config (past_of config run) client.node

abbrev pub SheetsAgreeAtRest : Type 0
SheetsAgreeAtRest =
    (config : Config) (faults : List Fault) (followers : List (ℕ × Follower Sheet)) (run : Followed Sheet)
    → IsFollowed IsSheetOf config faults followers run
    → Rest config (past_of config run) → FewCrashedIn config.mode config (past_of config run)
    → (i j : ℕ) (one other : Sheet) → IsAtLiveNode config run i one → IsAtLiveNode config run j other
    → one ≡ other
