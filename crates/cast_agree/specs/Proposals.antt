-- What is decided by the items delivered so far. The items come with their senders, newest first.
--     proposals j past        the first proposal of each sender in instance j, in order
--     counted_of quorum past  what is counted of them
--     DecidesLeast            a quorum of senders decides, by the least of their values
use Rattle.std.specs.Prelude.{◌≡◌, ℕ, ◌+◌, ◌==◌, ◌<◌, nat_le, min, Bool, false, not, ◌&&◌, ◌||◌, if◌then◌else◌, List, [], ◌∷◌, ◌++◌, length, take, map, Option, Some, None}
use Rattle.std.specs.List.{fold}
use Rattle.std.specs.FinMap as finite
use Rattle.cast_message.specs.declared.message.Item.{Item}
use Rattle.cast_message.specs.declared.message.Item.TheVariants.{Propose}
use Rattle.cast_message.specs.declared.message.Decision.{Decision}
use Rattle.cast_agree.specs.Counted.{Counted, counted_after, decision, decision_by}

abbrev pub has_proposed : List (ℕ × ℕ) → ℕ → Bool
has_proposed [] sender = false
has_proposed (p ∷ ps) sender = sender == p.0 || has_proposed ps sender

abbrev pub with_item : ℕ → List (ℕ × ℕ) → ℕ → Item → List (ℕ × ℕ)
with_item j ps sender (Propose instance value) =
    if instance == j && not (has_proposed ps sender) then ps ++ (sender, value) ∷ [] else ps
with_item j ps sender _ = ps

abbrev pub proposals : ℕ → List (ℕ × Item) → List (ℕ × ℕ)
proposals j [] = []
proposals j (d ∷ past) = with_item j (proposals j past) d.0 d.1

abbrev pub counted_of : ℕ → List (ℕ × Item) → Counted
counted_of quorum [] = record { quorum = quorum; tallies = finite.empty }
counted_of quorum (d ∷ past) = counted_after (counted_of quorum past) d.0 d.1

abbrev pub values : List (ℕ × ℕ) → List ℕ
values ps = map (λ p. p.1) ps

abbrev pub least : List ℕ → ℕ
least [] = 0
least (x ∷ xs) = fold min x xs

abbrev pub settled : ℕ → List (ℕ × ℕ) → Option ℕ
settled quorum ps = if nat_le quorum (length ps) then Some (least (take quorum (values ps))) else None

abbrev pub settled_by : ℕ → ℕ → List (ℕ × ℕ) → ℕ → ℕ → Option Decision
settled_by quorum j ps sender value =
    if not (has_proposed ps sender) && length ps + 1 == quorum
    then Some (record { instance = j; value = least (values ps ++ value ∷ []) }) else None

abbrev pub DecidesLeast : Type 0
DecidesLeast =
    (quorum : ℕ) → 0 < quorum → (past : List (ℕ × Item)) (j : ℕ) →
    (decision (counted_of quorum past) j ≡ settled quorum (proposals j past))
    × ((sender value : ℕ) → decision_by (counted_of quorum past) sender (Propose j value)
    ≡ settled_by quorum j (proposals j past) sender value)
