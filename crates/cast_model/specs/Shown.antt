-- What the readers of a world show of the history that it matches.
use Rattle.std.specs.Prelude.{◌≡◌, ◌≢◌, ◌⊎◌, ℕ, ◌<◌, ◌≤◌, max, List, length, map, Option, MatchOption}
use Rattle.cast_message.specs.declared.config.Config.{Config}
use Rattle.cast_message.specs.declared.message.Item.{Item}
use Rattle.cast_message.specs.declared.message.Message.{Message}
use Rattle.cast_model.specs.History.{History, stream}
use Rattle.cast_model.specs.Delivery.{delivered}
use Rattle.cast_model.specs.Rounds.{owed}

abbrev pub item_of : Message → Item
item_of message = message.item

-- what q delivered from s, if both are nodes; otherwise nothing
abbrev pub ShowsDelivered : Config → History → ℕ → ℕ → Option (List Item) → Type 0
ShowsDelivered config past q s shown =
    MatchOption shown (config.nodes ≤ max q s)
    (λ items. (max q s < config.nodes) × (items ≡ map item_of (delivered config past q s)))

-- what p broadcast, if it is a node; otherwise nothing
abbrev pub ShowsStream : Config → History → ℕ → Option (List Item) → Type 0
ShowsStream config past p shown =
    MatchOption shown (config.nodes ≤ p) (λ items. (p < config.nodes) × (items ≡ stream past p))

-- how many slots p owes q, if both are nodes and not the same; otherwise nothing
abbrev pub ShowsOwed : Config → History → ℕ → ℕ → Option ℕ → Type 0
ShowsOwed config past p q shown =
    MatchOption shown ((config.nodes ≤ max p q) ⊎ (p ≡ q))
    (λ count. (max p q < config.nodes) × (p ≢ q) × (count ≡ length (owed past p q)))
