-- What the readers say of what a node broadcast.
--     CountsStream config past p status count    how many items p broadcast, or that it is no node
--     TellsStreamItem config past p number status told old new    p's item with this number, or that there is none
use Rattle.std.specs.Prelude.{◌≡◌, ◌⊎◌, ℕ, ◌<◌, ◌≤◌, List, length, slice_get, None, IsSomeAnd}
use Rattle.cast_message.specs.declared.config.Config.{Config}
use Rattle.cast_model.specs.History.{History, stream}
use Rattle.cast_c.specs.Steps.{PutsItem, numbers_of_item}
use Rattle.cast_c.specs.declared.numbers.ItemNumbers.{ItemNumbers}

pub record CountsStream (config : Config) (past : History) (p status count : ℕ) : Type 0 where
  pub counted : status ≡ 0 → (p < config.nodes) × (count ≡ length (stream past p))
  pub none : status ≡ 2 → config.nodes ≤ p
  pub known : (status ≡ 0) ⊎ (status ≡ 2)

-- the item is reported, and its bytes are put; or there is no such item
pub record TellsStreamItem (config : Config) (past : History) (p number status : ℕ)
    (told : ItemNumbers) (old new : List ℕ) : Type 0 where
  pub told_item : (status ≡ 0) ⊎ (status ≡ 6) → IsSomeAnd (slice_get (stream past p) number)
      (λ item. (told ≡ numbers_of_item item) × PutsItem item status old new)
  pub none : status ≡ 2 → (config.nodes ≤ p) ⊎ (slice_get (stream past p) number ≡ None)
  pub known : (status ≡ 0) ⊎ (status ≡ 2) ⊎ (status ≡ 6)
