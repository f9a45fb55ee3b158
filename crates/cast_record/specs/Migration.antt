-- A record with the new head.
--     Migrates text result     the text with its head changed, or a refusal if it has no `cast/1` head; if it has one,
--                              only memory can be lacking
use Rattle.std.specs.Prelude.{◌≡◌, ℕ, List, ◌∷◌, ◌++◌, codes, drop, Result, Ok, Err}
use Rattle.std.specs.Global.{Vec}
use Rattle.cast_message.specs.declared.config.Mode.TheVariants.{Basic}
use Rattle.cast_record.specs.declared.line.Line.TheVariants.{Head, Head2}
use Rattle.cast_record.specs.declared.migration.MigrateFault.{MigrateFault}
use Rattle.cast_record.specs.declared.migration.MigrateFault.TheVariants.{NotV1, Memory}
use Rattle.cast_record.specs.Ranges.{IsWithin}
use Rattle.cast_record.specs.Text.{line_text}

-- the bytes are the text of a `cast/1` head within its ranges
pub record IsHeadIn (bytes : List ℕ) : Type 0 where
  pub nodes : ℕ
  pub faults : ℕ
  pub choices : ℕ
  pub within : IsWithin (Head nodes faults choices)
  pub same : line_text (Head nodes faults choices) ≡ bytes

abbrev pub IsNoHead : List ℕ → Type 0
IsNoHead bytes = IsHeadIn bytes → ⊥

-- the text begins with a `cast/1` head and its line feed
pub record HasHead (text : List ℕ) : Type 0 where
  pub nodes : ℕ
  pub faults : ℕ
  pub choices : ℕ
  pub rest : List ℕ
  pub within : IsWithin (Head nodes faults choices)
  pub same : text ≡ line_text (Head nodes faults choices) ++ 10 ∷ rest

-- the new text is the same with the new head
pub record IsMigrated (text new : List ℕ) : Type 0 where
  pub head : HasHead text
  pub after : new ≡ line_text (Head2 head.nodes head.faults head.choices Basic) ++ 10 ∷ head.rest

-- the text begins with no such head
abbrev pub HasNoHead : List ℕ → Type 0
HasNoHead text =
    (nodes faults choices : ℕ) (rest : List ℕ) → IsWithin (Head nodes faults choices)
    → text ≡ line_text (Head nodes faults choices) ++ 10 ∷ rest → ⊥

abbrev pub Migrates : List ℕ → Result (Vec ℕ) MigrateFault → Type 0
Migrates text (Ok new) = IsMigrated text new.items
Migrates text (Err NotV1) = HasNoHead text
Migrates text (Err Memory) = HasHead text

-- the bytes of a `cast/1` head, changed, and what follows its line feed
abbrev pub new_text : List ℕ → List ℕ → List ℕ
new_text first rest = codes "cast/2" ++ drop 6 first ++ codes " basic" ++ 10 ∷ rest
