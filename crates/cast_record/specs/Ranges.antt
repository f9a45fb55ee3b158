-- The ranges of a line, without comparing its nodes to the head's.
use Rattle.std.specs.Prelude.{ℕ, ◌*◌, ◌^◌, ◌<◌, ◌≤◌, length}
use Rattle.cast_message.specs.declared.config.Mode.{Mode}
use Rattle.cast_message.specs.declared.config.Mode.TheVariants.{Basic, Uniform}
use Rattle.cast_message.specs.declared.message.Item.{Item}
use Rattle.cast_message.specs.declared.message.Item.TheVariants.{Data, Propose, Close}
use Rattle.cast_message.specs.declared.message.Message.{Message}
use Rattle.cast_record.specs.Hex.{AreBytes}
use Rattle.cast_record.specs.declared.line.Line.{Line}
use Rattle.cast_record.specs.declared.line.Line.TheVariants.{Head, Head2, Broadcast, Delivered, Decided, Crashed, Refused, End}

-- 0 to 1,024 bytes, and 64-bit numbers
abbrev pub IsItemWithin : Item → Type 0
IsItemWithin (Data payload) = AreBytes payload × (length payload ≤ 1024)
IsItemWithin (Propose instance value) = (instance < 2 ^ 64) × (value < 2 ^ 64)
IsItemWithin Close = Unit {0}

abbrev pub IsMessageWithin : Message → Type 0
IsMessageWithin m = (m.sender < 256) × (m.number < 2 ^ 64) × IsItemWithin m.item

-- 1 to `most` nodes, fewer faults than nodes, and 1 to as many choices as nodes
abbrev pub IsGroupWithin : ℕ → ℕ → ℕ → ℕ → Type 0
IsGroupWithin most nodes faults choices =
    (1 ≤ nodes) × (nodes ≤ most) × (faults < nodes) × (1 ≤ choices) × (choices ≤ nodes)

-- uniform mode only if fewer than half may crash
abbrev pub IsModeWithin : Mode → ℕ → ℕ → Type 0
IsModeWithin Basic nodes faults = Unit {0}
IsModeWithin Uniform nodes faults = 2 * faults < nodes

abbrev pub IsWithin : Line → Type 0
IsWithin (Head nodes faults choices) = IsGroupWithin 16 nodes faults choices
IsWithin (Head2 nodes faults choices mode) =
    IsGroupWithin 64 nodes faults choices × IsModeWithin mode nodes faults
IsWithin (Broadcast message) = IsMessageWithin message
IsWithin (Delivered node message) = (node < 256) × IsMessageWithin message
IsWithin (Decided node decision) = (node < 256) × (decision.instance < 2 ^ 64) × (decision.value < 2 ^ 64)
IsWithin (Crashed node) = node < 256
IsWithin (Refused index code) = (index < 2 ^ 64) × (1 ≤ code) × (code ≤ 12)
IsWithin End = Unit {0}
