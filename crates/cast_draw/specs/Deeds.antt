-- What an event delivers and decides at a node, as marks.
--     deeds messages decisions    in order: each decision follows the delivery of the proposal that caused it
--     done_by at deed             the mark
use Rattle.std.specs.Prelude.{ℕ, List, [], ◌∷◌, ◌++◌, map, take, drop, if◌then◌else◌}
use Rattle.cast_message.specs.declared.message.Message.{Message}
use Rattle.cast_message.specs.declared.message.Decision.{Decision}
use Rattle.cast_message.specs.Items.{proposes_in}
use Rattle.cast_draw.specs.declared.deeds.At.{At}
use Rattle.cast_draw.specs.declared.mark.Deed.{Deed}
use Rattle.cast_draw.specs.declared.mark.Deed.TheVariants.{Delivers, Decides}
use Rattle.cast_draw.specs.declared.mark.Mark.{Mark}
use Rattle.cast_draw.specs.declared.mark.Shown.TheVariants.{Done}

-- how many of these decisions the delivery caused: the first, if the message proposes in its instance
abbrev pub brought : Message → List Decision → ℕ
brought message [] = 0
brought message (decision ∷ decisions) = if proposes_in decision.instance message.item then 1 else 0

unfoldable pub deeds : List Message → List Decision → List Deed
deeds [] decisions = map Decides decisions
deeds (message ∷ messages) decisions =
    Delivers message ∷ (map Decides (take (brought message decisions) decisions) ++ deeds messages (drop (brought message decisions) decisions))

abbrev pub done_by : At → Deed → Mark
done_by at deed = record { column = at.column; event = at.event; shown = Done at.node deed }
