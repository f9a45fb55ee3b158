-- What is counted of several messages.
--     counted_all counted ms       what is counted after the delivery of these messages, in order
--     decisions_all counted ms     the decisions that they complete
use Rattle.std.specs.Prelude.{List, [], ◌∷◌, ◌++◌}
use Rattle.std.specs.Option.{option_to_list}
use Rattle.cast_message.specs.declared.message.Message.{Message}
use Rattle.cast_message.specs.declared.message.Decision.{Decision}
use Rattle.cast_agree.specs.Counted.{Counted, counted_after, decision_by}

unfoldable pub counted_all : Counted → List Message → Counted
counted_all counted [] = counted
counted_all counted (m ∷ ms) = counted_all (counted_after counted m.sender m.item) ms

unfoldable pub decisions_all : Counted → List Message → List Decision
decisions_all counted [] = []
decisions_all counted (m ∷ ms) =
    option_to_list (decision_by counted m.sender m.item)
    ++ decisions_all (counted_after counted m.sender m.item) ms
