-- How worlds are told apart.
use Rattle.std.specs.Prelude.{List, refl}
use Rattle.std.specs.Coded.{Coded, code_by, coded×, coded_list}
use Rattle.cast_message.specs.declared.config.Config.{Config}
use Rattle.cast_node.specs.Kept.{Kept}
use Rattle.cast_world.specs.declared.frames.Mark.{Mark}
use Rattle.cast_world.specs.Group.{State}

abbrev pub state_code : Coded Config → Coded Kept → Coded Mark → Coded State
state_code config kept mark =
    code_by (Config × (List Kept × List (List Mark)))
    (coded× config (coded× (coded_list kept) (coded_list (coded_list mark))))
    (λ w. (w.config, (w.nodes, w.marks)))
    (λ p. record { config = p.0; nodes = p.1.0; marks = p.1.1 }) (λ _. refl)
