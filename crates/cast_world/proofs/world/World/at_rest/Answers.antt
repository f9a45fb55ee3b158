use Rattle.std.proofs.Common.{◌∙◌, ap, not}
use Rattle.cast_world.proofs.Resting.{agrees, have_all, rest_found}
use Rattle.cast_world.proofs.world.World.at_rest.Goals as goal

pub returns-clause-agrees : goal.returns-clause-agrees
returns-clause-agrees c config past st resting few =
    agrees config past st.accepted (rest_found config past c.first_giver.result (c.is_none.ensures ∙ ap not resting) (c.first_giver.ensures config past st)) few

pub returns-clause-uniform : goal.returns-clause-uniform
returns-clause-uniform c config past st resting uniform few =
    have_all config past st.accepted (rest_found config past c.first_giver.result (c.is_none.ensures ∙ ap not resting) (c.first_giver.ensures config past st)) uniform few
