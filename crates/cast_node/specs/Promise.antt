-- What is promised about a node, over every list of steps.
use Rattle.std.specs.Prelude.{◌≡◌, ◌≢◌, ℕ, ◌<◌, [], ◌∷◌, None, length, map, slice_index_or, Result}
use Rattle.std.specs.FinSet as set
use Rattle.std.specs.FinMap as finite
use Rattle.cast_message.specs.declared.config.Config.{Config}
use Rattle.cast_message.specs.declared.event.Answer.{Answer}
use Rattle.cast_message.specs.declared.event.StepFault.{StepFault}
use Rattle.cast_model.specs.Shown.{item_of}
use Rattle.cast_model.specs.Steps.{Step, Sent, Acknowledged, Steps}
use Rattle.cast_model.specs.OwnSteps.{own_fault, own_made, own_delivered, own_decision, own_owed, own_known_by}
use Rattle.cast_agree.specs.Counted.{decision}
use Rattle.cast_node.specs.Kept.{Kept, nothing_kept, link_to, knowers_of}
use Rattle.cast_node.specs.Turns.{Gives, carry_of, took_of}
use Rattle.cast_node.specs.Stands.{Stands, Continues, owed_in, is_known_in}

abbrev pub BeginsWithNothing : Type 0
BeginsWithNothing =
    (config : Config) (me : ℕ) → me < config.nodes → Stands config me [] (nothing_kept config me)

abbrev pub GoesOnBySteps : Type 0
GoesOnBySteps =
    (config : Config) (me : ℕ) (steps : Steps) (kept : Kept) → Stands config me steps kept →
    (step : Step) (reply : Result Answer StepFault) (new : Kept) →
    Gives kept step reply new → Continues config me steps step reply new

abbrev pub DeliversAsItsSteps : Type 0
DeliversAsItsSteps =
    (config : Config) (me : ℕ) (steps : Steps) (kept : Kept) → Stands config me steps kept →
    (s : ℕ) → s < config.nodes →
    slice_index_or kept.deliveries.delivered s [] ≡ map item_of (own_delivered config me steps s)

abbrev pub DecidesAsItsSteps : Type 0
DecidesAsItsSteps =
    (config : Config) (me : ℕ) (steps : Steps) (kept : Kept) → Stands config me steps kept →
    (j : ℕ) → decision kept.deliveries.agree j ≡ own_decision config me steps j

abbrev pub OwesAsItsSteps : Type 0
OwesAsItsSteps =
    (config : Config) (me : ℕ) (steps : Steps) (kept : Kept) → Stands config me steps kept →
    (q : ℕ) → q < config.nodes → q ≢ me →
    (finite.len (link_to kept q).owed ≡ length (own_owed me steps q))
    × ((slot : ℕ) → finite.get (link_to kept q).owed slot ≡ owed_in me steps q slot)

abbrev pub KnowsAsItsSteps : Type 0
KnowsAsItsSteps =
    (config : Config) (me : ℕ) (steps : Steps) (kept : Kept) → Stands config me steps kept →
    (s i : ℕ) → s < config.nodes →
    (set.len (knowers_of kept s i) ≡ own_known_by config me steps s i)
    × ((r : ℕ) → set.contains (knowers_of kept s i) r ≡ is_known_in config me steps s i r)

abbrev pub MakesTheFrames : Type 0
MakesTheFrames =
    (config : Config) (me : ℕ) (steps : Steps) (kept : Kept) → Stands config me steps kept →
    ((to slot : ℕ) → own_fault config me steps (Sent to slot) ≡ None →
    own_made me steps (Sent to slot) ≡ carry_of kept to slot ∷ [])
    × ((to slot : ℕ) → own_made me steps (Acknowledged to slot) ≡ took_of kept to slot ∷ [])
