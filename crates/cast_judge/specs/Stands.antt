-- What is kept matches the lines read so far, the newest first.
--     StandsFor past kept     what is kept says what the definitions say about these lines
use Rattle.std.specs.Prelude.{◌≡◌, ℕ, ◌==◌, ◌<◌, ◌≤◌, if◌then◌else◌, List, [], ◌∷◌, ◌++◌, length, slice_index}
use Rattle.std.specs.List.{list_any}
use Rattle.cast_message.specs.declared.message.Item.{Item}
use Rattle.cast_message.specs.declared.message.Message.{Message}
use Rattle.cast_record.specs.declared.line.Line.{Line}
use Rattle.cast_record.specs.declared.line.Line.TheVariants.{Broadcast}
use Rattle.cast_record.specs.Rules.{is_end, group_of, has_broadcast, has_closed, has_crashed, deliveries_of, has_proposed, is_proposed, values_in, different}
use Rattle.cast_judge.specs.declared.instances.Instance.{Instance}
use Rattle.cast_judge.specs.declared.kept.Stage.{Stage}
use Rattle.cast_judge.specs.declared.kept.Stage.TheVariants.{Start, Body, Ended}
use Rattle.cast_judge.specs.declared.kept_node.KeptNode.{KeptNode}
use Rattle.cast_judge.specs.declared.kept.Kept.{Kept}
use Rattle.cast_judge.specs.Kept.{node_at, instance_at, has_item, has_value}
use Rattle.cast_judge.specs.Candidates.{is_for, is_decided, count_decided}

abbrev pub stage_of : List Line → Stage
stage_of [] = Start
stage_of (line ∷ past) = if is_end line then Ended else Body

abbrev pub items_in : Line → ℕ → List Item
items_in (Broadcast message) p = if message.sender == p then message.item ∷ [] else []
items_in line p = []

-- the items that p broadcast, in order
unfoldable pub items_of : List Line → ℕ → List Item
items_of [] p = []
items_of (line ∷ past) p = items_of past p ++ items_in line p

pub record StandsForNode (past : List Line) (p : ℕ) (node : KeptNode) : Type 0 where
  pub items : node.items ≡ items_of past p
  pub closed : node.closed ≡ has_closed past p
  pub crashed : node.crashed ≡ has_crashed past p
  pub room : length node.delivered ≡ 64
  pub delivered : (s : ℕ) → s < 64 → slice_index node.delivered s ≡ deliveries_of past p s

pub record StandsForInstance (past : List Line) (j : ℕ) (instance : Instance) : Type 0 where
  pub proposed : (p : ℕ) → has_value instance.proposers p ≡ has_proposed past p j
  pub values : (w : ℕ) → list_any (is_for w) instance.candidates ≡ is_proposed past j w
  pub decided : (w : ℕ) → is_decided instance.candidates w ≡ has_value (values_in past j) w
  pub count : count_decided instance.candidates ≡ length (different (values_in past j))

pub record StandsFor (past : List Line) (kept : Kept) : Type 0 where
  pub stage : kept.stage ≡ stage_of past
  pub faults : kept.faults ≡ (group_of past).faults
  pub choices : kept.choices ≡ (group_of past).choices
  pub size : length kept.nodes.items ≡ (group_of past).nodes
  pub few : length kept.nodes.items ≤ 64
  pub nodes : (p : ℕ) → p < length kept.nodes.items → StandsForNode past p (node_at kept.nodes.items p)
  pub numbered : (message : Message) → has_broadcast past message
      ≡ has_item (items_of past message.sender) message.number message.item
  pub instances : (j : ℕ) → StandsForInstance past j (instance_at kept.instances j)
