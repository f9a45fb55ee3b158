-- What is kept about the lines read so far, what it says about the next line, and what is kept after that line.
--     rule_by kept line     the least rule that the line breaks, by what is kept
--     Keeps old line new    `new` is kept after the line
use Rattle.std.specs.Prelude.{◌≡◌, ℕ, ◌+◌, min, ◌==◌, ◌&&◌, ◌||◌, not, nat_lt, if◌then◌else◌, Bool, true, false, List, [], ◌∷◌, ◌++◌, length, slice_get, slice_set, slice_index, slice_index_or, replicate, Option, Some, None, unwrap_or}
use Rattle.std.specs.List.{list_any}
use Rattle.std.specs.Map.{lookup}
use Rattle.std.specs.BTreeMap.{is_at}
use Rattle.std.specs.Ordering.{nat_cmp}
use Rattle.cast_message.specs.declared.message.Item.{Item}
use Rattle.cast_message.specs.declared.message.Item.TheVariants.{Propose}
use Rattle.cast_message.specs.Items.{is_close}
use Rattle.cast_record.specs.declared.line.Line.{Line}
use Rattle.cast_record.specs.declared.line.Line.TheVariants.{Head, Head2, Broadcast, Delivered, Decided, Crashed}
use Rattle.cast_record.specs.declared.front.Delivery.{Delivery}
use Rattle.cast_record.specs.Reading.{item_of}
use Rattle.cast_record.specs.Rules as said
use Rattle.cast_judge.specs.Candidates.{is_for, is_decided, count_decided, with_candidate, with_decision}
use Rattle.cast_judge.specs.declared.candidates.Candidate.{Candidate}
use Rattle.cast_judge.specs.declared.instances.Proposal.{Proposal}
use Rattle.cast_judge.specs.declared.instances.Instance.{Instance}
use Rattle.cast_judge.specs.declared.instances.Instances.{Instances}
use Rattle.cast_judge.specs.declared.instances.Addition.{Addition}
use Rattle.cast_judge.specs.declared.instances.Addition.TheVariants as adds
use Rattle.cast_judge.specs.declared.kept.Stage.{Stage}
use Rattle.cast_judge.specs.declared.kept.Stage.TheVariants.{Start, Body, Ended}
use Rattle.cast_judge.specs.declared.kept_node.KeptNode.{KeptNode}
use Rattle.cast_judge.specs.declared.kept.Kept.{Kept}

-- ---- instances

abbrev pub no_instance : Instance
no_instance = record { proposers = []; candidates = [] }

abbrev pub has_value : List ℕ → ℕ → Bool
has_value values value = list_any (λ other. other == value) values

abbrev pub count_with : List Candidate → ℕ → ℕ
count_with candidates value =
    if is_decided candidates value then count_decided candidates else count_decided candidates + 1

abbrev pub with_proposal : Instance → Proposal → Instance
with_proposal instance proposal =
    record {
      proposers = instance.proposers ++ proposal.node ∷ [];
      candidates = with_candidate instance.candidates proposal.value;
    }

abbrev pub changed : Instance → Addition → Instance
changed instance (adds.Proposed proposal) = with_proposal instance proposal
changed instance (adds.Decided value) = record instance { candidates = with_decision instance.candidates value }

abbrev pub other_at : List (ℕ × Instance) → ℕ → Instance
other_at entries j = unwrap_or (lookup (is_at (nat_cmp j)) entries) no_instance

-- an instance in the row, or past it
abbrev pub instance_at : Instances → ℕ → Instance
instance_at instances j =
    if nat_lt j (length instances.row.items) then slice_index_or instances.row.items j no_instance
    else other_at instances.others.entries j

-- instance q, after this was added to instance j
abbrev pub changed_at : ℕ → Addition → ℕ → Instance → Instance
changed_at j addition q instance = if q == j then changed instance addition else instance

-- what the item adds to instance q
abbrev pub item_changes : ℕ → Item → ℕ → Instance → Instance
item_changes sender (Propose j w) q instance =
    changed_at j (adds.Proposed (record { node = sender; value = w })) q instance
item_changes sender item q instance = instance

abbrev pub instance_after : Line → ℕ → Instance → Instance
instance_after (Broadcast message) q instance = item_changes message.sender message.item q instance
instance_after (Decided node decision) q instance =
    changed_at decision.instance (adds.Decided decision.value) q instance
instance_after line q instance = instance

-- ---- nodes

abbrev pub nobody : KeptNode
nobody = record { items = []; closed = false; crashed = false; delivered = replicate 64 0 }

abbrev pub node_at : List KeptNode → ℕ → KeptNode
node_at nodes p = slice_index_or nodes p nobody

abbrev pub is_same : Option Item → Item → Bool
is_same None item = false
is_same (Some other) item = said.is_item other item

-- the item is at this place
abbrev pub has_item : List Item → ℕ → Item → Bool
has_item items number item = is_same (slice_get items number) item

abbrev pub with_item : KeptNode → Item → KeptNode
with_item node item = record node { items = node.items ++ item ∷ []; closed = is_close item || node.closed }

-- one more, up to the greatest 64-bit number
abbrev pub one_more : ℕ → ℕ
one_more count = min (count + 1) 18446744073709551615

abbrev pub with_delivery : KeptNode → ℕ → KeptNode
with_delivery node s =
    record node { delivered = slice_set node.delivered s (one_more (slice_index node.delivered s)) }

abbrev pub with_crash : KeptNode → KeptNode
with_crash node = record node { crashed = true }

abbrev pub nodes_after : List KeptNode → Line → List KeptNode
nodes_after nodes (Head n f k) = replicate n nobody
nodes_after nodes (Head2 n f k mode) = replicate n nobody
nodes_after nodes (Broadcast message) =
    slice_set nodes message.sender (with_item (node_at nodes message.sender) message.item)
nodes_after nodes (Delivered node message) =
    slice_set nodes node (with_delivery (node_at nodes node) message.sender)
nodes_after nodes (Crashed node) = slice_set nodes node (with_crash (node_at nodes node))
nodes_after nodes line = nodes

-- ---- what is kept after a line

abbrev pub stage_after : Line → Stage
stage_after line = if said.is_end line then Ended else Body

abbrev pub faults_after : ℕ → Line → ℕ
faults_after faults (Head n f k) = f
faults_after faults (Head2 n f k mode) = f
faults_after faults line = faults

abbrev pub choices_after : ℕ → Line → ℕ
choices_after choices (Head n f k) = k
choices_after choices (Head2 n f k mode) = k
choices_after choices line = choices

pub record Keeps (old new : Kept) (line : Line) : Type 0 where
  pub stage : new.stage ≡ stage_after line
  pub faults : new.faults ≡ faults_after old.faults line
  pub choices : new.choices ≡ choices_after old.choices line
  pub nodes : new.nodes.items ≡ nodes_after old.nodes.items line
  pub instances : (q : ℕ) → instance_at new.instances q ≡ instance_after line q (instance_at old.instances q)

-- nothing is kept
pub record IsNew (kept : Kept) : Type 0 where
  pub stage : kept.stage ≡ Start
  pub faults : kept.faults ≡ 0
  pub choices : kept.choices ≡ 0
  pub nodes : kept.nodes.items ≡ []
  pub instances : (q : ℕ) → instance_at kept.instances q ≡ no_instance

-- ---- the rules

abbrev pub is_ended_at : Stage → Bool
is_ended_at Ended = true
is_ended_at _ = false

abbrev pub is_out_at : Stage → ℕ → Line → Bool
is_out_at Start n line = not (said.is_head line)
is_out_at Body n line = said.is_head line || not (said.names_below n line)
is_out_at Ended n line = true

abbrev pub is_out_of_place : Kept → Line → Bool
is_out_of_place kept line = is_out_at kept.stage (length kept.nodes.items) line

abbrev pub breaks_prefix : Kept → Line → Bool
breaks_prefix kept (Broadcast m) = not (m.number == length (node_at kept.nodes.items m.sender).items)
breaks_prefix kept (Delivered q m) =
    not (m.number == slice_index (node_at kept.nodes.items q).delivered m.sender)
    || not (has_item (node_at kept.nodes.items m.sender).items m.number m.item)
breaks_prefix kept line = false

abbrev pub is_after_close : Kept → Line → Bool
is_after_close kept (Broadcast m) = (node_at kept.nodes.items m.sender).closed
is_after_close kept line = false

abbrev pub is_not_proposed : Kept → Line → Bool
is_not_proposed kept (Decided q d) =
    not (list_any (is_for d.value) (instance_at kept.instances d.instance).candidates)
is_not_proposed kept line = false

abbrev pub is_of_too_many : Kept → Line → Bool
is_of_too_many kept (Decided q d) =
    nat_lt kept.faults kept.choices && nat_lt kept.choices
    (count_with (instance_at kept.instances d.instance).candidates d.value)
is_of_too_many kept line = false

abbrev pub is_after_crash : Kept → Line → Bool
is_after_crash kept (Broadcast m) = (node_at kept.nodes.items m.sender).crashed
is_after_crash kept (Delivered q m) = (node_at kept.nodes.items q).crashed
is_after_crash kept (Decided q d) = (node_at kept.nodes.items q).crashed
is_after_crash kept (Crashed q) = (node_at kept.nodes.items q).crashed
is_after_crash kept line = false

abbrev pub is_second_proposal : Kept → ℕ → Item → Bool
is_second_proposal kept p (Propose j w) = has_value (instance_at kept.instances j).proposers p
is_second_proposal kept p item = false

abbrev pub is_proposed_twice : Kept → Line → Bool
is_proposed_twice kept (Broadcast m) = is_second_proposal kept m.sender m.item
is_proposed_twice kept line = false

-- whether each rule is broken, from rule 0 on
abbrev pub rules_by : Kept → Line → List Bool
rules_by kept line =
    is_out_of_place kept line ∷ breaks_prefix kept line ∷ is_after_close kept line ∷ is_not_proposed kept line
    ∷ is_of_too_many kept line ∷ is_after_crash kept line ∷ is_proposed_twice kept line ∷ []

abbrev pub rule_by : Kept → Line → Option ℕ
rule_by kept line = said.first_broken 0 (rules_by kept line)

-- ---- a line `d` by its last word

-- the line, if its last word spells this item
abbrev pub delivered_as : Delivery → Item → Line
delivered_as d item = Delivered d.node (record { sender = d.sender; number = d.number; item = item })

-- The rest of the line begins with a word and a line feed, which end there. The word spells an item, and with it the
-- line breaks no rule.
pub record IsDue (kept : Kept) (d : Delivery) (end : ℕ) : Type 0 where
  pub word : List ℕ
  pub after : List ℕ
  pub cut : d.rest.now ≡ word ++ 10 ∷ after
  pub ends : end ≡ length word + 1
  pub item : Item
  pub spells : item_of word ≡ Some item
  pub sound : rule_by kept (delivered_as d item) ≡ None
  pub body : kept.stage ≡ Body

pub record IsTaken (old new : Kept) (d : Delivery) (end : ℕ) : Type 0 where
  pub due : IsDue old d end
  pub keeps : Keeps old new (delivered_as d due.item)

abbrev pub Delivers : Kept → Kept → Delivery → Option ℕ → Type 0
Delivers old new d (Some end) = IsTaken old new d end
Delivers old new d None = new ≡ old
