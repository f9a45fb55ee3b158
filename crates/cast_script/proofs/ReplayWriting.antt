-- How the text of a script is written in parts.
use Rattle.std.proofs.Common.{◌≡◌, codes, ℕ, List, [], ◌++◌, ◌∷◌, ◌+◌, ◌<◌, ◌≤◌, arith, length, get_or, map, append_assoc, append-nil, ap, sym, ◌∙◌, refl, drop}
use Rattle.std.specs.List.{join_with_byte}
use Rattle.std.proofs.lemmas.Grind.{common_steps}
use Rattle.std.proofs.lemmas.List.{drop_more}
use Rattle.cast_message.proofs.Lists.{drop-next}
use Rattle.cast_message.specs.declared.event.Event.{Event}
use Rattle.cast_script.specs.declared.replay.Cell.{Cell}
use Rattle.cast_script.specs.declared.replay.Cell.TheVariants.{Word}
use Rattle.cast_script.specs.declared.replay.Member.{Member}
use Rattle.cast_script.specs.Cells.{cell_text, member_in}
use Rattle.cast_message.specs.declared.config.Config.{Config as Checked}
use Rattle.cast_record.specs.Modes.{mode_word}
use Rattle.cast_script.specs.Replay.{Atom, word, number, word_text, event_text, others_text, members, member_text, members_text}

-- the places after the first, each with its comma
abbrev pub cells_text : List (List ℕ) → List ℕ
cells_text [] = []
cells_text (w ∷ ws) = 44 ∷ w ++ cells_text ws

pub join-cells : (name : List ℕ) (ws : List (List ℕ)) → join_with_byte 44 (name ∷ ws) ≡ name ++ cells_text ws
join-cells name [] = sym (append-nil name)
join-cells name (v ∷ vs) = ap (λ r. name ++ 44 ∷ r) (join-cells v vs)

-- an array as it is written
pub array-parts : (name : List ℕ) (ws : List (List ℕ)) → 91 ∷ join_with_byte 44 (name ∷ ws) ++ 93 ∷ [] ≡ 91 ∷ name ++ (cells_text ws ++ 93 ∷ [])
array-parts name ws = ap (λ r. 91 ∷ r) (ap (λ r. r ++ 93 ∷ []) (join-cells name ws) ∙ append_assoc name (cells_text ws) (93 ∷ []))

-- a member as it is written
pub member-parts : (member : Member) → member_text (member_in member) ≡ word_text member.name.now ++ ((58 ∷ []) ++ (cell_text member.value ++ 44 ∷ []))
member-parts member = refl

-- ---- the next piece of a loop

abbrev pub no_cell : Cell
no_cell = Word (record { ref_ptr = (0, 0); now = [] })

pub cells-next : (cells : List Cell) (i : ℕ) (other : Cell) → i < length cells
    → cells_text (map cell_text (drop i cells)) ++ 93 ∷ [] ≡ (44 ∷ []) ++ (cell_text (get_or cells i other) ++ (cells_text (map cell_text (drop (i + 1) cells)) ++ 93 ∷ []))
cells-next cells i other within =
    ap (λ ws. cells_text (map cell_text ws) ++ 93 ∷ []) (drop_more cells i other within)
    ∙ ap (λ r. 44 ∷ r) (append_assoc (cell_text (get_or cells i other)) (cells_text (map cell_text (drop (i + 1) cells))) (93 ∷ []))

pub cells-end : (cells : List Cell) (i : ℕ) → length cells ≤ i → cells_text (map cell_text (drop i cells)) ++ 93 ∷ [] ≡ 93 ∷ []
cells-end cells i past = let none : drop i cells ≡ [] = grind (arith, common_steps) in rw none refl

pub members-next : (list : List Member) (i : ℕ) (other : Member) → i < length list
    → members_text (map member_in (drop i list)) ≡ member_text (member_in (get_or list i other)) ++ members_text (map member_in (drop (i + 1) list))
members-next list i other within = ap (λ ms. members_text (map member_in ms)) (drop_more list i other within)

pub others-next : (events : List Event) (i : ℕ) (event : Event) → i < length events → event ≡ get_or events i event
    → others_text (drop i events) ≡ 44 ∷ 10 ∷ (event_text event ++ others_text (drop (i + 1) events))
others-next events i event within is = ap others_text (drop-next events i event within is)

-- the members of a configuration, part by part
pub settings-parts : (config : Checked) (a b c d e f g h : List ℕ × Atom)
    → a ≡ (codes "nodes", number config.nodes) → b ≡ (codes "faults", number config.faults) → c ≡ (codes "choices", number config.choices)
    → d ≡ (codes "item_limit", number config.item_limit) → e ≡ (codes "log_limit", number config.log_limit) → f ≡ (codes "box_size", number config.box_size)
    → g ≡ (codes "first_stamp", number config.first_stamp) → h ≡ (codes "mode", word (mode_word config.mode))
    → members_text (a ∷ b ∷ c ∷ d ∷ e ∷ f ∷ g ∷ h ∷ []) ≡ members_text (members config)
settings-parts config a b c d e f g h p q r s t u v w = λ i. members_text (p i ∷ q i ∷ r i ∷ s i ∷ t i ∷ u i ∷ v i ∷ w i ∷ [])
