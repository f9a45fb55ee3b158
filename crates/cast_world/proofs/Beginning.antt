-- A world in which nothing has happened.
use Rattle.std.proofs.Common.{◌≡◌, ℕ, ◌+◌, ◌<◌, refl, sym, ◌∙◌, ap, subst, List, [], ◌∷◌, ◌++◌, map, replicate, Some, arith}
use Rattle.std.specs.Prelude.{slice_get}
use Rattle.std.specs.List.{range_with_len}
use Rattle.std.proofs.lemmas.List.{map-append, replicate-append-replicate}
use Rattle.std.proofs.lemmas.List.FromFn.{length-map-range_with_len, get_or-map-range_with_len, map-range_with_len_more}
use Rattle.cast_message.specs.declared.config.Config.{Config}
use Rattle.cast_model.specs.History.{frames}
use Rattle.cast_model.specs.Replies.{IsAccepted}
use Rattle.cast_model.specs.Steps.{steps_of}
use Rattle.cast_node.specs.Kept.{Kept, nothing_kept}
use Rattle.cast_node.specs.Stands.{Stands as NodeStands}
use Rattle.cast_node.proofs.Places.{at_replicate, length-replicated}
use Rattle.cast_node.proofs.Beginning.{stands_for_nothing}
use Rattle.cast_world.specs.declared.frames.Mark.{Mark}
use Rattle.cast_world.specs.Group.{State, node_at, marks_at, kept_by, Stands}
use Rattle.cast_world.specs.Moves.{IsSound}

abbrev pub new_world : Config → State
new_world config = record { config = config; nodes = map (nothing_kept config) (range_with_len 0 config.nodes); marks = replicate config.nodes [] }

module _ (config : Config) where
  new_node : (p : ℕ) → p < config.nodes → node_at (new_world config) p ≡ nothing_kept config p
  new_node p l = get_or-map-range_with_len (nothing_kept config) 0 config.nodes p p (nothing_kept config 0) l (let z : 0 + p ≡ p = omega arith in z)

  none_made : (p : ℕ) → marks_at (new_world config) p ≡ []
  none_made p = at_replicate config.nodes p []

  pub new_sound : IsSound (new_world config)
  new_sound = record {
    size = length-map-range_with_len (nothing_kept config) 0 config.nodes;
    rows = length-replicated config.nodes [];
    places = λ p l. ap (λ k. k.me) (new_node p l);
    configs = λ p l. ap (λ k. k.config) (new_node p l);
    targets = λ p seq mark e. absurd (let none : slice_get [] seq ≡ Some mark = sym (ap (λ row. slice_get row seq) (none_made p)) ∙ e in cc);
  }

  pub new_stands : Stands config [] (new_world config)
  unfolding steps_of frames IsAccepted kept_by
  new_stands = record {
    accepted = tt;
    same_config = refl;
    size = length-map-range_with_len (nothing_kept config) 0 config.nodes;
    rows = length-replicated config.nodes [];
    nodes = λ p l. subst (NodeStands config p []) (sym (new_node p l)) (stands_for_nothing config p l);
    kept = new_node;
    made = λ p l. none_made p;
  }

module _ (config : Config) (nodes : List Kept) (rows : List (List Mark)) (n : ℕ) (all : n ≡ config.nodes) (nodes_are : nodes ≡ map (nothing_kept config) (range_with_len 0 n)) (rows_are : rows ≡ replicate n []) where
  is_new : new_world config ≡ record { config = config; nodes = nodes; marks = rows }
  is_new = λ k. record { config = config; nodes = (ap (λ m. map (nothing_kept config) (range_with_len 0 m)) (sym all) ∙ sym nodes_are) k; marks = (ap (λ m. replicate m []) (sym all) ∙ sym rows_are) k }

  pub begun_sound : IsSound (record { config = config; nodes = nodes; marks = rows })
  begun_sound = subst IsSound is_new (new_sound config)

  pub begun_stands : Stands config [] (record { config = config; nodes = nodes; marks = rows })
  begun_stands = subst (Stands config []) is_new (new_stands config)

pub nodes_next : (config : Config) (before after : List Kept) (i : ℕ) (node : Kept) → after ≡ before ++ node ∷ [] → before ≡ map (nothing_kept config) (range_with_len 0 i) → node ≡ nothing_kept config i → after ≡ map (nothing_kept config) (range_with_len 0 (i + 1))
nodes_next config before after i node one so_far new = one ∙ (λ k. so_far k ++ new k ∷ []) ∙ sym (map-range_with_len_more (nothing_kept config) 0 i i (let z : 0 + i ≡ i = omega arith in z))

pub rows_next : {A : Type 0} (items : A → List Mark) (before after : List A) (i : ℕ) (row : A) → after ≡ before ++ row ∷ [] → map items before ≡ replicate i [] → items row ≡ [] → map items after ≡ replicate (i + 1) []
rows_next items before after i row one so_far none = ap (map items) one ∙ map-append items before (row ∷ []) ∙ (λ k. so_far k ++ none k ∷ []) ∙ replicate-append-replicate i 1 []
