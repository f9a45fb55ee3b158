-- Lists by sender, and rows in them.
use Rattle.std.specs.Prelude.{◌≡◌, ℕ, ◌<◌, List, ◌++◌, length, take, map, slice_set, slice_index_or}
use Rattle.std.specs.FinSet as set
use Rattle.cast_link.specs.Taken.{Inward}
use Rattle.cast_node.specs.Sound.{slots_of}
use Rattle.cast_message.specs.declared.config.Config.{Config}
use Rattle.cast_node.specs.Kept.{Kept}
use Rattle.std.proofs.Common.{sym, ap, ◌∙◌, arith, drop}
use Rattle.std.proofs.Math.Seq.{map-set_same, take-append_seam}
use Rattle.std.proofs.lemmas.List.{length-map, map-set, get_or-map}

module _ {X Y : Type 0} where
  -- a row is replaced by one that shows the same
  pub same_rows : (f : X → Y) (xs : List X) (i : ℕ) (r x : X) → r ≡ slice_index_or xs i r → f x ≡ f r → map f (slice_set xs i x) ≡ map f xs
  same_rows f xs i r x e g = map-set_same f xs i x r (g ∙ ap f e)

-- a row is replaced by one that shows the same, and then changed
pub changed_rows : {X Y : Type 0} (f : X → Y) (g : Y → Y) (xs : List X) (place s : ℕ) (r x y : X) (d : Y) → place ≡ s → place < length xs → r ≡ slice_index_or xs place r → f x ≡ f r → f y ≡ g (f x) → map f (slice_set xs place y) ≡ slice_set (map f xs) s (g (slice_index_or (map f xs) s d))
changed_rows f g xs place s r x y d at l e same change =
    map-set f xs place y
    ∙ ap (slice_set (map f xs) place) (change ∙ ap g (same ∙ ap f e ∙ sym (get_or-map f xs place r d l)))
    ∙ ap (λ k. slice_set (map f xs) k (g (slice_index_or (map f xs) k d))) at

-- the slots taken of peers: where room is made at a link, and where a slot is taken there
module _ (links : List Inward) (place from : ℕ) (found reserved : Inward) (finds : found ≡ slice_index_or links place found) (same : reserved.slots ≡ found.slots) where
  pub slots_same : slots_of (slice_set links place reserved) ≡ slots_of links
  slots_same = same_rows (λ (l : Inward). l.slots) links place found reserved finds same

  pub slots_taken : (config : Config) (kept : Kept) → from < kept.config.nodes → config ≡ kept.config → length (slots_of links) ≡ config.nodes → place ≡ from → (slot : ℕ) (taken : Inward) → taken.slots ≡ set.insert reserved.slots slot →
      slots_of (slice_set links place taken) ≡ slice_set (slots_of links) from (set.insert (slice_index_or (slots_of links) from set.empty) slot)
  slots_taken config kept inside is peers at slot taken e =
      changed_rows (λ (l : Inward). l.slots) (λ s. set.insert s slot) links place from found reserved taken set.empty at (omega (arith, at, inside, peers, length-map links (λ (l : Inward). l.slots), ap (λ (c : Config). c.nodes) is)) finds same e

-- a slice of a whole list, written back
pub slice_back : {X : Type 0} (n : ℕ) (xs ys : List X) → length xs ≡ length ys → n ≡ length ys → take n (xs ++ drop (length xs) ys) ≡ xs
slice_back n xs ys e f = ap (λ m. take m (xs ++ drop (length xs) ys)) (f ∙ sym e) ∙ take-append_seam xs (drop (length xs) ys)
