-- The plan of a round is built as the definitions say.
use Rattle.std.proofs.Common.{◌≡◌, ℕ, ◌+◌, List, [], ◌∷◌, ◌++◌, length, map, Bool, true, false, refl, sym, ap, ◌∙◌, arith}
use Rattle.std.specs.Prelude.{cond, is_some, ◌==◌, ◌&&◌}
use Rattle.std.specs.FinMap as finite
use Rattle.std.specs.FinMap.{get-empty}
use Rattle.std.specs.FinSet as set
use Rattle.std.proofs.lemmas.Bool.{lt-ltb}
use Rattle.std.specs.Ordering.{nat_cmp}
use Rattle.std.specs.List.{filter, flat_map, range_with_len}
use Rattle.std.proofs.lemmas.List.{append-nil, flat_map_more}
use Rattle.std.proofs.lemmas.List.Elements.{filter-append}
use Rattle.cast_model.proofs.Dues.{range_bounds}
use Rattle.cast_model.proofs.Fronts.{filter_none}
use Rattle.cast_model.proofs.Members.{Member, here, there, Member-filter}
use Rattle.cast_model.specs.Rounds.{Due}
use Rattle.cast_message.specs.declared.message.Message.{Message}
use Rattle.cast_link.specs.Links.{Link}
use Rattle.cast_node.specs.Giving.{OwesNoneOf}
use Rattle.cast_node.specs.Kept.{Kept, link_to}
use Rattle.cast_node.proofs.Links.{range-more}
use Rattle.cast_world.specs.Group.{State, node_at}
use Rattle.cast_world.specs.Plans.{AreLive, live_at, due_of, due_between_at, owed_slots}

pub range_more : (n : ℕ) → range_with_len 0 (n + 1) ≡ range_with_len 0 n ++ n ∷ []
range_more n = range-more n 0 ∙ (let z : 0 + n ≡ n = omega arith in ap (λ k. range_with_len 0 n ++ k ∷ []) z)

-- a filter of one more number
pub filter_more : (p : ℕ → Bool) (n : ℕ) (b : Bool) → p n ≡ b → filter p (range_with_len 0 (n + 1)) ≡ filter p (range_with_len 0 n) ++ cond b (n ∷ []) []
filter_more p n b e = ap (filter p) (range_more n) ∙ filter-append p (range_with_len 0 n) (n ∷ []) ∙ ap (λ c. filter p (range_with_len 0 n) ++ cond c (n ∷ []) []) e

pub nodes_more : (f : ℕ → List Due) (p : ℕ → Bool) (n : ℕ) (old before now : List Due) → p n ≡ true → before ≡ old ++ flat_map f (filter p (range_with_len 0 n)) → now ≡ before ++ f n → now ≡ old ++ flat_map f (filter p (range_with_len 0 (n + 1)))
nodes_more f p n old before now pass so_far one =
    one ∙ ap (λ ds. ds ++ f n) so_far ∙ flat_map_more f old (filter p (range_with_len 0 n)) n ∙ ap (λ xs. old ++ flat_map f xs) (sym (filter_more p n true pass))

pub nodes_same : (f : ℕ → List Due) (p : ℕ → Bool) (n : ℕ) (old before now : List Due) → p n ≡ false → before ≡ old ++ flat_map f (filter p (range_with_len 0 n)) → now ≡ before → now ≡ old ++ flat_map f (filter p (range_with_len 0 (n + 1)))
nodes_same f p n old before now out so_far one = one ∙ so_far ∙ ap (λ xs. old ++ flat_map f xs) (sym (filter_more p n false out ∙ append-nil _))

-- numbers at each of which there is nothing
pub none_flat : (f : ℕ → List Due) (xs : List ℕ) → ((x : ℕ) → Member x xs → f x ≡ []) → flat_map f xs ≡ []
none_flat f [] none = refl
none_flat f (x ∷ xs) none = λ i. none x here i ++ none_flat f xs (λ y m. none y (there m)) i

none_between : (world : State) (giver taker : ℕ) → (link_to (node_at world giver) taker).owed ≡ finite.empty → due_between_at world giver taker ≡ []
none_between world giver taker none = by_test (giver == taker)
  where
    owed : Link Message
    owed = link_to (node_at world giver) taker

    nothing : owed_slots owed ≡ []
    nothing = filter_none (finite.contains_key owed.owed) (range_with_len 0 owed.given) (λ slot _. ap (λ m. finite.contains_key m slot) none ∙ ap is_some (get-empty nat_cmp slot))

    by_test : (b : Bool) → cond b [] (map (due_of giver taker) (owed_slots owed)) ≡ []
    by_test true = refl
    by_test false = ap (map (due_of giver taker)) nothing

-- a node that owes no live one anything has nothing due
pub none_due : (world : State) (giver : ℕ) (kept : Kept) (live : set.FinSet nat_cmp) (before : List Due) → kept ≡ node_at world giver → length world.nodes ≡ world.config.nodes → AreLive world live → OwesNoneOf kept.outgoing live → before ≡ before ++ flat_map (due_between_at world giver) (live_at world)
none_due world giver kept live before is size are none =
    sym (ap (λ ds. before ++ ds) (none_flat (due_between_at world giver) (live_at world) found) ∙ append-nil before)
  where
    found : (taker : ℕ) → Member taker (live_at world) → due_between_at world giver taker ≡ []
    found taker m =
        let r = Member-filter (λ q. (node_at world q).live) taker (range_with_len 0 world.config.nodes) m in
        let inside = (range_bounds world.config.nodes 0 taker r.0).1 in
        none_between world giver taker (ap (λ k. (link_to k taker).owed) (sym is) ∙ none taker (are taker ∙ (λ i. lt-ltb taker (length world.nodes) (omega (arith, inside, size)) i && r.1 i)))
