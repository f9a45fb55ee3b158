-- What a node holds, and what it gives each peer, as a picture keeps it: a slot of a peer is a place in its list.
--     holding gifts pair source     it holds the message, which came from this node: a new one goes on to all but its sender,
--                                   that node and the node itself
--     slot_of gifts to slot         the message in a slot of what it gives a peer
--     nothing_given nodes me        it holds nothing
use Rattle.std.specs.Prelude.{ℕ, ◌+◌, ◌==◌, Bool, not, ◌&&◌, if◌then◌else◌, List, [], ◌∷◌, ◌++◌, Option, slice_get, slice_index_or, slice_set, replicate, refl}
use Rattle.std.specs.Ordering.{nat_cmp}
use Rattle.std.specs.FinSet as set
use Rattle.std.specs.Coded.{Coded, code_by, coded×, coded_ℕ, coded_list}
use Rattle.cast_draw.specs.declared.links.Pair.{Pair}

pub record Gifts : Type 0 where
  pub me : ℕ
  pub held : List (set.FinSet nat_cmp)  -- by sender, the numbers
  pub given : List (List Pair)  -- by peer

abbrev pub held_of : List (set.FinSet nat_cmp) → ℕ → set.FinSet nat_cmp
held_of held sender = slice_index_or held sender set.empty

abbrev pub is_held : List (set.FinSet nat_cmp) → Pair → Bool
is_held held pair = set.contains (held_of held pair.sender) pair.number

abbrev pub with_held : List (set.FinSet nat_cmp) → Pair → List (set.FinSet nat_cmp)
with_held held pair = slice_set held pair.sender (set.insert (held_of held pair.sender) pair.number)

abbrev pub goes_on : ℕ → Pair → ℕ → ℕ → Bool
goes_on me pair source peer = not (peer == pair.sender) && (not (peer == source) && not (peer == me))

-- given to each peer from this one on to which it goes
unfoldable pub given_on : ℕ → Pair → ℕ → ℕ → List (List Pair) → List (List Pair)
given_on me pair source peer [] = []
given_on me pair source peer (row ∷ rows) = (if goes_on me pair source peer then row ++ pair ∷ [] else row) ∷ given_on me pair source (peer + 1) rows

abbrev pub holding : Gifts → Pair → ℕ → Gifts
holding gifts pair source = record {
  me = gifts.me;
  held = with_held gifts.held pair;
  given = if is_held gifts.held pair then gifts.given else given_on gifts.me pair source 0 gifts.given;
}

abbrev pub slot_of : Gifts → ℕ → ℕ → Option Pair
slot_of gifts to slot = slice_get (slice_index_or gifts.given to []) slot

abbrev pub nothing_given : ℕ → ℕ → Gifts
nothing_given nodes me = record { me = me; held = replicate nodes set.empty; given = replicate nodes [] }

abbrev pub gifts_code : Coded Pair → Coded Gifts
gifts_code pair =
    code_by (ℕ × (List (set.FinSet nat_cmp) × List (List Pair))) (coded× coded_ℕ (coded× (coded_list (set.code coded_ℕ)) (coded_list (coded_list pair))))
    (λ g. (g.me, (g.held, g.given))) (λ p. record { me = p.0; held = p.1.0; given = p.1.1 }) (λ _. refl)
