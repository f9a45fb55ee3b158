-- What a node holds, by sender.
--     Pairs                    the node, how many messages are its own, and the numbers held, by sender
--     holds held s i           the node holds the pair
--     with_pair held s i       the same with one more pair
--     with_own held            the same with one more message of the node's own
--     goes_on me s r q         a message of s that came to the node from r goes on to q
--     relays_to held s r q     a pair of s that first came from r goes on to q
--     by_sender sets           sets for the first senders, as a list for all 256 numbers of a `NodeId`
use Rattle.std.specs.Prelude.{ℕ, ◌+◌, ◌-◌, ◌==◌, Bool, not, ◌&&◌, List, ◌++◌, length, replicate, slice_index_or, slice_set, refl}
use Rattle.std.specs.Ordering.{nat_cmp}
use Rattle.std.specs.FinSet as set
use Rattle.std.specs.Coded.{Coded, code_by, coded×, coded_ℕ, coded_list}

pub record Pairs : Type 0 where
  pub me : ℕ
  pub own : ℕ
  pub numbers : List (set.FinSet nat_cmp)

abbrev pub pairs_code : Coded Pairs
pairs_code =
    code_by (ℕ × (ℕ × List (set.FinSet nat_cmp)))
    (coded× coded_ℕ (coded× coded_ℕ (coded_list (set.code coded_ℕ)))) (λ h. (h.me, (h.own, h.numbers)))
    (λ p. record { me = p.0; own = p.1.0; numbers = p.1.1 }) (λ _. refl)

abbrev pub numbers_of : List (set.FinSet nat_cmp) → ℕ → set.FinSet nat_cmp
numbers_of sets sender = slice_index_or sets sender set.empty

abbrev pub holds : Pairs → ℕ → ℕ → Bool
holds held sender number = set.contains (numbers_of held.numbers sender) number

abbrev pub with_pair : Pairs → ℕ → ℕ → Pairs
with_pair held sender number =
    record held { numbers = slice_set held.numbers sender (set.insert (numbers_of held.numbers sender) number) }

abbrev pub with_own : Pairs → Pairs
with_own held = record (with_pair held held.me held.own) { own = held.own + 1 }

-- not to the node itself, the sender, or the peer that passed it on
abbrev pub goes_on : ℕ → ℕ → ℕ → ℕ → Bool
goes_on me sender from q = not (q == me) && not (q == sender) && not (q == from)

abbrev pub relays_to : Pairs → ℕ → ℕ → ℕ → Bool
relays_to held sender from q = goes_on held.me sender from q

unfoldable pub by_sender : List (set.FinSet nat_cmp) → List (set.FinSet nat_cmp)
by_sender sets = sets ++ replicate (256 - length sets) set.empty
