-- A set of nodes, as the bits of four words.
use Rattle.std.specs.Prelude.{◌≡◌, ℕ, ◌*◌, ◌/◌, ◌%◌, ◌^◌, ◌<◌, nat_eq, ◌&&◌, List, length, slice_index, slice_set, bit_and, bit_or}
use Rattle.std.specs.Ordering.{nat_cmp}
use Rattle.std.specs.FinSet as set
use Rattle.std.proofs.Common.{sym, ap, ◌∙◌, arith}
use Rattle.std.proofs.lemmas.Bool.{lt-ltb}
use Rattle.cast_message.specs.Bits.{is_set}
use Rattle.cast_message.specs.Members.{members_below, contains-members_below, members_below-insert}
use Rattle.cast_message.proofs.Places.{is_set-test, is_set-with_place, with_place}

pub record IsIn (words : List ℕ) (s : set.FinSet nat_cmp) (inside node place : ℕ) : Type 0 where
  pub set_is : members_below 256 (is_set words) ≡ s
  pub node_is : inside ≡ node
  pub place_is : place ≡ inside / 64
  pub within : inside < 256

pub node_test : (words : List ℕ) (s : set.FinSet nat_cmp) (inside node place : ℕ) → IsIn words s inside node place → nat_eq (bit_and (slice_index words place / 2 ^ (inside % 64)) 1) 1 ≡ set.contains s node
node_test words s inside node place h =
    ap (λ p. nat_eq (bit_and (slice_index words p / 2 ^ (inside % 64)) 1) 1) h.place_is
    ∙ is_set-test words inside
    ∙ sym (contains-members_below 256 (is_set words) inside ∙ ap (λ b. b && is_set words inside) (lt-ltb inside 256 h.within))
    ∙ (λ i. set.contains (h.set_is i) (h.node_is i))

pub node_added : (words : List ℕ) (s : set.FinSet nat_cmp) (inside node place : ℕ) → IsIn words s inside node place → length words ≡ 4 → members_below 256 (is_set (slice_set words place (bit_or (slice_index words place) (1 * 2 ^ (inside % 64) % 2 ^ 64)))) ≡ set.insert s node
node_added words s inside node place h four =
    ap (λ p. members_below 256 (is_set (slice_set words p (bit_or (slice_index words p) (1 * 2 ^ (inside % 64) % 2 ^ 64))))) h.place_is
    ∙ members_below-insert 256 (is_set words) (is_set (with_place words inside)) inside h.within (λ q _. is_set-with_place words inside q (omega (arith, four, h.within)))
    ∙ (λ i. set.insert (h.set_is i) (h.node_is i))
