-- What is kept of a node, at its place and past the last one.
use Rattle.std.proofs.Common.{◌≡◌, ℕ, ◌≤◌, List, length, slice_index, sym, ap, ◌∙◌, arith}
use Rattle.std.proofs.lemmas.Grind.{common_steps}
use Rattle.cast_message.proofs.Lists.{none_counted}
use Rattle.cast_judge.specs.declared.kept_node.KeptNode.{KeptNode}
use Rattle.cast_judge.specs.Kept.{nobody, node_at}

pub past_all : (nodes : List KeptNode) (p : ℕ) → length nodes ≤ p → node_at nodes p ≡ nobody
past_all nodes p past = grind (arith, common_steps)

pub none_delivered : (nodes : List KeptNode) (p s : ℕ) → length nodes ≤ p → 0 ≡ slice_index (node_at nodes p).delivered s
none_delivered nodes p s past = sym (ap (λ (node : KeptNode). slice_index node.delivered s) (past_all nodes p past) ∙ none_counted 64 s)
