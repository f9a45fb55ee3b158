use Rattle.std.proofs.Common.{◌∙◌, sym, ap}
use Rattle.std.specs.Ordering.{nat_cmp}
use Rattle.std.specs.FinSet as set
use Rattle.std.specs.FinSet.{len-empty}
use Rattle.cast_message.specs.Members.{members_below-empty}
use Rattle.cast_message.proofs.Places.{is_set-no_words}
use Rattle.cast_message.proofs.node_set.NodeSet.new.Goals as goal

pub invariant_of-result : goal.invariant_of-result
invariant_of-result c = sym (ap set.len (members_below-empty 256 _ is_set-no_words) ∙ len-empty nat_cmp)

pub returns : goal.returns
returns c = members_below-empty 256 _ is_set-no_words
