use Rattle.std.proofs.Common.{◌^◌, [], ◌∙◌}
use Rattle.cast_message.specs.Members.{members_below-empty}
use Rattle.cast_message.specs.Numbers.{is_number, number_set}
use Rattle.cast_message.proofs.Numbers.{no_number}
use Rattle.cast_message.proofs.number_set.NumberSet.new.Goals as goal

pub returns : goal.returns
returns c = (λ i. number_set (c.new.ensures.items i) (c.new-2.ensures.empty i)) ∙ members_below-empty (2 ^ 64) (is_number [] []) no_number
