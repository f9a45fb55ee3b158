use Rattle.std.proofs.Common.{◌^◌, [], ◌∙◌, refl}
use Rattle.cast_message.specs.Members.{members_below-empty}
use Rattle.cast_link.specs.Taken.{is_taken, taken_set}
use Rattle.cast_link.proofs.Slots.{none_taken}
use Rattle.cast_link.proofs.link_in.LinkIn.new.Goals as goal

pub returns : goal.returns
returns c = (λ i. taken_set 0 (c.new.ensures.items i) (c.new-2.ensures.empty i)) ∙ members_below-empty (2 ^ 64) (is_taken 0 [] []) (none_taken [] refl)
