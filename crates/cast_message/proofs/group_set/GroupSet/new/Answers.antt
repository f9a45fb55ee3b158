use Rattle.std.proofs.Common.{ap}
use Rattle.std.proofs.lemmas.Nat.Bits.{bit_at-zero}
use Rattle.std.specs.Prelude.{nat_eq}
use Rattle.cast_message.specs.Members.{members_below-empty}
use Rattle.cast_message.proofs.group_set.GroupSet.new.Goals as goal

pub returns : goal.returns
returns c = members_below-empty 64 _ (λ q. ap (λ b. nat_eq b 1) (bit_at-zero q))
