-- A set of numbers as bits for the small ones and the others in order.
use Rattle.std.specs.Prelude.{ℕ, ◌^◌, Bool, ◌||◌, List}
use Rattle.std.specs.List.{list_any}
use Rattle.std.specs.Ordering.{nat_cmp}
use Rattle.std.specs.FinSet as set
use Rattle.std.specs.BTreeMap.{is_at}
use Rattle.cast_message.specs.Members.{members_below}
use Rattle.cast_message.specs.Bits.{is_set}

abbrev pub is_number : List ℕ → List ℕ → ℕ → Bool
is_number words far number = is_set words number || list_any (is_at (nat_cmp number)) far

abbrev pub number_set : List ℕ → List ℕ → set.FinSet nat_cmp
number_set words far = members_below (2 ^ 64) (is_number words far)
