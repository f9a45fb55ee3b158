-- The slots taken: those below a base, those with a bit, and those farther away.
--     bit_of base slot                the place of a slot among the bits, which begin with the word of the base
--     IsFullWord words place          all bits of that word are set
--     is_marked base words far slot   the slot has a bit or is farther away
--     taken_set base words far        the slots taken
--     Inward                          the slots taken, and those for which there is room
--     has_room inward slot            there is room for the slot
--     inward_of base words ..         the same for a base, words with this capacity, and slots farther away
--     IsWindow base words far         how they are kept
use Rattle.std.specs.Prelude.{◌≡◌, ◌+◌, ◌≤◌, ◌<◌, length, true, false, ℕ, ◌-◌, ◌*◌, ◌/◌, ◌^◌, nat_eq, nat_lt, nat_le, Bool, ◌||◌, ◌&&◌, List, refl}
use Rattle.std.specs.List.{list_any, All}
use Rattle.std.specs.Ordering.{nat_cmp}
use Rattle.std.specs.FinSet as set
use Rattle.std.specs.Coded.{Coded, code_by, coded×, coded_ℕ, coded_bool}
use Rattle.std.specs.BTreeMap.{is_at}
use Rattle.cast_message.specs.Members.{members_below}
use Rattle.cast_message.specs.Bits.{is_set}

abbrev pub bit_of : ℕ → ℕ → ℕ
bit_of base slot = slot - 64 * (base / 64)

-- the bits that were set, and this one
abbrev pub SetsBit : List ℕ → ℕ → List ℕ → Type 0
SetsBit before bit after =
    (other : ℕ) → is_set after other ≡ (nat_eq other bit || is_set before other)

abbrev pub IsFullWord : List ℕ → ℕ → Type 0
IsFullWord words place = (k : ℕ) → k < 64 → is_set words (64 * place + k) ≡ true

abbrev pub is_marked : ℕ → List ℕ → List ℕ → ℕ → Bool
is_marked base words far slot =
    is_set words (bit_of base slot) || list_any (is_at (nat_cmp slot)) far

-- from the base on, these mark the same slots as those
abbrev pub MarksTheSame : ℕ → List ℕ → List ℕ → List ℕ → List ℕ → Type 0
MarksTheSame base words far words' far' =
    (slot : ℕ) → base ≤ slot → is_marked base words' far' slot ≡ is_marked base words far slot

abbrev pub is_taken : ℕ → List ℕ → List ℕ → ℕ → Bool
is_taken base words far slot = nat_lt slot base || is_marked base words far slot

abbrev pub taken_set : ℕ → List ℕ → List ℕ → set.FinSet nat_cmp
taken_set base words far = members_below (2 ^ 64) (is_taken base words far)

pub record Inward : Type 0 where
  pub slots : set.FinSet nat_cmp
  pub reach : ℕ
  pub settled : Bool

abbrev pub inward_code : Coded Inward
inward_code =
    code_by (set.FinSet nat_cmp × (ℕ × Bool)) (coded× (set.code coded_ℕ) (coded× coded_ℕ coded_bool))
    (λ i. (i.slots, (i.reach, i.settled))) (λ p. record { slots = p.0; reach = p.1.0; settled = p.1.1 }) (λ _. refl)

abbrev pub has_room : Inward → ℕ → Bool
has_room inward slot = inward.settled && nat_lt slot inward.reach

-- the reach is the first slot that has no bit; the base may move on if no far slot would come within reach, or if there is room
-- for all words
abbrev pub inward_of : ℕ → List ℕ → ℕ → List ℕ → Inward
inward_of base words capacity far =
    record {
      slots = taken_set base words far;
      reach = 64 * (base / 64) + 64 * length words;
      settled = nat_eq (length far) 0 || nat_le 4097 capacity;
    }

-- The base is the least slot not taken, or the greatest slot of all. Bits reach 262,144 slots from the base on; all
-- other taken slots are beyond.
pub record IsWindow (base : ℕ) (words far : List ℕ) : Type 0 where
  pub least : base + 1 < 2 ^ 64 → is_set words (bit_of base base) ≡ false
  pub short : length words ≤ 4097
  pub beyond : All (λ slot. base + 262144 ≤ slot) far
