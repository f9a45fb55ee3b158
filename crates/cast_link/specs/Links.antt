-- What a node gave another, as callers see it. A slot keeps the message itself, or whatever its user finds it by.
--     Link X                     how many slots were given, and the owed ones with what they keep
--     Outward X                  a link, and whether there is room for one more slot
--     with_given link kept       one more slot is given
--     with_acknowledged link slot      a slot is no longer owed
--     IsLeastFrom owed from slot the least slot owed from `from` on
--     IsOwedUntil owed from end  all slots from `from` up to the end are owed
--     owed_map base places       the owed slots, if these are the places of the slots from base on
--     link_of base places        the same as a link
--     outward_of base places ..  the same with the room
--     is_acknowledged link slot  the slot was given and is not owed
--     KeepsOwed base places ..   how they are kept
use Rattle.std.specs.Prelude.{◌≡◌, ℕ, ◌+◌, ◌*◌, ◌/◌, ◌%◌, ◌^◌, ◌≤◌, ◌<◌, nat_lt, Bool, true, not, ◌&&◌, List, [], ◌∷◌, length, Option, Some, None, MatchOption, refl}
use Rattle.std.specs.Ordering.{nat_cmp}
use Rattle.std.specs.FinMap as map
use Rattle.std.specs.Coded.{Coded, code_by, coded×, coded_ℕ, coded_bool}
use Rattle.cast_message.specs.Bits.{is_set}
use Rattle.cast_link.specs.Taken.{bit_of}

pub record Link (X : Type 0) : Type 0 where
  pub given : ℕ
  pub owed : map.FinMap nat_cmp X

pub record Outward (X : Type 0) : Type 0 where
  pub link : Link X
  pub room : Bool

module _ {X : Type 0} where
  abbrev pub with_given : Link X → X → Link X
  with_given link kept =
      record { given = link.given + 1; owed = map.insert link.owed link.given kept }

  abbrev pub with_acknowledged : Link X → ℕ → Link X
  with_acknowledged link slot = record { given = link.given; owed = map.remove link.owed slot }

  -- slot is the least one owed from `from` on, or `None` if there is none
  abbrev pub IsLeastFrom : map.FinMap nat_cmp X → ℕ → Option ℕ → Type 0
  IsLeastFrom owed from result =
      MatchOption result
      ((other : ℕ) → from ≤ other → map.get owed other ≡ None)
      (λ slot. (from ≤ slot) × (map.contains_key owed slot ≡ true)
      × ((other : ℕ) → from ≤ other → other < slot → map.get owed other ≡ None))

  -- all slots from `from` up to the end are owed; the end is `from` only if that one is not owed
  pub record IsOwedUntil (owed : map.FinMap nat_cmp X) (from end : ℕ) : Type 0 where
    pub order : from ≤ end
    pub each : (slot : ℕ) → from ≤ slot → slot < end → map.contains_key owed slot ≡ true
    pub more : map.contains_key owed from ≡ true → from < end

  -- the slots from base on that are still owed, with what they keep
  abbrev pub owed_from : ℕ → List (Option X) → List (ℕ × X)
  owed_from base [] = []
  owed_from base (None ∷ places) = owed_from (base + 1) places
  owed_from base (Some kept ∷ places) = (base, kept) ∷ owed_from (base + 1) places

  unfoldable pub owed_map : ℕ → List (Option X) → map.FinMap nat_cmp X
  owed_map base places = map.from_entries (owed_from base places)

  abbrev pub link_of : ℕ → List (Option X) → Link X
  link_of base places = record { given = base + length places; owed = owed_map base places }

  -- there is room for a slot if there is room for its place, and its mark has a word
  abbrev pub outward_of : ℕ → List (Option X) → ℕ → List ℕ → Outward X
  outward_of base places capacity marks =
      record {
        link = link_of base places;
        room = nat_lt (length places) capacity && nat_lt (bit_of base (base + length places) / 64) (length marks);
      }

  -- the first place, if there is one, is owed
  abbrev pub StartsOwed : List (Option X) → Type 0
  StartsOwed [] = Unit {0}
  StartsOwed (None ∷ places) = ⊥
  StartsOwed (Some kept ∷ places) = Unit {0}

  abbrev pub link_code : Coded X → Coded (Link X)
  link_code kept =
      code_by (ℕ × map.FinMap nat_cmp X) (coded× coded_ℕ (map.code coded_ℕ kept))
      (λ l. (l.given, l.owed)) (λ p. record { given = p.0; owed = p.1 }) (λ _. refl)

  abbrev pub outward_code : Coded X → Coded (Outward X)
  outward_code kept =
      code_by (Link X × Bool) (coded× (link_code kept) coded_bool)
      (λ o. (o.link, o.room)) (λ p. record { link = p.0; room = p.1 }) (λ _. refl)

  abbrev pub is_acknowledged : Link X → ℕ → Bool
  is_acknowledged link slot = nat_lt slot link.given && not (map.contains_key link.owed slot)

-- The base is the least slot owed, or the next to be given. The marks begin with the first slot in the base's word. Those of the
-- slots that were acknowledged are set, and no others. They have room for each place, and for at most one word beyond.
pub record KeepsOwed {X : Type 0} (base : ℕ) (places : List (Option X)) (marks : List ℕ) (owed : ℕ)
    : Type 0 where
  pub fits : base + length places < 2 ^ 64
  pub starts : StartsOwed places
  pub count : owed ≡ map.len (owed_map base places)
  pub exact : (bit : ℕ) →
      is_set marks bit ≡ is_acknowledged (link_of base places) (64 * (base / 64) + bit)
  pub room : base % 64 + length places ≤ 64 * length marks
  pub few : 64 * length marks ≤ base % 64 + length places + 64
