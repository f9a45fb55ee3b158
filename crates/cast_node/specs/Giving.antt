-- What was given to peers. A slot keeps the same of the message for each of them.
--     given_on q me source sender kept links     given to each peer from number q on to which the message goes
--     bare links                 the links, without their room
--     HasRoom link               there is room for one more slot, and a number left for it
--     link_in links q            the link to a peer
--     OwesOnly Is links          what each owed slot keeps has this property
--     OwesNoneOf links peers     no slot is owed to any of these peers
--     AreOwed links peers        exactly these peers are owed a slot
use Rattle.std.specs.Prelude.{◌≡◌, ℕ, ◌+◌, ◌<◌, ◌^◌, nat_lt, true, if◌then◌else◌, List, [], ◌∷◌, map, slice_index_or, Some}
use Rattle.std.specs.Ordering.{nat_cmp}
use Rattle.std.specs.FinMap as finite
use Rattle.std.specs.FinSet as set
use Rattle.cast_link.specs.Links.{Link, Outward, with_given}
use Rattle.cast_relay.specs.Pairs.{goes_on}

unfoldable pub given_on : {X : Type 0} → ℕ → ℕ → ℕ → ℕ → X → List (Link X) → List (Link X)
given_on q me source sender kept [] = []
given_on q me source sender kept (link ∷ links) =
    (if goes_on me sender source q then with_given link kept else link)
    ∷ given_on (q + 1) me source sender kept links

abbrev pub bare : {X : Type 0} → List (Outward X) → List (Link X)
bare links = map (λ l. l.link) links

abbrev pub HasRoom : {X : Type 0} → Outward X → Type 0
HasRoom outward = (outward.room ≡ true) × (outward.link.given + 1 < 2 ^ 64)

abbrev pub link_in : {X : Type 0} → List (Link X) → ℕ → Link X
link_in links q = slice_index_or links q (record { given = 0; owed = finite.empty })

abbrev pub OwesOnly : {X : Type 0} → (X → Type 0) → List (Link X) → Type 0
OwesOnly {X = X} Is links = (q slot : ℕ) (kept : X) →
    finite.get (link_in links q).owed slot ≡ Some kept → Is kept

abbrev pub OwesNoneOf : {X : Type 0} → List (Link X) → set.FinSet nat_cmp → Type 0
OwesNoneOf links peers = (q : ℕ) → set.contains peers q ≡ true → (link_in links q).owed ≡ finite.empty

abbrev pub AreOwed : {X : Type 0} → List (Link X) → set.FinSet nat_cmp → Type 0
AreOwed links peers = (q : ℕ) → set.contains peers q ≡ nat_lt 0 (finite.len (link_in links q).owed)
