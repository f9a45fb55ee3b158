-- What is given to peers and owed to them, as a node keeps it: by the places of messages, and with the set of the peers that are owed.
use Rattle.std.specs.Prelude.{◌≡◌, ℕ, suc, ◌+◌, Bool, if◌then◌else◌, List, [], ◌∷◌, ◌++◌, take, length, refl, zero, true, false, cond, replicate, slice_set, Option, Some, None, ◌<◌, ◌&&◌, T, map, slice_index_or, option_map, is_some, ◌≢◌, ◌↔◌, ◌-◌, ◌≤◌, nat_lt, not}
use Rattle.std.specs.List.{All}
use Rattle.std.proofs.Common.{sym, ap, subst, ◌∙◌, arith, drop, length-append, inl, inr}
use Rattle.std.proofs.lemmas.List.{nil_from_length, get_or_past, length-map, map-set, get_or-map, get_or_append_left, get_or-set_other}
use Rattle.cast_link.specs.Links.{Link, Outward, with_given, with_acknowledged, IsLeastFrom, IsOwedUntil}
use Rattle.cast_relay.specs.Pairs.{goes_on}
use Rattle.cast_node.proofs.Parts.{slice_back}
use Rattle.cast_node.specs.Giving.{given_on, bare, HasRoom, link_in, OwesOnly, OwesNoneOf, AreOwed}
use Rattle.std.specs.Ordering.{nat_cmp, eq_by_cmp, is_lt}
use Rattle.std.specs.Cmp.{nat_cmp_total}
use Rattle.std.specs.FinMap as finite
use Rattle.std.specs.FinMap.{get-insert, get-remove, get-empty, find, is_sorted, entries_sorted, get-entries, len-entries, get-from_sorted, entries-from_sorted, same_map, nat_cmp-IsAntisymmetric, empty_of_len, len-empty, len-remove}
use Rattle.std.specs.FinMap.Entries.{below_all}
use Rattle.std.proofs.Math.Seq.{get_or-append_seam}
use Rattle.cast_message.specs.declared.message.Message.{Message}
use Rattle.cast_node.specs.Outgoing.{kept_message, owed_through, link_through, links_of, OwesBelow, Outbound, IsOutgoing}
use Rattle.std.specs.FinSet as set
use Rattle.std.specs.FinSet.{contains-empty, contains-remove, contains-intersection, same_set}
use Rattle.std.proofs.lemmas.Bool.Decides.{eqb_tells, leb_tells, nat_tests}
use Rattle.std.proofs.lemmas.Grind.{get_or-set_at}
use Rattle.std.proofs.Math.ListN.{length-set}
use Rattle.cast_message.proofs.Booleans.{and_false}
use Rattle.cast_message.proofs.Tests.{cmp_eq}
use Rattle.std.proofs.lemmas.Bool.{lt-ltb}
use Rattle.cast_node.proofs.Places.{at_replicate}

module _ {X : Type 0} where
  pub given_none : (q me source sender : ℕ) (kept : X) (links : List (Outward X)) → length links ≡ 0 → bare links ≡ given_on q me source sender kept (bare links)
  unfolding given_on
  given_none q me source sender kept links e = ap bare (nil_from_length links e) ∙ sym (ap (λ ls. given_on q me source sender kept (bare ls)) (nil_from_length links e))

  pub given_next : (q me source sender : ℕ) (kept : X) (links rest more : List (Outward X)) (link given : Outward X) (goes : Bool) → links ≡ link ∷ rest → given.link ≡ (if goes then with_given link.link kept else link.link) → goes ≡ goes_on me sender source q → bare more ≡ given_on (q + 1) me source sender kept (bare rest) →
      bare (given ∷ more) ≡ given_on q me source sender kept (bare links)
  unfolding given_on
  given_next q me source sender kept links rest more link given goes e g t m =
      (λ i. (g ∙ ap (λ b. if b then with_given link.link kept else link.link) t) i ∷ m i) ∙ sym (ap (λ ls. given_on q me source sender kept (bare ls)) e)

  -- each of some links has room
  pub first_room : (links rest : List (Outward X)) (link : Outward X) → links ≡ link ∷ rest → All HasRoom links → HasRoom link
  first_room links rest link e h = subst (All HasRoom) e h 0 link (omega arith)

  pub length_given : (q me source sender : ℕ) (kept : X) (links : List (Link X)) → length (given_on q me source sender kept links) ≡ length links
  unfolding given_on
  length_given q me source sender kept [] = refl
  length_given q me source sender kept (link ∷ links) = ap suc (length_given (q + 1) me source sender kept links)

  pub bare_long : (links : List (Outward X)) → length (bare links) ≡ length links
  bare_long links = length-map links (λ l. l.link)

  -- a slice of all links, written back
  pub given_whole : (n : ℕ) (after links was : List (Outward X)) (me source sender : ℕ) (kept given : X) → bare after ≡ given_on 0 me source sender kept (bare was) → was ≡ links → n ≡ length links → kept ≡ given → bare (take n (after ++ drop (length after) links)) ≡ given_on 0 me source sender given (bare links)
  given_whole n after links was me source sender kept given e f l k =
      let gave = e ∙ (λ i. given_on 0 me source sender (k i) (bare (f i))) in
      ap bare (slice_back n after links (sym (bare_long after) ∙ ap length gave ∙ length_given 0 me source sender given (bare links) ∙ bare_long links) l) ∙ gave

module _ {X : Type 0} where
  nothing_owed : (Is : X → Type 0) (slot : ℕ) (kept : X) → finite.get (finite.empty {X = X} {R = nat_cmp}) slot ≡ Some kept → Is kept
  nothing_owed Is slot kept e = let n : ◌≡◌ {A = Option X} None (Some kept) = sym (get-empty nat_cmp slot) ∙ e in absurd (cc)

  -- nothing was given
  pub owes_none : (Is : X → Type 0) (n : ℕ) → OwesOnly Is (replicate n (record { given = 0; owed = finite.empty }))
  owes_none Is zero q slot kept e = nothing_owed Is slot kept e
  owes_none Is (suc n) zero slot kept e = nothing_owed Is slot kept e
  owes_none Is (suc n) (suc q) slot kept e = owes_none Is n q slot kept e

  one_more : (Is : X → Type 0) (link : Link X) (kept : X) → Is kept → ((slot : ℕ) (k : X) → finite.get link.owed slot ≡ Some k → Is k) → (slot : ℕ) (k : X) → finite.get (with_given link kept).owed slot ≡ Some k → Is k
  one_more Is link kept w h slot k e = go (eq_by_cmp nat_cmp slot link.given) (sym (get-insert nat_cmp_total link.owed link.given kept slot) ∙ e)
    where
      go : (b : Bool) → cond b (Some kept) (finite.get link.owed slot) ≡ Some k → Is k
      go true f = let s : kept ≡ k = cc in subst Is s w
      go false f = h slot k f

  -- what is so is given
  pub owes_given : (Is : X → Type 0) (first : ℕ) (me : ℕ) (source sender : ℕ) (kept : X) (links : List (Link X)) → Is kept → OwesOnly Is links → OwesOnly Is (given_on first me source sender kept links)
  unfolding given_on
  owes_given Is first me source sender kept [] w h q slot k e = h q slot k e
  owes_given Is first me source sender kept (link ∷ links) w h zero slot k e = go (goes_on me sender source first) e
    where
      go : (b : Bool) → finite.get (if b then with_given link kept else link).owed slot ≡ Some k → Is k
      go true f = one_more Is link kept w (h zero) slot k f
      go false f = h zero slot k f
  owes_given Is first me source sender kept (link ∷ links) w h (suc q) slot k e = owes_given Is (first + 1) me source sender kept links w (λ q. h (suc q)) q slot k e

  -- a slot is acknowledged
  pub owes_acked : (Is : X → Type 0) (links : List (Link X)) (q : ℕ) (after : Link X) (slot : ℕ) → after ≡ with_acknowledged (link_in links q) slot → OwesOnly Is links → OwesOnly Is (slice_set links q after)
  owes_acked Is links q after at a h other slot kept f = go links q other h f (λ slot k g. h q slot k g)
    where
      left : (link : Link X) → after ≡ with_acknowledged link at → ((slot : ℕ) (k : X) → finite.get link.owed slot ≡ Some k → Is k) → finite.get after.owed slot ≡ Some kept → Is kept
      left link a g f = take (eq_by_cmp nat_cmp slot at) (sym (ap (λ (l : Link X). finite.get l.owed slot) a ∙ get-remove nat_cmp_total link.owed at slot) ∙ f)
        where
          take : (b : Bool) → cond b None (finite.get link.owed slot) ≡ Some kept → Is kept
          take true f = absurd (cc)
          take false f = g slot kept f

      go : (rest : List (Link X)) (place other : ℕ) → OwesOnly Is rest → finite.get (link_in (slice_set rest place after) other).owed slot ≡ Some kept → ((slot : ℕ) (k : X) → finite.get (link_in links q).owed slot ≡ Some k → Is k) → Is kept
      go [] place other h f g = h other slot kept f
      go (x ∷ rest) zero zero h f g = left (link_in links q) a g f
      go (x ∷ rest) zero (suc other) h f g = h (suc other) slot kept f
      go (x ∷ rest) (suc place) zero h f g = h zero slot kept f
      go (x ∷ rest) (suc place) (suc other) h f g = go rest place other (λ q. h (suc q)) f g

-- ---- entries, with the values that a function gives them

abbrev with_values : (ℕ → Message) → List (ℕ × ℕ) → List (ℕ × Message)
with_values f es = map (λ e. (e.0, f e.1)) es

below_with : (f : ℕ → Message) (x : ℕ) (es : List (ℕ × ℕ)) → below_all nat_cmp x (with_values f es) ≡ below_all nat_cmp x es
below_with f x [] = refl
below_with f x (e ∷ es) = ap (λ b. is_lt (nat_cmp x e.0) && b) (below_with f x es)

sorted_with : (f : ℕ → Message) (es : List (ℕ × ℕ)) → is_sorted nat_cmp (with_values f es) ≡ is_sorted nat_cmp es
sorted_with f [] = refl
sorted_with f (e ∷ es) = λ i. below_with f e.0 es i && sorted_with f es i

find_with : (f : ℕ → Message) (q : ℕ) (es : List (ℕ × ℕ)) → find nat_cmp q (with_values f es) ≡ option_map f (find nat_cmp q es)
find_with f q [] = refl
find_with f q (e ∷ es) = elim (eq_by_cmp nat_cmp q e.0) as (λ b. cond b (Some (f e.1)) (find nat_cmp q (with_values f es)) ≡ option_map f (cond b (Some e.1) (find nat_cmp q es))) [ true ↦ refl | false ↦ find_with f q es ]

sorted_through : (messages : List Message) (owed : finite.FinMap nat_cmp ℕ) → T (is_sorted nat_cmp (with_values (kept_message messages) (finite.entries owed)))
sorted_through messages owed = subst T (sym (sorted_with (kept_message messages) (finite.entries owed))) (entries_sorted owed)

-- ---- what is owed

pub get_through : (messages : List Message) (owed : finite.FinMap nat_cmp ℕ) (q : ℕ) → finite.get (owed_through messages owed) q ≡ option_map (kept_message messages) (finite.get owed q)
unfolding owed_through
get_through messages owed q =
    get-from_sorted nat_cmp (with_values (kept_message messages) (finite.entries owed)) q (sorted_through messages owed)
    ∙ find_with (kept_message messages) q (finite.entries owed)
    ∙ ap (option_map (kept_message messages)) (sym (get-entries owed q))

pub len_through : (messages : List Message) (owed : finite.FinMap nat_cmp ℕ) → finite.len (owed_through messages owed) ≡ finite.len owed
unfolding owed_through
len_through messages owed =
    len-entries (finite.from_sorted (with_values (kept_message messages) (finite.entries owed)))
    ∙ ap length (entries-from_sorted nat_cmp (with_values (kept_message messages) (finite.entries owed)) (sorted_through messages owed))
    ∙ length-map (finite.entries owed) (λ e. (e.0, kept_message messages e.1))
    ∙ sym (len-entries owed)

pub contains_through : (messages : List Message) (owed : finite.FinMap nat_cmp ℕ) (q : ℕ) → finite.contains_key (owed_through messages owed) q ≡ finite.contains_key owed q
contains_through messages owed q = ap is_some (get_through messages owed q) ∙ elim (finite.get owed q) as (λ o. is_some (option_map (kept_message messages) o) ≡ is_some o) [ None ↦ refl | Some place ↦ refl ]

pub through_empty : (messages : List Message) → owed_through messages finite.empty ≡ finite.empty
through_empty messages = same_map nat_cmp_total nat_cmp-IsAntisymmetric _ _ (λ q. get_through messages finite.empty q ∙ ap (option_map (kept_message messages)) (get-empty nat_cmp q) ∙ sym (get-empty nat_cmp q))

inward : (f : ℕ → Message) (b : Bool) (x o : Option ℕ) → option_map f (cond b x o) ≡ cond b (option_map f x) (option_map f o)
inward f true x o = refl
inward f false x o = refl

through_insert : (messages : List Message) (owed : finite.FinMap nat_cmp ℕ) (k place : ℕ) → owed_through messages (finite.insert owed k place) ≡ finite.insert (owed_through messages owed) k (kept_message messages place)
through_insert messages owed k place = same_map nat_cmp_total nat_cmp-IsAntisymmetric _ _ (λ q.
    get_through messages (finite.insert owed k place) q
    ∙ ap (option_map (kept_message messages)) (get-insert nat_cmp_total owed k place q)
    ∙ inward (kept_message messages) (eq_by_cmp nat_cmp q k) (Some place) (finite.get owed q)
    ∙ sym (get-insert nat_cmp_total (owed_through messages owed) k (kept_message messages place) q ∙ ap (cond (eq_by_cmp nat_cmp q k) (Some (kept_message messages place))) (get_through messages owed q)))

through_remove : (messages : List Message) (owed : finite.FinMap nat_cmp ℕ) (k : ℕ) → owed_through messages (finite.remove owed k) ≡ finite.remove (owed_through messages owed) k
through_remove messages owed k = same_map nat_cmp_total nat_cmp-IsAntisymmetric _ _ (λ q.
    get_through messages (finite.remove owed k) q
    ∙ ap (option_map (kept_message messages)) (get-remove nat_cmp_total owed k q)
    ∙ inward (kept_message messages) (eq_by_cmp nat_cmp q k) None (finite.get owed q)
    ∙ sym (get-remove nat_cmp_total (owed_through messages owed) k q ∙ ap (cond (eq_by_cmp nat_cmp q k) None) (get_through messages owed q)))

-- ---- one message more

through_more : (messages : List Message) (message : Message) (owed : finite.FinMap nat_cmp ℕ) → ((slot place : ℕ) → finite.get owed slot ≡ Some place → place < length messages) → owed_through (messages ++ message ∷ []) owed ≡ owed_through messages owed
through_more messages message owed h = same_map nat_cmp_total nat_cmp-IsAntisymmetric _ _ (λ q. get_through (messages ++ message ∷ []) owed q ∙ at q (finite.get owed q) refl ∙ sym (get_through messages owed q))
  where
    at : (q : ℕ) (o : Option ℕ) → finite.get owed q ≡ o → option_map (kept_message (messages ++ message ∷ [])) o ≡ option_map (kept_message messages) o
    at q None e = refl
    at q (Some place) e = ap Some (get_or_append_left messages (message ∷ []) _ place (h q place e))

pub given_through : (q : ℕ) (me : ℕ) (source : ℕ) (message : Message) (messages : List Message) (links : List (Link ℕ)) → OwesBelow (length messages) links → map (link_through (messages ++ message ∷ [])) (given_on q me source message.sender (length messages) links) ≡ given_on q me source message.sender message (map (link_through messages) links)
unfolding given_on
given_through q me source message messages [] h = refl
given_through q me source message messages (link ∷ links) h = λ i. one (goes_on me message.sender source q) i ∷ given_through (q + 1) me source message messages links (λ q. h (suc q)) i
  where
    same : owed_through (messages ++ message ∷ []) link.owed ≡ owed_through messages link.owed
    same = through_more messages message link.owed (h 0)

    more : owed_through (messages ++ message ∷ []) (finite.insert link.owed link.given (length messages)) ≡ finite.insert (owed_through messages link.owed) link.given message
    more = through_insert (messages ++ message ∷ []) link.owed link.given (length messages) ∙ (λ i. finite.insert (same i) link.given (get_or-append_seam messages message [] (kept_message [] 0) i))

    one : (b : Bool) → link_through (messages ++ message ∷ []) (if b then with_given link (length messages) else link) ≡ (if b then with_given (link_through messages link) message else link_through messages link)
    one true = λ i. record { given = link.given + 1; owed = more i }
    one false = λ i. record { given = link.given; owed = same i }

-- each slot keeps the place of a message then
pub given_below : (messages more : List Message) (message : Message) (links after : List (Link ℕ)) (me : ℕ) (source sender : ℕ) → more ≡ messages ++ message ∷ [] → after ≡ given_on 0 me source sender (length messages) links → OwesBelow (length messages) links → OwesBelow (length more) after
given_below messages more message links after me source sender e g h =
    subst (λ n. OwesBelow n after) (sym (ap length e ∙ length-append messages (message ∷ [])))
    (subst (OwesBelow (length messages + 1)) (sym g)
    (owes_given (λ place. place < length messages + 1) 0 me source sender (length messages) links (omega arith)
    (λ q slot kept f. let l : kept < length messages = h q slot kept f in omega (arith, l))))

-- ---- links

pub link_at : (messages : List Message) (links : List (Link ℕ)) (q : ℕ) → link_in (map (link_through messages) links) q ≡ link_through messages (link_in links q)
link_at messages [] q = sym (λ i. record { given = 0; owed = through_empty messages i })
link_at messages (link ∷ links) zero = refl
link_at messages (link ∷ links) (suc q) = link_at messages links q

-- the link that is found at a peer's place, and what is seen of it
pub link_here : (out now : Outbound) (place to : ℕ) (found none : Outward ℕ) → out ≡ now → place ≡ to → to < length (links_of now) → found ≡ slice_index_or out.links place none → found.link ≡ link_in (bare out.links) to
link_here out now place to found none is at l e =
    let long = length-map (bare out.links) (link_through out.messages) in
    let within : place < length out.links = omega (arith, at, l, ap (λ o. length (links_of o)) is, long, bare_long out.links) in
    ap (λ (o : Outward ℕ). o.link) e ∙ sym (get_or-map (λ (o : Outward ℕ). o.link) out.links place none _ within) ∙ ap (link_in (bare out.links)) at

pub seen_here : (out now : Outbound) (place to : ℕ) (found none : Outward ℕ) → out ≡ now → place ≡ to → to < length (links_of now) → found ≡ slice_index_or out.links place none → link_through out.messages found.link ≡ link_in (links_of now) to
seen_here out now place to found none is at l e =
    ap (link_through out.messages) (link_here out now place to found none is at l e) ∙ sym (link_at out.messages (bare out.links) to) ∙ ap (λ o. link_in (links_of o) to) is

pub acknowledged_through : (messages : List Message) (links : List (Link ℕ)) (q slot : ℕ) → map (link_through messages) (slice_set links q (with_acknowledged (link_in links q) slot)) ≡ slice_set (map (link_through messages) links) q (with_acknowledged (link_in (map (link_through messages) links) q) slot)
acknowledged_through messages links q slot =
    map-set (link_through messages) links q (with_acknowledged (link_in links q) slot)
    ∙ ap (slice_set (map (link_through messages) links) q) ((λ i. record { given = (link_in links q).given; owed = through_remove messages (link_in links q).owed slot i }) ∙ ap (λ (l : Link Message). with_acknowledged l slot) (sym (link_at messages links q)))

pub nothing_given_through : (n : ℕ) → map (link_through []) (replicate n (record { given = 0; owed = finite.empty })) ≡ replicate n (record { given = 0; owed = finite.empty })
nothing_given_through zero = refl
nothing_given_through (suc n) = λ i. record { given = 0; owed = through_empty [] i } ∷ nothing_given_through n i

pub least_through : (messages : List Message) (owed : finite.FinMap nat_cmp ℕ) (from : ℕ) (result : Option ℕ) → IsLeastFrom owed from result → IsLeastFrom (owed_through messages owed) from result
least_through messages owed from None h = λ other l. get_through messages owed other ∙ ap (option_map (kept_message messages)) (h other l)
least_through messages owed from (Some slot) h = (h.0, contains_through messages owed slot ∙ h.1, λ other l m. get_through messages owed other ∙ ap (option_map (kept_message messages)) (h.2 other l m))

pub until_through : (messages : List Message) (owed : finite.FinMap nat_cmp ℕ) (from end : ℕ) → IsOwedUntil owed from end → IsOwedUntil (owed_through messages owed) from end
until_through messages owed from end h = record {
  order = h.order;
  each = λ slot l m. contains_through messages owed slot ∙ h.each slot l m;
  more = λ held. h.more (sym (contains_through messages owed from) ∙ held);
}

-- a peer is owed a slot
abbrev pub is_owed : {X : Type 0} → List (Link X) → ℕ → Bool
is_owed links q = nat_lt 0 (finite.len (link_in links q).owed)

-- nothing was given
pub none_owed : (X : Type 0) (n : ℕ) → AreOwed {X = X} (replicate n (record { given = 0; owed = finite.empty })) set.empty
none_owed X n q = contains-empty nat_cmp q ∙ sym (ap (λ (o : finite.FinMap nat_cmp X). nat_lt 0 (finite.len o)) (ap (λ (l : Link X). l.owed) (at_replicate n q (record { given = 0; owed = finite.empty {X = X} }))) ∙ ap (λ n. nat_lt 0 n) (len-empty nat_cmp X))

module _ {X : Type 0} where
  -- all peers are below the number of links
  pub owed_below : (links : List (Link X)) (n q : ℕ) → length links ≤ n → (nat_lt q n && is_owed links q) ≡ is_owed links q
  owed_below links n q all = elim (leb_tells (suc q) n) [
    | inl e ↦ ap (λ b. b && is_owed links q) e.0
    | inr e ↦ ap (λ b. b && is_owed links q) e.0 ∙ sym (ap (λ (l : Link X). nat_lt 0 (finite.len l.owed)) (get_or_past links q (record { given = 0; owed = finite.empty }) (omega (arith, all, e.1))) ∙ ap (λ n. nat_lt 0 n) (len-empty nat_cmp X))
  ]

  -- the link that stands at a peer's place owes so many slots
  module _ (links : List (Outward X)) (q owed : ℕ) (found : Outward X) (finds : found ≡ slice_index_or links q found) (within : q < length links) (counts : owed ≡ finite.len found.link.owed) where
    counted : owed ≡ finite.len (link_in (bare links) q).owed
    counted = counts ∙ ap (λ (l : Link X). finite.len l.owed) (ap (λ (o : Outward X). o.link) finds ∙ sym (get_or-map (λ (o : Outward X). o.link) links q found _ within))

    pub owed_here : (owed ≡ 0 → ⊥) → is_owed (bare links) q ≡ true
    owed_here some = ap (λ n. nat_lt 0 n) (sym counted) ∙ lt-ltb 0 owed (omega (arith, some))

    pub not_owed_here : owed ≡ 0 → is_owed (bare links) q ≡ false
    not_owed_here none = ap (λ n. nat_lt 0 n) (sym counted ∙ none)

  -- a slot is acknowledged
  module _ (links : List (Link X)) (owed : set.FinSet nat_cmp) (q slot : ℕ) (after : Link X) (were : AreOwed links owed) (within : q < length links) (acked : after ≡ with_acknowledged (link_in links q) slot) where
    here : is_owed (slice_set links q after) q ≡ nat_lt 0 (finite.len after.owed)
    here = ap (λ (l : Link X). nat_lt 0 (finite.len l.owed)) (get_or-set_at links q q after (record { given = 0; owed = finite.empty }) refl within)

    elsewhere : (other : ℕ) → other ≢ q → is_owed (slice_set links q after) other ≡ is_owed links other
    elsewhere other apart = ap (λ (l : Link X). nat_lt 0 (finite.len l.owed)) (get_or-set_other links q other after (record { given = 0; owed = finite.empty }) apart)

    fewer : finite.len after.owed ≤ finite.len (link_in links q).owed
    fewer = omega (arith, ap (λ (l : Link X). finite.len l.owed) acked, cut (finite.contains_key (link_in links q).owed slot) _ _ (len-remove nat_cmp_total (link_in links q).owed slot))
      where
        cut : (b : Bool) (n m : ℕ) → n ≡ cond b (m - 1) m → n ≤ m
        cut true n m e = omega (arith, e)
        cut false n m e = omega (arith, e)

    still_owed : (finite.len after.owed ≡ 0 → ⊥) → AreOwed (slice_set links q after) owed
    still_owed some other = elim (eqb_tells other q) [
      | inl e ↦ ap (set.contains owed) e.1 ∙ were q ∙ lt-ltb 0 (finite.len (link_in links q).owed) (omega (arith, fewer, some)) ∙ sym (lt-ltb 0 (finite.len after.owed) (omega (arith, some))) ∙ sym here ∙ ap (is_owed (slice_set links q after)) (sym e.1)
      | inr e ↦ were other ∙ sym (elsewhere other e.1)
    ]

    owed_no_more : finite.len after.owed ≡ 0 → AreOwed (slice_set links q after) (set.remove owed q)
    owed_no_more none other = contains-remove nat_cmp_total owed q other ∙ elim (eqb_tells other q) [
      | inl e ↦ ap (λ b. not b && set.contains owed other) (cmp_eq other q ∙ e.0) ∙ sym (ap (is_owed (slice_set links q after)) e.1 ∙ here ∙ ap (λ n. nat_lt 0 n) none)
      | inr e ↦ ap (λ b. not b && set.contains owed other) (cmp_eq other q ∙ e.0) ∙ were other ∙ sym (elsewhere other e.1)
    ]

  -- none of the peers is owed a slot
  pub none_of_both : (links : List (Link X)) (owed peers : set.FinSet nat_cmp) → AreOwed links owed → set.intersection owed peers ≡ set.empty ↔ OwesNoneOf links peers
  none_of_both links owed peers are = (apart, none)
    where
      in_both : (q : ℕ) → set.contains (set.intersection owed peers) q ≡ (is_owed links q && set.contains peers q)
      in_both q = contains-intersection nat_cmp_total owed peers q ∙ ap (λ b. b && set.contains peers q) (are q)

      apart : set.intersection owed peers ≡ set.empty → OwesNoneOf links peers
      apart e q member = empty_of_len (link_in links q).owed (nothing (finite.len (link_in links q).owed) (set.contains peers q) member (sym (in_both q) ∙ ap (λ s. set.contains s q) e ∙ contains-empty nat_cmp q))
        where
          nothing : (n : ℕ) (b : Bool) → b ≡ true → (nat_lt 0 n && b) ≡ false → n ≡ 0
          nothing n b e f = grind (arith, nat_tests, e, f)

      none : OwesNoneOf links peers → set.intersection owed peers ≡ set.empty
      none h = same_set nat_cmp_total nat_cmp-IsAntisymmetric _ _ (λ q. in_both q ∙ neither q (set.contains peers q) refl ∙ sym (contains-empty nat_cmp q))
        where
          neither : (q : ℕ) (b : Bool) → set.contains peers q ≡ b → (is_owed links q && b) ≡ false
          neither q true e = ap (λ (o : finite.FinMap nat_cmp X). nat_lt 0 (finite.len o) && true) (h q e) ∙ ap (λ n. nat_lt 0 n && true) (len-empty nat_cmp X)
          neither q false e = and_false (is_owed links q)

-- so it is of the messages whose places stand in the slots
pub none_of_through : (messages : List Message) (links : List (Link ℕ)) (peers : set.FinSet nat_cmp) → OwesNoneOf links peers ↔ OwesNoneOf (map (link_through messages) links) peers
none_of_through messages links peers = (
  λ h q member. ap (λ (l : Link Message). l.owed) (link_at messages links q) ∙ ap (owed_through messages) (h q member) ∙ through_empty messages,
  λ h q member. empty_of_len (link_in links q).owed (sym (len_through messages (link_in links q).owed) ∙ ap finite.len (sym (ap (λ (l : Link Message). l.owed) (link_at messages links q)) ∙ h q member) ∙ len-empty nat_cmp Message),
)

-- a node heard that a slot was taken: the link that stands for the peer is changed in its place
module _ (out now : Outbound) (owed : set.FinSet nat_cmp) (place to slot : ℕ) (found none acked : Outward ℕ) (is : out ≡ now) (at : place ≡ to) (peer : to < length (links_of now)) (finds : found ≡ slice_index_or out.links place none) (after : acked.link ≡ with_acknowledged found.link slot) where
  within : place < length (bare out.links)
  within = omega (arith, at, peer, ap (λ o. length (links_of o)) is, length-map (bare out.links) (link_through out.messages))

  in_place : acked.link ≡ with_acknowledged (link_in (bare out.links) place) slot
  in_place = after ∙ ap (λ (l : Link ℕ). with_acknowledged l slot) (link_here out now place to found none is at peer finds ∙ ap (link_in (bare out.links)) (sym at))

  changed : bare (slice_set out.links place acked) ≡ slice_set (bare out.links) place acked.link
  changed = map-set (λ (o : Outward ℕ). o.link) out.links place acked

  pub acknowledged_links : map (link_through out.messages) (bare (slice_set out.links place acked)) ≡ slice_set (links_of now) to (with_acknowledged (link_in (links_of now) to) slot)
  acknowledged_links =
      ap (map (link_through out.messages)) (changed ∙ ap (slice_set (bare out.links) place) in_place)
      ∙ acknowledged_through out.messages (bare out.links) place slot
      ∙ (λ i. slice_set (links_of (is i)) (at i) (with_acknowledged (link_in (links_of (is i)) (at i)) slot))

  module _ (kept : IsOutgoing (length out.messages) (bare out.links) owed) where
    keeps : (left : set.FinSet nat_cmp) → AreOwed (slice_set (bare out.links) place acked.link) left → IsOutgoing (length out.messages) (bare (slice_set out.links place acked)) left
    keeps left are = subst (λ ls. IsOutgoing (length out.messages) ls left) (sym changed) record {
      below = owes_acked (λ place. place < length out.messages) (bare out.links) place acked.link slot in_place kept.below;
      peers = subst (λ n. n ≤ 64) (sym (length-set (bare out.links) place acked.link)) kept.peers;
      owes = are;
    }

    pub fewer_owed : (left : set.FinSet nat_cmp) → left ≡ set.remove owed to → finite.len acked.link.owed ≡ 0 → IsOutgoing (length out.messages) (bare (slice_set out.links place acked)) left
    fewer_owed left e none_left = keeps left (subst (AreOwed _) (sym (e ∙ ap (set.remove owed) (sym at))) (owed_no_more (bare out.links) owed place slot acked.link kept.owes within in_place none_left))

    pub as_many_owed : (finite.len acked.link.owed ≡ 0 → ⊥) → IsOutgoing (length out.messages) (bare (slice_set out.links place acked)) owed
    as_many_owed some = keeps owed (still_owed (bare out.links) owed place slot acked.link kept.owes within in_place some)
