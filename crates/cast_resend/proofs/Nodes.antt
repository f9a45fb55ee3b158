-- What a node owes after a step: nothing more if it makes a frame, crashes, is told that a slot was taken, or takes a
-- message that it holds. After any step, what it owes in addition is after what it had given.
use Rattle.std.proofs.Common.{◌≡◌, ℕ, zero, suc, ◌+◌, ◌<◌, ◌≤◌, Bool, true, false, ◌&&◌, if◌then◌else◌, List, [], ◌∷◌, ◌++◌, length, Option, Some, None, refl, sym, ap, ◌∙◌, subst, arith}
use Rattle.std.specs.Prelude.{slice_set, slice_index_or, cond, is_some}
use Rattle.std.specs.Ordering.{nat_cmp, eq_by_cmp}
use Rattle.std.specs.Cmp.{nat_cmp_total}
use Rattle.std.specs.FinMap as finite
use Rattle.std.specs.FinMap.{get-remove, get-insert}
use Rattle.std.proofs.lemmas.Bool.Decides.{nat_tests}
use Rattle.cast_message.specs.declared.message.Frame.{Frame}
use Rattle.cast_message.specs.declared.message.FrameBody.{FrameBody}
use Rattle.cast_message.specs.declared.message.FrameBody.TheVariants.{Carry, Took}
use Rattle.cast_message.specs.declared.message.Item.{Item}
use Rattle.cast_message.specs.declared.message.Message.{Message}
use Rattle.cast_model.specs.Steps.{Ordered, Sent, Acknowledged, Arrived, Stopped}
use Rattle.cast_link.specs.Links.{Link, with_given}
use Rattle.cast_relay.specs.Pairs.{goes_on}
use Rattle.cast_node.specs.Giving.{given_on}
use Rattle.cast_node.specs.Kept.{Kept, link_to, holds}
use Rattle.cast_node.specs.Calls.{is_peer}
use Rattle.cast_node.specs.Turns.{kept_after, Told, told_more, taken_up, arrived_body, acknowledged, with_taken, may_arrive, unmoved}
use Rattle.cast_resend.specs.Keeps.{OwesLess, GivesPast}
use Rattle.cast_resend.proofs.Keeping.{less_self, less_past}

pub less_sent : (kept : Kept) (to slot : ℕ) → OwesLess kept (kept_after kept (Sent to slot))
less_sent kept to slot q = (omega arith, λ other owed. owed)

pub less_acknowledged : (kept : Kept) (to slot : ℕ) → OwesLess kept (kept_after kept (Acknowledged to slot))
less_acknowledged kept to slot q = (omega arith, λ other owed. owed)

pub less_stopped : (kept : Kept) → OwesLess kept (kept_after kept Stopped)
less_stopped kept q = (omega arith, λ other owed. owed)

-- the second of two that hold
pub second : (a b : Bool) → (a && b) ≡ true → b ≡ true
second true b e = e
second false b e = absurd cc

pub first_of_two : (a b : Bool) → (a && b) ≡ true → a ≡ true
first_of_two true b e = refl
first_of_two false b e = absurd cc

two : (a b : Bool) → a ≡ true → b ≡ true → (a && b) ≡ true
two a b e f = λ i. e i && f i

less_key : {X : Type 0} (b : Bool) (o : Option X) → is_some (cond b None o) ≡ true → is_some o ≡ true
less_key true o e = absurd cc
less_key false o e = e

-- a list in which one link owes less
link_less : (links : List (Link Message)) (from slot q other : ℕ) (default : Link Message) (link : Link Message) → link.owed ≡ finite.remove (slice_index_or links from default).owed slot
    → finite.contains_key (slice_index_or (slice_set links from link) q default).owed other ≡ true → finite.contains_key (slice_index_or links q default).owed other ≡ true
link_less [] from slot q other default link e h = h
link_less (x ∷ xs) zero slot zero other default link e h =
    less_key (eq_by_cmp nat_cmp other slot) (finite.get x.owed other) (sym (ap is_some (get-remove nat_cmp_total x.owed slot other)) ∙ ap (λ m. finite.contains_key m other) (sym e) ∙ h)
link_less (x ∷ xs) zero slot (suc q) other default link e h = h
link_less (x ∷ xs) (suc from) slot zero other default link e h = h
link_less (x ∷ xs) (suc from) slot (suc q) other default link e h = link_less xs from slot q other default link e h

link_given : (links : List (Link Message)) (from q : ℕ) (default link : Link Message) → link.given ≡ (slice_index_or links from default).given → (slice_index_or links q default).given ≤ (slice_index_or (slice_set links from link) q default).given
link_given [] from q default link e = omega arith
link_given (x ∷ xs) zero zero default link e = omega (arith, e)
link_given (x ∷ xs) zero (suc q) default link e = omega arith
link_given (x ∷ xs) (suc from) zero default link e = omega arith
link_given (x ∷ xs) (suc from) (suc q) default link e = link_given xs from q default link e

less_took : (kept : Kept) (from slot : ℕ) → OwesLess kept (arrived_body kept from (Took slot)).kept
less_took kept from slot = go (finite.get (link_to kept from).owed slot)
  where
    go : (o : Option Message) → OwesLess kept (acknowledged kept from slot o).kept
    go None q = less_self kept q
    go (Some message) q = (
      link_given kept.outgoing from q _ _ refl,
      λ other owed.
          let peer : is_peer kept q ≡ true = first_of_two (is_peer kept q) _ owed in
          two (is_peer kept q) _ peer (link_less kept.outgoing from slot q other _ _ refl (second (is_peer kept q) _ owed)),
    )

-- what a node keeps after it has taken a message, which it held before or not
abbrev taken_by : Kept → ℕ → ℕ → Message → Bool → Told
taken_by kept from slot message b =
    if b then told_more (with_taken kept from slot) message.sender message.number from
    else taken_up (with_taken kept from slot) message from

less_taken : (kept : Kept) (from slot : ℕ) (message : Message) (b : Bool) → b ≡ true → OwesLess kept (taken_by kept from slot message b).kept
less_taken kept from slot message true e = λ q. (omega arith, λ other owed. owed)
less_taken kept from slot message false e = absurd cc

-- a frame that no node could have made changes nothing
less_body : (kept : Kept) (from : ℕ) (body : FrameBody) (b : Bool) → OwesLess kept (arrived_body kept from body).kept → OwesLess kept (if b then arrived_body kept from body else unmoved kept).kept
less_body kept from body true less = less
less_body kept from body false less = less_self kept

pub less_arrived : (kept : Kept) (frame : Frame) → OwesLess kept (arrived_body kept frame.from frame.body).kept → OwesLess kept (kept_after kept (Arrived frame))
less_arrived kept frame less = less_body kept frame.from frame.body (may_arrive kept frame) less

pub less_acknowledgement : (kept : Kept) (frame : Frame) (slot : ℕ) → frame.body ≡ Took slot → OwesLess kept (kept_after kept (Arrived frame))
less_acknowledgement kept frame slot is = less_arrived kept frame (subst (λ b. OwesLess kept (arrived_body kept frame.from b).kept) (sym is) (less_took kept frame.from slot))

pub less_held : (kept : Kept) (frame : Frame) (slot : ℕ) (message : Message) → frame.body ≡ Carry slot message → holds kept message.sender message.number ≡ true → OwesLess kept (kept_after kept (Arrived frame))
less_held kept frame slot message is held =
    less_arrived kept frame (subst (λ b. OwesLess kept (arrived_body kept frame.from b).kept) (sym is) (less_taken kept frame.from slot message (holds kept message.sender message.number) held))

-- ---- a message is given on

less_given : (link : Link Message) (message : Message) (b : Bool) → (link.given ≤ (if b then with_given link message else link).given)
    × ((slot : ℕ) → slot < link.given → finite.contains_key (if b then with_given link message else link).owed slot ≡ true → finite.contains_key link.owed slot ≡ true)
less_given link message false = (omega arith, λ slot below owed. owed)
less_given link message true = (omega arith, λ slot below owed. by_test (eq_by_cmp nat_cmp slot link.given) (finite.get link.owed slot) (other slot link.given below) (sym (ap is_some (get-insert nat_cmp_total link.owed link.given message slot)) ∙ owed))
  where
    other : (slot given : ℕ) → slot < given → eq_by_cmp nat_cmp slot given ≡ false
    other slot given below = grind (arith, nat_tests)

    by_test : (b : Bool) (o : Option Message) → b ≡ false → is_some (cond b (Some message) o) ≡ true → is_some o ≡ true
    by_test false o e h = h
    by_test true o e h = absurd cc

given_past : (n me source sender : ℕ) (message : Message) (links : List (Link Message)) (q : ℕ) (default : Link Message) →
    ((slice_index_or links q default).given ≤ (slice_index_or (given_on n me source sender message links) q default).given)
    × ((slot : ℕ) → slot < (slice_index_or links q default).given → finite.contains_key (slice_index_or (given_on n me source sender message links) q default).owed slot ≡ true → finite.contains_key (slice_index_or links q default).owed slot ≡ true)
unfolding given_on
given_past n me source sender message [] q default = (omega arith, λ slot below owed. owed)
given_past n me source sender message (link ∷ links) zero default = less_given link message (goes_on me sender source n)
given_past n me source sender message (link ∷ links) (suc q) default = given_past (n + 1) me source sender message links q default

gives_taken : (kept : Kept) (message : Message) (source : ℕ) → GivesPast kept (taken_up kept message source).kept
gives_taken kept message source q =
    let past = given_past 0 kept.me source message.sender message kept.outgoing q (record { given = 0; owed = finite.empty }) in
    (past.0, λ slot below owed. two (is_peer kept q) _ (first_of_two (is_peer kept q) _ owed) (past.1 slot below (second (is_peer kept q) _ owed)))

pub gives_ordered : (kept : Kept) (item : Item) → GivesPast kept (kept_after kept (Ordered item))
gives_ordered kept item = gives_taken (record kept { stream = kept.stream ++ item ∷ [] }) (record { sender = kept.me; number = length kept.stream; item = item }) kept.me

gives_carried : (kept : Kept) (from slot : ℕ) (message : Message) (b : Bool) → GivesPast kept (taken_by kept from slot message b).kept
gives_carried kept from slot message true = λ q. (omega arith, λ other below owed. owed)
gives_carried kept from slot message false = gives_taken (with_taken kept from slot) message from

gives_body : (kept : Kept) (from : ℕ) (body : FrameBody) → GivesPast kept (arrived_body kept from body).kept
gives_body kept from (Carry slot message) = gives_carried kept from slot message (holds kept message.sender message.number)
gives_body kept from (Took slot) = less_past kept (arrived_body kept from (Took slot)).kept (less_took kept from slot)

gives_either : (kept : Kept) (from : ℕ) (body : FrameBody) (b : Bool) → GivesPast kept (if b then arrived_body kept from body else unmoved kept).kept
gives_either kept from body true = gives_body kept from body
gives_either kept from body false = less_past kept kept (less_self kept)

pub gives_arrived : (kept : Kept) (frame : Frame) → GivesPast kept (kept_after kept (Arrived frame))
gives_arrived kept frame = gives_either kept frame.from frame.body (may_arrive kept frame)
