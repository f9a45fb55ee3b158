-- A node's parts put together, and what its fields keep through its steps.
use Rattle.std.specs.Prelude.{◌≡◌, ℕ, ◌-◌, ◌<◌, ◌==◌, nat_lt, nat_le, Bool, true, false, not, ◌&&◌, if◌then◌else◌, List, length, slice_set, slice_index_or, None, ◌+◌, ◌≤◌, ◌||◌, [], ◌∷◌, ◌++◌, refl}
use Rattle.std.specs.List.{list_any}
use Rattle.std.specs.Ordering.{nat_cmp}
use Rattle.std.specs.FinSet as set
use Rattle.std.proofs.Common.{sym, ap, ◌∙◌, arith, subst, length-append}
use Rattle.std.proofs.lemmas.Bool.{and_parts, ltb-true}
use Rattle.std.proofs.lemmas.Bool.Decides.{nat_tests}
use Rattle.cast_message.proofs.Tests.{is_below, cmp_eq, turned_about}
use Rattle.cast_message.specs.declared.config.Config.{Config}
use Rattle.cast_message.specs.declared.message.Item.{Item}
use Rattle.cast_message.specs.declared.message.Message.{Message}
use Rattle.cast_message.specs.Items.{is_close, proposes_in}
use Rattle.cast_model.specs.Steps.{Ordered, Sent, Acknowledged}
use Rattle.cast_model.proofs.Accepted.{no_cause}
use Rattle.cast_model.proofs.Members.{here, there}
use Rattle.cast_link.specs.Links.{Link, with_acknowledged}
use Rattle.cast_node.specs.Kept.{Kept, holds}
use Rattle.cast_node.specs.Turns.{Told, told_more, given_from, taken_up, carried, with_taken, kept_causes, kept_fault}
use Rattle.cast_node.specs.Delivering.{Delivering, knowers_in, first_members, told_in, waiting_in}
use Rattle.cast_node.specs.Calls.{is_peer, may_carry}
use Rattle.std.specs.Cmp.{nat_cmp_total}
use Rattle.std.specs.FinSet.{contains-insert}
use Rattle.cast_message.proofs.Booleans.{or_comm, or_false}
use Rattle.std.proofs.lemmas.List.Folds.{list_any-append}
use Rattle.cast_message.specs.declared.message.Item.TheVariants.{Data, Propose, Close}
use Rattle.cast_model.specs.Refusals.{is_second_proposal}
use Rattle.cast_message.specs.Members.{remove-inserted}
use Rattle.cast_node.specs.Sound.{IsNode, Owes, with_proposal, without_proposal, IsWithin}
use Rattle.std.proofs.Math.ListN.{length-set}
use Rattle.cast_node.specs.Giving.{link_in}
use Rattle.cast_node.proofs.DeliveryTables.{told_keeps}
use Rattle.cast_node.proofs.Owing.{owes_acked}

-- ---- a step that isn't refused

above : (q n : ℕ) → nat_le n q ≡ false → q < n
above q n e = grind (arith, nat_tests)

pub peer_below : (kept : Kept) (q : ℕ) → is_peer kept q ≡ true → q < kept.config.nodes
peer_below kept q e = ltb-true q kept.config.nodes (and_parts (nat_lt q kept.config.nodes) (not (q == kept.me)) e).0

-- a message that a peer could carry
pub carry_fine : (kept : Kept) (slot sender number : ℕ) → may_carry kept slot sender number ≡ true → (sender < kept.config.nodes) × (number < kept.config.item_limit)
carry_fine kept slot sender number e =
    let p = and_parts (is_peer kept sender) _ e in
    (peer_below kept sender p.0, ltb-true number kept.config.item_limit (and_parts (nat_lt number kept.config.item_limit) _ p.1).0)

pub send_fine : (kept : Kept) (to slot : ℕ) → kept_fault kept (Sent to slot) ≡ None → (to < kept.config.nodes) × (kept.frames < 1048576)
unfolding kept_fault
send_fine kept to slot e =
    let causes = kept_causes kept (Sent to slot) in
    (is_below to kept.config.nodes (no_cause _ causes e here), above kept.frames 1048576 (no_cause _ causes e (there (there (there (there (there here)))))))

pub ack_fine : (kept : Kept) (to slot : ℕ) → kept_fault kept (Acknowledged to slot) ≡ None → kept.frames < 1048576
unfolding kept_fault
ack_fine kept to slot e = above kept.frames 1048576 (no_cause _ (kept_causes kept (Acknowledged to slot)) e (there (there (there (there here)))))

-- the causes of an order that don't hold
pub record OrderFine (kept : Kept) (item : Item) : Type 0 where
  pub unclosed : list_any is_close kept.stream ≡ false
  pub first : Rattle.cast_model.specs.Refusals.is_second_proposal kept.stream item ≡ false
  pub room : (not (is_close item) && nat_le (kept.config.item_limit - 1) (length kept.stream)) ≡ false

pub order_fine : (kept : Kept) (item : Item) → kept_fault kept (Ordered item) ≡ None → OrderFine kept item
unfolding kept_fault
order_fine kept item e =
    let causes = kept_causes kept (Ordered item) in
    record { unclosed = no_cause _ causes e (there here); first = no_cause _ causes e (there (there (there here))); room = no_cause _ causes e (there (there (there (there here)))) }

-- ---- whole nodes

abbrev pub whole : Config → ℕ → Bool → ℕ → List Item → List (Link Message) → List (set.FinSet nat_cmp) → Delivering → Kept
whole config me live frames stream outgoing incoming ds = record {
  config = config;
  me = me;
  live = live;
  frames = frames;
  stream = stream;
  outgoing = outgoing;
  incoming = incoming;
  deliveries = ds;
}

-- a message in a slot of a peer: what is kept then
module _ (config : Config) (me : ℕ) (live : Bool) (frames : ℕ) (stream : List Item) (outgoing : List (Link Message)) (incoming : List (set.FinSet nat_cmp)) (ds : Delivering) (now : Kept) (is : whole config me live frames stream outgoing incoming ds ≡ now)
    (from slot : ℕ) (message : Message) (incoming' : List (set.FinSet nat_cmp)) (taken : incoming' ≡ slice_set incoming from (set.insert (slice_index_or incoming from set.empty) slot)) (members : set.FinSet nat_cmp) where
  abbrev carried_by : Bool → Told
  carried_by held = if held then told_more (with_taken now from slot) message.sender message.number from else taken_up (with_taken now from slot) message from

  -- its pair is held
  pub held_again : (ds' : Delivering) → holds now message.sender message.number ≡ true → members ≡ set.insert (knowers_in ds.knowers message.sender message.number) from → ds' ≡ told_in config ds message.sender message.number members →
      whole config me live frames stream outgoing incoming' ds' ≡ (carried (with_taken now from slot) from message).kept
  held_again ds' h m d =
      (λ k. whole config me live frames stream outgoing (taken k) ((d ∙ ap (told_in config ds message.sender message.number) m) k))
      ∙ ap (λ kept. (told_more (with_taken kept from slot) message.sender message.number from).kept) is
      ∙ sym (ap (λ b. (carried_by b).kept) h)

  -- its pair is new
  pub fresh : (outgoing' : List (Link Message)) (ds' : Delivering) → holds now message.sender message.number ≡ false → members ≡ first_members me message.sender from →
      outgoing' ≡ given_from 0 me from message outgoing → ds' ≡ told_in config (waiting_in ds message) message.sender message.number members →
      whole config me live frames stream outgoing' incoming' ds' ≡ (carried (with_taken now from slot) from message).kept
  fresh outgoing' ds' h m o d =
      (λ k. whole config me live frames stream (o k) (taken k) ((d ∙ ap (told_in config (waiting_in ds message) message.sender message.number) m) k))
      ∙ ap (λ kept. (taken_up (with_taken kept from slot) message from).kept) is
      ∙ sym (ap (λ b. (carried_by b).kept) h)

any_end : (f : Item → Bool) (items : List Item) (item : Item) → list_any f (items ++ item ∷ []) ≡ (list_any f items || f item)
any_end f items item = list_any-append f items (item ∷ []) ∙ ap (λ b. list_any f items || b) (or_false (f item))

proposed_more : (proposed : set.FinSet nat_cmp) (items : List Item) (item : Item) (j : ℕ) → set.contains proposed j ≡ list_any (proposes_in j) items → set.contains (with_proposal proposed item) j ≡ list_any (proposes_in j) (items ++ item ∷ [])
proposed_more proposed items (Data payload) j h = h ∙ sym (or_false (list_any (proposes_in j) items)) ∙ sym (any_end (proposes_in j) items (Data payload))
proposed_more proposed items Close j h = h ∙ sym (or_false (list_any (proposes_in j) items)) ∙ sym (any_end (proposes_in j) items Close)
proposed_more proposed items (Propose k value) j h =
    contains-insert nat_cmp_total proposed k j
    ∙ (λ i. (cmp_eq j k ∙ turned_about j k) i || h i)
    ∙ or_comm (k == j) (list_any (proposes_in j) items)
    ∙ sym (any_end (proposes_in j) items (Propose k value))

-- a proposal that is noted and withdrawn
pub withdrawn : (proposed : set.FinSet nat_cmp) (items : List Item) (item : Item) → ((j : ℕ) → set.contains proposed j ≡ list_any (proposes_in j) items) → is_second_proposal items item ≡ false → without_proposal (with_proposal proposed item) item ≡ proposed
withdrawn proposed items (Data payload) h e = refl
withdrawn proposed items Close h e = refl
withdrawn proposed items (Propose j value) h e = remove-inserted proposed j (h j ∙ e)

module _ (config : Config) (me : ℕ) (stream : List Item) (closed : Bool) (proposed : set.FinSet nat_cmp) (outgoing outgoing' : List (Link Message)) (incoming incoming' : List (set.FinSet nat_cmp)) (ds ds' : Delivering) (h : IsNode config me stream closed proposed outgoing incoming ds) where
  -- nothing changes
  pub keeps_all : (stream' : List Item) (proposed' : set.FinSet nat_cmp) → stream' ≡ stream → proposed' ≡ proposed → outgoing' ≡ outgoing → incoming' ≡ incoming → ds' ≡ ds → IsNode config me stream' closed proposed' outgoing' incoming' ds'
  keeps_all stream' proposed' s p o i d =
      subst (λ x. IsNode config me x closed proposed' outgoing' incoming' ds') (sym s)
      (subst (λ x. IsNode config me stream closed x outgoing' incoming' ds') (sym p)
      (subst (λ x. IsNode config me stream closed proposed x incoming' ds') (sym o)
      (subst (λ x. IsNode config me stream closed proposed outgoing x ds') (sym i)
      (subst (λ x. IsNode config me stream closed proposed outgoing incoming x) (sym d) h))))

  -- lists of the same length
  pub keeps_rows : length outgoing' ≡ length outgoing → length incoming' ≡ length incoming → length ds'.hold_back ≡ length ds.hold_back → length ds'.knowers ≡ length ds.knowers → Owes config.nodes config.item_limit outgoing' → IsNode config me stream closed proposed outgoing' incoming' ds'
  keeps_rows o i c d owes = record {
    place = h.place;
    room = h.room;
    closes = h.closes;
    proposals = h.proposals;
    peers_out = o ∙ h.peers_out;
    peers_in = i ∙ h.peers_in;
    senders = c ∙ h.senders;
    rows = d ∙ h.rows;
    owes = owes;
  }

below : (n m : ℕ) (b : Bool) → (not b && nat_le (n - 1) m) ≡ false → b ≡ false → m + 2 ≤ n
below n m b e f = grind (arith, nat_tests)

-- an item of its own
pub keeps_own : (config : Config) (me : ℕ) (stream stream' : List Item) (closed closed' : Bool) (proposed proposed' : set.FinSet nat_cmp) (outgoing outgoing' : List (Link Message)) (incoming : List (set.FinSet nat_cmp)) (ds ds' : Delivering) (item : Item) →
    IsNode config me stream closed proposed outgoing incoming ds → list_any is_close stream ≡ false → (not (is_close item) && nat_le (config.item_limit - 1) (length stream)) ≡ false →
    stream' ≡ stream ++ item ∷ [] → closed' ≡ is_close item → proposed' ≡ with_proposal proposed item → length outgoing' ≡ length outgoing →
    length ds'.hold_back ≡ length ds.hold_back → length ds'.knowers ≡ length ds.knowers → Owes config.nodes config.item_limit outgoing' → IsNode config me stream' closed' proposed' outgoing' incoming ds'
keeps_own config me stream stream' closed closed' proposed proposed' outgoing outgoing' incoming ds ds' item h unclosed full s cl p o c d owes =
    let long : length stream' ≡ length stream + 1 = ap length s ∙ length-append stream (item ∷ []) in
    record {
      place = h.place;
      room = λ e. let l = below config.item_limit (length stream) (is_close item) full (sym cl ∙ e) in omega (arith, l, long);
      closes = cl ∙ sym (ap (list_any is_close) s ∙ any_end is_close stream item ∙ ap (λ b. b || is_close item) unclosed);
      proposals = λ j. ap (λ x. set.contains x j) p ∙ proposed_more proposed stream item j (h.proposals j) ∙ ap (list_any (proposes_in j)) (sym s);
      peers_out = o ∙ h.peers_out;
      peers_in = h.peers_in;
      senders = c ∙ h.senders;
      rows = d ∙ h.rows;
      owes = owes;
    }

module _ {config : Config} {me : ℕ} {stream : List Item} {closed : Bool} {proposed : set.FinSet nat_cmp} {outgoing : List (Link Message)} {incoming : List (set.FinSet nat_cmp)} {ds : Delivering}
    (node : IsNode config me stream closed proposed outgoing incoming ds) (from slot : ℕ) (message : Message) (outgoing' : List (Link Message)) (acked : outgoing' ≡ slice_set outgoing from (with_acknowledged (link_in outgoing from) slot)) where
  pub word_keeps : (members : set.FinSet nat_cmp) (ds' : Delivering) → ds' ≡ told_in config ds message.sender message.number members →
      IsNode config me stream closed proposed outgoing' incoming ds'
  word_keeps members ds' done =
      let told = told_keeps config ds message.sender message.number members in
      keeps_rows config me stream closed proposed outgoing outgoing' incoming incoming ds ds' node (ap length acked ∙ length-set outgoing from _) refl
      (ap (λ (d : Delivering). length d.hold_back) done ∙ told.0) (ap (λ (d : Delivering). length d.knowers) done ∙ told.1)
      (subst (Owes config.nodes config.item_limit) (sym acked) (owes_acked (IsWithin config.nodes config.item_limit) outgoing from _ slot refl node.owes))
