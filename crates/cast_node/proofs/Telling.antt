-- What stands once a step was taken in: before it delivers, and once what has its turn was delivered and decided.
use Rattle.std.proofs.Common.{◌≡◌, ◌≢◌, ℕ, ◌+◌, ◌-◌, ◌<◌, refl, sym, ◌∙◌, ap, subst, Bool, true, false, not, ◌&&◌, ◌||◌, cond, [], ◌∷◌, ◌++◌, length, map, List, Some, inl, inr, arith}
use Rattle.std.specs.Prelude.{◌==◌, nat_lt, slice_index_or, slice_set}
use Rattle.std.specs.List.{filter}
use Rattle.std.specs.Ordering.{nat_cmp, eq_by_cmp}
use Rattle.std.specs.Cmp.{nat_cmp_total}
use Rattle.std.specs.FinSet as set
use Rattle.std.specs.FinSet.{contains-insert, contains-empty}
use Rattle.std.specs.FinMap as finite
use Rattle.std.proofs.lemmas.Bool.Decides.{nat_tests, eqb_tells}
use Rattle.std.proofs.lemmas.List.{append-nil, map-append}
use Rattle.std.proofs.lemmas.Bool.{eq-eqb, ne_eqb, cases_eq}
use Rattle.cast_message.proofs.Booleans.{and_false, or_false}
use Rattle.cast_message.specs.declared.config.Config.{Config}
use Rattle.cast_message.specs.declared.message.Item.{Item}
use Rattle.cast_message.specs.declared.message.Message.{Message}
use Rattle.cast_model.specs.History.{has_pair}
use Rattle.cast_model.specs.Headline.{is_from}
use Rattle.cast_model.specs.Steps.{Step, Steps, own_items, frame_count, Held, held}
use Rattle.cast_model.specs.OwnSteps.{own_live, own_copies, own_given, own_acked, own_knows, own_is_ready, own_taken, own_concerned, own_log, IsOwnAccepted, own_known_enough, own_next, own_turns, own_deliveries, own_outcome, own_decisions_of, messages_from, nothing}
use Rattle.cast_model.proofs.OwnGrowth.{brought, held-more, own_given-more}
use Rattle.cast_link.specs.Links.{Link, with_given}
use Rattle.cast_relay.specs.Pairs.{goes_on}
use Rattle.cast_fifo.specs.HeldBack.{HeldBack, held_of, nothing_held, with_item, known_items, known_after}
use Rattle.cast_fifo.specs.HoldsBack.{HoldsBack}
use Rattle.cast_agree.specs.Proposals.{counted_of}
use Rattle.cast_node.specs.Kept.{Kept, link_to, knowers_of}
use Rattle.cast_node.specs.Turns.{spread, given_from, Told, told, unmoved}
use Rattle.cast_node.specs.Delivering.{noted, first_members, knowers_in, is_enough, let_go, news_in, news_outcome}
use Rattle.cast_model.specs.Shown.{item_of}
use Rattle.cast_node.specs.Stands.{item_at, newest_first, StandsOut, Stands}
use Rattle.cast_node.proofs.Places.{length-slice_set, at_set}
use Rattle.cast_node.proofs.Owing.{length_given}
use Rattle.cast_node.proofs.Links.{given_from-at, goes, out_same, out_given}
use Rattle.cast_node.proofs.HolderSets.{KnowsAll, ready_alike, same_pair, pair_more, pair_none, knows_pair, enough-is, knowers_in-set}
use Rattle.cast_node.proofs.Back.{back_same, back_more, item_other, next_is, turns_are, told_turn, told_still}
use Rattle.std.proofs.lemmas.List.Elements.{filter-append}
use Rattle.cast_model.proofs.Members.{Member}
use Rattle.cast_model.proofs.Fronts.{items_numbered, filter_all, filter_none}
use Rattle.cast_model.proofs.OwnFronts.{messages_sender, no_messages}
use Rattle.cast_fifo.proofs.Stands.{Turned}
use Rattle.cast_agree.specs.Journal.{counted_all, decisions_all}
use Rattle.cast_agree.specs.Counted.{Counted}
use Rattle.cast_node.proofs.Counting.{newest_first-append, counted_newest, decisions_are}

-- The node's own numbers and what it took stand for the steps.
pub record OwnStands (config : Config) (me : ℕ) (steps : Steps) (seen : Config) (number : ℕ) (is_live : Bool) (made : ℕ) (items : List Item) (incoming : List (set.FinSet nat_cmp)) : Type 0 where
  pub accepted : IsOwnAccepted config me steps
  pub place : me < config.nodes
  pub same_config : seen ≡ config
  pub same_me : number ≡ me
  pub live : is_live ≡ own_live steps
  pub frames : made ≡ frame_count steps
  pub stream : items ≡ own_items steps
  pub peers_in : length incoming ≡ config.nodes
  pub taken : (r slot : ℕ) → r < config.nodes → set.contains (slice_index_or incoming r set.empty) slot ≡ own_taken steps r slot

abbrev pub OwnPart : Config → ℕ → Steps → Kept → Type 0
OwnPart config me steps kept = OwnStands config me steps kept.config kept.me kept.live kept.frames kept.stream kept.incoming

-- The node's own part stands for one step more; what is held back, known, delivered and counted stands for the steps before.
pub record Base (config : Config) (me : ℕ) (step : Step) (steps : Steps) (kept : Kept) : Type 0 where
  pub own : OwnPart config me (step ∷ steps) kept
  pub before : IsOwnAccepted config me steps
  pub peers_out : length kept.outgoing ≡ config.nodes
  pub senders_back : length kept.deliveries.hold_back ≡ config.nodes
  pub holds_back : (s : ℕ) → s < config.nodes → HoldsBack (item_at (held me steps) s) (own_is_ready config me steps s) (held_of kept.deliveries.hold_back s)
  pub senders_known : length kept.deliveries.knowers ≡ config.nodes
  pub knows : KnowsAll config me steps kept.deliveries.knowers
  pub senders_delivered : length kept.deliveries.delivered ≡ config.nodes
  pub delivers : (x : ℕ) → x < config.nodes → slice_index_or kept.deliveries.delivered x [] ≡ map item_of (filter (is_from x) (own_log config me steps))
  pub agrees : kept.deliveries.agree ≡ counted_of (config.nodes - config.faults) (newest_first [] (own_log config me steps))

-- a node at which these are known to hold a pair
abbrev pub noted_at : Kept → ℕ → ℕ → set.FinSet nat_cmp → Kept
noted_at kept s i members = record kept { deliveries = noted kept.deliveries s i members }

-- a node that stood for the steps before, and whose own part stands for one more
pub base_of : (config : Config) (me : ℕ) (step : Step) (steps : Steps) (kept : Kept) → Stands config me steps kept → IsOwnAccepted config me (step ∷ steps) → own_live (step ∷ steps) ≡ own_live steps → frame_count (step ∷ steps) ≡ frame_count steps →
    (stream : List Item) (outgoing : List (Link Message)) (incoming : List (set.FinSet nat_cmp)) → stream ≡ own_items (step ∷ steps) →
    length outgoing ≡ config.nodes → length incoming ≡ config.nodes → ((r slot : ℕ) → r < config.nodes → set.contains (slice_index_or incoming r set.empty) slot ≡ own_taken (step ∷ steps) r slot) →
    Base config me step steps (record kept { stream = stream; outgoing = outgoing; incoming = incoming })
base_of config me step steps kept st accepted live frames stream outgoing incoming stream_is peers_out peers_in taken = record {
  own = record {
    accepted = accepted;
    place = st.place;
    same_config = st.same_config;
    same_me = st.same_me;
    live = st.live ∙ sym live;
    frames = st.frames ∙ sym frames;
    stream = stream_is;
    peers_in = peers_in;
    taken = taken;
  };
  before = st.accepted;
  peers_out = peers_out;
  senders_back = st.senders_back;
  holds_back = st.holds_back;
  senders_known = st.senders_known;
  knows = st.knows;
  senders_delivered = st.senders_delivered;
  delivers = st.delivers;
  agrees = st.agrees;
}

-- What stands once a step was taken in that tells of a pair, and before what has its turn is delivered: all but the marks
-- of the pair's sender, what was delivered, and what was counted.
pub record Heard (config : Config) (me : ℕ) (step : Step) (steps : Steps) (kept : Kept) (s i : ℕ) : Type 0 where
  pub own : OwnPart config me (step ∷ steps) kept
  pub peers_out : length kept.outgoing ≡ config.nodes
  pub out : (q : ℕ) → q < config.nodes → q ≢ me → StandsOut me (step ∷ steps) q (link_to kept q)
  pub senders_back : length kept.deliveries.hold_back ≡ config.nodes
  pub back_here : HoldsBack (item_at (held me (step ∷ steps)) s) (own_is_ready config me steps s) (held_of kept.deliveries.hold_back s)
  pub back_other : (x : ℕ) → x < config.nodes → x ≢ s → HoldsBack (item_at (held me (step ∷ steps)) x) (own_is_ready config me (step ∷ steps) x) (held_of kept.deliveries.hold_back x)
  pub senders_known : length kept.deliveries.knowers ≡ config.nodes
  pub knows : KnowsAll config me (step ∷ steps) kept.deliveries.knowers
  pub senders_delivered : length kept.deliveries.delivered ≡ config.nodes
  pub delivers : (x : ℕ) → x < config.nodes → slice_index_or kept.deliveries.delivered x [] ≡ map item_of (filter (is_from x) (own_log config me steps))
  pub agrees : kept.deliveries.agree ≡ counted_of (config.nodes - config.faults) (newest_first [] (own_log config me steps))
  pub sender : s < config.nodes
  pub pair : has_pair (own_copies me (step ∷ steps)) s i ≡ true
  pub others : (k : ℕ) → k ≢ i → own_is_ready config me (step ∷ steps) s k ≡ own_is_ready config me steps s k
  pub concerned : own_concerned me steps step ≡ Some s

other_pair : (a b s i : ℕ) → s ≢ a → same_pair a b s i ≡ false
other_pair a b s i e = ap (λ c. c && i == b) (ne_eqb s a e)

other_item : (a b i : ℕ) → i ≢ b → same_pair a b a i ≡ false
other_item a b i e = ap (λ c. a == a && c) (ne_eqb i b e) ∙ and_false (a == a)

module _ (config : Config) (me : ℕ) (step : Step) (steps : Steps) (kept : Kept) (b : Base config me step steps kept) where
  -- more is heard of a pair that is held
  module _ (s i r : ℕ) (nothing_new : brought me steps step ≡ []) (sender : s < config.nodes) (from : r < config.nodes)
      (pair : has_pair (own_copies me steps) s i ≡ true)
      (here : (x : ℕ) → own_knows me (step ∷ steps) s i x ≡ (own_knows me steps s i x || (r == x)))
      (other : (x k : ℕ) → same_pair s i x k ≡ false → (y : ℕ) → own_knows me (step ∷ steps) x k y ≡ own_knows me steps x k y)
      (concerned : own_concerned me steps step ≡ Some s)
      (out : (q : ℕ) → q < config.nodes → q ≢ me → StandsOut me (step ∷ steps) q (link_to kept q)) where
    items_same : (x k : ℕ) → item_at (held me (step ∷ steps)) x k ≡ item_at (held me steps) x k
    items_same x k = ap (λ hs. item_at hs x k) (held-more me step steps ∙ ap (λ hs. held me steps ++ hs) nothing_new ∙ append-nil (held me steps))

    ready_same : (x k : ℕ) → same_pair s i x k ≡ false → own_is_ready config me (step ∷ steps) x k ≡ own_is_ready config me steps x k
    ready_same x k e = ready_alike config me step steps x k (pair_none me step steps nothing_new x k) (other x k e)

    members_here : (x : ℕ) → set.contains (set.insert (knowers_of kept s i) r) x ≡ (has_pair (own_copies me (step ∷ steps)) s i && (nat_lt x config.nodes && own_knows me (step ∷ steps) s i x))
    members_here x =
        contains-insert nat_cmp_total (knowers_of kept s i) r x
        ∙ ap (λ c. eq_by_cmp nat_cmp x r || c) (b.knows s i x sender ∙ (λ k. pair k && (nat_lt x config.nodes && own_knows me steps s i x)))
        ∙ joined (own_knows me steps s i x)
        ∙ sym (λ k. (pair_none me step steps nothing_new s i ∙ pair) k && (nat_lt x config.nodes && here x k))
      where
        joined : (c : Bool) → (eq_by_cmp nat_cmp x r || (true && (nat_lt x config.nodes && c))) ≡ (true && (nat_lt x config.nodes && (c || (r == x))))
        joined c = elim (eqb_tells x r) [
          | inl e ↦ (let l : x < config.nodes = omega (arith, from, e.1) in grind (arith, nat_tests))
          | inr e ↦ grind (arith, nat_tests)
        ]

    pub known_heard : Heard config me step steps (noted_at kept s i (set.insert (knowers_of kept s i) r)) s i
    known_heard = record {
      own = b.own;
      peers_out = b.peers_out;
      out = out;
      senders_back = b.senders_back;
      back_here = back_items s (held_of kept.deliveries.hold_back s) (b.holds_back s sender);
      back_other = λ x l e. back_same config me step steps x (held_of kept.deliveries.hold_back x) (items_same x) (λ k. ready_same x k (other_pair s i x k e)) (b.holds_back x l);
      senders_known = length-slice_set kept.deliveries.knowers s _ ∙ b.senders_known;
      knows = knows_pair config me step steps kept.deliveries.knowers b.knows s i (set.insert (knowers_of kept s i) r) (subst (λ n. s < n) (sym b.senders_known) sender) b.senders_known
          (λ x k e. (pair_none me step steps nothing_new x k, other x k e)) members_here;
      senders_delivered = b.senders_delivered;
      delivers = b.delivers;
      agrees = b.agrees;
      sender = sender;
      pair = pair_none me step steps nothing_new s i ∙ pair;
      others = λ k e. ready_same s k (other_item s i k e);
      concerned = concerned;
    }
      where
        back_items : (x : ℕ) (back : HeldBack) → HoldsBack (item_at (held me steps) x) (own_is_ready config me steps x) back → HoldsBack (item_at (held me (step ∷ steps)) x) (own_is_ready config me steps x) back
        back_items x back h = subst (λ hs. HoldsBack (item_at hs x) (own_is_ready config me steps x) back) (sym (held-more me step steps ∙ ap (λ hs. held me steps ++ hs) nothing_new ∙ append-nil (held me steps))) h

  -- a message that wasn't held
  module _ (h : Held) (new : brought me steps step ≡ h ∷ []) (sender : h.message.sender < config.nodes) (from : h.source < config.nodes)
      (fresh : has_pair (own_copies me steps) h.message.sender h.message.number ≡ false)
      (here : (x : ℕ) → own_knows me (step ∷ steps) h.message.sender h.message.number x ≡ ((x == me || x == h.message.sender) || (h.source == x)))
      (other : (x k : ℕ) → same_pair h.message.sender h.message.number x k ≡ false → (y : ℕ) → own_knows me (step ∷ steps) x k y ≡ own_knows me steps x k y)
      (concerned : own_concerned me steps step ≡ Some h.message.sender)
      (still : (q slot : ℕ) → own_acked (step ∷ steps) q slot ≡ own_acked steps q slot)
      (out : (q : ℕ) → q < config.nodes → q ≢ me → StandsOut me steps q (link_to kept q)) where
    held_is : held me (step ∷ steps) ≡ held me steps ++ h ∷ []
    held_is = held-more me step steps ∙ ap (λ hs. held me steps ++ hs) new

    pair_other : (x k : ℕ) → same_pair h.message.sender h.message.number x k ≡ false → has_pair (own_copies me (step ∷ steps)) x k ≡ has_pair (own_copies me steps) x k
    pair_other x k e = pair_more me step steps h new x k ∙ ap (λ c. has_pair (own_copies me steps) x k || c) e ∙ or_false (has_pair (own_copies me steps) x k)

    pair_here : has_pair (own_copies me (step ∷ steps)) h.message.sender h.message.number ≡ true
    pair_here = pair_more me step steps h new h.message.sender h.message.number ∙ (λ k. fresh k || (eq-eqb h.message.sender h.message.sender refl k && eq-eqb h.message.number h.message.number refl k))

    ready_other : (x k : ℕ) → same_pair h.message.sender h.message.number x k ≡ false → own_is_ready config me (step ∷ steps) x k ≡ own_is_ready config me steps x k
    ready_other x k e = ready_alike config me step steps x k (pair_other x k e) (other x k e)

    abbrev members : set.FinSet nat_cmp
    members = first_members kept.me h.message.sender h.source

    members_new : (x : ℕ) → set.contains members x ≡ (has_pair (own_copies me (step ∷ steps)) h.message.sender h.message.number && (nat_lt x config.nodes && own_knows me (step ∷ steps) h.message.sender h.message.number x))
    members_new x =
        contains-insert nat_cmp_total (set.insert (set.insert set.empty kept.me) h.message.sender) h.source x
        ∙ ap (λ c. eq_by_cmp nat_cmp x h.source || c) (contains-insert nat_cmp_total (set.insert set.empty kept.me) h.message.sender x)
        ∙ ap (λ c. eq_by_cmp nat_cmp x h.source || (eq_by_cmp nat_cmp x h.message.sender || c)) (contains-insert nat_cmp_total set.empty kept.me x ∙ (λ k. eq_by_cmp nat_cmp x (b.own.same_me k) || contains-empty nat_cmp x k))
        ∙ joined h.source h.message.sender from sender
        ∙ sym (λ k. pair_here k && (nat_lt x config.nodes && here x k))
      where
        joined : (u v : ℕ) → u < config.nodes → v < config.nodes → (eq_by_cmp nat_cmp x u || (eq_by_cmp nat_cmp x v || (eq_by_cmp nat_cmp x me || false))) ≡ (true && (nat_lt x config.nodes && ((x == me || x == v) || (u == x))))
        joined u v lu lv = elim (eqb_tells x u) [
          | inl e ↦ (let l : x < config.nodes = omega (arith, lu, e.1) in grind (arith, nat_tests))
          | inr e ↦ (elim (eqb_tells x v) [
            | inl f ↦ (let l : x < config.nodes = omega (arith, lv, f.1) in grind (arith, nat_tests))
            | inr f ↦ (elim (eqb_tells x me) [
              | inl g ↦ (let l : x < config.nodes = (let p = b.own.place in omega (arith, p, g.1)) in grind (arith, nat_tests))
              | inr g ↦ grind (arith, nat_tests)
            ])
          ])
        ]

    out_after : (q : ℕ) → q < config.nodes → q ≢ me → StandsOut me (step ∷ steps) q (slice_index_or (given_from 0 kept.me h.source h.message kept.outgoing) q (record { given = 0; owed = finite.empty }))
    out_after q l apart =
        subst (StandsOut me (step ∷ steps) q) (sym (given_from-at 0 kept.me h.source h.message kept.outgoing q _ (subst (λ n. q < n) (sym b.peers_out) l)))
        (subst (λ k. StandsOut me (step ∷ steps) q (goes kept.me h.source h.message k (link_to kept q))) (let z : q ≡ 0 + q = omega arith in z)
        (by_test (goes_on kept.me h.message.sender h.source q) refl))
      where
        given_is : own_given me (step ∷ steps) q ≡ own_given me steps q ++ cond (not (h.message.sender == q) && not (h.source == q)) (h ∷ []) []
        given_is = own_given-more me step steps q ∙ ap (λ hs. own_given me steps q ++ filter (λ (x : Held). not (x.message.sender == q) && not (x.source == q)) hs) new

        same_test : (u v w : ℕ) → w ≢ q → (not (q == w) && not (q == u) && not (q == v)) ≡ (not (u == q) && not (v == q))
        same_test u v w e = grind (arith, nat_tests)

        test_is : goes_on kept.me h.message.sender h.source q ≡ (not (h.message.sender == q) && not (h.source == q))
        test_is = same_test h.message.sender h.source kept.me (λ z. apart (sym z ∙ b.own.same_me))

        by_test : (c : Bool) → goes_on kept.me h.message.sender h.source q ≡ c → StandsOut me (step ∷ steps) q (cond c (with_given (link_to kept q) h.message) (link_to kept q))
        by_test true e = out_given me steps step q config b.before (link_to kept q) h (given_is ∙ ap (λ c. own_given me steps q ++ cond c (h ∷ []) []) (sym test_is ∙ e)) (still q) (out q l apart)
        by_test false e = out_same me steps step q (link_to kept q) (given_is ∙ ap (λ c. own_given me steps q ++ cond c (h ∷ []) []) (sym test_is ∙ e) ∙ append-nil (own_given me steps q)) (still q) (out q l apart)

    pub new_heard : Heard config me step steps (noted_at (spread kept h.message h.source) h.message.sender h.message.number members) h.message.sender h.message.number
    new_heard = record {
      own = b.own;
      peers_out = length_given 0 kept.me h.source h.message.sender h.message kept.outgoing ∙ b.peers_out;
      out = out_after;
      senders_back = length-slice_set kept.deliveries.hold_back h.message.sender _ ∙ b.senders_back;
      back_here = subst (HoldsBack (item_at (held me (step ∷ steps)) h.message.sender) (own_is_ready config me steps h.message.sender)) (sym (back_at h.message.sender ∙ ap (λ c. cond c (with_item (held_of kept.deliveries.hold_back h.message.sender) h.message.number h.message.item) (held_of kept.deliveries.hold_back h.message.sender)) (eq-eqb h.message.sender h.message.sender refl)))
          (subst (λ hs. HoldsBack (item_at hs h.message.sender) (own_is_ready config me steps h.message.sender) (with_item (held_of kept.deliveries.hold_back h.message.sender) h.message.number h.message.item)) (sym held_is) (back_more config me steps h (held_of kept.deliveries.hold_back h.message.sender) (b.holds_back h.message.sender sender)));
      back_other = λ x l e. subst (HoldsBack (item_at (held me (step ∷ steps)) x) (own_is_ready config me (step ∷ steps) x)) (sym (back_at x ∙ ap (λ c. cond c (with_item (held_of kept.deliveries.hold_back h.message.sender) h.message.number h.message.item) (held_of kept.deliveries.hold_back x)) (ne_eqb x h.message.sender e)))
          (back_same config me step steps x (held_of kept.deliveries.hold_back x) (λ k. ap (λ hs. item_at hs x k) held_is ∙ item_other (held me steps) h x k e) (λ k. ready_other x k (other_pair h.message.sender h.message.number x k e)) (b.holds_back x l));
      senders_known = length-slice_set kept.deliveries.knowers h.message.sender _ ∙ b.senders_known;
      knows = knows_pair config me step steps kept.deliveries.knowers b.knows h.message.sender h.message.number members (subst (λ n. h.message.sender < n) (sym b.senders_known) sender) b.senders_known
          (λ x k e. (pair_other x k e, other x k e)) members_new;
      senders_delivered = b.senders_delivered;
      delivers = b.delivers;
      agrees = b.agrees;
      sender = sender;
      pair = pair_here;
      others = λ k e. ready_other h.message.sender k (other_item h.message.sender h.message.number k e);
      concerned = concerned;
    }
      where
        back_at : (x : ℕ) → held_of (slice_set kept.deliveries.hold_back h.message.sender (with_item (held_of kept.deliveries.hold_back h.message.sender) h.message.number h.message.item)) x ≡ cond (x == h.message.sender) (with_item (held_of kept.deliveries.hold_back h.message.sender) h.message.number h.message.item) (held_of kept.deliveries.hold_back x)
        back_at x = at_set kept.deliveries.hold_back h.message.sender x _ nothing_held (subst (λ n. h.message.sender < n) (sym b.senders_back) sender)

-- what has its turn by a mark of the pair is delivered
abbrev released : Kept → ℕ → ℕ → Told
released kept s i = record {
  outcome = news_outcome kept.deliveries.agree (news_in kept.deliveries s i);
  kept = record kept { deliveries = let_go kept.deliveries s i };
}

module _ (config : Config) (me : ℕ) (step : Step) (steps : Steps) where
  -- what the log gains of each sender
  log_here : (s : ℕ) (news : List Message) → ((m : Message) → Member m news → m.sender ≡ s) → (x : ℕ) → (row : List Item) → row ≡ map item_of (filter (is_from x) (own_log config me steps)) →
      cond (x == s) (row ++ map item_of news) row ≡ map item_of (filter (is_from x) (own_log config me steps ++ news))
  log_here s news from x row is =
      by_sender
      ∙ ap (λ more. more ++ map item_of (filter (is_from x) news)) is
      ∙ sym (ap (map item_of) (filter-append (is_from x) (own_log config me steps) news) ∙ map-append item_of (filter (is_from x) (own_log config me steps)) (filter (is_from x) news))
    where
      by_sender : cond (x == s) (row ++ map item_of news) row ≡ row ++ map item_of (filter (is_from x) news)
      by_sender = elim (cases_eq x s) [
        | inl e ↦ ap (λ b. cond b (row ++ map item_of news) row) (eq-eqb x s e) ∙ ap (λ ms. row ++ map item_of ms) (sym (filter_all (is_from x) news (λ m n. eq-eqb m.sender x (from m n ∙ sym e))))
        | inr e ↦ ap (λ b. cond b (row ++ map item_of news) row) (ne_eqb x s e) ∙ sym (append-nil row) ∙ ap (λ ms. row ++ map item_of ms) (sym (filter_none (is_from x) news (λ m n. ne_eqb m.sender x (λ z. e (sym z ∙ from m n)))))
      ]

  pub record ToldRight (t : Told) : Type 0 where
    pub stands : Stands config me (step ∷ steps) t.kept
    pub outcome : t.outcome ≡ own_outcome config me steps step

  module _ (kept : Kept) (s i : ℕ) (h : Heard config me step steps kept s i) where
    deliveries_are : own_deliveries config me steps step ≡ messages_from (held me (step ∷ steps)) s (own_next config me steps s) (own_next config me (step ∷ steps) s)
    unfolding own_deliveries
    deliveries_are = ap (own_turns config me steps step) h.concerned

    next_before : (held_of kept.deliveries.hold_back s).next ≡ own_next config me steps s
    next_before = next_is config me steps s (item_at (held me (step ∷ steps)) s) (held_of kept.deliveries.hold_back s) h.back_here

    from_sender : (m : Message) → Member m (own_deliveries config me steps step) → m.sender ≡ s
    from_sender m n = messages_sender (held me (step ∷ steps)) s (own_next config me steps s) (own_next config me (step ∷ steps) s) m (subst (λ all. Member m all) deliveries_are n)

    -- whatever is held back, delivered and counted, the rest stands
    concluded : (hold_back : List HeldBack) (delivered : List (List Item)) (agree : Counted) → length hold_back ≡ config.nodes →
        ((x : ℕ) → x < config.nodes → HoldsBack (item_at (held me (step ∷ steps)) x) (own_is_ready config me (step ∷ steps) x) (held_of hold_back x)) →
        length delivered ≡ config.nodes → ((x : ℕ) → x < config.nodes → slice_index_or delivered x [] ≡ map item_of (filter (is_from x) (own_log config me (step ∷ steps)))) →
        agree ≡ counted_of (config.nodes - config.faults) (newest_first [] (own_log config me (step ∷ steps))) →
        Stands config me (step ∷ steps) (record kept { deliveries = record kept.deliveries { hold_back = hold_back; delivered = delivered; agree = agree } })
    concluded hold_back delivered agree senders_back holds_back senders_delivered delivers agrees = record {
      accepted = h.own.accepted;
      place = h.own.place;
      same_config = h.own.same_config;
      same_me = h.own.same_me;
      live = h.own.live;
      frames = h.own.frames;
      stream = h.own.stream;
      peers_out = h.peers_out;
      out = h.out;
      peers_in = h.own.peers_in;
      taken = h.own.taken;
      senders_back = senders_back;
      holds_back = holds_back;
      senders_known = h.senders_known;
      knows = h.knows;
      senders_delivered = senders_delivered;
      delivers = delivers;
      agrees = agrees;
    }

    turned : own_known_enough config.mode config me (step ∷ steps) s i ≡ true → ToldRight (released kept s i)
    unfolding own_log own_outcome
    turned enough = record {
      stands = concluded (slice_set kept.deliveries.hold_back s (known_after (held_of kept.deliveries.hold_back s) i)) (slice_set kept.deliveries.delivered s (slice_index_or kept.deliveries.delivered s [] ++ known_items (held_of kept.deliveries.hold_back s) i)) (counted_all kept.deliveries.agree (news_in kept.deliveries s i))
          (length-slice_set kept.deliveries.hold_back s (known_after (held_of kept.deliveries.hold_back s) i) ∙ h.senders_back)
          (λ x l. subst (HoldsBack (item_at (held me (step ∷ steps)) x) (own_is_ready config me (step ∷ steps) x)) (sym (at_set kept.deliveries.hold_back s x (known_after (held_of kept.deliveries.hold_back s) i) nothing_held (subst (λ n. s < n) (sym h.senders_back) h.sender))) (back x l))
          (length-slice_set kept.deliveries.delivered s _ ∙ h.senders_delivered)
          (λ x l.
          at_set kept.deliveries.delivered s x (slice_index_or kept.deliveries.delivered s [] ++ known_items (held_of kept.deliveries.hold_back s) i) [] (subst (λ n. s < n) (sym h.senders_delivered) h.sender)
          ∙ row x
          ∙ ap (λ ms. cond (x == s) (slice_index_or kept.deliveries.delivered x [] ++ map item_of ms) (slice_index_or kept.deliveries.delivered x [])) news_are
          ∙ log_here s (own_deliveries config me steps step) from_sender x (slice_index_or kept.deliveries.delivered x []) (h.delivers x l))
          ((λ k. counted_all (h.agrees k) (news_are k))
          ∙ sym (counted_newest (config.nodes - config.faults) (newest_first [] (own_log config me steps)) (own_deliveries config me steps step))
          ∙ ap (counted_of (config.nodes - config.faults)) (sym (newest_first-append [] (own_log config me steps) (own_deliveries config me steps step))));
      outcome = λ k. record { deliveries = news_are k; decisions = ((λ j. decisions_all (h.agrees j) (news_are j)) ∙ decisions_are config (own_log config me steps) (own_deliveries config me steps step)) k };
    }
      where
        t : Turned (item_at (held me (step ∷ steps)) s) (own_is_ready config me (step ∷ steps) s) (held_of kept.deliveries.hold_back s).next (known_items (held_of kept.deliveries.hold_back s) i) (known_after (held_of kept.deliveries.hold_back s) i)
        t = told_turn config me step steps h.own.accepted s i (held_of kept.deliveries.hold_back s) h.pair h.others h.back_here enough

        news_are : news_in kept.deliveries s i ≡ own_deliveries config me steps step
        news_are =
            turns_are config me (step ∷ steps) s (held_of kept.deliveries.hold_back s).next (known_items (held_of kept.deliveries.hold_back s) i) (known_after (held_of kept.deliveries.hold_back s) i) t
            ∙ ap (λ n. messages_from (held me (step ∷ steps)) s n (own_next config me (step ∷ steps) s)) next_before
            ∙ sym deliveries_are

        back : (x : ℕ) → x < config.nodes → HoldsBack (item_at (held me (step ∷ steps)) x) (own_is_ready config me (step ∷ steps) x) (cond (x == s) (known_after (held_of kept.deliveries.hold_back s) i) (held_of kept.deliveries.hold_back x))
        back x l = elim (cases_eq x s) [
          | inl e ↦ subst (λ b. HoldsBack (item_at (held me (step ∷ steps)) x) (own_is_ready config me (step ∷ steps) x) (cond b (known_after (held_of kept.deliveries.hold_back s) i) (held_of kept.deliveries.hold_back x))) (sym (eq-eqb x s e)) (subst (λ y. HoldsBack (item_at (held me (step ∷ steps)) y) (own_is_ready config me (step ∷ steps) y) (known_after (held_of kept.deliveries.hold_back s) i)) (sym e) t.stands)
          | inr e ↦ subst (λ b. HoldsBack (item_at (held me (step ∷ steps)) x) (own_is_ready config me (step ∷ steps) x) (cond b (known_after (held_of kept.deliveries.hold_back s) i) (held_of kept.deliveries.hold_back x))) (sym (ne_eqb x s e)) (h.back_other x l e)
        ]

        row : (x : ℕ) → cond (x == s) (slice_index_or kept.deliveries.delivered s [] ++ known_items (held_of kept.deliveries.hold_back s) i) (slice_index_or kept.deliveries.delivered x [])
            ≡ cond (x == s) (slice_index_or kept.deliveries.delivered x [] ++ map item_of (news_in kept.deliveries s i)) (slice_index_or kept.deliveries.delivered x [])
        row x = elim (cases_eq x s) [
          | inl e ↦ (λ k. cond (x == s) (slice_index_or kept.deliveries.delivered (sym e k) [] ++ sym (items_numbered s (held_of kept.deliveries.hold_back s).next (known_items (held_of kept.deliveries.hold_back s) i)) k) (slice_index_or kept.deliveries.delivered x []))
          | inr e ↦ ap (λ b. cond b (slice_index_or kept.deliveries.delivered s [] ++ known_items (held_of kept.deliveries.hold_back s) i) (slice_index_or kept.deliveries.delivered x [])) (ne_eqb x s e) ∙ sym (ap (λ b. cond b (slice_index_or kept.deliveries.delivered x [] ++ map item_of (news_in kept.deliveries s i)) (slice_index_or kept.deliveries.delivered x [])) (ne_eqb x s e))
        ]

    still : own_known_enough config.mode config me (step ∷ steps) s i ≡ false → ToldRight (unmoved kept)
    unfolding own_log own_outcome own_decisions_of
    still lacking = record {
      stands = concluded kept.deliveries.hold_back kept.deliveries.delivered kept.deliveries.agree
          (h.senders_back)
          (λ x l. elim (cases_eq x s) [
            | inl e ↦ subst (λ y. HoldsBack (item_at (held me (step ∷ steps)) y) (own_is_ready config me (step ∷ steps) y) (held_of kept.deliveries.hold_back y)) (sym e) at
            | inr e ↦ h.back_other x l e
          ])
          (h.senders_delivered)
          (λ x l. h.delivers x l ∙ ap (λ log. map item_of (filter (is_from x) log)) (sym log_same))
          (h.agrees ∙ ap (λ log. counted_of (config.nodes - config.faults) (newest_first [] log)) (sym log_same));
      outcome = ap (λ news. record { deliveries = news; decisions = own_decisions_of config (own_log config me steps) news }) (sym none);
    }
      where
        at : HoldsBack (item_at (held me (step ∷ steps)) s) (own_is_ready config me (step ∷ steps) s) (held_of kept.deliveries.hold_back s)
        at = told_still config me step steps h.own.accepted s i (held_of kept.deliveries.hold_back s) h.pair h.others h.back_here lacking

        none : own_deliveries config me steps step ≡ []
        none = deliveries_are
            ∙ ap (messages_from (held me (step ∷ steps)) s (own_next config me steps s)) (sym (next_is config me (step ∷ steps) s (item_at (held me (step ∷ steps)) s) (held_of kept.deliveries.hold_back s) at) ∙ next_before)
            ∙ no_messages (held me (step ∷ steps)) s (own_next config me steps s)

        log_same : own_log config me steps ++ own_deliveries config me steps step ≡ own_log config me steps
        log_same = ap (λ more. own_log config me steps ++ more) none ∙ append-nil (own_log config me steps)

  -- so what is told is right
  pub told_right : (kept : Kept) (s i : ℕ) (members : set.FinSet nat_cmp) → Heard config me step steps (noted_at kept s i members) s i → ToldRight (told kept s i members)
  told_right kept s i members h = by_test (is_enough kept.config members) refl
    where
      rows : List (List (set.FinSet nat_cmp))
      rows = kept.deliveries.knowers

      within : s < length rows
      within = subst (λ n. s < n) (sym h.senders_known ∙ length-slice_set rows s _) h.sender

      noted_here : knowers_in (noted kept.deliveries s i members).knowers s i ≡ members
      noted_here = knowers_in-set rows s i members within s i ∙ (λ k. cond (eq-eqb s s refl k && eq-eqb i i refl k) members (knowers_in rows s i))

      enough : is_enough kept.config members ≡ own_known_enough config.mode config me (step ∷ steps) s i
      enough = (λ k. is_enough (h.own.same_config k) (sym noted_here k)) ∙ enough-is config me (step ∷ steps) (noted kept.deliveries s i members).knowers h.knows s i h.sender

      by_test : (b : Bool) → is_enough kept.config members ≡ b →
          ToldRight (record { outcome = cond b (news_outcome kept.deliveries.agree (news_in kept.deliveries s i)) nothing; kept = record kept { deliveries = cond b (let_go (noted kept.deliveries s i members) s i) (noted kept.deliveries s i members) } })
      by_test true e = turned (noted_at kept s i members) s i h (sym enough ∙ e)
      by_test false e = still (noted_at kept s i members) s i h (sym enough ∙ e)
