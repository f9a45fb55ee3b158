-- What is told of a pair, at the rows of its sender.
use Rattle.std.specs.Prelude.{◌≡◌, ℕ, ◌<◌, true, false, if◌then◌else◌, List, [], ◌++◌, length, map, slice_set, slice_index_or, Some, None}
use Rattle.std.specs.Ordering.{nat_cmp}
use Rattle.std.specs.FinSet as set
use Rattle.std.proofs.Common.{Bool, Vec, Global, refl, sym, ap, ◌∙◌, append-nil, arith}
use Rattle.std.proofs.Math.ListN.{length-set}
use Rattle.std.proofs.lemmas.List.{set-get_or, set-set, get_or-set_same, nil_from_length, length-map, get_or-map}
use Rattle.cast_message.specs.declared.config.Config.{Config}
use Rattle.cast_message.specs.declared.message.Item.{Item}
use Rattle.cast_message.specs.declared.message.Message.{Message}
use Rattle.cast_model.specs.History.{numbered}
use Rattle.cast_model.specs.OwnSteps.{nothing}
use Rattle.cast_model.proofs.Fronts.{length-numbered}
use Rattle.cast_fifo.specs.HeldBack.{HeldBack, nothing_held, held_of, came, with_item, heard_items, offered_items, known_items, known_after}
use Rattle.cast_fifo.specs.Calls.{Hold, Offer, held_after, answer}
use Rattle.cast_agree.specs.Counted.{Counted}
use Rattle.cast_agree.specs.Journal.{counted_all, decisions_all}
use Rattle.cast_node.specs.Code.{IsSound}
use Rattle.cast_node.specs.Delivering.{Delivering, is_enough, known_row, heard_news, heard_by, news_in, news_outcome, noted, let_go, told_in, outcome_in, waiting_in, waits_by}
use Rattle.cast_node.proofs.Parts.{same_rows, changed_rows}

abbrev Members : Type 0
Members = set.FinSet nat_cmp

abbrev Row : Type 0
Row = Vec Members Global

abbrev Stream : Type 0
Stream = Vec Item Global

abbrev known : List Row → List (List Members)
known rows = map (λ (row : Row). row.items) rows

abbrev streamed : List Stream → List (List Item)
streamed streams = map (λ (items : Stream). items.items) streams

-- deliveries with these fields, as callers see them
abbrev pub seen : List Row → List HeldBack → List Stream → Counted → Delivering
seen rows hold_back streams agree = record { knowers = known rows; hold_back = hold_back; delivered = streamed streams; agree = agree }

-- what is kept of a pair of s that these nodes hold, and the outcome
module _ (config : Config) (ds : Delivering) (s i : ℕ) (members : Members) where
  pub told_when : (b : Bool) → is_enough config members ≡ b →
      ((if b then let_go (noted ds s i members) s i else noted ds s i members) ≡ told_in config ds s i members) × ((if b then news_outcome ds.agree (news_in ds s i) else nothing) ≡ outcome_in config ds s i members)
  told_when b e = (
    sym (ap (λ b. if b then let_go (noted ds s i members) s i else noted ds s i members) e),
    sym (ap (λ b. if b then news_outcome ds.agree (news_in ds s i) else nothing) e),
  )

  -- enough, but nothing has its turn by it
  pub told_none : is_enough config members ≡ true → heard_items (held_of ds.hold_back s) i None ≡ [] → (record (noted ds s i members) { hold_back = heard_by ds.hold_back s i None } ≡ told_in config ds s i members) × (nothing ≡ outcome_in config ds s i members)
  unfolding counted_all decisions_all numbered
  told_none e none =
      let news : [] ≡ news_in ds s i = sym (ap (numbered s (held_of ds.hold_back s).next) none) in (
        (λ k. record (noted ds s i members) {
          hold_back = heard_by ds.hold_back s i None;
          delivered = (sym (set-get_or ds.delivered s []) ∙ ap (slice_set ds.delivered s) (sym (append-nil (slice_index_or ds.delivered s [])) ∙ ap (λ items. slice_index_or ds.delivered s [] ++ items) (sym none))) k;
          agree = ap (counted_all ds.agree) news k;
        })
            ∙ (told_when true e).0,
        ap (news_outcome ds.agree) news ∙ (told_when true e).1,
      )

-- a message that is kept back and marked is one that is offered
module _ (all : List HeldBack) (message : Message) (within : message.sender < length all) where
  abbrev waiting : List HeldBack
  waiting = held_after all (Hold message)

  kept_here : held_of waiting message.sender ≡ with_item (held_of all message.sender) message.number message.item
  kept_here = get_or-set_same all message.sender _ nothing_held within

  next_same : (held_of waiting message.sender).next ≡ (held_of all message.sender).next
  next_same = ap (λ (h : HeldBack). h.next) kept_here ∙ elim (came (held_of all message.sender) message.number) as (λ b. (if b then held_of all message.sender else record (held_of all message.sender) { waiting = (Rattle.cast_fifo.specs.HeldBack.with_waiting (held_of all message.sender) message.number (record { item = message.item; known = false })).waiting }).next ≡ (held_of all message.sender).next) [ true ↦ refl | false ↦ refl ]

  pub items_offered : heard_items (held_of waiting message.sender) message.number None ≡ heard_items (held_of all message.sender) message.number (Some message.item)
  items_offered = ap (λ h. known_items h message.number) kept_here

  pub news_offered : heard_news waiting message.sender message.number None ≡ heard_news all message.sender message.number (Some message.item)
  news_offered = λ k. numbered message.sender (next_same k) (items_offered k)

  pub after_offered : heard_by waiting message.sender message.number None ≡ heard_by all message.sender message.number (Some message.item)
  after_offered = ap (λ h. slice_set waiting message.sender (known_after h message.number)) kept_here ∙ set-set all message.sender _ _

  -- of no messages no item
  pub none_offered : answer all (Offer message) ≡ [] → heard_items (held_of waiting message.sender) message.number None ≡ []
  none_offered none =
      let items = offered_items (held_of all message.sender) message.number message.item in
      items_offered ∙ nil_from_length items (omega (arith, ap length none, length-numbered message.sender (held_of all message.sender).next items))

-- a message is kept back, marked where these nodes are enough, and nothing has its turn by that
module _ (config : Config) (ds : Delivering) (message : Message) (members : Members) (within : message.sender < length ds.hold_back) where
  pub waited : (known : Bool) → known ≡ is_enough config members → (known ≡ true → answer ds.hold_back (Offer message) ≡ []) →
      (record (noted ds message.sender message.number members) { hold_back = held_after ds.hold_back (waits_by known message) } ≡ told_in config (waiting_in ds message) message.sender message.number members)
      × (nothing ≡ outcome_in config (waiting_in ds message) message.sender message.number members)
  waited false e none = told_when config (waiting_in ds message) message.sender message.number members false (sym e)
  waited true e none =
      let told = told_none config (waiting_in ds message) message.sender message.number members (sym e) (none_offered ds.hold_back message within (none refl)) in
      ((λ k. record (noted ds message.sender message.number members) { hold_back = sym (after_offered ds.hold_back message within) k }) ∙ told.0, told.1)

  -- or it passes at once
  pub passed : is_enough config members ≡ true →
      record (noted ds message.sender message.number members) {
        hold_back = heard_by ds.hold_back message.sender message.number (Some message.item);
        delivered = slice_set ds.delivered message.sender (slice_index_or ds.delivered message.sender [] ++ heard_items (held_of ds.hold_back message.sender) message.number (Some message.item));
        agree = counted_all ds.agree (heard_news ds.hold_back message.sender message.number (Some message.item));
      }
      ≡ told_in config (waiting_in ds message) message.sender message.number members
  passed e =
      (λ k. record (noted ds message.sender message.number members) {
        hold_back = sym (after_offered ds.hold_back message within) k;
        delivered = slice_set ds.delivered message.sender (slice_index_or ds.delivered message.sender [] ++ sym (items_offered ds.hold_back message within) k);
        agree = counted_all ds.agree (sym (news_offered ds.hold_back message within) k);
      })
      ∙ (told_when config (waiting_in ds message) message.sender message.number members true e).0

-- a pair that had its turn
pub heard_none : (all : List HeldBack) (s i : ℕ) → known_after (held_of all s) i ≡ held_of all s → heard_by all s i None ≡ all
heard_none all s i same = ap (slice_set all s) same ∙ set-get_or all s nothing_held

pub told_had : (config : Config) (ds : Delivering) (s i : ℕ) (members : Members) → known_items (held_of ds.hold_back s) i ≡ [] → known_after (held_of ds.hold_back s) i ≡ held_of ds.hold_back s → (noted ds s i members ≡ told_in config ds s i members) × (nothing ≡ outcome_in config ds s i members)
told_had config ds s i members none same = by_test (is_enough config members) refl
  where
    by_test : (b : Bool) → is_enough config members ≡ b → (noted ds s i members ≡ told_in config ds s i members) × (nothing ≡ outcome_in config ds s i members)
    by_test false e = told_when config ds s i members false e
    by_test true e = let told = told_none config ds s i members e none in ((λ k. record (noted ds s i members) { hold_back = sym (heard_none ds.hold_back s i same) k }) ∙ told.0, told.1)

module _ (rows : List Row) (hold_back : List HeldBack) (streams : List Stream) (agree : Counted) (now : Delivering) (is : seen rows hold_back streams agree ≡ now) (sound : IsSound (known rows) hold_back (streamed streams)) (place s : ℕ) (at : place ≡ s) (within : s < length now.hold_back) where
  in_rows : place < length rows
  in_rows = omega (arith, at, within, ap (λ (ds : Delivering). length ds.hold_back) is, sound.rows, length-map rows (λ (row : Row). row.items))

  in_streams : place < length streams
  in_streams = omega (arith, at, within, ap (λ (ds : Delivering). length ds.hold_back) is, sound.streams, length-map streams (λ (items : Stream). items.items))

  -- the row at the place
  pub row_is : (r : Row) → r ≡ slice_index_or rows place r → r.items ≡ slice_index_or now.knowers s []
  row_is r e =
      ap (λ (row : Row). row.items) e
      ∙ sym (get_or-map (λ (row : Row). row.items) rows place r [] in_rows)
      ∙ (λ k. slice_index_or (is k).knowers (at k) [])

  pub row_same : (r x : Row) → r ≡ slice_index_or rows place r → x.items ≡ r.items → (back : List HeldBack) → back ≡ hold_back → seen (slice_set rows place x) back streams agree ≡ now
  row_same r x e same back b = (λ k. record { knowers = same_rows (λ (row : Row). row.items) rows place r x e same k; hold_back = b k; delivered = streamed streams; agree = agree }) ∙ is

  pub both_same : (r x : Row) (t y : Stream) (back : List HeldBack) (other : Counted) → r ≡ slice_index_or rows place r → x.items ≡ r.items → t ≡ slice_index_or streams place t → y.items ≡ t.items → back ≡ hold_back → other ≡ agree → seen (slice_set rows place x) back (slice_set streams place y) other ≡ now
  both_same r x t y back other e same e2 same2 b a =
      (λ k. record {
        knowers = same_rows (λ (row : Row). row.items) rows place r x e same k;
        hold_back = b k;
        delivered = same_rows (λ (items : Stream). items.items) streams place t y e2 same2 k;
        agree = a k;
      })
      ∙ is

  -- the row with room x is changed to x2
  known_is : (r x x2 : Row) (i : ℕ) (members : Members) → r ≡ slice_index_or rows place r → x.items ≡ r.items → x2.items ≡ known_row x.items i members → known (slice_set rows place x2) ≡ slice_set (known rows) s (known_row (slice_index_or (known rows) s []) i members)
  known_is r x x2 i members e same change = changed_rows (λ (row : Row). row.items) (λ row. known_row row i members) rows place s r x x2 [] at in_rows e same change

  pub noted_is : (r x x2 : Row) (i : ℕ) (members : Members) (back after : List HeldBack) → r ≡ slice_index_or rows place r → x.items ≡ r.items → x2.items ≡ known_row x.items i members → back ≡ after →
      seen (slice_set rows place x2) back streams agree ≡ record (noted now s i members) { hold_back = after }
  noted_is r x x2 i members back after e same change b =
      (λ k. record { knowers = known_is r x x2 i members e same change k; hold_back = b k; delivered = streamed streams; agree = agree })
      ∙ ap (λ ds. record (noted ds s i members) { hold_back = after }) is

  pub told_is : (r x x2 : Row) (t y2 : Stream) (i : ℕ) (members : Members) (back after : List HeldBack) (items : List Item) (news : List Message) (counted : Counted) →
      r ≡ slice_index_or rows place r → x.items ≡ r.items → x2.items ≡ known_row x.items i members →
      t ≡ slice_index_or streams place t → y2.items ≡ t.items ++ items → back ≡ after → counted ≡ counted_all agree news →
      seen (slice_set rows place x2) back (slice_set streams place y2) counted
      ≡ record (noted now s i members) { hold_back = after; delivered = slice_set now.delivered s (slice_index_or now.delivered s [] ++ items); agree = counted_all now.agree news }
  told_is r x x2 t y2 i members back after items news counted e same change e2 more b count =
      (λ k. record {
        knowers = known_is r x x2 i members e same change k;
        hold_back = b k;
        delivered = changed_rows (λ (items : Stream). items.items) (λ all. all ++ items) streams place s t t y2 [] at in_streams e2 refl more k;
        agree = count k;
      })
      ∙ ap (λ (ds : Delivering). record (noted ds s i members) { hold_back = after; delivered = slice_set ds.delivered s (slice_index_or ds.delivered s [] ++ items); agree = counted_all ds.agree news }) is

-- what is told keeps as many rows
pub told_keeps : (config : Config) (ds : Delivering) (s i : ℕ) (members : Members) → (length (told_in config ds s i members).hold_back ≡ length ds.hold_back) × (length (told_in config ds s i members).knowers ≡ length ds.knowers)
told_keeps config ds s i members = go (is_enough config members)
  where
    rows : length (noted ds s i members).knowers ≡ length ds.knowers
    rows = length-set ds.knowers s _

    go : (b : Bool) → (length (if b then let_go (noted ds s i members) s i else noted ds s i members).hold_back ≡ length ds.hold_back) × (length (if b then let_go (noted ds s i members) s i else noted ds s i members).knowers ≡ length ds.knowers)
    go true = (length-set ds.hold_back s _, rows)
    go false = (refl, rows)
