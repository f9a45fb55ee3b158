-- What a history keeps as it grows: lists grow at their end alone, so places in them are stable.
use Rattle.std.proofs.Common.{◌≡◌, ℕ, ◌<◌, refl, sym, ◌∙◌, ap, true, ◌&&◌, List, [], ◌∷◌, ◌++◌, length, arith, append_assoc, length-append}
use Rattle.std.proofs.lemmas.List.{append-nil, get_or_append_left}
use Rattle.std.proofs.lemmas.List.Elements.{filter-append}
use Rattle.std.proofs.lemmas.List.Folds.{list_any-append}
use Rattle.std.proofs.lemmas.Bool.{or_left}
use Rattle.std.specs.Prelude.{◌==◌}
use Rattle.std.specs.List.{list_any}
use Rattle.cast_message.specs.declared.event.Event.{Event}
use Rattle.cast_message.specs.declared.message.Frame.{Frame}
use Rattle.cast_model.specs.History.{History, FirstCopy, items_ordered, stream, has_pair, given_of, copy_at, copies_gained, frames_gained, frame_arriving, frame_at, first, frames, given, arrivals, taken, is_carry_of}

-- what one more event adds
abbrev pub gained : Event → History → ℕ → List FirstCopy
gained event past q = copies_gained (first past q) (length (stream past q)) (frames past) event q

abbrev pub made : Event → History → ℕ → List Frame
made event past p = frames_gained (first past p) (stream past) (length (frames past p)) event p

abbrev pub arriving : Event → History → ℕ → List Frame
arriving event past q = frame_at (frame_arriving (frames past) event) q

pub stream-more : (event : Event) (past : History) (p : ℕ) → stream (event ∷ past) p ≡ stream past p ++ items_ordered event p
unfolding stream
stream-more event past p = refl

pub first-more : (event : Event) (past : History) (q : ℕ) → first (event ∷ past) q ≡ first past q ++ gained event past q
unfolding first frames
first-more event past q = refl

pub frames-more : (event : Event) (past : History) (p : ℕ) → frames (event ∷ past) p ≡ frames past p ++ made event past p
unfolding first frames
frames-more event past p = refl

pub arrivals-more : (event : Event) (past : History) (q : ℕ) → arrivals (event ∷ past) q ≡ arrivals past q ++ arriving event past q
unfolding arrivals
arrivals-more event past q = refl

pub given-more : (event : Event) (past : History) (p q : ℕ) → given (event ∷ past) p q ≡ given past p q ++ given_of (gained event past p) q
unfolding given given_of
given-more event past p q = ap (λ copies. given_of copies q) (first-more event past p) ∙ filter-append _ (first past p) (gained event past p)

-- what p gave q stays, and more is added at its end alone
pub given-later : (events : List Event) (past : History) (p q : ℕ) → (rest : List FirstCopy) × (given (events ++ past) p q ≡ given past p q ++ rest)
given-later [] past p q = ([], sym (append-nil _))
given-later (event ∷ events) past p q =
    let before = given-later events past p q in (
      before.0 ++ given_of (gained event (events ++ past) p) q,
      given-more event (events ++ past) p q ∙ ap (λ copies. copies ++ given_of (gained event (events ++ past) p) q) before.1 ∙ append_assoc (given past p q) before.0 (given_of (gained event (events ++ past) p) q),
    )

-- so a slot keeps its copy
pub copy_at-kept : (event : Event) (past : History) (p q slot : ℕ) → slot < length (given past p q) → copy_at (given (event ∷ past) p q) slot ≡ copy_at (given past p q) slot
unfolding copy_at
copy_at-kept event past p q slot h = ap (λ copies. copy_at copies slot) (given-more event past p q) ∙ get_or_append_left _ _ _ slot h

pub copy_at-later : (events : List Event) (past : History) (p q slot : ℕ) → slot < length (given past p q) → copy_at (given (events ++ past) p q) slot ≡ copy_at (given past p q) slot
unfolding copy_at
copy_at-later events past p q slot h = ap (λ copies. copy_at copies slot) (given-later events past p q).1 ∙ get_or_append_left _ _ _ slot h

pub slot_kept : (event : Event) (past : History) (p q slot : ℕ) → slot < length (given past p q) → slot < length (given (event ∷ past) p q)
slot_kept event past p q slot h = rw given-more (omega (arith, length-append (given past p q) (given_of (gained event past p) q)))

pub stream_kept : (event : Event) (past : History) (p i : ℕ) → i < length (stream past p) → i < length (stream (event ∷ past) p)
stream_kept event past p i h = rw stream-more (omega (arith, length-append (stream past p) (items_ordered event p)))

pub pair_kept : (event : Event) (past : History) (q s i : ℕ) → has_pair (first past q) s i ≡ true → has_pair (first (event ∷ past) q) s i ≡ true
unfolding has_pair
pair_kept event past q s i h = ap (λ copies. has_pair copies s i) (first-more event past q) ∙ list_any-append _ (first past q) (gained event past q) ∙ or_left _ _ h

pub taken_kept : (event : Event) (past : History) (p q slot : ℕ) → taken past p q slot ≡ true → taken (event ∷ past) p q slot ≡ true
unfolding taken
taken_kept event past p q slot h =
    ap (λ arrived. list_any (λ frame. frame.from == p && is_carry_of slot frame.body) arrived) (arrivals-more event past q)
    ∙ list_any-append _ (arrivals past q) (arriving event past q)
    ∙ or_left _ _ h
