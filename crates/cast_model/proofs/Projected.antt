-- What a node's own steps tell is what the history of the group tells of it.
use Rattle.std.proofs.Common.{◌≡◌, ℕ, ◌+◌, refl, sym, ◌∙◌, ap, Bool, true, false, cond, List, [], ◌∷◌, ◌++◌, length, map, Option, Some, None, arith, length-append}
use Rattle.std.specs.Prelude.{◌==◌, slice_get}
use Rattle.std.proofs.lemmas.List.{append-nil, map-append}
use Rattle.cast_message.specs.declared.event.Event.{Event}
use Rattle.cast_message.specs.declared.event.Event.TheVariants.{Order, Send, Ack, Arrive, Crash}
use Rattle.cast_message.specs.declared.message.Item.{Item}
use Rattle.cast_message.specs.declared.message.Frame.{Frame}
use Rattle.cast_message.specs.declared.message.FrameBody.{FrameBody}
use Rattle.cast_message.specs.declared.message.FrameBody.TheVariants.{Carry, Took}
use Rattle.cast_model.specs.History.{History, has_pair, stream, items_ordered, first, frames, frame_arriving, frame_at, arrivals, copies_gained, copies_arriving, copies_brought, frames_gained}
use Rattle.cast_model.specs.Steps.{Step, Ordered, Sent, Acknowledged, Arrived, Stopped, Steps, each, step_by, step_of, steps_of, item_of, own_items, frame_of, frames_in, frames_by, frame_count, Held, copy_of, held_by_body, held_by, held}
use Rattle.cast_model.proofs.Growth.{gained, made}

module _ {A : Type 0} (tell : Step → List A) (steps : Steps) (have : List A) (so_far : each tell steps ≡ have) where
  -- one step more, if this one is the node's
  told : (b : Bool) (step : Step) → each tell (cond b (step ∷ []) [] ++ steps) ≡ have ++ cond b (tell step) []
  unfolding each
  told true step = ap (λ all. all ++ tell step) so_far
  told false step = so_far ∙ sym (append-nil have)

  -- which tells nothing
  untold : (b : Bool) (step : Step) → tell step ≡ [] → each tell (cond b (step ∷ []) [] ++ steps) ≡ have ++ []
  untold b step none = told b step ∙ ap (λ more. have ++ more) (nothing b)
    where
      nothing : (b : Bool) → cond b (tell step) [] ≡ []
      nothing true = none
      nothing false = refl

-- the items that the node ordered are its stream
module _ (past : History) (q : ℕ) (so_far : own_items (steps_of past q) ≡ stream past q) where
  silent : (b : Bool) (step : Step) → item_of step ≡ [] → own_items (cond b (step ∷ []) [] ++ steps_of past q) ≡ stream past q ++ []
  silent = untold item_of (steps_of past q) (stream past q) so_far

  items_by_frame : (o : Option Frame) → own_items (step_by o q ++ steps_of past q) ≡ stream past q ++ []
  items_by_frame None = so_far ∙ sym (append-nil (stream past q))
  items_by_frame (Some frame) = silent (frame.to == q) (Arrived frame) refl

  items_by_event : (event : Event) → own_items (step_of (frames past) event q ++ steps_of past q) ≡ stream past q ++ items_ordered event q
  unfolding frame_arriving
  items_by_event (Order node item) = told item_of (steps_of past q) (stream past q) so_far (node == q) (Ordered item)
  items_by_event (Send from to slot) = silent (from == q) (Sent to slot) refl
  items_by_event (Ack from to slot) = silent (from == q) (Acknowledged to slot) refl
  items_by_event (Arrive from seq) = items_by_frame (slice_get (frames past from) seq)
  items_by_event (Crash node) = silent (node == q) Stopped refl

pub own_items-steps_of : (past : History) (q : ℕ) → own_items (steps_of past q) ≡ stream past q
unfolding steps_of stream each
own_items-steps_of [] q = refl
own_items-steps_of (event ∷ past) q = items_by_event past q (own_items-steps_of past q) event

-- the frames that arrived are the arrivals
module _ (past : History) (q : ℕ) (so_far : frames_in (steps_of past q) ≡ arrivals past q) where
  unmoved : (b : Bool) (step : Step) → frame_of step ≡ [] → frames_in (cond b (step ∷ []) [] ++ steps_of past q) ≡ arrivals past q ++ []
  unmoved = untold frame_of (steps_of past q) (arrivals past q) so_far

  frames_by_frame : (o : Option Frame) → frames_in (step_by o q ++ steps_of past q) ≡ arrivals past q ++ frame_at o q
  frames_by_frame None = so_far ∙ sym (append-nil (arrivals past q))
  frames_by_frame (Some frame) = told frame_of (steps_of past q) (arrivals past q) so_far (frame.to == q) (Arrived frame)

  frames_by_event : (event : Event) → frames_in (step_of (frames past) event q ++ steps_of past q) ≡ arrivals past q ++ frame_at (frame_arriving (frames past) event) q
  unfolding frame_arriving
  frames_by_event (Order node item) = unmoved (node == q) (Ordered item) refl
  frames_by_event (Send from to slot) = unmoved (from == q) (Sent to slot) refl
  frames_by_event (Ack from to slot) = unmoved (from == q) (Acknowledged to slot) refl
  frames_by_event (Arrive from seq) = frames_by_frame (slice_get (frames past from) seq)
  frames_by_event (Crash node) = unmoved (node == q) Stopped refl

pub frames_in-steps_of : (past : History) (q : ℕ) → frames_in (steps_of past q) ≡ arrivals past q
unfolding steps_of arrivals each
frames_in-steps_of [] q = refl
frames_in-steps_of (event ∷ past) q = frames_by_event past q (frames_in-steps_of past q) event

brought-map : (before : List Held) (r : ℕ) (body : FrameBody) → map copy_of (held_by_body before r body) ≡ copies_brought (map copy_of before) r body
brought-map before r (Took slot) = refl
brought-map before r (Carry slot message) = either (has_pair (map copy_of before) message.sender message.number)
  where
    either : (b : Bool) → map copy_of (cond b [] (record { message = message; source = r } ∷ [])) ≡ cond b [] (record { sender = message.sender; number = message.number; source = r } ∷ [])
    either true = refl
    either false = refl

-- the pairs that it holds are the first copies
pub held-steps_of : (past : History) (q : ℕ) → map copy_of (held q (steps_of past q)) ≡ first past q
unfolding steps_of held frame_arriving copies_gained first frames
held-steps_of [] q = refl
held-steps_of (event ∷ past) q = by_event event (held-steps_of past q)
  where
    idle : map copy_of (held q (steps_of past q)) ≡ first past q → map copy_of (held q (steps_of past q)) ≡ first past q ++ []
    idle ih = ih ∙ sym (append-nil (first past q))

    by_test : (b : Bool) (step : Step) → held_by (held q (steps_of past q)) q (length (own_items (steps_of past q))) step ≡ [] → map copy_of (held q (steps_of past q)) ≡ first past q → map copy_of (held q (cond b (step ∷ []) [] ++ steps_of past q)) ≡ first past q ++ []
    by_test true step none ih = ap (λ more. map copy_of (held q (steps_of past q) ++ more)) none ∙ ap (map copy_of) (append-nil (held q (steps_of past q))) ∙ idle ih
    by_test false step none ih = idle ih

    by_order : (b : Bool) (item : Item) → map copy_of (held q (steps_of past q)) ≡ first past q → map copy_of (held q (cond b (Ordered item ∷ []) [] ++ steps_of past q)) ≡ first past q ++ cond b (record { sender = q; number = length (stream past q); source = q } ∷ []) []
    by_order true item ih =
        map-append copy_of (held q (steps_of past q)) (record { message = record { sender = q; number = length (own_items (steps_of past q)); item = item }; source = q } ∷ [])
        ∙ ap (λ copies. copies ++ record { sender = q; number = length (own_items (steps_of past q)); source = q } ∷ []) ih
        ∙ ap (λ items. first past q ++ record { sender = q; number = length items; source = q } ∷ []) (own_items-steps_of past q)
    by_order false item ih = idle ih

    arrived : (b : Bool) (frame : Frame) → map copy_of (held q (steps_of past q)) ≡ first past q → map copy_of (held q (cond b (Arrived frame ∷ []) [] ++ steps_of past q)) ≡ first past q ++ cond b (copies_brought (first past q) frame.from frame.body) []
    arrived true frame ih =
        map-append copy_of (held q (steps_of past q)) (held_by_body (held q (steps_of past q)) frame.from frame.body)
        ∙ ap (λ more. map copy_of (held q (steps_of past q)) ++ more) (brought-map (held q (steps_of past q)) frame.from frame.body)
        ∙ ap (λ copies. copies ++ copies_brought copies frame.from frame.body) ih
    arrived false frame ih = idle ih

    by_frame : (o : Option Frame) → map copy_of (held q (steps_of past q)) ≡ first past q → map copy_of (held q (step_by o q ++ steps_of past q)) ≡ first past q ++ copies_arriving (first past q) o q
    by_frame None ih = idle ih
    by_frame (Some frame) ih = arrived (frame.to == q) frame ih

    by_event : (event : Event) → map copy_of (held q (steps_of past q)) ≡ first past q → map copy_of (held q (step_of (frames past) event q ++ steps_of past q)) ≡ first past q ++ gained event past q
    by_event (Order node item) ih = by_order (node == q) item ih
    by_event (Send from to slot) ih = by_test (from == q) (Sent to slot) refl ih
    by_event (Ack from to slot) ih = by_test (from == q) (Acknowledged to slot) refl ih
    by_event (Arrive from seq) ih = by_frame (slice_get (frames past from) seq) ih
    by_event (Crash node) ih = by_test (node == q) Stopped refl ih

-- it made as many frames
pub frame_count-steps_of : (past : History) (q : ℕ) → frame_count (steps_of past q) ≡ length (frames past q)
unfolding steps_of frame_count frame_arriving frames_gained first frames
frame_count-steps_of [] q = refl
frame_count-steps_of (event ∷ past) q = by_event event (frame_count-steps_of past q) ∙ sym (length-append (frames past q) (made event past q))
  where
    by_test : (b : Bool) (step : Step) → frames_by step ≡ 0 → frame_count (steps_of past q) ≡ length (frames past q) → frame_count (cond b (step ∷ []) [] ++ steps_of past q) ≡ length (frames past q) + 0
    by_test true step none ih = omega (arith, none, ih)
    by_test false step none ih = omega arith

    by_making : (b : Bool) (step : Step) (frame : Frame) → frames_by step ≡ 1 → frame_count (steps_of past q) ≡ length (frames past q) → frame_count (cond b (step ∷ []) [] ++ steps_of past q) ≡ length (frames past q) + length (cond b (frame ∷ []) [])
    by_making true step frame one ih = omega (arith, one, ih)
    by_making false step frame one ih = omega arith

    by_frame : (o : Option Frame) → frame_count (steps_of past q) ≡ length (frames past q) → frame_count (step_by o q ++ steps_of past q) ≡ length (frames past q) + 0
    by_frame None ih = omega arith
    by_frame (Some frame) ih = by_test (frame.to == q) (Arrived frame) refl ih

    by_event : (event : Event) → frame_count (steps_of past q) ≡ length (frames past q) → frame_count (step_of (frames past) event q ++ steps_of past q) ≡ length (frames past q) + length (made event past q)
    by_event (Order node item) ih = by_test (node == q) (Ordered item) refl ih
    by_event (Send from to slot) ih = by_making (from == q) (Sent to slot) _ refl ih
    by_event (Ack from to slot) ih = by_making (from == q) (Acknowledged to slot) _ refl ih
    by_event (Arrive from seq) ih = by_frame (slice_get (frames past from) seq) ih
    by_event (Crash node) ih = by_test (node == q) Stopped refl ih
