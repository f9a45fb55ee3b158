-- What logs tell one behind the other, and how the frames of a trail are numbered.
use Rattle.std.proofs.Common.{◌≡◌, ℕ, zero, suc, ◌<◌, ◌≤◌, refl, sym, ◌∙◌, ap, List, [], ◌∷◌, ◌++◌, length, map, Some, ◌⊎◌, inl, inr, arith, length-append}
use Rattle.std.specs.Prelude.{slice_get}
use Rattle.std.proofs.lemmas.List.{append-nil, append_assoc, length-map}
use Rattle.std.proofs.lemmas.Bool.{cases_lt}
use Rattle.cast_message.specs.declared.config.Config.{Config}
use Rattle.cast_message.specs.declared.message.Frame.{Frame}
use Rattle.cast_model.specs.Steps.{Step, Sent, Acknowledged, Arrived, Steps, frames_by, frame_count}
use Rattle.cast_model.specs.OwnSteps.{own_made, own_frames}
use Rattle.cast_log.specs.declared.entry.Entry.{Entry}
use Rattle.cast_node.specs.Linked.{Trail, Made, steps_in, stamped, made_in, AreTaken, taken_of, taken, OnArrival, EachArrival}
use Rattle.cast_node.proofs.Made.{frame_in, made_frames}

-- what two logs tell, one behind the other
pub taken-append : (xs ys : List Entry) → taken (xs ++ ys) ≡ taken xs ++ taken ys
unfolding taken
taken-append [] ys = refl
taken-append (x ∷ xs) ys = ap (λ more. taken_of x.stamp x.kind ++ more) (taken-append xs ys) ∙ sym (append_assoc (taken_of x.stamp x.kind) (taken xs) (taken ys))

-- what is told of a log that ends with this entry
pub one_more : (log : List Entry) (e : Entry) → taken (log ++ e ∷ []) ≡ taken log ++ taken_of e.stamp e.kind
unfolding taken
one_more log e = taken-append log (e ∷ []) ∙ ap (λ more. taken log ++ more) (append-nil (taken_of e.stamp e.kind))

made_length : (p : ℕ) (steps : Steps) (step : Step) → length (own_made p steps step) ≡ frames_by step
unfolding own_made
made_length p steps (Sent to slot) = refl
made_length p steps (Acknowledged to slot) = refl
made_length p steps step = refl

frames_length : (p : ℕ) (steps : Steps) → length (own_frames p steps) ≡ frame_count steps
unfolding own_frames frame_count
frames_length p [] = refl
frames_length p (step ∷ steps) =
    length-append (own_frames p steps) (own_made p steps step) ∙ (let a = frames_length p steps in let b = made_length p steps step in omega (arith, a, b))

pub made_many : (config : Config) (p : ℕ) (trail : Trail) → AreTaken config p trail → length (made_in config p trail) ≡ frame_count (steps_in config p trail)
made_many config p trail taken = sym (length-map (made_in config p trail) frame_in) ∙ ap length (made_frames config p trail taken) ∙ frames_length p (steps_in config p trail)

pub get_snoc : {A : Type 0} (xs : List A) (y z : A) (q : ℕ) → slice_get (xs ++ y ∷ []) q ≡ Some z → (slice_get xs q ≡ Some z) ⊎ ((q ≡ length xs) × (y ≡ z))
get_snoc [] y z zero e = inr (refl, (let s : y ≡ z = cc in s))
get_snoc [] y z (suc q) e = absurd (cc)
get_snoc (x ∷ xs) y z zero e = inl e
get_snoc (x ∷ xs) y z (suc q) e = elim (get_snoc xs y z q e) [ inl h ↦ inl h | inr h ↦ inr (ap suc h.0, h.1) ]

-- the frames are numbered from 0 on, and name their maker
pub made_numbered : (config : Config) (p : ℕ) (trail : Trail) → AreTaken config p trail → (k : ℕ) (m : Made) → slice_get (made_in config p trail) k ≡ Some m → (m.frame.from ≡ p) × (m.frame.seq ≡ k)
unfolding made_in AreTaken own_made
made_numbered config p [] taken k m at = absurd (cc)
made_numbered config p (mark ∷ trail) taken k m at = by_step mark.step at (made_numbered config p trail taken.0)
  where
    last : (frame : Frame) → frame.from ≡ p → frame.seq ≡ frame_count (steps_in config p trail) → slice_get (made_in config p trail ++ stamped mark.stamp frame ∷ []) k ≡ Some m
        → ((k : ℕ) (m : Made) → slice_get (made_in config p trail) k ≡ Some m → (m.frame.from ≡ p) × (m.frame.seq ≡ k)) → (m.frame.from ≡ p) × (m.frame.seq ≡ k)
    last frame from seq e ih = elim (get_snoc (made_in config p trail) (stamped mark.stamp frame) m k e) [
      | inl h ↦ ih k m h
      | inr h ↦ (ap (λ (x : Made). x.frame.from) (sym h.1) ∙ from, ap (λ (x : Made). x.frame.seq) (sym h.1) ∙ seq ∙ sym (made_many config p trail taken.0) ∙ sym h.0)
    ]

    by_step : (step : Step) → slice_get (made_in config p trail ++ map (stamped mark.stamp) (own_made p (steps_in config p trail) step)) k ≡ Some m
        → ((k : ℕ) (m : Made) → slice_get (made_in config p trail) k ≡ Some m → (m.frame.from ≡ p) × (m.frame.seq ≡ k)) → (m.frame.from ≡ p) × (m.frame.seq ≡ k)
    by_step (Sent to slot) e ih = last _ refl refl e ih
    by_step (Acknowledged to slot) e ih = last _ refl refl e ih
    by_step step e ih = ih k m (ap (λ all. slice_get all k) (sym (append-nil (made_in config p trail))) ∙ e)

pub get_left : {A : Type 0} (xs ys : List A) (k : ℕ) (x : A) → slice_get xs k ≡ Some x → slice_get (xs ++ ys) k ≡ Some x
get_left [] ys k x e = absurd (cc)
get_left (y ∷ xs) ys zero x e = e
get_left (y ∷ xs) ys (suc k) x e = get_left xs ys k x e

-- from what is known of each arrival to what is wanted
pub each_arrival : (P Q : ℕ → Frame → Type 0) → ((stamp : ℕ) (frame : Frame) → P stamp frame → Q stamp frame) → (trail : Trail) → EachArrival P trail → EachArrival Q trail
unfolding EachArrival
each_arrival P Q f [] h = h
each_arrival P Q f (mark ∷ trail) h = (each_arrival P Q f trail h.0, by_step mark.step h.1)
  where
    by_step : (step : Step) → OnArrival P mark.stamp step → OnArrival Q mark.stamp step
    by_step (Arrived frame) h = f mark.stamp frame h
    by_step step h = h

-- for each node of a group there is a trail, so there is a list of them all
pub choose : (n : ℕ) (P : ℕ → Trail → Type 0) → ((p : ℕ) → p < n → (trail : Trail) × P p trail) → (trails : ℕ → Trail) × ((p : ℕ) → p < n → P p (trails p))
choose n P each = ((λ p. pick p (cases_lt p n)), (λ p l. picked p (cases_lt p n) l))
  where
    pick : (p : ℕ) → (p < n) ⊎ (n ≤ p) → Trail
    pick p (inl l) = (each p l).0
    pick p (inr l) = []

    picked : (p : ℕ) (c : (p < n) ⊎ (n ≤ p)) → p < n → P p (pick p c)
    picked p (inl l) h = (each p l).1
    picked p (inr l) h = absurd (omega (arith, l, h))
