-- Lists in which one stands for another, place by place, step by step.
use Rattle.std.proofs.Common.{◌≡◌, ◌≢◌, ◌∙◌, ◌<◌, ℕ, Bool, false, not, List, length, slice_get, slice_set, get_or, Some, refl, ap, sym, subst, ⊎_elim}
use Rattle.std.proofs.lemmas.List.{length-set}
use Rattle.std.proofs.lemmas.Option.{slice_get_read}
use Rattle.cast_box.proofs.Same.{get_set, taker_same, taker_again, putters_same, putters_again}
use Rattle.cast_journal.specs.declared.order.OrderIn.{OrderIn}
use Rattle.cast_desk.specs.declared.notice.Notice.{Notice}
use Rattle.cast_engine.specs.Engines.{EngineState, IsSameEngine}
use Rattle.cast_engine.proofs.Again.{desk_same}
use Rattle.cast_carrier.specs.Carriers.{CarrierState, IsSameCarrier}
use Rattle.cast_run.specs.declared.jobs.Seat.{Seat}
use Rattle.cast_desk.specs.Desk.{ClientState, IsSameClient}
use Rattle.cast_run.specs.Actors.{AreStill, ComesFrom, StaysFrom}
use Rattle.cast_run.specs.Jobs.{submitted, got, HoldsOf, KeepsFact}
use Rattle.cast_run.specs.Seats.{IsSameSeat}

module _ {T : Type 0} (Same : T → T → Type 0) (self : (x : T) → Same x x) where
  pub still_self : (xs : List T) → AreStill Same xs xs
  still_self xs = (refl, λ p x at. (x, at, self x))

  -- one was written over, and stands for what was read there
  pub still_set : (xs : List T) (i : ℕ) (x x' : T) → i < length xs → x ≡ get_or xs i x → Same x x' → AreStill Same xs (slice_set xs i x')
  still_set xs i x x' less read same = (
    length-set xs i x',
    λ p z at. ⊎_elim
        (λ (t : (p ≡ i) × (x' ≡ z)). let P : T → Type 0 = λ y. (w : T) × (slice_get xs p ≡ Some w) × Same w y in
        subst P t.1 (x, ap (slice_get xs) t.0 ∙ slice_get_read xs (length xs) i x refl less read, same))
        (λ (t : (p ≢ i) × (slice_get xs p ≡ Some z)). (z, t.1, self z)) (get_set xs i p x' z at),
  )

-- what stood for others, and then stayed the same, stands for them
pub still_more : {S T : Type 0} (R : S → T → Type 0) (Same : T → T → Type 0) → ((s : S) (x y : T) → R s x → Same x y → R s y) → (olds : List S) (xs ys : List T) → AreStill R olds xs → AreStill Same xs ys → AreStill R olds ys
still_more R Same step olds xs ys k l = (
  l.0 ∙ k.0,
  λ p y at. let two = l.1 p y at in let one = k.1 p two.0 two.1 in (one.0, one.1, step one.0 two.0 y one.2 two.2),
)

pub engine_self : (e : EngineState) → IsSameEngine e e
engine_self e = record {
  config = refl;
  me = refl;
  crash = refl;
  outbox = (refl, refl, refl, refl);
  inbox = taker_same e.inbox;
  desk = desk_same e.desk e.desk refl;
}

pub carrier_self : (c : CarrierState) → IsSameCarrier c c
carrier_self c = (taker_same c.outbox, putters_same c.inboxes, refl, refl)

pub carrier_again : (a b c : CarrierState) → IsSameCarrier a b → IsSameCarrier b c → IsSameCarrier a c
carrier_again a b c f g = (
  taker_again a.outbox b.outbox c.outbox f.0 g.0,
  putters_again a.inboxes b.inboxes c.inboxes f.1 g.1,
  g.2 ∙ f.2,
  g.3 ∙ f.3,
)

module _ {J : Type 0} (fact : J → J → List OrderIn → List Notice → Bool → Type 0) (old : Seat J) (going : old.done ≡ false) where
  -- of a job that goes on its fact holds as of one that is not done
  going_on : (s : Seat J) → IsSameSeat fact s old → fact s.job old.job (submitted old.client) (got old.client) false
  going_on s h = let P : Bool → Type 0 = λ d. fact s.job old.job (submitted old.client) (got old.client) d in subst P going h.2

  -- so it may be called
  pub holds_called : ComesFrom (IsSameSeat fact) old → HoldsOf fact old.job old.client
  holds_called was = (was.0.job, going_on was.0 was.1)

  client_again : (a b c : ClientState) → IsSameClient a b → IsSameClient b c → IsSameClient a c
  client_again a b c f g =
      (g.0 ∙ f.0, g.1 ∙ f.1, (g.2.0 ∙ f.2.0, g.2.1 ∙ f.2.1, g.2.2 ∙ f.2.2, g.2.3 ∙ f.2.3), taker_again a.tray b.tray c.tray f.3 g.3)

  -- and a call keeps it
  pub called_on : (new : Seat J) (more : Bool) → new.node ≡ old.node → new.done ≡ not more → IsSameClient old.client new.client → KeepsFact fact old.job old.client new.job new.client more → StaysFrom (IsSameSeat fact) old new
  called_on new more node done same keeps s h =
      let D : Bool → Type 0 = λ d. fact s.job new.job (submitted new.client) (got new.client) d in
      (node ∙ h.0, client_again s.client old.client new.client h.1 same, subst D (sym done) (keeps s.job (going_on s h)))

module _ {A : Type 0} (from : A → A → Type 0) where
  pub one_stays : (x : A) → StaysFrom from x x
  one_stays x s h = h

  -- the one at a place took a step
  pub stay_at : (xs : List A) (i : ℕ) (x x' : A) → i < length xs → x ≡ get_or xs i x → StaysFrom from x x' → StaysFrom (AreStill from) xs (slice_set xs i x')
  stay_at xs i x x' less read stays olds are = still_more from (StaysFrom from) (λ s a b h k. k s h) olds xs _ are (still_set (StaysFrom from) one_stays xs i x x' less read stays)

  pub comes_at : (xs : List A) (i : ℕ) (x : A) → i < length xs → x ≡ get_or xs i x → ComesFrom (AreStill from) xs → ComesFrom from x
  comes_at xs i x less read come = let it = come.1.1 i x (slice_get_read xs (length xs) i x refl less read) in (it.0, it.2)
