use Rattle.std.proofs.Common.{◌≡◌, ℕ, ◌<◌, ◌≤◌, length, Bool, false, Some}
use Rattle.std.specs.Prelude.{slice_get}
use Rattle.cast_engine.specs.Feeding.{AreFed, TellEach, IsTold}
use Rattle.cast_engine.specs.declared.feeding.Place.{Place}
use Rattle.cast_box.specs.Ends.{AreSamePutters}
use Rattle.cast_engine.proofs.feeding.notify_all.Given as goal

abbrev pub invariant-loop-client : goal.invariant-loop-client
invariant-loop-client g l = AreFed l.log.entries l.desk.trays.items l.places.items × (l.desk.orders ≡ l.fn.desk.orders) × AreSamePutters l.fn.desk.trays.items l.desk.trays.items × (length l.places.items ≡ length l.fn.places.items)
    × TellEach 1 l.fn.desk.trays.items l.desk.trays.items × ((c : ℕ) → l.client ≤ c → slice_get l.desk.trays.items c ≡ slice_get l.fn.desk.trays.items c)
    × (l.moved ≡ false → l.desk.trays.items ≡ l.fn.desk.trays.items)
    × ((c : ℕ) (p : Place) → c < l.client → slice_get l.places.items c ≡ Some p → (told : Bool) × IsTold told c l.log.entries l.fn.desk.trays.items l.desk.trays.items p)
