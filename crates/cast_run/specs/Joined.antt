-- Threads that were joined.
use Rattle.std.specs.Prelude.{◌≡◌, List, length}
use Rattle.std.specs.declared.thread.PromisedHandle.{PromisedHandle}
use Rattle.std.specs.declared.thread.Promise as Promise
use Rattle.cast_carrier.specs.Lists.{AreSame}

-- each thread gave what it promised
abbrev pub AreKept : {T P : Type 0} → Promise.Ghosts P T → List (PromisedHandle T P) → List T → Type 0
AreKept {T} {P} g threads back =
    (length back ≡ length threads)
    × AreSame (λ (h : PromisedHandle T P) (x : T). g.kept_by h.promise x) threads back
