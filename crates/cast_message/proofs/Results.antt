-- Claims of results: of those that are Ok, and of those that are not.
use Rattle.std.specs.Prelude.{Result, Ok, Err, OnOk, OnErr}

pub on_err : {X E P : Type 0} (r : Result X E) → P → OnErr r P
on_err (Ok x) p = tt
on_err (Err e) p = p

pub ok_of : {X E P Q : Type 0} (r : Result X E) → OnOk r P → (P → Q) → OnOk r Q
ok_of (Ok x) p f = f p
ok_of (Err e) p f = p
