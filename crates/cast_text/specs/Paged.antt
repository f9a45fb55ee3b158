-- How a page may fail: only out of memory. Nothing is said about its bytes.
use Rattle.std.specs.Prelude.{◌≡◌, ◌++◌, List, Result, Ok, Err, refl}
use Rattle.cast_text.specs.declared.fault.TextFault.{TextFault}
use Rattle.cast_text.specs.declared.fault.TextFault.TheVariants.{Memory}
use Rattle.cast_text.specs.Played.{Played, Observes}

abbrev pub FailsByMemory : {O : Type 0} → O → O → Result (Unit {0}) TextFault → List Played → Type 0
FailsByMemory old new (Ok done) seen = Unit {0}
FailsByMemory old new (Err fault) seen = fault ≡ Memory

more : {O : Type 0} (o p q : O) (result : Result (Unit {0}) TextFault) (first rest : List Played) → FailsByMemory o p (Ok tt) first → FailsByMemory p q result rest → FailsByMemory o q result (first ++ rest)
more o p q (Ok done) first rest one two = tt
more o p q (Err why) first rest one two = two

pub observes : {O : Type 0} → Observes {O = O} (FailsByMemory {O = O}) (λ _. Unit {0})
observes = record {
  none = λ o ready. tt;
  more = more;
  broken = λ o p why first rest fails. fails;
  wants = λ o whole ready. refl;
}
