-- The elements read so far, and those that are left.
use Rattle.std.proofs.Common.{◌≡◌, ℕ, suc, ◌+◌, ◌<◌, List, [], ◌∷◌, ◌++◌, length, get_or, drop, drop-cons, add-one, add-zero, map, Option, Result, Ok, Err, append-nil, ap, sym, ◌∙◌, refl, arith}
use Rattle.serde_json.specs.declared.value.Value.{Value}
use Rattle.serde_json.specs.Data.{Data}
use Rattle.serde_json.specs.View.{view}
use Rattle.cast_script.specs.declared.script.ScriptFault.{ScriptFault}
use Rattle.cast_script.specs.Faults.{at_index, elements_from}

abbrev pub with_front : {A : Type 0} → List A → Result (List A) ScriptFault → Result (List A) ScriptFault
with_front front (Ok xs) = Ok (front ++ xs)
with_front front (Err fault) = Err fault

with_front-nil : {A : Type 0} (r : Result (List A) ScriptFault) → with_front [] r ≡ r
with_front-nil (Ok xs) = refl
with_front-nil (Err fault) = refl

-- reading stands at i
pub record IsReading {A : Type 0} (element : Data → Option A) (first : ℕ) (elements : List A) (i : ℕ) (values : List Value) : Type 0 where
  pub goes_on : with_front elements (elements_from element (first + i) (map view (drop i values))) ≡ elements_from element first (map view values)

pub reading_start : {A : Type 0} (element : Data → Option A) (first : ℕ) (values : List Value) → IsReading element first [] 0 values
reading_start element first values = record { goes_on = rw add-zero (with_front-nil _) }

pub next_value : (values : List Value) (i : ℕ) (x : Value) → i < length values → x ≡ get_or values i x → drop i values ≡ x ∷ drop (i + 1) values
next_value values i x within is = rw add-one (drop-cons values i x within ∙ ap (λ y. y ∷ drop (suc i) values) (sym is))

here : {A : Type 0} (element : Data → Option A) (first : ℕ) (elements : List A) (i : ℕ) (values : List Value) (x : Value) → i < length values → x ≡ get_or values i x → IsReading element first elements i values
    → with_front elements (at_index (first + i) (element (view x)) (elements_from element (first + (i + 1)) (map view (drop (i + 1) values)))) ≡ elements_from element first (map view values)
here element first elements i values x within is reading =
    let same : first + (i + 1) ≡ first + i + 1 = omega arith in
    rw same (ap (λ vs. with_front elements (elements_from element (first + i) (map view vs))) (sym (next_value values i x within is)) ∙ reading.goes_on)

pub reading_done : {A : Type 0} {element : Data → Option A} {first : ℕ} {elements : List A} {i : ℕ} {values : List Value} → IsReading element first elements i values → drop i values ≡ [] → elements_from element first (map view values) ≡ Ok elements
reading_done {elements = elements} reading none = sym reading.goes_on ∙ rw none (ap Ok (append-nil elements))
