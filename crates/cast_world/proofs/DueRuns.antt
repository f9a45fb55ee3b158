-- Runs of slots that are due: one run more, and some of the first slots taken off.
use Rattle.std.proofs.Common.{◌≡◌, ℕ, zero, suc, ◌+◌, ◌-◌, ◌<◌, ◌≤◌, refl, drop, take, sym, ◌∙◌, ap, List, [], ◌∷◌, ◌++◌, length, map, get_or, arith, append_assoc, append-nil, length-append}
use Rattle.std.specs.Prelude.{slice_set}
use Rattle.std.specs.List.{flat_map, range_with_len}
use Rattle.std.proofs.lemmas.List.{drop-map, drop-append-le}
use Rattle.std.proofs.lemmas.List.FromFn.{length-map-range_with_len, take-map-range_with_len}
use Rattle.cast_world.specs.Plans.{due_of}
use Rattle.cast_world.specs.DueRuns.{slots_of, slots_from}
use Rattle.cast_world.specs.declared.due_run.Run.{Run}

-- one more run
slots_more : (place : ℕ) (runs : List Run) (run : Run) → place ≤ length runs → slots_from place (runs ++ run ∷ []) ≡ slots_from place runs ++ slots_of run
slots_more zero [] run within = append-nil (slots_of run)
slots_more zero (first ∷ runs) run within = ap (λ slots. slots_of first ++ slots) (slots_more zero runs run (omega arith)) ∙ sym (append_assoc (slots_of first) (flat_map slots_of runs) (slots_of run))
slots_more (suc place) [] run within = absurd (omega (arith, within))
slots_more (suc place) (first ∷ runs) run within = slots_more place runs run (omega (arith, within))

range_drop : (n a m : ℕ) → drop n (range_with_len a m) ≡ range_with_len (a + n) (m - n)
range_drop zero a m = λ k. range_with_len ((let e : a ≡ a + 0 = omega arith in e) k) ((let e : m ≡ m - 0 = omega arith in e) k)
range_drop (suc n) a zero = ap (range_with_len (a + suc n)) (let e : 0 ≡ 0 - suc n = omega arith in e)
range_drop (suc n) a (suc m) =
    range_drop n (a + 1) m
    ∙ (λ k. range_with_len ((let e : (a + 1) + n ≡ a + suc n = omega arith in e) k) ((let e : m - n ≡ suc m - suc n = omega arith in e) k))

-- the slots of a run after some of the first
pub run_after : (from to count first more : ℕ) → count ≤ more → map (due_of from to) (range_with_len (first + count) (suc (more - count))) ≡ drop count (map (due_of from to) (range_with_len first (suc more)))
run_after from to count first more within = sym (
    drop-map (due_of from to) count (range_with_len first (suc more))
    ∙ ap (map (due_of from to)) (range_drop count first (suc more) ∙ ap (range_with_len (first + count)) (let e : suc more - count ≡ suc (more - count) = omega (arith, within) in e))
    )

drop_all : {A : Type 0} (xs ys : List A) (n : ℕ) → n ≡ length xs → drop n (xs ++ ys) ≡ ys
drop_all [] ys n e = ap (λ k. drop k ys) e
drop_all (x ∷ xs) ys n e = ap (λ k. drop k (x ∷ xs ++ ys)) e ∙ drop_all xs ys (length xs) refl

drop_beyond : {A : Type 0} (xs ys : List A) (n : ℕ) → length xs ≤ n → drop n (xs ++ ys) ≡ drop (n - length xs) ys
drop_beyond [] ys n l = ap (λ k. drop k ys) (let e : n ≡ n - 0 = omega arith in e)
drop_beyond (x ∷ xs) ys zero l = absurd (omega (arith, l))
drop_beyond (x ∷ xs) ys (suc n) l = drop_beyond xs ys n (omega (arith, l)) ∙ ap (λ k. drop k ys) (let e : n - length xs ≡ suc n - suc (length xs) = omega arith in e)

pub length-slots_of : (run : Run) → length (slots_of run) ≡ run.more + 1
length-slots_of run = length-map-range_with_len (due_of run.from run.to) run.first (suc run.more) ∙ (let e : suc run.more ≡ run.more + 1 = omega arith in e)

-- the first run, and the others
pub slots_first : (place : ℕ) (runs : List Run) (run : Run) → place < length runs → run ≡ get_or runs place run → slots_from place runs ≡ slots_of run ++ slots_from (place + 1) runs
slots_first place [] run within is = absurd (omega (arith, within))
slots_first zero (first ∷ runs) run within is = ap (λ r. slots_of r ++ flat_map slots_of runs) (sym is)
slots_first (suc place) (first ∷ runs) run within is =
    slots_first place runs run (omega (arith, within)) is
    ∙ ap (λ n. slots_of run ++ slots_from n (first ∷ runs)) (let e : suc (place + 1) ≡ suc place + 1 = omega arith in e)

pub first_split : (place : ℕ) (runs : List Run) (run : Run) → place < length runs → run ≡ get_or runs place run → slots_from place runs ≡ slots_of run ++ drop (run.more + 1) (slots_from place runs)
first_split place runs run within is =
    let whole = slots_first place runs run within is in
    whole ∙ ap (λ rest. slots_of run ++ rest) (sym (ap (drop (run.more + 1)) whole ∙ drop_all (slots_of run) (slots_from (place + 1) runs) (run.more + 1) (sym (length-slots_of run))))

-- some of the first slots are taken off, within the first run
pub skip_within : (place count : ℕ) (runs : List Run) (run after : Run) → place < length runs → run ≡ get_or runs place run → count ≤ run.more → slots_of after ≡ drop count (slots_of run) → slots_from place (slice_set runs place after) ≡ drop count (slots_from place runs)
skip_within place count [] run after within is few shorter = absurd (omega (arith, within))
skip_within zero count (first ∷ runs) run after within is few shorter =
    let long = length-slots_of run in
    ap (λ slots. slots ++ flat_map slots_of runs) shorter
    ∙ sym (ap (λ r. drop count (slots_of r ++ flat_map slots_of runs)) (sym is) ∙ drop-append-le count (slots_of run) (flat_map slots_of runs) (omega (arith, few, long)))
skip_within (suc place) count (first ∷ runs) run after within is few shorter = skip_within place count runs run after (omega (arith, within)) is few shorter

-- or beyond it
pub skip_beyond : (place count : ℕ) (runs : List Run) (run : Run) → place < length runs → run ≡ get_or runs place run → run.more < count → drop (count - run.more - 1) (slots_from (place + 1) runs) ≡ drop count (slots_from place runs)
skip_beyond place count runs run within is many =
    let long = length-slots_of run in
    sym (
    ap (drop count) (slots_first place runs run within is)
    ∙ drop_beyond (slots_of run) (slots_from (place + 1) runs) count (omega (arith, many, long))
    ∙ ap (λ n. drop n (slots_from (place + 1) runs)) (let e : count - length (slots_of run) ≡ count - run.more - 1 = omega (arith, long) in e)
    )

-- as many of the first
pub first_slots : (run : Run) (count : ℕ) → count ≤ run.more + 1 → map (due_of run.from run.to) (range_with_len run.first count) ≡ take count (slots_of run)
first_slots run count few = sym (take-map-range_with_len (due_of run.from run.to) run.first (suc run.more) count (omega (arith, few)))

pub length-pushed : (place : ℕ) (runs : List Run) (run : Run) → place ≤ length runs → length (slots_from place (runs ++ run ∷ [])) ≡ length (slots_from place runs) + (run.more + 1)
length-pushed place runs run within = ap length (slots_more place runs run within) ∙ length-append (slots_from place runs) (slots_of run) ∙ ap (λ n. length (slots_from place runs) + n) (length-slots_of run)
