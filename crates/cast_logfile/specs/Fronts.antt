-- What is left of logs after some steps were taken.
--     Taken logs at order        as many steps of each log as `at` says were taken, in this order
--     HasFront logs at n front   this one of the first n logs comes next, if a step is left
use Rattle.std.specs.Prelude.{◌≡◌, ℕ, ◌<◌, ◌≤◌, List, [], length, take, slice_index_or, Option, MatchOption}
use Rattle.cast_logfile.specs.declared.merging.Front.{Front}
use Rattle.cast_logfile.specs.declared.merging.StepPlace.{StepPlace}
use Rattle.cast_logfile.specs.Merging.{Logs, log_of, row}

abbrev pub taken_of : List ℕ → ℕ → ℕ
taken_of at p = slice_index_or at p 0

pub record Taken (logs : Logs) (at : List ℕ) (order : List StepPlace) : Type 0 where
  pub size : length at ≡ length logs
  pub within : (p : ℕ) → taken_of at p ≤ length (log_of logs p)
  pub rows : (p : ℕ) → row logs p order ≡ take (taken_of at p) (log_of logs p)

abbrev pub HasStep : Logs → List ℕ → ℕ → Type 0
HasStep logs at p = (p < length logs) × (taken_of at p < length (log_of logs p))

abbrev pub HasFront : Logs → List ℕ → ℕ → Option Front → Type 0
HasFront logs at n first =
    MatchOption first ((p : ℕ) → p < n → length (log_of logs p) ≤ taken_of at p)
    (λ front. HasStep logs at front.node)
