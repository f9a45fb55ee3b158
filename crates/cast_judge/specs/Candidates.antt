-- The values proposed in an instance, and which of them are decided.
--     is_decided candidates value      the first candidate for the value says that it is decided
use Rattle.std.specs.Prelude.{ℕ, ◌==◌, if◌then◌else◌, Bool, true, false, List, [], ◌∷◌, ◌++◌, length, position, slice_set, slice_index_or, Option, Some, None}
use Rattle.std.specs.List.{list_any, filter}
use Rattle.cast_judge.specs.declared.candidates.Candidate.{Candidate}

abbrev pub is_for : ℕ → Candidate → Bool
is_for value candidate = candidate.value == value

-- a value that is proposed, and one that is decided
abbrev pub proposed_as : ℕ → Candidate
proposed_as value = record { value = value; decided = false }

abbrev pub decided_as : ℕ → Candidate
decided_as value = record { value = value; decided = true }

abbrev pub decided_at : List Candidate → Option ℕ → Bool
decided_at candidates None = false
decided_at candidates (Some place) = (slice_index_or candidates place (proposed_as 0)).decided

abbrev pub is_decided : List Candidate → ℕ → Bool
is_decided candidates value = decided_at candidates (position (is_for value) candidates)

abbrev pub count_decided : List Candidate → ℕ
count_decided candidates = length (filter (λ candidate. candidate.decided) candidates)

abbrev pub with_candidate : List Candidate → ℕ → List Candidate
with_candidate candidates value =
    if list_any (is_for value) candidates then candidates else candidates ++ proposed_as value ∷ []

abbrev pub decision_at : List Candidate → ℕ → Option ℕ → List Candidate
decision_at candidates value None = candidates
decision_at candidates value (Some place) = slice_set candidates place (decided_as value)

abbrev pub with_decision : List Candidate → ℕ → List Candidate
with_decision candidates value = decision_at candidates value (position (is_for value) candidates)
