-- A log with an entry more.
use Rattle.std.proofs.Common.{◌≡◌, ℕ, suc, ◌+◌, ◌≤◌, List, [], ◌∷◌, ◌++◌, length, slice_index_or, refl, ap, sym, subst, ◌∙◌, arith, length-append}
use Rattle.std.specs.List.{All}
use Rattle.std.proofs.lemmas.List.{get_or_append_left, get_or_push, map_push, length_push}
use Rattle.std.proofs.lemmas.List.Elements.{All-push}
use Rattle.cast_log.specs.declared.entry.EntryKind.{EntryKind}
use Rattle.cast_log.specs.declared.log.Brief.{Brief}
use Rattle.cast_log.specs.declared.log.Brief.TheVariants.{Sent, Acked, Arrived, Whole}
use Rattle.cast_log.specs.declared.log.Row.{Row}
use Rattle.cast_log.specs.Logged.{entry_with, no_kind, kind_of, entry_of, entries_of, IsPlaced, IsWithin, StartsWith, IsLog}

-- what is kept whole stays where more is
pub kind_more : (whole tail : List EntryKind) (brief : Brief) (n : ℕ) → IsPlaced (length whole) brief n
    → kind_of (whole ++ tail) brief n ≡ kind_of whole brief n
kind_more whole tail (Sent from to) n _ = refl
kind_more whole tail (Acked from to) n _ = refl
kind_more whole tail (Arrived from) n _ = refl
kind_more whole tail Whole n placed = get_or_append_left whole tail no_kind n placed

entries_more : (whole tail : List EntryKind) (rows : List Row) → All (IsWithin (length whole)) rows
    → entries_of (whole ++ tail) rows ≡ entries_of whole rows
entries_more whole tail [] within = refl
entries_more whole tail (row ∷ rows) within =
    let here : kind_of (whole ++ tail) row.brief row.number ≡ kind_of whole row.brief row.number =
    kind_more whole tail row.brief row.number (within 0 row (omega arith)) in
    let rest : entries_of (whole ++ tail) rows ≡ entries_of whole rows =
    entries_more whole tail rows (λ k d below. within (suc k) d (omega arith)) in
    λ i. entry_with row.stamp (here i) ∷ rest i

-- they tell one entry more
pub entries_put : (whole more : List EntryKind) (rows after : List Row) (row : Row) (kind : EntryKind)
    → All (IsWithin (length whole)) rows → StartsWith more whole → after ≡ rows ++ row ∷ []
    → kind_of more row.brief row.number ≡ kind
    → entries_of more after ≡ entries_of whole rows ++ entry_with row.stamp kind ∷ []
entries_put whole more rows after row kind within starts put tells =
    ap (entries_of more) put
    ∙ map_push (entry_of more) rows row
    ∙ (λ i. entries_of (starts.1 i) rows ++ entry_with row.stamp (tells i) ∷ [])
    ∙ ap (λ es. es ++ entry_with row.stamp kind ∷ []) (entries_more whole starts.0 rows within)

-- where it is kept whole
pub whole_put : (whole more : List EntryKind) (rows after : List Row) (row : Row) (kind : EntryKind)
    → IsLog whole rows → more ≡ whole ++ kind ∷ [] → after ≡ rows ++ row ∷ [] → row.brief ≡ Whole → length whole ≡ row.number
    → entries_of more after ≡ entries_of whole rows ++ entry_with row.stamp kind ∷ []
whole_put whole more rows after row kind is put pushed brief at =
    entries_put whole more rows after row kind is.within (kind ∷ [], put) pushed
    (ap (λ b. kind_of more b row.number) brief ∙ ap (λ l. slice_index_or l row.number no_kind) put ∙ get_or_push whole kind no_kind row.number at)
