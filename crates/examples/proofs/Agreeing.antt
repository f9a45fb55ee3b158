-- Sheets of journals that have the same of each sender are the same.
use Rattle.std.proofs.Common.{◌≡◌, ℕ, List, sym, ap, ◌∙◌, arith}
use Rattle.std.proofs.lemmas.List.{ext_get_or}
use Rattle.cast.specs.Types.{Message}
use Rattle.cast.specs.Told.{of_sender}
use Rattle.cast.proofs.Sums.{sums_agree}
use Rattle.examples.specs.declared.ledger.sheet.Sheet.{Sheet}
use Rattle.examples.specs.Law.{SheetsAgreeAtRest}
use Rattle.examples.specs.Sheets.{AreSums, IsSheetOf, transfer_in, received, sent, received_by, sent_by, capped}

same_lists : (one other : List ℕ) (total more : ℕ → ℕ) → AreSums one total → AreSums other more → ((a : ℕ) → total a ≡ more a) → one ≡ other
same_lists one other total more sums others same =
    ext_get_or 0 one other (sums.size ∙ sym others.size)
    (λ a within. sums.each a (omega (arith, sums.size)) ∙ ap capped (same a) ∙ sym (others.each a (omega (arith, sums.size))))

same_sheets : (one other : Sheet) (xs ys : List Message) → IsSheetOf one xs → IsSheetOf other ys → ((s : ℕ) → of_sender s xs ≡ of_sender s ys) → one ≡ other
same_sheets one other xs ys mine theirs same =
    let in_all = same_lists one.received other.received (received xs) (received ys) mine.received theirs.received
    (λ a. sums_agree (λ m. received_by a (transfer_in m.item)) xs ys same) in
    let out_all = same_lists one.sent other.sent (sent xs) (sent ys) mine.sent theirs.sent
    (λ a. sums_agree (λ m. sent_by a (transfer_in m.item)) xs ys same) in
    λ i. record { received = in_all i; sent = out_all i }

pub sheets_agree : SheetsAgreeAtRest
sheets_agree config faults followers run is rest few i j one other mine theirs =
    same_sheets one other _ _ (is.taken i one mine.0 mine.1 mine.2) (is.taken j other theirs.0 theirs.1 theirs.2)
    (λ s. is.agree rest few mine.0.node theirs.0.node s mine.3 theirs.3)
