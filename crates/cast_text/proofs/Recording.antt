-- What of the record is written, line by line.
use Rattle.std.proofs.Common.{◌≡◌, ℕ, List, [], ◌∷◌, ◌++◌, Bool, Option, Result, Ok, Err, IfErr, false, refl, sym, ap, ◌∙◌, subst, append-nil}
use Rattle.std.proofs.KnownBytes.{Appends-nil}
use Rattle.cast_message.specs.declared.event.Event.{Event}
use Rattle.cast_message.specs.declared.event.Event.TheVariants.{Order, Send, Ack, Arrive, Crash}
use Rattle.cast_message.specs.declared.event.Answer.{Answer}
use Rattle.cast_message.specs.declared.event.Answer.TheVariants as answers
use Rattle.cast_world.specs.Moves.{IsSilent}
use Rattle.cast_record.specs.declared.line.Line.{Line}
use Rattle.cast_record.specs.declared.line.Line.TheVariants.{End}
use Rattle.cast_record.specs.Lines.{lines_for, outcome_lines}
use Rattle.cast_record.specs.Text.{record_text, line_text}
use Rattle.cast_record.proofs.WritingLemmas.{record_text-append}
use Rattle.cast_record.specs.Written.{WroteAll, WrotePrefix}
use Rattle.cast_text.specs.declared.fault.TextFault.{TextFault}
use Rattle.cast_text.specs.declared.fault.TextFault.TheVariants as faults
use Rattle.cast_text.specs.Played.{Played, Taken}
use Rattle.cast_text.specs.Recorded.{lines_at, lines_of}
use Rattle.cast_text.specs.Text.{BreaksOff, Writes, WroteFront}

-- the writer failed
pub prefix_breaks : {old new : Option (List ℕ)} {failed : Bool} {text : List ℕ} → WrotePrefix old new failed text → BreaksOff faults.Write old new failed text
prefix_breaks wrote = (wrote.broken, record { front = wrote.front; rest = wrote.rest; parts = wrote.parts; appends = wrote.appends })

-- whichever it broke off for, a front was written
pub front_of : (why : TextFault) (old new : Option (List ℕ)) (failed : Bool) (text : List ℕ) → BreaksOff why old new failed text → WroteFront old new text
front_of faults.Write old new failed text breaks = breaks.1
front_of faults.Memory old new failed text breaks = breaks.1
front_of faults.Read old new failed text breaks = absurd breaks
front_of faults.TooLong old new failed text breaks = absurd breaks
front_of (faults.Script why) old new failed text breaks = absurd breaks
front_of faults.NotV1 old new failed text breaks = absurd breaks
front_of (faults.Live why) old new failed text breaks = absurd breaks

-- a failed writer is no want of memory
pub not_memory : (P : Type 0) (result : Result (Unit {0}) TextFault) → IfErr result (λ fault. fault ≡ faults.Write) → IfErr result (λ fault. fault ≡ faults.Memory → P)
not_memory P (Ok done) is = tt
not_memory P (Err why) is = λ memory. absurd (cc)

-- an event at which nothing is ordered, delivered or decided leaves no line
pub no_lines : (index : ℕ) (event : Event) (answer : Answer) → IsSilent (Ok answer) → lines_for index event (Ok answer) ≡ []
no_lines index (Order node item) (answers.Sent seq) silent = refl
no_lines index (Send from to slot) (answers.Sent seq) silent = refl
no_lines index (Ack from to slot) (answers.Sent seq) silent = refl
no_lines index (Arrive from seq) (answers.Sent seq2) silent = refl
no_lines index (Crash node) (answers.Sent seq) silent = refl
no_lines index (Order node item) (answers.Arrived at outcome) silent = refl
no_lines index (Send from to slot) (answers.Arrived at outcome) silent = refl
no_lines index (Ack from to slot) (answers.Arrived at outcome) silent = refl
no_lines index (Arrive from seq) (answers.Arrived at outcome) silent = ap (outcome_lines at) silent
no_lines index (Crash node) (answers.Arrived at outcome) silent = refl
no_lines index event (answers.Ordered number outcome) silent = absurd silent
no_lines index event answers.Down silent = absurd silent

lines_of_one : (one : Played) → lines_of (one ∷ []) ≡ lines_at one
unfolding lines_of
lines_of_one one = append-nil (lines_at one)

pub writes_one : (old new : Option (List ℕ)) (failed : Bool) (result : Result (Unit {0}) TextFault) (one : Played) → Writes old new failed result (record_text (lines_at one)) → Writes old new failed result (record_text (lines_of (one ∷ [])))
writes_one old new failed result one wrote = subst (λ ls. Writes old new failed result (record_text ls)) (sym (lines_of_one one)) wrote

pub writes_silently : (old : Option (List ℕ)) (failed : Bool) (index : ℕ) (event : Event) (answer : Answer) → failed ≡ false → IsSilent (Ok answer) → WroteAll old old failed (record_text (lines_of (Taken index event (Ok answer) ∷ [])))
writes_silently old failed index event answer sound silent =
    subst (λ ls. WroteAll old old failed (record_text ls)) (sym (lines_of_one (Taken index event (Ok answer)) ∙ no_lines index event answer silent)) (record { appends = Appends-nil old; sound = sound })

-- lines, and the end
pub ended : (lines : List Line) → record_text (lines ++ End ∷ []) ≡ record_text lines ++ (line_text End ++ 10 ∷ [])
ended lines = record_text-append lines (End ∷ []) ∙ ap (λ t. record_text lines ++ t) (append-nil (line_text End ++ 10 ∷ []))
