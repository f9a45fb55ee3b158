-- A record that is judged as it is made.
use Rattle.std.proofs.Common.{◌≡◌, ℕ, List, [], ◌∷◌, ◌++◌, append-nil, append_assoc, sym, ap, subst, ◌∙◌, refl, Option, Some, None, Result, Ok, Err}
use Rattle.std.specs.Prelude.{IfOk}
use Rattle.std.specs.declared.alloc.AllocError.{AllocError}
use Rattle.cast_message.specs.declared.config.Config.{Config}
use Rattle.cast_message.specs.declared.event.Answer.{Answer}
use Rattle.cast_message.specs.declared.event.Event.{Event}
use Rattle.cast_message.specs.declared.event.StepFault.{StepFault}
use Rattle.cast_model.specs.History.{History}
use Rattle.cast_model.specs.Replies.{after, after_by, answer, fault, reply, reply_by}
use Rattle.cast_world.specs.Moves.{IsSilent}
use Rattle.cast_record.specs.Lines.{lines_for}
use Rattle.cast_record.specs.Text.{record_text}
use Rattle.cast_text.proofs.Recording.{no_lines}
use Rattle.cast_record.specs.declared.verdict.Verdict.{Verdict}
use Rattle.cast_record.specs.Verdicts.{verdict}
use Rattle.cast_judge.specs.declared.judging.Judging.{Judging}
use Rattle.cast_judge.specs.Judged.{Stands}

-- an event that brings no news was accepted, and leaves no line
pub silent_after : (config : Config) (past : History) (event : Event) → IsSilent (reply config past event) → after config past event ≡ event ∷ past
unfolding reply after
silent_after config past event silent = by_fault (fault config past event) silent
  where
    by_fault : (o : Option StepFault) → IsSilent (reply_by o (answer config past event)) → after_by o past event ≡ event ∷ past
    by_fault None silent = refl
    by_fault (Some refusal) silent = absurd silent

silent_lines : (index : ℕ) (event : Event) (r : Result Answer StepFault) → IsSilent r → lines_for index event r ≡ []
silent_lines index event (Ok given) silent = no_lines index event given silent
silent_lines index event (Err refusal) silent = absurd silent

pub fed_nothing : (index : ℕ) (event : Event) (r : Result Answer StepFault) (text : List ℕ) (judging : Judging) → IsSilent r → Stands text judging → Stands (text ++ record_text (lines_for index event r)) judging
fed_nothing index event r text judging silent st =
    subst (λ t. Stands t judging) (sym (ap (λ ls. text ++ record_text ls) (silent_lines index event r silent) ∙ append-nil text)) st

-- the whole is what the judge was fed, and the rest
pub record IsFed (whole rest : List ℕ) (judging : Judging) : Type 0 where
  pub fed : List ℕ
  pub parts : whole ≡ fed ++ rest
  pub stands : Stands fed judging

pub fed_none : (whole : List ℕ) (judging : Judging) → Stands [] judging → IsFed whole whole judging
fed_none whole judging st = record { fed = []; parts = refl; stands = st }

pub fed_more : (whole piece rest next : List ℕ) (before after : Judging) → IsFed whole next before → next ≡ piece ++ rest → ((text : List ℕ) → Stands text before → Stands (text ++ piece) after) → IsFed whole rest after
fed_more whole piece rest next before after is parts on = record {
  fed = is.fed ++ piece;
  parts = is.parts ∙ ap (λ r. is.fed ++ r) parts ∙ sym (append_assoc is.fed piece rest);
  stands = on is.fed is.stands;
}

pub fed_all : (whole : List ℕ) (judging : Judging) (result : Result Verdict AllocError) → IsFed whole [] judging → ((text : List ℕ) → Stands text judging → IfOk result (λ said. said ≡ verdict text)) → IfOk result (λ said. said ≡ verdict whole)
fed_all whole judging result is said = subst (λ text. IfOk result (λ v. v ≡ verdict text)) (sym (is.parts ∙ append-nil is.fed)) (said is.fed is.stands)
