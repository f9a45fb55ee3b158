use Rattle.std.proofs.Common.{◌≡◌, ◌+◌, ◌∷◌, ◌++◌, take, drop, nat_eq, position, None, sym, ap, subst, ◌∙◌, arith}
use Rattle.cast_message.proofs.Results.{on_err}
use Rattle.cast_record.proofs.ItemWordLemmas.{from_on}
use Rattle.cast_record.proofs.PartLemmas.{none_before, none_passes}
use Rattle.cast_judge.specs.declared.judging.Judging.{Judging}
use Rattle.cast_judge.specs.Judged.{Stands, WantedMemory}
use Rattle.cast_judge.proofs.PieceLemmas.{line_at}
use Rattle.cast_judge.proofs.judging.Judging.take_line.Goals as goal

pub returns-in_default-find_line_feed-clause-taken : goal.returns-in_default-find_line_feed-clause-taken
returns-in_default-find_line_feed-clause-taken c =
    let none : position (λ b. nat_eq b 10) c.args.bytes.now ≡ None = sym c.find_line_feed.ensures ∙ c.in_default-find_line_feed.is in
    (c.in_default.ensures.taken, none_passes (λ b. nat_eq b 10) c.args.bytes.now none)

pub end_line-requires-clause-clean : goal.end_line-requires-clause-clean
end_line-requires-clause-clean c = none_before (λ b. nat_eq b 10) c.args.bytes.now c.in-Some-find_line_feed.at (sym c.in-Some-find_line_feed.ensures)

pub returns-clause-taken : goal.returns-clause-taken
returns-clause-taken c =
    let bytes = c.args.bytes.now in
    let at = c.in-Some-find_line_feed.at in
    let same = c.in_default.ensures.taken in
    record {
      line = take at bytes;
      cut = line_at bytes at (sym c.in-Some-find_line_feed.ensures) ∙ ap (λ after. take at bytes ++ 10 ∷ after) (sym (from_on (at + 1) bytes));
      lines = omega (arith, c.in_ok-end_line.ensures.lines, ap (λ (j : Judging). j.lines) same);
      going = c.in_ok-end_line.ensures.ok;
      emptied = c.in_ok-end_line.ensures.emptied;
      stands = λ text st. c.in_ok-end_line.ensures.stands text (subst (λ (j : Judging). Stands text j) (sym same) st);
    }

pub returns-in_err-end_line-clause-wants : goal.returns-in_err-end_line-clause-wants
returns-in_err-end_line-clause-wants c text st =
    let bytes = c.args.bytes.now in
    let at = c.in-Some-find_line_feed.at in
    let same = c.in_default.ensures.taken in
    let new = c.end_line.new.self in
    let after = drop (at + 1) bytes in
    let wanted = c.in_err-end_line.ensures.wants text after (subst (λ (j : Judging). Stands text j) (sym same) st) in
    on_err _
    (subst (λ b. WantedMemory (text ++ b) c.args.self.now new) (sym (line_at bytes at (sym c.in-Some-find_line_feed.ensures)))
    (subst (λ (j : Judging). WantedMemory (text ++ (take at bytes ++ 10 ∷ after)) j new) same wanted))
