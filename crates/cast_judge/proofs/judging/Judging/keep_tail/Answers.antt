use Rattle.std.proofs.Common.{◌≡◌, ◌+◌, ◌<◌, ◌≤◌, [], ◌++◌, append-nil, false, Some, length, refl, sym, ◌∙◌, subst, arith}
use Rattle.std.proofs.lemmas.Bool.Decides.{nat_tests}
use Rattle.std.proofs.lemmas.Grind.{common_steps}
use Rattle.cast_message.proofs.Results.{ok_of, on_err}
use Rattle.cast_judge.specs.Kept.{is_ended_at}
use Rattle.cast_judge.specs.Judged.{Offends, state_with}
use Rattle.cast_judge.specs.declared.judging.State.TheVariants.{Reading}
use Rattle.cast_judge.proofs.JudgedLemmas.{was_reading, reading_state, moved, grown, line_goes_on, let_go, too_long, after_end}
use Rattle.cast_judge.proofs.WantLemmas.{is_of, wanted_unfinished}
use Rattle.cast_judge.proofs.judging.Judging.keep_tail.Goals as goal
use Rattle.cast_judge.proofs.judging.Judging.keep_tail.Goals.{then-is_ended-via-then-is_ended, then-is_ended-via-else-is_ended+then-is_too_long}

pub returns-then-is_ended-clause-stands : goal.returns-then-is_ended-clause-stands
returns-then-is_ended-clause-stands c text st =
    let self = c.args.self.now in
    let part = c.args.part.now in
    let some : 0 < length c.args.part.now = grind (arith, nat_tests, common_steps) in
    let h = was_reading self.state text self.kept self.tail.items self.lines c.requires.reading st in
    let new = c.offend.new.self in
    let offends : Offends (text ++ part) self.lines 0 = elim c.then-is_ended.branch [
      | then-is_ended-via-then-is_ended w ↦ after_end text self.tail.items part self.kept self.lines h c.requires.clean some (sym c.is_ended.ensures ∙ w.if-is_ended.true)
      | then-is_ended-via-else-is_ended+then-is_too_long w ↦
          let long : 4096 < length c.args.self.now.tail.items + length c.args.part.now = grind (arith, nat_tests) in
          subst (λ rest. Offends (text ++ rest) self.lines 0) (append-nil part) (too_long text self.tail.items part [] self.kept self.lines h c.requires.clean long)
    ] in
    moved (state_with (Some 0) Reading) new.state (text ++ part) self.kept new.kept [] new.tail.items self.lines new.lines
    c.offend.ensures.state c.offend.ensures.kept c.offend.ensures.tail c.offend.ensures.lines (let_go text (text ++ part) self.tail.items self.kept self.lines 0 h offends)

pub returns-clause-stands : goal.returns-clause-stands
returns-clause-stands c text st =
    let self = c.args.self.now in
    let part = c.args.part.now in
    let h = was_reading self.state text self.kept self.tail.items self.lines c.requires.reading st in
    ok_of c.extend_from_slice.result (grown c.extend_from_slice.result c.extend_from_slice.new.self.items self.tail.items part c.extend_from_slice.ensures.items)
    (λ items. moved Reading self.state (text ++ part) self.kept self.kept (self.tail.items ++ part) c.extend_from_slice.new.self.items self.lines self.lines
    (reading_state self.state c.requires.reading) refl items refl (line_goes_on text self.tail.items part self.kept self.lines h c.requires.clean))

pub returns-clause-wants : goal.returns-clause-wants
returns-clause-wants c text st =
    let self = c.args.self.now in
    let some : 0 < length c.args.part.now = grind (arith, nat_tests, common_steps) in
    let short : length c.args.self.now.tail.items + length c.args.part.now ≤ 4096 = grind (arith, nat_tests) in
    let going : is_ended_at c.args.self.now.kept.stage ≡ false = sym c.is_ended.ensures ∙ c.if-is_ended.false in
    on_err _
    (wanted_unfinished text c.args.part.now self _ (is_of text self c.requires.reading st) c.requires.clean some short going refl)
