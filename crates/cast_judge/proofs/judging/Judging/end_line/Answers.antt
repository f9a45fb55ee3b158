use Rattle.std.proofs.Common.{◌≡◌, ◌+◌, ◌^◌, ◌<◌, ◌≤◌, List, [], ◌∷◌, ◌++◌, ℕ, Some, length, refl, ap, ◌∙◌, subst, arith}
use Rattle.std.proofs.lemmas.Bool.Decides.{nat_tests}
use Rattle.std.proofs.lemmas.Grind.{common_steps}
use Rattle.cast_message.proofs.Results.{on_err}
use Rattle.cast_judge.specs.Judges.{Judges}
use Rattle.cast_judge.specs.Judged.{IsReading, state_with, lines_with}
use Rattle.cast_judge.specs.declared.judging.State.TheVariants.{Reading}
use Rattle.cast_judge.proofs.JudgedLemmas.{was_reading, reading_state, moved, line_counted, let_go, too_long}
use Rattle.cast_judge.proofs.WantLemmas.{is_of, wanted_whole, wanted_begun}
use Rattle.cast_judge.proofs.judging.Judging.end_line.Goals as goal

pub returns-then-is_empty-clause-stands : goal.returns-then-is_empty-clause-stands
returns-then-is_empty-clause-stands c text st =
    let self = c.args.self.now in
    let part = c.args.part.now in
    let none : c.args.self.now.tail.items ≡ [] = grind (arith, nat_tests, common_steps) in
    let short : c.args.self.now.lines < 2 ^ 63 = omega arith in
    let h = subst (λ (tail : List ℕ). IsReading text self.kept tail self.lines) none (was_reading self.state text self.kept self.tail.items self.lines c.requires.reading st) in
    let counted = line_counted text [] part self.kept c.judge_line.new.kept self.lines c.in_ok-broken.broken h c.requires.clean short c.in_ok-broken.ensures.judged in
    moved (state_with c.in_ok-broken.broken Reading) c.count.new.self.state (text ++ (part ++ 10 ∷ [])) c.judge_line.new.kept c.count.new.self.kept [] c.count.new.self.tail.items (lines_with c.in_ok-broken.broken self.lines) c.count.new.self.lines
    (c.count.ensures.state ∙ ap (state_with c.in_ok-broken.broken) (reading_state self.state c.requires.reading)) c.count.ensures.kept (ap (λ t. t.items) c.count.ensures.tail ∙ none) c.count.ensures.lines counted

pub returns-then-is_too_long-clause-stands : goal.returns-then-is_too_long-clause-stands
returns-then-is_too_long-clause-stands c text st =
    let self = c.args.self.now in
    let part = c.args.part.now in
    let long : 4096 < length c.args.self.now.tail.items + length c.args.part.now = grind (arith, nat_tests) in
    let h = was_reading self.state text self.kept self.tail.items self.lines c.requires.reading st in
    let new = c.offend.new.self in
    moved (state_with (Some 0) Reading) new.state (text ++ (part ++ 10 ∷ [])) self.kept new.kept [] new.tail.items self.lines new.lines
    c.offend.ensures.state c.offend.ensures.kept c.offend.ensures.tail c.offend.ensures.lines
    (let_go text (text ++ (part ++ 10 ∷ [])) self.tail.items self.kept self.lines 0 h (too_long text self.tail.items part (10 ∷ []) self.kept self.lines h c.requires.clean long))

pub returns-clause-stands : goal.returns-clause-stands
returns-clause-stands c text st =
    let self = c.args.self.now in
    let part = c.args.part.now in
    let short : c.args.self.now.lines < 2 ^ 63 = omega arith in
    let h = was_reading self.state text self.kept self.tail.items self.lines c.requires.reading st in
    let new = c.count-2.new.self in
    let whole : c.as_slice.result.now ≡ self.tail.items ++ part = c.as_slice.ensures.value ∙ c.in_ok-extend_from_slice.ensures.items in
    let counted = line_counted text self.tail.items part self.kept c.judge_line-2.new.kept self.lines c.in_ok-broken-2.broken h c.requires.clean short
    (λ past s few. subst (λ (bytes : List ℕ). Judges past bytes c.in_ok-broken-2.broken c.judge_line-2.new.kept) whole (c.in_ok-broken-2.ensures.judged past s few)) in
    moved (state_with c.in_ok-broken-2.broken Reading) new.state (text ++ (part ++ 10 ∷ [])) c.judge_line-2.new.kept new.kept [] new.tail.items (lines_with c.in_ok-broken-2.broken self.lines) new.lines
    (c.count-2.ensures.state ∙ ap (state_with c.in_ok-broken-2.broken) (reading_state self.state c.requires.reading)) c.count-2.ensures.kept (ap (λ t. t.items) c.count-2.ensures.tail ∙ c.clear.ensures.items) c.count-2.ensures.lines counted

pub returns-in_err-broken-clause-wants : goal.returns-in_err-broken-clause-wants
returns-in_err-broken-clause-wants c text after st =
    let self = c.args.self.now in
    let none : c.args.self.now.tail.items ≡ [] = grind (arith, nat_tests, common_steps) in
    let h = is_of text self c.requires.reading st in
    on_err _ (wanted_whole text c.args.part.now after self _ h none (c.in_err-broken.ensures.wants h.past h.stands) refl)

pub returns-in_err-extend_from_slice-clause-wants : goal.returns-in_err-extend_from_slice-clause-wants
returns-in_err-extend_from_slice-clause-wants c text after st =
    let self = c.args.self.now in
    let some : 0 < length c.args.self.now.tail.items = grind (arith, nat_tests, common_steps) in
    let short : length c.args.self.now.tail.items + length c.args.part.now ≤ 4096 = grind (arith, nat_tests) in
    on_err _
    (wanted_begun text c.args.part.now after self _ (is_of text self c.requires.reading st) some short refl)

pub returns-in_err-broken-2-clause-wants : goal.returns-in_err-broken-2-clause-wants
returns-in_err-broken-2-clause-wants c text after st =
    let self = c.args.self.now in
    let some : 0 < length c.args.self.now.tail.items = grind (arith, nat_tests, common_steps) in
    let short : length c.args.self.now.tail.items + length c.args.part.now ≤ 4096 = grind (arith, nat_tests) in
    on_err _
    (wanted_begun text c.args.part.now after self _ (is_of text self c.requires.reading st) some short refl)
