use Rattle.std.proofs.Common.{◌≡◌, ◌+◌, ◌^◌, ◌<◌, [], ◌∷◌, ◌++◌, List, ℕ, ap, ◌∙◌, subst, arith}
use Rattle.std.proofs.lemmas.Bool.Decides.{nat_tests}
use Rattle.std.proofs.lemmas.Grind.{common_steps}
use Rattle.cast_judge.specs.Judged.{IsReading, is_refused_state}
use Rattle.cast_judge.specs.declared.judging.State.TheVariants.{Reading}
use Rattle.cast_judge.proofs.JudgedLemmas.{was_reading, reading_state, moved, taken_counted}
use Rattle.cast_judge.proofs.judging.Judging.take_delivery.Goals as goal

pub returns-clause-taken : goal.returns-clause-taken
returns-clause-taken c =
    let self = c.args.self.now in
    let new = c.count.new.self in
    let taken = c.in_ok-after.ensures in
    let none : c.args.self.now.tail.items ≡ [] = grind (arith, nat_tests, common_steps) in
    let short : c.args.self.now.lines < 2 ^ 63 = omega arith in
    let state = c.count.ensures.state ∙ reading_state self.state c.requires.reading in
    record {
      line = taken.front;
      cut = taken.cut;
      lines = omega (arith, c.count.ensures.lines);
      going = ap is_refused_state state;
      emptied = ap (λ t. t.items) c.count.ensures.tail ∙ none;
      stands = λ text st.
          let h = subst (λ (tail : List ℕ). IsReading text self.kept tail self.lines) none (was_reading self.state text self.kept self.tail.items self.lines c.requires.reading st) in
          moved Reading new.state (text ++ (taken.front ++ 10 ∷ [])) c.take_delivery.new.kept new.kept [] new.tail.items (self.lines + 1) new.lines
          state c.count.ensures.kept (ap (λ t. t.items) c.count.ensures.tail ∙ none) c.count.ensures.lines
          (taken_counted text c.args.bytes.now c.in_ok-after.after.now self.kept c.take_delivery.new.kept self.lines h short taken);
    }
