use Rattle.std.proofs.Common.{◌≡◌, ◌+◌, ◌<◌, ◌∷◌, ◌++◌, length, length-append, sym, ap, subst, ◌∙◌, List, ℕ, Option, option_map, Bor, arith}
use Rattle.cast_message.proofs.Results.{on_err}
use Rattle.cast_judge.specs.declared.judging.Judging.{Judging}
use Rattle.cast_judge.specs.Judged.{Stands, TakesLine, WantedMemory}
use Rattle.cast_judge.proofs.PieceLemmas.{reads_line, reads_done}
use Rattle.cast_judge.proofs.WantLemmas.{err_of, wanted_on}
use Rattle.cast_judge.proofs.judging.Judging.read.Goals as goal

pub returns-then-not-is_reading-clause-stands : goal.returns-then-not-is_reading-clause-stands
returns-then-not-is_reading-clause-stands c text st =
    let taken = subst (λ (after : Option (Bor (List ℕ))). TakesLine c.loop-after.rest.now c.loop-after.self c.take_line.new.self (option_map (λ rest. rest.now) after)) c.in-Some.is c.in_ok-after.ensures.taken in
    reads_done text c.args.piece.now c.loop-after.rest.now c.in-Some.after.now c.loop-after.self c.take_line.new.self taken (c.loop-after.invariant.stands text st)
    (sym c.is_reading.ensures ∙ c.if-not-is_reading.true)

pub loop-after-preserved : goal.loop-after-preserved
loop-after-preserved c =
    let taken = subst (λ (after : Option (Bor (List ℕ))). TakesLine c.loop-after.rest.now c.loop-after.self c.take_line.new.self (option_map (λ rest. rest.now) after)) c.in-Some.is c.in_ok-after.ensures.taken in
    let shorter : length c.loop-after.rest.now ≡ length taken.line + length (10 ∷ c.in-Some.after.now) = ap length taken.cut ∙ length-append taken.line (10 ∷ c.in-Some.after.now) in
    record {
      reading = sym c.is_reading.ensures ∙ c.if-not-is_reading.false;
      fed = c.in_ok-after.ensures.fed ∙ c.loop-after.invariant.fed;
      room = omega (arith, shorter, taken.lines, c.loop-after.invariant.room, c.in_ok-after.ensures.fed);
      within = omega (arith, shorter, c.loop-after.invariant.within);
      begun = λ some. absurd (omega (arith, some, ap length taken.emptied));
      stands = λ text st. reads_line text c.args.piece.now c.loop-after.rest.now c.in-Some.after.now c.loop-after.self c.take_line.new.self taken (c.loop-after.invariant.stands text st);
    }

pub returns-in_err-after-clause-some : goal.returns-in_err-after-clause-some
returns-in_err-after-clause-some c =
    let some : 0 < length c.args.piece.now = omega (arith, c.in_err-after.ensures.some, c.loop-after.invariant.within) in
    on_err _ some

pub returns-in_err-after-clause-wants : goal.returns-in_err-after-clause-wants
returns-in_err-after-clause-wants c text st =
    let r = c.loop-after.invariant.stands text st in
    on_err _
    (wanted_on text c.args.piece.now c.loop-after.rest.now c.args.self.now c.loop-after.self c.take_line.new.self c.loop-after.invariant.begun r (c.in_err-after.ensures.wants (text ++ r.front) r.stands))

pub returns-clause-some : goal.returns-clause-some
returns-clause-some c = err_of c.keep_tail.result c.keep_tail.ensures.some (λ some. omega (arith, some, c.loop-after.invariant.within))

pub returns-clause-wants : goal.returns-clause-wants
returns-clause-wants c text st =
    let piece = c.args.piece.now in
    let rest = c.loop-after.rest.now in
    let mid = c.loop-after.self in
    let new = c.keep_tail.new.self in
    let r = c.loop-after.invariant.stands text st in
    let same = (subst (λ (after : Option (Bor (List ℕ))). TakesLine rest mid c.take_line.new.self (option_map (λ rest. rest.now) after)) c.in_default.is c.in_ok-after.ensures.taken).0 in
    err_of c.keep_tail.result (c.keep_tail.ensures.wants (text ++ r.front) (subst (λ (j : Judging). Stands (text ++ r.front) j) (sym same) r.stands))
    (λ wanted. wanted_on text piece rest c.args.self.now mid new c.loop-after.invariant.begun r (subst (λ (j : Judging). WantedMemory ((text ++ r.front) ++ rest) j new) same wanted))
