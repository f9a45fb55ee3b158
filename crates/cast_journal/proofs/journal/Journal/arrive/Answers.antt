use Rattle.std.proofs.Common.{◌+◌, None, refl, ap, subst, arith}
use Rattle.cast_model.specs.Steps.{Arrived}
use Rattle.cast_journal.specs.Journals.{JournalState, LogsStep}
use Rattle.cast_journal.proofs.Journaling.{logged, gives_live}
use Rattle.cast_journal.proofs.journal.Journal.arrive.Goals as goal

pub invariant_of-self-2 : goal.invariant_of-self-2
invariant_of-self-2 c =
    let i = c.self.inside in
    logged i.config _ _ i.node _ i.log.entries _ i.clock _ i.crash i.ended i.turns _ _ c.self.view_is c.requires.may c.self.invariant (omega (arith, c.max-stamp.ensures), λ other. absurd cc) c.push_arrived.ensures.entries c.push_arrived.ensures.room refl
    (gives_live i.node _ _ _ c.in_ok-outcome.ensures.exact refl)

pub returns-clause-ok : goal.returns-clause-ok
returns-clause-ok c =
    let i = c.self.inside in
    let new : JournalState = record { config = i.config; node = c.arrive.new.self; log = c.push_arrived.new.self.entries; clock = c.max-stamp.result + 1; crash = i.crash; ended = i.ended; turns = i.turns } in
    let P : JournalState → Type 0 = λ old. LogsStep old new (Arrived c.args.parcel.now.frame) None c.args.parcel.now.stamp in
    subst P c.self.view_is (record {
      answer = _;
      stamp = c.max-stamp.result + 1;
      gives = c.in_ok-outcome.ensures.exact;
      logs = record { same_config = refl; same_crash = refl; log = c.push_arrived.ensures.entries; clock = refl };
      next = ap (λ m. m + 1) c.max-stamp.ensures;
    })
