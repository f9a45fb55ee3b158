use Rattle.std.proofs.Common.{◌≡◌, ◌∙◌, Option, Some, ap, sym, subst, inl, inr, ⊎_elim}
use Rattle.cast_node.specs.declared.report.EngineEnd.{EngineEnd}
use Rattle.cast_node.specs.declared.report.EngineEnd.TheVariants.{TurnLimit}
use Rattle.cast_journal.specs.Journals.{JournalState, HaltsBy, Rises, EndsAs}
use Rattle.cast_journal.proofs.journal.Journal.into_parts.Goals as goal

same_end : (x y : EngineEnd) → ◌≡◌ {A = Option EngineEnd} (Some x) (Some y) → x ≡ y
same_end x y e = cc

pub returns : goal.returns
returns c =
    let v = c.self.view_is in
    let end = c.unwrap.result in
    let ended : c.close.new.self.ended ≡ Some end = ap (λ (j : JournalState). j.ended) (sym v) ∙ c.unwrap.ensures in
    record {
      new = c.close.new.self;
      halts = c.close.ensures.halts;
      kept = c.close.ensures.kept;
      cause = λ none. ⊎_elim (λ (t : c.close.new.self.ended ≡ Some TurnLimit). inl (same_end end TurnLimit (sym ended ∙ t))) (λ (t : HaltsBy c.args.self c.close.new.self.ended). inr (subst (HaltsBy c.args.self) ended t))
          (c.close.ensures.cause none);
      late = c.close.ensures.late;
      parts = (c.close-2.ensures ∙ ap (λ (j : JournalState). j.log) v, ap (λ (j : JournalState). j.node) v, ended);
      rises = subst (λ (j : JournalState). Rises j.config.first_stamp j.log j.clock) v c.self.invariant.rises;
      ends = subst (λ (j : JournalState). EndsAs j.config.log_limit j.crash j.ended j.log) v c.self.invariant.ends;
      spent = λ out. ap (λ (j : JournalState). j.turns) (sym v) ∙ c.self.invariant.spent (c.unwrap.ensures ∙ ap (λ (x : EngineEnd). Some x) out);
    }
