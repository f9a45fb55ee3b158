use Rattle.std.proofs.Common.{sym, ap, ◌∙◌}
use Rattle.std.specs.Prelude.{unwrap_or}
use Rattle.cast_agree.specs.Tallies.{no_tally}
use Rattle.cast_agree.proofs.Maps.{get-lookup}
use Rattle.cast_agree.proofs.tally_of.Goals as goal

pub returns-in-Some : goal.returns-in-Some
returns-in-Some c = c.copy.ensures ∙ ap (λ o. unwrap_or o no_tally) (c.in-Some.ensures.value ∙ sym (get-lookup c.args.tallies.now.entries c.args.instance))

pub returns-in-None : goal.returns-in-None
returns-in-None c = c.new.ensures ∙ ap (λ o. unwrap_or o no_tally) (c.in-None.ensures.value ∙ sym (get-lookup c.args.tallies.now.entries c.args.instance))
