use Rattle.cast_script.proofs.ItemLemmas.{IsListing}
use Rattle.cast_script.proofs.job.items.Given as goal

abbrev pub invariant-loop-value : goal.invariant-loop-value
invariant-loop-value l = IsListing l.items l.value-index l.values
