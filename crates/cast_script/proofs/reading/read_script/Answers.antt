use Rattle.std.proofs.Common.{arith}
use Rattle.std.proofs.lemmas.Grind.{common_steps}
use Rattle.cast_script.proofs.ScriptLemmas.{value_takes_bytes}
use Rattle.cast_script.proofs.reading.read_script.Goals as goal

pub returns-then-is_empty : goal.returns-then-is_empty
returns-then-is_empty c d is = let some = value_takes_bytes c.args.bytes.now d is in absurd (grind (arith, common_steps, some))
