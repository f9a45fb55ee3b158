use Rattle.std.proofs.Common.{◌≡◌, ◌+◌, ◌-◌, ◌≤◌, ◌++◌, length, take, length-append, arith}
use Rattle.std.proofs.lemmas.Grind.{common_steps}
use Rattle.cast_text.specs.Text.{input_limit}
use Rattle.cast_text.proofs.InputLemmas.{given_with}
use Rattle.cast_text.proofs.input.read_input.Goals as goal

pub returns-then-is_err-clause-taken : goal.returns-then-is_err-clause-taken
returns-then-is_err-clause-taken g c =
    let piece = take c.in-Ok.count c.read.new.buf in
    let size : length (take c.in-Ok.count c.read.new.buf) ≡ c.in-Ok.count = grind (arith, common_steps) in
    let asked : c.in-Ok.count ≤ 67108865 - length c.loop-count.bytes.items = grind (arith, common_steps) in
    let few : length (c.loop-count.bytes.items ++ take c.in-Ok.count c.read.new.buf) ≤ input_limit + 1 = omega (arith, length-append c.loop-count.bytes.items piece, size, asked, c.loop-count.invariant.short) in
    given_with _ piece c.loop-count.invariant.given few c.in-Ok.ensures.bytes.0
