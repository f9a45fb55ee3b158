use Rattle.std.proofs.Common.{◌∙◌, ap, Some, None}
use Rattle.cast_record.proofs.ReadLemmas.{exact}
use Rattle.cast_record.proofs.reading.read_line.Goals as goal

pub returns-in_ok-into_line-in-Some-clause-exact : goal.returns-in_ok-into_line-in-Some-clause-exact
returns-in_ok-into_line-in-Some-clause-exact c =
    let read = c.in_ok-into_line-in-Some in
    exact c.args.bytes.now (Some read.field-0) (ap Some read.ensures.exact ∙ c.in-Some.ensures)

pub returns-in-None-clause-exact : goal.returns-in-None-clause-exact
returns-in-None-clause-exact c = exact c.args.bytes.now None c.in-None.ensures
