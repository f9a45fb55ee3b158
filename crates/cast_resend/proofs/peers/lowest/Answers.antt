use Rattle.std.proofs.Common.{◌<◌, arith}
use Rattle.cast_resend.proofs.Members.{lowest_is, lowest_found}
use Rattle.cast_resend.proofs.peers.lowest.Goals as goal

pub returns-clause-some : goal.returns-clause-some
returns-clause-some c =
    let some : 0 < c.args.word = omega (arith, c.if-word-eq0.false) in
    lowest_found c.args.word c.from_number.result some c.ranges.word.fits (lowest_is c.args.word c.from.result c.from_number.result some c.ranges.word.fits c.from.ensures c.from_number.ensures)
