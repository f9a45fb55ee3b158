use Rattle.std.proofs.Common.{sym}
use Rattle.cast_record.proofs.UnhexLemmas.{odd_says_none}
use Rattle.cast_record.proofs.unhex.unhexed.Goals as goal

pub returns-then-digits-ne0-clause-exact : goal.returns-then-digits-ne0-clause-exact
returns-then-digits-ne0-clause-exact c = sym (odd_says_none c.args.digits.now c.if-digits-ne0.true)
