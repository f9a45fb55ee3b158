use Rattle.std.proofs.Common.{length}
use Rattle.serde_json.specs.View.{members_view}
use Rattle.cast_script.proofs.PlainLemmas.{AreRead}
use Rattle.cast_script.proofs.plain.members.Given as goal

abbrev pub invariant-members : goal.invariant-members
invariant-members l = AreRead l.initial.reader l.reader (members_view l.others.entries) l.events

abbrev pub decreases-members : goal.decreases-members
decreases-members l = length l.reader
