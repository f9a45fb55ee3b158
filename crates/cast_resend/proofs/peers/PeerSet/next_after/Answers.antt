use Rattle.cast_resend.proofs.Members.{member_of_part, members_found, none_found}
use Rattle.cast_resend.proofs.peers.PeerSet.next_after.Goals as goal

pub returns-in-Some-clause-some : goal.returns-in-Some-clause-some
returns-in-Some-clause-some c = (member_of_part c.self.inside.word _ c.in-Some.next c.args.self.now c.self.view_is c.in-Some.ensures.some.0 c.in-Some.ensures.some.1, c.in-Some.ensures.some.1)

pub returns-in-None-clause-some : goal.returns-in-None-clause-some
returns-in-None-clause-some c = members_found c.self.inside.word c.args.self.now c.lowest-in-None.result c.self.view_is c.lowest-in-None.ensures.some

pub returns-in-None-clause-none : goal.returns-in-None-clause-none
returns-in-None-clause-none c = none_found c.self.inside.word c.args.self.now c.lowest-in-None.result c.self.view_is c.lowest-in-None.ensures.none
