use Rattle.cast_node.proofs.Owing.{given_none, given_next, first_room}
use Rattle.cast_node.proofs.giving.+give_all.Goals as goal

pub returns-in_default : goal.returns-in_default
returns-in_default t c = given_none c.args.first c.args.me c.args.source c.args.sender c.args.place c.args.links.now c.in_default.ensures.cases

pub give-requires : goal.give-requires
give-requires t c = first_room _ _ _ c.in-Some.ensures.cases.0 c.requires.room

pub returns : goal.returns
returns t c = given_next c.args.first c.args.me c.args.source c.args.sender c.args.place c.args.links.now c.in-Some.rest.now c.give_all.new.links c.in-Some.link.now c.give.new.link c.goes_on.result c.in-Some.ensures.cases.0 c.give.ensures c.goes_on.ensures c.give_all.ensures
