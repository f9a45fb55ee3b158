use Rattle.cast_message.proofs.Results.{ok_of}
use Rattle.cast_draw.proofs.GiftLemmas.{given_none, given_next}
use Rattle.cast_draw.proofs.links.+give_on.Goals as goal

pub returns-in_default : goal.returns-in_default
returns-in_default t c = given_none c.args.me c.args.pair.now c.args.source c.args.peer c.args.rows.now c.in_default.ensures.cases

pub returns : goal.returns
returns t c =
    ok_of c.give_on.result c.give_on.ensures
    (given_next c.args.me c.args.pair.now c.args.source c.args.peer c.args.rows.now c.in-Some.rest.now c.give_on.new.rows c.in-Some.row.now c.give.new.row c.goes_on.result c.in-Some.ensures.cases.0 c.in_ok-give.ensures c.goes_on.ensures)
