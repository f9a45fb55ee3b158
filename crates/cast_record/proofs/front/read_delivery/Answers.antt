use Rattle.std.proofs.Common.{◌-◌, take, drop, length, arith}
use Rattle.std.proofs.lemmas.Grind.{common_steps}
use Rattle.cast_record.proofs.FrontLemmas.{name_there, delivery_said}
use Rattle.cast_record.proofs.front.read_delivery.Goals as goal

pub returns-clause-words : goal.returns-clause-words
returns-clause-words c = record {
  after = take (length c.args.bytes.now - 2) (drop 2 c.args.bytes.now);
  head = name_there 100 c.args.bytes.now (take (length c.args.bytes.now - 2) (drop 2 c.args.bytes.now)) (omega arith) (grind (arith, common_steps)) (grind (arith, common_steps)) (grind (arith, common_steps));
  after_node = c.in_ok-node.rest.now;
  node = c.in_ok-node.ensures;
  after_sender = c.in_ok-sender.rest.now;
  sender = c.in_ok-sender.ensures;
  number = c.in_ok-number.ensures;
}

pub returns-clause-says : goal.returns-clause-says
returns-clause-says c =
    delivery_said c.args.bytes.now (take (length c.args.bytes.now - 2) (drop 2 c.args.bytes.now)) c.in_ok-node.rest.now c.in_ok-sender.rest.now c.in_ok-number.rest.now
    c.in_ok-node.node c.in_ok-sender.sender c.in_ok-number.number
    (omega arith) (grind (arith, common_steps)) (grind (arith, common_steps)) (grind (arith, common_steps))
    c.in_ok-node.ensures c.in_ok-sender.ensures c.in_ok-number.ensures
