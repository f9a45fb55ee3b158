use Rattle.cast_carrier.proofs.carrier.hand_on.Goals as goal

pub returns : goal.returns
returns g c = (c.put_copy.new.inboxes.items, c.put_copy.ensures, c.put.ensures)
