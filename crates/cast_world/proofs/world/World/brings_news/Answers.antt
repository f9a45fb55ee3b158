use Rattle.std.proofs.Common.{◌∙◌, ap, sym}
use Rattle.cast_model.specs.Steps.{Sent, Acknowledged}
use Rattle.cast_node.specs.Turns.{kept_fault}
use Rattle.cast_world.proofs.Offering.{news_none, news_carry, news_word}
use Rattle.cast_world.proofs.world.World.brings_news.Goals as goal

pub returns-in_default : goal.returns-in_default
returns-in_default c config past st = news_none config past c.args.self.now st c.args.from c.args.seq c.in_default.ensures.found.0

pub returns-then-is_acknowledgement : goal.returns-then-is_acknowledgement
returns-then-is_acknowledgement c config past st =
    c.is_owed.ensures
    ∙ news_word config past c.args.self.now st c.args.from c.args.seq c.in-Ok.mark c.node_of-target.result.now c.send_fault.result c.in-Ok.ensures.found c.node_of-target.ensures.node (sym c.is_acknowledgement.ensures ∙ c.if-is_acknowledgement.true)
    (c.send_fault.ensures ∙ ap (λ slot. kept_fault c.node_of-target.result.now (Sent c.args.from slot)) c.from-slot.ensures)

pub returns : goal.returns
returns c config past st =
    c.is_untaken.ensures
    ∙ news_carry config past c.args.self.now st c.args.from c.args.seq c.in-Ok.mark c.node_of-target.result.now c.ack_fault.result c.in-Ok.ensures.found c.node_of-target.ensures.node (sym c.is_acknowledgement.ensures ∙ c.if-is_acknowledgement.false)
    (c.ack_fault.ensures ∙ ap (λ slot. kept_fault c.node_of-target.result.now (Acknowledged c.args.from slot)) c.from-slot.ensures)
