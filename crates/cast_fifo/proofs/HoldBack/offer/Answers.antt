use Rattle.std.proofs.Common.{◌≡◌, ◌<◌, length, ap, sym, ◌∙◌, arith}
use Rattle.std.proofs.lemmas.List.{get_or_default}
use Rattle.cast_model.specs.History.{numbered}
use Rattle.cast_fifo.specs.HeldBack.{HeldBack, nothing_held, held_of, with_item, known_items}
use Rattle.cast_fifo.proofs.Turns.{numbered-none, next_kept}
use Rattle.cast_fifo.proofs.HoldBack.offer.Goals as goal

pub returns-clause-messages : goal.returns-clause-messages
returns-clause-messages c =
    let next = λ (h : HeldBack). h.next in
    let number = c.args.message.number in
    let sender = c.args.message.sender in
    let held = held_of c.args.self.now sender in
    let inside : c.from.result < length c.self.inside.senders.items = omega (arith, c.from.ensures, c.sender.view_is, ap length c.self.view_is, c.requires.sender) in
    let at : c.index_mut-queue.result.now ≡ held = c.index_mut-queue.ensures.value ∙ get_or_default c.self.inside.senders.items c.from.result _ nothing_held inside ∙ (λ k. held_of (c.self.view_is k) ((c.from.ensures ∙ c.sender.view_is) k)) in
    let kept = c.in_ok-hold.ensures.ok ∙ ap (λ h. with_item h number c.args.message.item) at in
    let none = ap (λ h. known_items h number) (sym kept) ∙ c.mark.ensures.other (λ e. c.if-number-next.false (e ∙ ap next kept ∙ next_kept held number c.args.message.item ∙ sym c.next.ensures)) in
    c.new-2.ensures.items ∙ sym (ap (numbered sender held.next) none ∙ numbered-none sender held.next)
