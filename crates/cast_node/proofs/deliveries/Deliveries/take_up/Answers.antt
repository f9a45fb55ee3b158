use Rattle.std.proofs.Common.{refl, sym, ap, subst, ◌++◌, ◌≡◌, ◌∙◌, true, []}
use Rattle.std.specs.Prelude.{Some}
use Rattle.cast_message.proofs.Results.{on_err}
use Rattle.cast_fifo.specs.HeldBack.{held_of, heard_items}
use Rattle.cast_fifo.specs.Calls.{Offer, held_after, answer}
use Rattle.cast_agree.specs.Journal.{counted_all}
use Rattle.cast_node.specs.Delivering.{Delivering, heard_by, heard_news, waits_by}
use Rattle.cast_node.proofs.DeliveryTables.{row_same, both_same, noted_is, told_is, waited, passed}
use Rattle.cast_node.proofs.deliveries.Deliveries.take_up.Goals as goal

pub returns-in_err-make_place-clause-err : goal.returns-in_err-make_place-clause-err
returns-in_err-make_place-clause-err c =
    on_err c.from_residual.result (row_same _ _ _ _ c.args.self.now c.self.view_is c.self.invariant c.from-place.result c.args.message.sender (c.from-place.ensures ∙ c.sender.view_is) c.requires.sender c.index_mut-row.result.now c.make_place.new.row c.index_mut-row.ensures.value c.make_place.ensures.same _ refl)

pub returns-in_err-keep-clause-err : goal.returns-in_err-keep-clause-err
returns-in_err-keep-clause-err c =
    on_err c.from_residual-in_err-keep.result (row_same _ _ _ _ c.args.self.now c.self.view_is c.self.invariant c.from-place.result c.args.message.sender (c.from-place.ensures ∙ c.sender.view_is) c.requires.sender c.index_mut-row.result.now c.make_place.new.row c.index_mut-row.ensures.value c.make_place.ensures.same c.keep.new.hold_back c.in_err-keep.ensures.err)

pub returns-then-not-enough-clause-outcome : goal.returns-then-not-enough-clause-outcome
returns-then-not-enough-clause-outcome c =
    let nothing_due = subst (λ (ds : Delivering). c.is_enough-enough.result ≡ true → answer ds.hold_back (Offer c.args.message) ≡ []) c.self.view_is c.in_ok-keep.ensures.nothing in
    c.no_news.ensures ∙ (waited c.args.config.now c.args.self.now c.args.message c.args.members c.requires.sender c.is_enough-enough.result c.is_enough-enough.ensures nothing_due).1

pub returns-then-not-enough-clause-ok : goal.returns-then-not-enough-clause-ok
returns-then-not-enough-clause-ok c =
    let nothing_due = subst (λ (ds : Delivering). c.is_enough-enough.result ≡ true → answer ds.hold_back (Offer c.args.message) ≡ []) c.self.view_is c.in_ok-keep.ensures.nothing in
    noted_is _ _ _ _ c.args.self.now c.self.view_is c.self.invariant c.from-place.result c.args.message.sender (c.from-place.ensures ∙ c.sender.view_is) c.requires.sender c.index_mut-row.result.now c.make_place.new.row c.note.new.row c.args.message.number c.args.members c.keep.new.hold_back (held_after c.args.self.now.hold_back (waits_by c.is_enough-enough.result c.args.message)) c.index_mut-row.ensures.value c.make_place.ensures.same c.note.ensures
    (c.in_ok-keep.ensures.ok ∙ ap (λ (ds : Delivering). held_after ds.hold_back (waits_by c.is_enough-enough.result c.args.message)) c.self.view_is)
    ∙ (waited c.args.config.now c.args.self.now c.args.message c.args.members c.requires.sender c.is_enough-enough.result c.is_enough-enough.ensures nothing_due).0

pub returns-in_err-outcome-clause-err : goal.returns-in_err-outcome-clause-err
returns-in_err-outcome-clause-err c =
    let same = c.in_err-outcome.ensures.err in
    on_err c.from_residual-in_err-outcome.result (both_same _ _ _ _ c.args.self.now c.self.view_is c.self.invariant c.from-place.result c.args.message.sender (c.from-place.ensures ∙ c.sender.view_is) c.requires.sender c.index_mut-row.result.now c.make_place.new.row c.index_mut-items.result.now c.deliver.new.items c.deliver.new.hold_back c.deliver.new.agree c.index_mut-row.ensures.value c.make_place.ensures.same c.index_mut-items.ensures.value same.1 same.0 same.2)

pub returns-clause-ok : goal.returns-clause-ok
returns-clause-ok c =
    let done = c.in_ok-outcome.ensures in
    let now = c.self.view_is in
    let m = c.args.message in
    told_is _ _ _ _ c.args.self.now c.self.view_is c.self.invariant c.from-place.result c.args.message.sender (c.from-place.ensures ∙ c.sender.view_is) c.requires.sender c.index_mut-row.result.now c.make_place.new.row c.note-2.new.row c.index_mut-items.result.now c.deliver.new.items c.args.message.number c.args.members _ (heard_by c.args.self.now.hold_back m.sender m.number (Some m.item)) (heard_items (held_of c.args.self.now.hold_back m.sender) m.number (Some m.item)) (heard_news c.args.self.now.hold_back m.sender m.number (Some m.item)) _
    c.index_mut-row.ensures.value c.make_place.ensures.same c.note-2.ensures c.index_mut-items.ensures.value
    (done.items ∙ ap (λ (ds : Delivering). c.index_mut-items.result.now.items ++ heard_items (held_of ds.hold_back m.sender) m.number (Some m.item)) now)
    (done.hold_back ∙ ap (λ (ds : Delivering). heard_by ds.hold_back m.sender m.number (Some m.item)) now)
    (done.agree ∙ ap (λ (ds : Delivering). counted_all c.self.inside.agree (heard_news ds.hold_back m.sender m.number (Some m.item))) now)
    ∙ passed c.args.config.now c.args.self.now m c.args.members c.requires.sender (sym c.is_enough-enough.ensures ∙ c.if-not-enough.false)
