use Rattle.std.proofs.Common.{◌≡◌, [], true, false, refl, sym, ap, subst, ◌++◌, ◌∙◌}
use Rattle.std.specs.Prelude.{None}
use Rattle.cast_message.proofs.Results.{on_err}
use Rattle.cast_fifo.specs.HeldBack.{held_of, heard_items, known_items, known_after}
use Rattle.cast_model.specs.OwnSteps.{nothing}
use Rattle.cast_agree.specs.Journal.{counted_all}
use Rattle.cast_node.specs.Delivering.{Delivering, heard_by, heard_news, noted, told_in, outcome_in}
use Rattle.cast_node.proofs.DeliveryTables.{row_same, both_same, noted_is, told_is, told_when, told_had}
use Rattle.cast_node.proofs.deliveries.Deliveries.tell.Goals.{After-no_news, else-not-had_turn-via-then-not-had_turn+else-is_enough, else-not-had_turn-via-else-not-had_turn}
use Rattle.cast_node.proofs.deliveries.Deliveries.tell.Goals as goal

pub returns-in_err-make_place-clause-err : goal.returns-in_err-make_place-clause-err
returns-in_err-make_place-clause-err c =
    on_err c.from_residual.result (row_same _ _ _ _ c.args.self.now c.self.view_is c.self.invariant c.from-place.result c.args.sender (c.from-place.ensures ∙ c.sender.view_is) c.requires.sender c.index_mut-row.result.now c.make_place.new.row c.index_mut-row.ensures.value c.make_place.ensures.same _ refl)

pub returns-in_err-outcome-clause-err : goal.returns-in_err-outcome-clause-err
returns-in_err-outcome-clause-err c =
    let same = c.in_err-outcome.ensures.err in
    on_err c.from_residual-in_err-outcome.result (both_same _ _ _ _ c.args.self.now c.self.view_is c.self.invariant c.from-place.result c.args.sender (c.from-place.ensures ∙ c.sender.view_is) c.requires.sender c.index_mut-row.result.now c.make_place.new.row c.index_mut-items.result.now c.deliver.new.items c.deliver.new.hold_back c.deliver.new.agree c.index_mut-row.ensures.value c.make_place.ensures.same c.index_mut-items.ensures.value same.1 same.0 same.2)

pub returns-then-is_enough-clause-ok : goal.returns-then-is_enough-clause-ok
returns-then-is_enough-clause-ok c =
    let done = c.in_ok-outcome.ensures in
    let now = c.self.view_is in
    told_is _ _ _ _ c.args.self.now c.self.view_is c.self.invariant c.from-place.result c.args.sender (c.from-place.ensures ∙ c.sender.view_is) c.requires.sender c.index_mut-row.result.now c.make_place.new.row c.note.new.row c.index_mut-items.result.now c.deliver.new.items c.args.number c.args.members _ (heard_by c.args.self.now.hold_back c.args.sender c.args.number None) (heard_items (held_of c.args.self.now.hold_back c.args.sender) c.args.number None) (heard_news c.args.self.now.hold_back c.args.sender c.args.number None) _
    c.index_mut-row.ensures.value c.make_place.ensures.same c.note.ensures c.index_mut-items.ensures.value
    (done.items ∙ ap (λ (ds : Delivering). c.index_mut-items.result.now.items ++ heard_items (held_of ds.hold_back c.args.sender) c.args.number None) now)
    (done.hold_back ∙ ap (λ (ds : Delivering). heard_by ds.hold_back c.args.sender c.args.number None) now)
    (done.agree ∙ ap (λ (ds : Delivering). counted_all c.self.inside.agree (heard_news ds.hold_back c.args.sender c.args.number None)) now)
    ∙ (told_when c.args.config.now c.args.self.now c.args.sender c.args.number c.args.members true (sym c.is_enough.ensures ∙ c.if-is_enough.true)).0

-- nothing has its turn
silent : (c : After-no_news) → (noted c.args.self.now c.args.sender c.args.number c.args.members ≡ told_in c.args.config.now c.args.self.now c.args.sender c.args.number c.args.members) × (nothing ≡ outcome_in c.args.config.now c.args.self.now c.args.sender c.args.number c.args.members)
silent c = elim c.else-not-had_turn.branch [
  | else-not-had_turn-via-then-not-had_turn+else-is_enough w ↦ told_when c.args.config.now c.args.self.now c.args.sender c.args.number c.args.members false (sym w.is_enough.ensures ∙ w.if-is_enough.false)
  | else-not-had_turn-via-else-not-had_turn w ↦ told_had c.args.config.now c.args.self.now c.args.sender c.args.number c.args.members
      (subst (λ (ds : Delivering). known_items (held_of ds.hold_back c.args.sender) c.args.number ≡ []) c.self.view_is (c.had_turn-had_turn.ensures.nothing w.if-not-had_turn.false))
      (subst (λ (ds : Delivering). known_after (held_of ds.hold_back c.args.sender) c.args.number ≡ held_of ds.hold_back c.args.sender) c.self.view_is (c.had_turn-had_turn.ensures.same w.if-not-had_turn.false))
]

pub returns-clause-outcome : goal.returns-clause-outcome
returns-clause-outcome c = c.no_news.ensures ∙ (silent c).1

pub returns-clause-ok : goal.returns-clause-ok
returns-clause-ok c =
    noted_is _ _ _ _ c.args.self.now c.self.view_is c.self.invariant c.from-place.result c.args.sender (c.from-place.ensures ∙ c.sender.view_is) c.requires.sender c.index_mut-row.result.now c.make_place.new.row c.note-2.new.row c.args.number c.args.members _ c.args.self.now.hold_back c.index_mut-row.ensures.value c.make_place.ensures.same c.note-2.ensures (ap (λ (ds : Delivering). ds.hold_back) c.self.view_is)
    ∙ (silent c).0
