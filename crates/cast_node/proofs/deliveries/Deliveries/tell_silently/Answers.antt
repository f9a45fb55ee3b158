use Rattle.std.proofs.Common.{◌≡◌, [], false, refl, sym, ap, subst, ◌∙◌}
use Rattle.cast_model.specs.OwnSteps.{nothing}
use Rattle.cast_fifo.specs.HeldBack.{held_of, known_items, known_after}
use Rattle.cast_node.specs.Delivering.{Delivering, noted, known_row, told_in, outcome_in}
use Rattle.cast_node.proofs.DeliveryTables.{row_same, noted_is, told_when, told_had}
use Rattle.cast_node.proofs.deliveries.Deliveries.tell_silently.Goals.{After-self-2-1, else-not-had_turn-via-then-not-had_turn+else-is_enough, else-not-had_turn-via-else-not-had_turn}
use Rattle.cast_node.proofs.deliveries.Deliveries.tell_silently.Goals as goal

pub returns-then-is_err-clause-not : goal.returns-then-is_err-clause-not
returns-then-is_err-clause-not c _ =
    row_same _ _ _ _ c.args.self.now c.self.view_is c.self.invariant c.from.result c.args.sender (c.from.ensures ∙ c.sender.view_is) c.requires.sender c.index_mut-row.result.now c.make_place.new.row c.index_mut-row.ensures.value c.make_place.ensures.same _ refl

-- nothing has its turn
silent : (c : After-self-2-1) → (noted c.args.self.now c.args.sender c.args.number c.args.members.now ≡ told_in c.args.config.now c.args.self.now c.args.sender c.args.number c.args.members.now) × (nothing ≡ outcome_in c.args.config.now c.args.self.now c.args.sender c.args.number c.args.members.now)
silent c = elim c.else-not-had_turn.branch [
  | else-not-had_turn-via-then-not-had_turn+else-is_enough w ↦ told_when c.args.config.now c.args.self.now c.args.sender c.args.number c.args.members.now false (sym w.is_enough.ensures ∙ w.if-is_enough.false)
  | else-not-had_turn-via-else-not-had_turn w ↦ told_had c.args.config.now c.args.self.now c.args.sender c.args.number c.args.members.now
      (subst (λ (ds : Delivering). known_items (held_of ds.hold_back c.args.sender) c.args.number ≡ []) c.self.view_is (c.had_turn-had_turn.ensures.nothing w.if-not-had_turn.false))
      (subst (λ (ds : Delivering). known_after (held_of ds.hold_back c.args.sender) c.args.number ≡ held_of ds.hold_back c.args.sender) c.self.view_is (c.had_turn-had_turn.ensures.same w.if-not-had_turn.false))
]

pub returns-clause-nothing : goal.returns-clause-nothing
returns-clause-nothing c _ = sym (silent c).1

pub returns-clause-told : goal.returns-clause-told
returns-clause-told c _ =
    noted_is _ _ _ _ c.args.self.now c.self.view_is c.self.invariant c.from.result c.args.sender (c.from.ensures ∙ c.sender.view_is) c.requires.sender c.index_mut-row.result.now c.make_place.new.row c.note.new.row c.args.number c.args.members.now _ c.args.self.now.hold_back
    c.index_mut-row.ensures.value c.make_place.ensures.same (c.note.ensures ∙ ap (known_row c.make_place.new.row.items c.args.number) c.copy.ensures) (ap (λ (ds : Delivering). ds.hold_back) c.self.view_is)
    ∙ (silent c).0
