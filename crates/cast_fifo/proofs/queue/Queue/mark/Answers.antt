use Rattle.std.proofs.Common.{append-nil, ◌++◌, length, sym, ap, ◌∙◌, inl, inr, arith}
use Rattle.std.proofs.lemmas.Bool.Decides.{eqb_tells}
use Rattle.cast_fifo.specs.HeldBack.{HeldBack, run_from, known_items}
use Rattle.cast_fifo.proofs.Turns.{marked_past, marked_elsewhere}
use Rattle.cast_fifo.proofs.queue.Queue.mark.Goals as goal

pub returns-then-number-self-clause-items : goal.returns-then-number-self-clause-items
returns-then-number-self-clause-items c =
    let none = marked_past _ _ _ _ c.args.self.now _ c.args.number c.self.invariant.0 c.self.invariant.1 c.self.view_is c.if-number-self.true in
    sym (ap (λ xs. c.args.items.now.items ++ xs) none.0 ∙ append-nil c.args.items.now.items)

pub returns-then-number-self-clause-after : goal.returns-then-number-self-clause-after
returns-then-number-self-clause-after c = sym (marked_past _ _ _ _ c.args.self.now _ c.args.number c.self.invariant.0 c.self.invariant.1 c.self.view_is c.if-number-self.true).1

pub returns-then-number-self-clause-other : goal.returns-then-number-self-clause-other
returns-then-number-self-clause-other c other = (marked_past _ _ _ _ c.args.self.now _ c.args.number c.self.invariant.0 c.self.invariant.1 c.self.view_is c.if-number-self.true).0

pub advance-requires-clause-room : goal.advance-requires-clause-room
advance-requires-clause-room c =
    let now = ap (λ (h : HeldBack). h.next) c.self.view_is in
    let run = ap length (ap (run_from c.self.inside.next) c.mark_at.ensures.entries ∙ ap (λ h. known_items h c.args.number) c.self.view_is) in
    elim (eqb_tells c.args.number c.self.inside.next) [
      | inl e ↦ let room = c.requires (e.1 ∙ now) in omega (arith, room, run)
      | inr e ↦
          let none = ap length (marked_elsewhere _ _ _ _ c.args.self.now _ c.args.number c.self.invariant.0 c.self.invariant.1 c.self.view_is e.1).0 in
          omega (arith, run, none, c.args.items.now.ok)
    ]

pub returns-clause-other : goal.returns-clause-other
returns-clause-other c other = (marked_elsewhere _ _ _ _ c.args.self.now _ c.args.number c.self.invariant.0 c.self.invariant.1 c.self.view_is (λ e. other (e ∙ ap (λ (h : HeldBack). h.next) c.self.view_is))).0
