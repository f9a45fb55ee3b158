use Rattle.std.proofs.Common.{◌≡◌, ◌+◌, ◌||◌, ◌++◌, ◌∷◌, [], drop, length, sym, ap, ◌∙◌, append_assoc, arith}
use Rattle.cast_message.specs.declared.message.Item.{Item}
use Rattle.cast_message.specs.Items.{is_close}
use Rattle.cast_fifo.specs.HeldBack.{run_from, advanced}
use Rattle.cast_fifo.specs.Windows.{entries_of, front_item}
use Rattle.cast_fifo.proofs.Entries.{seen}
use Rattle.cast_fifo.proofs.Turns.{front_starts}
use Rattle.cast_fifo.proofs.queue.Queue.take.Goals as goal
use Rattle.cast_fifo.proofs.queue.Queue.take.Goals.{After-pass}

pub pass-requires-clause-room : goal.pass-requires-clause-room
pass-requires-clause-room c =
    let begun = front_starts _ _ _ _ c.args.self.now _ c.args.item c.self.invariant.0 c.self.view_is in
    omega (arith, ap length begun.0, c.requires.room)

-- what waits once the first has passed
rest : (c : After-pass) → run_from c.pass.new.next (entries_of c.pass.new.next c.pass.new.ring.items c.pass.new.far.entries) ≡ run_from (c.self.inside.next + 1) (entries_of (c.self.inside.next + 1) (drop 1 c.self.inside.ring.items) c.self.inside.far.entries)
rest c =
    ap (run_from c.pass.new.next) c.pass.ensures.waiting
    ∙ (λ i. run_from (c.pass.ensures.next i) (entries_of (c.pass.ensures.next i) (c.take_front-first.ensures.ring i) c.self.inside.far.entries))

pub advance-requires-clause-room : goal.advance-requires-clause-room
advance-requires-clause-room c =
    let begun = front_starts _ _ _ _ c.args.self.now _ c.args.item c.self.invariant.0 c.self.view_is in
    omega (arith, ap length begun.0, ap length (rest (goal.at.advance-requires-clause-room c).After-pass), c.pass.ensures.len, c.pass.ensures.room, c.requires.room)

pub returns-clause-items : goal.returns-clause-items
returns-clause-items c =
    let begun = front_starts _ _ _ _ c.args.self.now _ c.args.item c.self.invariant.0 c.self.view_is in
    let items = c.args.items.now.items in
    c.advance.ensures.items
    ∙ (λ i. (c.pass.ensures.items ∙ ap (λ (x : Item). items ++ x ∷ []) c.take_front-first.ensures.item) i ++ rest (goal.at.returns-clause-items c).After-pass i)
    ∙ append_assoc items _ _
    ∙ ap (λ xs. items ++ xs) (sym begun.0)

pub returns-clause-after : goal.returns-clause-after
returns-clause-after c =
    let begun = front_starts _ _ _ _ c.args.self.now _ c.args.item c.self.invariant.0 c.self.view_is in
    let next = c.pass.ensures.next in
    c.advance.ensures.after
    ∙ (λ i. advanced (record { next = c.pass.new.next; closed = (c.pass.ensures.closed ∙ ap (λ x. c.self.inside.closed || is_close x) c.take_front-first.ensures.item) i; waiting = c.pass.ensures.waiting i }))
    ∙ (λ i. advanced (seen (next i) (c.self.inside.closed || is_close (front_item c.self.inside.ring.items c.args.item)) (c.take_front-first.ensures.ring i) c.self.inside.far.entries))
    ∙ sym begun.1
