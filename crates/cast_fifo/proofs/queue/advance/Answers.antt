use Rattle.std.proofs.Common.{append-nil, ◌+◌, ◌++◌, sym, ap, ◌∙◌, arith}
use Rattle.std.specs.Map.{keys_of}
use Rattle.cast_fifo.specs.Windows.{entries_of}
use Rattle.cast_fifo.proofs.Entries.{seen, past}
use Rattle.cast_fifo.proofs.Turns.{advanced_none, due_none}
use Rattle.cast_fifo.proofs.queue.advance.Goals as goal

pub returns-clause-items : goal.returns-clause-items
returns-clause-items c =
    let l = c.loop-item in
    let none = due_none l.next l.closed l.far.entries (past l.next (l.next + 4096) (keys_of l.far.entries) (omega arith) l.invariant.window.beyond) l.ring.items (sym c.take_marked.ensures.item ∙ c.in_default.is) in
    sym (append-nil l.items.items) ∙ ap (λ xs. l.items.items ++ xs) (sym none.0) ∙ l.invariant.items

pub returns-clause-after : goal.returns-clause-after
returns-clause-after c =
    let l = c.loop-item in
    let none = due_none l.next l.closed l.far.entries (past l.next (l.next + 4096) (keys_of l.far.entries) (omega arith) l.invariant.window.beyond) l.ring.items (sym c.take_marked.ensures.item ∙ c.in_default.is) in
    ap (λ r. seen l.next l.closed r l.far.entries) c.in_default.ensures.ring ∙ sym (advanced_none l.next l.closed (entries_of l.next l.ring.items l.far.entries) none.0) ∙ l.invariant.after
