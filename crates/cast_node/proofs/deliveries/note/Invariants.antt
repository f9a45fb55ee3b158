use Rattle.std.proofs.Common.{◌≡◌, ◌≤◌, ◌-◌, ◌++◌, suc, length, replicate, vec_len}
use Rattle.std.specs.Prelude.{vec_capacity}
use Rattle.std.specs.FinSet as set
use Rattle.cast_node.proofs.deliveries.note.Given as goal

abbrev pub invariant-loop-empty : goal.invariant-loop-empty
invariant-loop-empty l =
    record {
      items : l.row.items ≡ l.fn.row.items ++ replicate (l._empty - length l.fn.row.items) set.empty;
      upto : l._empty - length l.fn.row.items ≤ suc l.fn.number - length l.fn.row.items;
      len : vec_len l.row ≡ l._empty;
      room : vec_capacity l.row ≡ vec_capacity l.fn.row;
    }
