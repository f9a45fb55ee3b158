use Rattle.std.proofs.Common.{◌≡◌, [], replicate}
use Rattle.std.specs.Prelude.{map}
use Rattle.cast_node.proofs.deliveries.Deliveries.new.Given as goal

abbrev pub invariant-loop-sender : goal.invariant-loop-sender
invariant-loop-sender l =
    record {
      rows : map (λ row. row.items) l.knowers.items ≡ replicate l._sender [];
      streams : map (λ items. items.items) l.delivered.items ≡ replicate l._sender [];
    }
