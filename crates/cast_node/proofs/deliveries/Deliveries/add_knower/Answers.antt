use Rattle.std.proofs.Common.{◌∙◌, refl, ap}
use Rattle.std.specs.Prelude.{slice_index_or}
use Rattle.std.specs.FinSet as set
use Rattle.cast_node.specs.Delivering.{Delivering, known_row}
use Rattle.cast_node.proofs.DeliveryTables.{row_is, noted_is}
use Rattle.cast_node.proofs.deliveries.Deliveries.add_knower.Goals as goal

pub returns : goal.returns
returns c =
    let at = c.from.ensures ∙ c.sender.view_is in
    let row = row_is _ _ _ _ c.args.self.now c.self.view_is c.self.invariant c.from.result c.args.sender at c.requires.sender c.index_mut-row.result.now c.index_mut-row.ensures.value in
    noted_is _ _ _ _ c.args.self.now c.self.view_is c.self.invariant c.from.result c.args.sender at c.requires.sender c.index_mut-row.result.now c.index_mut-row.result.now c.note_one.new.row c.args.number _ _ c.args.self.now.hold_back
    c.index_mut-row.ensures.value refl (c.note_one.ensures ∙ ap (λ known. known_row c.index_mut-row.result.now.items c.args.number (set.insert (slice_index_or known c.args.number set.empty) c.args.node)) row) (ap (λ (ds : Delivering). ds.hold_back) c.self.view_is)
