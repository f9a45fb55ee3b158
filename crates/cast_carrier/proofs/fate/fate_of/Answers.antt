use Rattle.std.proofs.Common.{◌≡◌, ◌∙◌, ◌<◌, ℕ, List, length, refl, rules}
use Rattle.std.specs.Prelude.{slice_index_or}
use Rattle.cast_carrier.specs.declared.fate.Ordinals.{Ordinals}
use Rattle.cast_carrier.proofs.Suffering.{got, fate_there, counted_there}
use Rattle.cast_carrier.proofs.fate.fate_of.Goals as goal

abbrev counts_at : List Ordinals → ℕ → Ordinals
counts_at all to = slice_index_or all to (record { carry = 0; took = 0 })

pub returns-clause-fate : goal.returns-clause-fate
returns-clause-fate c =
    let to = c.from-target.result in
    let is : to ≡ c.args.parcel.now.frame.to = search rules in
    let within : to < length c.args.ordinals.now = search rules in
    fate_there c.args.faults.now c.args.ordinals.now c.args.parcel.now.frame to (counts_at c.args.ordinals.now to) c.kind-kind.result c.count-ordinal.result c.fate_by.result is (got c.args.ordinals.now to _ within)
    c.kind-kind.ensures c.count-ordinal.ensures.ordinal (c.fate_by.ensures ∙ c.for_target.ensures _ refl)

pub returns-clause-counts : goal.returns-clause-counts
returns-clause-counts c =
    let to = c.from-target.result in
    let is : to ≡ c.args.parcel.now.frame.to = search rules in
    let within : to < length c.args.ordinals.now = search rules in
    counted_there c.args.ordinals.now c.args.parcel.now.frame to (counts_at c.args.ordinals.now to) c.count-ordinal.new.counts c.kind-kind.result is (got c.args.ordinals.now to _ within) c.kind-kind.ensures c.count-ordinal.ensures.counts
