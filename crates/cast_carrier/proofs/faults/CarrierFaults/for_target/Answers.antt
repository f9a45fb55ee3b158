use Rattle.std.proofs.Common.{◌≡◌, ◌<◌, length, slice_get, sym, ap, ◌∙◌, arith, rules}
use Rattle.std.proofs.lemmas.Bool.Decides.{nat_tests}
use Rattle.std.specs.List.{filter}
use Rattle.cast_carrier.specs.Plans.{is_to}
use Rattle.cast_carrier.proofs.Lists.{read_at}
use Rattle.cast_carrier.proofs.Targets.{fated_alike}
use Rattle.cast_carrier.proofs.faults.CarrierFaults.for_target.Goals as goal

pub returns-in-Some : goal.returns-in-Some
returns-in-Some c =
    let all = c.self.inside.all.items in
    let rows = c.deref.result.now in
    let row = c.in-Some.row.now in
    let place = c.from.result in
    let is : place ≡ c.args.to = search rules in
    let within : place < length rows = grind (arith, nat_tests, c.in-Some.ensures.lookup.0) in
    let at = ap (λ rs. slice_get rs place) (sym c.deref.ensures.value) ∙ read_at rows place row within c.in-Some.ensures.lookup.1 in
    let own = c.self.invariant place row at ∙ ap (λ n. filter (is_to n) all) is ∙ ap (filter (is_to c.args.to)) c.self.view_is in
    fated_alike c.args.to c.as_slice.result.now c.args.self.now (c.as_slice.ensures.value ∙ own)
