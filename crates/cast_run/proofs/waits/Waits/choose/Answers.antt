use Rattle.std.proofs.Common.{◌∙◌, ap, length, inl, arith}
use Rattle.cast_box.proofs.Closing.{found}
use Rattle.cast_run.specs.Waits.{WaitsState}
use Rattle.cast_run.proofs.waits.Waits.choose.Goals as goal

pub returns-clause-next : goal.returns-clause-next
returns-clause-next g c =
    let live = c.args.self.now.live in
    let long = ap (λ (s : WaitsState). length s.live) (c.self-2.view_is ∙ c.find_overdue.ensures.same) in
    let it = found live c.next.result (omega (arith, c.next.ensures, c.len.ensures, c.self-2.inside.live.ok, long)) in
    (it.0, (it.1, inl c.in_default.ensures.none))
