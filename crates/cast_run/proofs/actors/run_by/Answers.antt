use Rattle.std.proofs.Common.{◌≡◌, ◌+◌, ◌*◌, ◌∙◌, ◌∷◌, [], ℕ, refl, sym, ap, subst, length, arith}
use Rattle.cast_engine.specs.Engines.{IsSameEngine}
use Rattle.cast_carrier.specs.Carriers.{IsSameCarrier}
use Rattle.cast_run.proofs.Still.{engine_self, carrier_self, still_self}
use Rattle.cast_run.specs.Waits.{WaitsState, AreNewActors}
use Rattle.cast_run.specs.Fairly.{Past}
use Rattle.cast_run.proofs.Fair.{Goes, goes_first, goes_on, goes_out, ran_fairly}
use Rattle.cast_run.proofs.actors.run_by.Goals as goal
use Rattle.cast_run.proofs.actors.run_by.Goals.{then-not-step, else-not-step}

pub loop-init : goal.loop-init
loop-init g c = (
  record {
    engines = still_self IsSameEngine engine_self c.args.actors.engines.items;
    carriers = still_self IsSameCarrier carrier_self c.args.actors.carriers.items;
    jobs_are = (refl, λ p s at. (s, at, c.requires.begun p s at));
  },
  c.in_ok-waits.ensures.0,
  c.in_ok-waits.ensures.1,
  ([], begun),
)
  where
    begun : Goes c.args.actors (length c.args.actors.engines.items) (length c.args.actors.jobs.items) c.args.actors c.in_ok-waits.waits []
    begun =
        let waits = c.in_ok-waits.waits in
        let made = c.in_ok-waits.ensures in
        let nodes : c.len.result ≡ length c.args.actors.engines.items = omega (arith, c.len.ensures, c.args.actors.engines.ok) in
        let jobs : c.len-2.result ≡ length c.args.actors.jobs.items = omega (arith, c.len-2.ensures, c.args.actors.jobs.ok) in
        let new = subst (λ (n : ℕ × ℕ). (waits.most ≡ 2 * n.0 + n.1) × AreNewActors n.0 n.1 waits.live) (λ i. (nodes i, jobs i)) (made.2, made.3) in
        goes_first c.args.actors (length c.args.actors.engines.items) (length c.args.actors.jobs.items) waits made.0 new.0 new.1

pub step-requires : goal.step-requires
step-requires g c = (c.args.actors, c.loop.invariant.0)

pub loop-preserved : goal.loop-preserved
loop-preserved g c =
    let stepped = ap (λ (s : WaitsState). s.steps) c.in-Some.ensures.next.2 in
    let longest = ap (λ (s : WaitsState). s.longest) c.in-Some.ensures.next.2 in
    let counted = c.loop.invariant.1 in
    let nodes = length c.args.actors.engines.items in
    let jobs = length c.args.actors.jobs.items in
    let so_far = c.loop.invariant.3 in
    let now : Past = (c.at.result, c.step.result) ∷ so_far.0 in
    let goes = goes_on c.args.actors nodes jobs c.loop.actors c.loop.waits so_far.0 so_far.1 c.in-Some.place c.next.new.self c.in-Some.ensures.next c.in-Some.ensures.fair c.at.result c.at.ensures c.step.new.self c.step.ensures.only c.step.result in
    let G' : WaitsState → Type 0 = λ s. Goes c.args.actors nodes jobs c.step.new.self s now in (
      c.step.ensures.same c.args.actors c.loop.invariant.0,
      elim c.if-not-step.branch [
        | then-not-step w ↦ omega (arith, ap (λ (s : WaitsState). s.steps) w.waits-is, ap (λ (s : WaitsState). s.steps) w.end.ensures.2, stepped, counted)
        | else-not-step w ↦ omega (arith, ap (λ (s : WaitsState). s.steps) w.waits-is, stepped, counted)
      ],
      elim c.if-not-step.branch [
        | then-not-step w ↦ ap (λ (s : WaitsState). s.longest) w.waits-is ∙ ap (λ (s : WaitsState). s.longest) w.end.ensures.2 ∙ longest ∙ c.loop.invariant.2
        | else-not-step w ↦ ap (λ (s : WaitsState). s.longest) w.waits-is ∙ longest ∙ c.loop.invariant.2
      ],
      (
        now,
        elim c.if-not-step.branch [
          | then-not-step w ↦ subst G' (sym w.waits-is)
              (goes_out c.args.actors nodes jobs c.loop.actors c.loop.waits so_far.0 so_far.1 c.in-Some.place c.next.new.self c.in-Some.ensures.next c.in-Some.ensures.fair c.at.result c.at.ensures c.step.new.self c.step.ensures.only c.step.result
              w.end.new.self w.end.ensures w.if-not-step.true)
          | else-not-step w ↦ subst G' (sym w.waits-is) goes
        ],
      ),
    )

pub returns-clause-fair : goal.returns-clause-fair
returns-clause-fair g c = ran_fairly c.args.actors c.loop.actors c.loop.waits c.args.steps.longest_wait c.loop.invariant.2 c.loop.invariant.3
