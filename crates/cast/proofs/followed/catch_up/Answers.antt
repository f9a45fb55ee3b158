use Rattle.std.proofs.Common.{◌≡◌, ◌++◌, length, drop, ap, subst, ◌∙◌, rules}
use Rattle.std.specs.Prelude.{slice_get}
use Rattle.cast_merge.specs.Told.{told}
use Rattle.cast_run.proofs.Each.{paired_more, paired_done}
use Rattle.cast.specs.Followed.{IsCaughtUp, told_by}
use Rattle.cast.proofs.followed.catch_up.Goals as goal

pub loop-follower-preserved : goal.loop-follower-preserved
loop-follower-preserved g c =
    let l = c.loop-follower in
    let stands = g.M.Machine.stands in
    let Is = IsCaughtUp stands c.args.reports.now c.args.clients.now in
    let many : c.len.result ≡ length l.machines.items = search rules in
    let same = c.as_slice.ensures ∙ c.in_ok-told.ensures ∙ ap (λ n. told_by c.args.reports.now (slice_get c.args.clients.now n)) many in
    let caught : Is (length l.machines.items) c.in-Some.follower c.caught_up.result =
    λ taken s. subst (λ all. stands c.caught_up.result (taken ++ told (drop c.in-Some.follower.heard all))) same (c.caught_up.ensures taken s) in (
      tt,
      tt,
      paired_more Is c.args.followers.items l.yielded _ l.machines.items l.invariant.2 c.in-Some.follower _ c.in-Some.ensures.steps.0 _ c.caught_up.result c.in_ok-push.ensures.items caught,
    )

pub returns : goal.returns
returns g c =
    let l = c.loop-follower in
    let done : length l.follower-iterator.rest.items ≡ 0 = search rules in
    paired_done (IsCaughtUp g.M.Machine.stands c.args.reports.now c.args.clients.now) c.args.followers.items l.yielded _ l.machines.items l.invariant.2 done
