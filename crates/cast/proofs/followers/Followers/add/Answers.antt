use Rattle.std.proofs.Common.{◌∷◌, ◌++◌, [], ap, sym, subst, ◌∙◌}
use Rattle.cast.specs.Followers.{AreNewFollowers}
use Rattle.cast.proofs.Hearing.{followers_with}
use Rattle.cast.proofs.followers.Followers.add.Goals as goal

pub invariant_of-self : goal.invariant_of-self
invariant_of-self g c = subst (AreNewFollowers g.M.Machine.stands) (sym c.in_err-push.ensures.items) c.self.invariant

pub invariant_of-self-2 : goal.invariant_of-self-2
invariant_of-self-2 g c =
    let stands = g.M.Machine.stands in
    subst (AreNewFollowers stands) (sym c.in_ok-push.ensures.items)
    (followers_with stands c.self.inside.list.items c.args.node c.args.follower c.self.invariant c.requires)

pub returns-clause-ok : goal.returns-clause-ok
returns-clause-ok g c = c.in_ok-push.ensures.items ∙ ap (λ l. l ++ (c.args.node, c.args.follower) ∷ []) c.self.view_is
