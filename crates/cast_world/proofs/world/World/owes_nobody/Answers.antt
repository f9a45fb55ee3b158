use Rattle.std.proofs.Common.{◌≡◌, ◌∙◌, Bool, true, false, refl, sym, ap, subst, arith}
use Rattle.std.specs.Prelude.{not}
use Rattle.std.specs.FinSet as set
use Rattle.cast_node.specs.Kept.{Kept}
use Rattle.cast_node.specs.Giving.{OwesNoneOf}
use Rattle.cast_world.proofs.Resting.{down_is_settled, owes_none}
use Rattle.cast_world.proofs.world.World.owes_nobody.Goals as goal

pub returns-then-not-live : goal.returns-then-not-live
returns-then-not-live c config past st = (λ _. down_is_settled config past c.args.self.now st c.args.giver c.requires.giver (sym (c.live.ensures ∙ ap (λ (k : Kept). k.live) c.node_of-node.ensures.node) ∙ c.if-not-live.true), λ _. refl)

pub remove-requires : goal.remove-requires
remove-requires c = omega (arith, c.requires.giver, c.node_of-node.ensures.size, c.args.self.now.config.nodes_in_range)

pub returns : goal.returns
returns c config past st =
    let others = c.remove.ensures ∙ ap (λ s. set.remove s c.args.giver) c.copy-others.ensures in
    let owes = owes_none config past c.args.self.now st c.args.giver c.requires.giver c.args.live.now c.remove.new.self c.requires.live others (sym (c.live.ensures ∙ ap (λ (k : Kept). k.live) c.node_of-node.ensures.node) ∙ c.if-not-live.false) in
    let at = c.node_of-node.ensures.node in (
      λ e. owes.0 (subst (λ (k : Kept). OwesNoneOf k.outgoing c.remove.new.self) at (c.owes_one_of.ensures.0 (was_false c.owes_one_of.result e))),
      λ h. ap not (c.owes_one_of.ensures.1 (subst (λ (k : Kept). OwesNoneOf k.outgoing c.remove.new.self) (sym at) (owes.1 h))),
    )
  where
    was_false : (b : Bool) → not b ≡ true → b ≡ false
    was_false true e = sym e
    was_false false e = refl
