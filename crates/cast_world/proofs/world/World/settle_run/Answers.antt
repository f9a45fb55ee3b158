use Rattle.std.proofs.Common.{◌<◌, ◌∙◌, subst, map}
use Rattle.std.specs.List.{range_with_len}
use Rattle.cast_world.specs.Settled.{SettlesBetween}
use Rattle.cast_world.specs.Group.{state_of}
use Rattle.cast_world.proofs.Settled.{silently_none, run_sound, run_settled}
use Rattle.cast_world.proofs.world.World.settle_run.Goals as goal

pub returns-then-from-to-clause-settles : goal.returns-then-from-to-clause-settles
returns-then-from-to-clause-settles c = silently_none c.args.self.now

pub invariant_of-self : goal.invariant_of-self
invariant_of-self c =
    let long = c.self.inside.nodes.ok.0 in
    let between = subst (λ (nodes : _). SettlesBetween (state_of c.self.inside.config nodes (map (λ row. row.items) c.self.inside.marks.items)) c.from-from.result c.from-to.result (range_with_len c.args.first c.settle_between.result) (state_of c.self.inside.config c.settle_between.new.nodes (map (λ row. row.items) c.settle_between.new.marks))) c.as_mut_slice.ensures.value
    (subst (λ (rows : _). SettlesBetween (state_of c.self.inside.config c.as_mut_slice.result.now (map (λ row. row.items) rows)) c.from-from.result c.from-to.result (range_with_len c.args.first c.settle_between.result) (state_of c.self.inside.config c.settle_between.new.nodes (map (λ row. row.items) c.settle_between.new.marks))) c.as_mut_slice-2.ensures.value
    (c.settle_between.ensures.settles c.self.inside.config)) in
    run_sound (λ row. row.items) c.self.inside.config c.self.inside.nodes.items c.settle_between.new.nodes c.self.inside.marks.items c.settle_between.new.marks c.self.invariant c.from-from.result c.from-to.result c.args.first c.settle_between.result
    (subst (λ n. c.from-from.result < n) (c.len.ensures ∙ long) c.if-from-len.false) (subst (λ n. c.from-to.result < n) (c.len-else-from-len.ensures ∙ long) c.if-to-len.false) c.if-from-to.false between c.self.inside.nodes.len c.self.inside.marks.len long c.self.inside.marks.ok.0

pub returns-clause-settles : goal.returns-clause-settles
returns-clause-settles c =
    let long = c.self.inside.nodes.ok.0 in
    let between = subst (λ (nodes : _). SettlesBetween (state_of c.self.inside.config nodes (map (λ row. row.items) c.self.inside.marks.items)) c.from-from.result c.from-to.result (range_with_len c.args.first c.settle_between.result) (state_of c.self.inside.config c.settle_between.new.nodes (map (λ row. row.items) c.settle_between.new.marks))) c.as_mut_slice.ensures.value
    (subst (λ (rows : _). SettlesBetween (state_of c.self.inside.config c.as_mut_slice.result.now (map (λ row. row.items) rows)) c.from-from.result c.from-to.result (range_with_len c.args.first c.settle_between.result) (state_of c.self.inside.config c.settle_between.new.nodes (map (λ row. row.items) c.settle_between.new.marks))) c.as_mut_slice-2.ensures.value
    (c.settle_between.ensures.settles c.self.inside.config)) in
    run_settled (λ row. row.items) c.self.inside.config c.self.inside.nodes.items c.settle_between.new.nodes c.self.inside.marks.items c.settle_between.new.marks c.self.invariant c.from-from.result c.from-to.result c.args.first c.settle_between.result
    (subst (λ n. c.from-from.result < n) (c.len.ensures ∙ long) c.if-from-len.false) (subst (λ n. c.from-to.result < n) (c.len-else-from-len.ensures ∙ long) c.if-to-len.false) c.if-from-to.false between c.self.inside.nodes.len c.self.inside.marks.len long c.self.inside.marks.ok.0
    c.args.self.now c.args.from c.args.to c.self.view_is (c.from-from.ensures ∙ c.from.view_is) (c.from-to.ensures ∙ c.to.view_is)
