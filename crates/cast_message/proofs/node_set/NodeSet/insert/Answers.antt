use Rattle.std.proofs.Common.{◌+◌, ◌∙◌, sym, ap, arith}
use Rattle.std.specs.FinSet as set
use Rattle.cast_message.specs.Members.{insert-member, len-new_member, members_below-len}
use Rattle.cast_message.specs.Bits.{is_set}
use Rattle.cast_message.proofs.Nodes.{node_added}
use Rattle.cast_message.proofs.node_set.NodeSet.insert.Goals as goal

pub overflow_add-self : goal.overflow_add-self
overflow_add-self c = omega (arith, c.self.invariant, members_below-len 256 (is_set c.self.inside.words))

pub invariant_of-self : goal.invariant_of-self
invariant_of-self c =
    let more = len-new_member c.args.self.now c.args.node (sym c.contains.ensures ∙ c.if-contains.false) in
    let added = ap set.len (node_added c.self.inside.words c.args.self.now _ c.args.node c.from.result record { set_is = c.self.view_is; node_is = c.node.view_is; place_is = c.from.ensures; within = omega arith } c.self.told) in
    ap (λ n. n + 1) (c.self.invariant ∙ ap set.len c.self.view_is) ∙ sym more ∙ sym added

pub returns-clause-members : goal.returns-clause-members
returns-clause-members c = node_added c.self.inside.words c.args.self.now _ c.args.node c.from.result record { set_is = c.self.view_is; node_is = c.node.view_is; place_is = c.from.ensures; within = omega arith } c.self.told

pub returns-then-contains-clause-members : goal.returns-then-contains-clause-members
returns-then-contains-clause-members c = insert-member c.args.self.now c.args.node (sym c.contains.ensures ∙ c.if-contains.true)
