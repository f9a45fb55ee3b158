use Rattle.std.proofs.Common.{◌∙◌, ◌-◌, sym, ap, vec_len}
use Rattle.std.specs.FinMap as finite
use Rattle.cast_message.specs.declared.message.Message.{Message}
use Rattle.cast_link.specs.Links.{Link}
use Rattle.std.specs.Prelude.{vec_capacity}
use Rattle.cast_node.proofs.Owing.{seen_here, contains_through, acknowledged_links, fewer_owed, as_many_owed}
use Rattle.cast_node.proofs.outgoing.Outgoing.acknowledge.Goals as goal

pub acked_owed-requires : goal.acked_owed-requires
acked_owed-requires c =
    let seen = seen_here _ _ c.from.result c.args.to c.index_mut-link.result.now _ c.self.view_is (c.from.ensures ∙ c.to.view_is) c.requires.to c.index_mut-link.ensures.value in
    sym (contains_through c.self.inside.messages.items c.index_mut-link.result.now.link.owed c.args.slot) ∙ ap (λ (l : Link Message). finite.contains_key l.owed c.args.slot) seen ∙ c.requires.owed

pub invariant_of-self : goal.invariant_of-self
invariant_of-self c =
    fewer_owed (record { messages = c.self.inside.messages.items; spare = vec_capacity c.self.inside.messages - vec_len c.self.inside.messages; links = c.self.inside.links.items }) c.args.self.now c.self.inside.owed c.from.result c.args.to c.args.slot c.index_mut-link.result.now _ c.acked_owed.new.self c.self.view_is (c.from.ensures ∙ c.to.view_is) c.requires.to c.index_mut-link.ensures.value c.acked_owed.ensures c.self.invariant
    _ c.remove.ensures (sym c.owed.ensures ∙ c.if-owed-eq0.true)

pub invariant_of-self-else-owed-eq0 : goal.invariant_of-self-else-owed-eq0
invariant_of-self-else-owed-eq0 c =
    as_many_owed (record { messages = c.self.inside.messages.items; spare = vec_capacity c.self.inside.messages - vec_len c.self.inside.messages; links = c.self.inside.links.items }) c.args.self.now c.self.inside.owed c.from.result c.args.to c.args.slot c.index_mut-link.result.now _ c.acked_owed.new.self c.self.view_is (c.from.ensures ∙ c.to.view_is) c.requires.to c.index_mut-link.ensures.value c.acked_owed.ensures c.self.invariant
    (λ e. c.if-owed-eq0.false (c.owed.ensures ∙ e))

pub returns-then-owed-eq0 : goal.returns-then-owed-eq0
returns-then-owed-eq0 c =
    acknowledged_links (record { messages = c.self.inside.messages.items; spare = vec_capacity c.self.inside.messages - vec_len c.self.inside.messages; links = c.self.inside.links.items }) c.args.self.now c.self.inside.owed c.from.result c.args.to c.args.slot c.index_mut-link.result.now _ c.acked_owed.new.self c.self.view_is (c.from.ensures ∙ c.to.view_is) c.requires.to c.index_mut-link.ensures.value c.acked_owed.ensures

pub returns-else-owed-eq0 : goal.returns-else-owed-eq0
returns-else-owed-eq0 c =
    acknowledged_links (record { messages = c.self.inside.messages.items; spare = vec_capacity c.self.inside.messages - vec_len c.self.inside.messages; links = c.self.inside.links.items }) c.args.self.now c.self.inside.owed c.from.result c.args.to c.args.slot c.index_mut-link.result.now _ c.acked_owed.new.self c.self.view_is (c.from.ensures ∙ c.to.view_is) c.requires.to c.index_mut-link.ensures.value c.acked_owed.ensures
