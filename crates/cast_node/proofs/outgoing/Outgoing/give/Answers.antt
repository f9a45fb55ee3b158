use Rattle.std.proofs.Common.{◌≡◌, ◌<◌, ◌++◌, ◌≤◌, ◌^◌, length, map, drop, sym, ap, ◌∙◌, subst, arith}
use Rattle.std.specs.Prelude.{take}
use Rattle.cast_node.specs.Turns.{given_from}
use Rattle.cast_node.specs.Giving.{AreOwed, bare, given_on}
use Rattle.cast_node.specs.Outgoing.{link_through, links_of, HasRoomFor}
use Rattle.cast_node.proofs.Owing.{length_given, given_whole, given_through, given_below}
use Rattle.cast_node.proofs.outgoing.Outgoing.give.Goals.{After-self-2-1}
use Rattle.cast_node.proofs.outgoing.Outgoing.give.Goals as goal

-- the links then
gave : (c : After-self-2-1) → bare (take c.self.inside.links.len (c.give_all.new.links ++ drop (length c.give_all.new.links) c.self.inside.links.items)) ≡ given_on 0 c.args.me c.args.source c.args.message.sender (length c.self.inside.messages.items) (bare c.self.inside.links.items)
gave c =
    let messages = c.self.inside.messages.items in
    let links = c.self.inside.links.items in
    let few : length messages < 2 ^ 32 = (subst HasRoomFor (sym c.self.view_is) c.requires.room).0 in
    given_whole c.self.inside.links.len c.give_all.new.links links c.as_mut_slice.result.now c.args.me c.args.source c.args.message.sender _ (length messages) c.give_all.ensures c.as_mut_slice.ensures.value c.self.inside.links.ok.0 (omega (arith, c.len-place.ensures, few, c.self.inside.messages.ok.0))

pub invariant_of-self : goal.invariant_of-self
invariant_of-self c =
    let messages = c.self.inside.messages.items in
    let links = bare c.self.inside.links.items in
    record {
      below = given_below messages c.push_reserved.new.self.items c.args.message links _ c.args.me c.args.source c.args.message.sender c.push_reserved.ensures.items (gave c) c.self.invariant.below;
      peers = subst (λ n. n ≤ 64) (sym (ap length (gave c) ∙ length_given 0 c.args.me c.args.source c.args.message.sender (length messages) links)) c.self.invariant.peers;
      owes = subst (λ ls. AreOwed (bare ls) c.owed_peers-self-inside.result) c.as_slice.ensures.value c.owed_peers-self-inside.ensures;
    }

pub returns : goal.returns
returns c =
    (λ i. map (link_through (c.push_reserved.ensures.items i)) (gave c i))
    ∙ given_through 0 c.args.me c.args.source c.args.message c.self.inside.messages.items (bare c.self.inside.links.items) c.self.invariant.below
    ∙ ap (λ o. given_from 0 c.args.me c.args.source c.args.message (links_of o)) c.self.view_is
