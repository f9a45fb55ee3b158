use Rattle.std.proofs.Common.{◌≡◌, ◌+◌, ◌∙◌, true, not, arith, refl, sym, ap, subst}
use Rattle.std.specs.Prelude.{slice_set}
use Rattle.cast_node.specs.Calls.{is_peer, may_carry}
use Rattle.cast_node.specs.Kept.{Kept}
use Rattle.cast_node.specs.Outgoing.{links_of}
use Rattle.cast_node.specs.Settling.{SettlesTaken}
use Rattle.cast_node.specs.Sound.{slots_of}
use Rattle.cast_node.proofs.Parts.{slots_same, slots_taken}
use Rattle.cast_node.proofs.Settling.{settles_taken}
use Rattle.cast_node.proofs.Wholes.{whole, peer_below}
use Rattle.cast_node.proofs.node.Node.settle_taken.Goals as goal

pub returns-then-is_err-clause-not : goal.returns-then-is_err-clause-not
returns-then-is_err-clause-not c _ =
    (λ k. whole c.self.inside.config c.self.inside.me c.self.inside.live c.self.inside.frames c.self.inside.stream.items (links_of c.self.inside.outgoing) (slots_same c.self.inside.incoming.items c.from-2.result c.args.from c.index_mut-link.result.now c.reserve.new.self c.index_mut-link.ensures.value c.reserve.ensures.same k) c.self.inside.deliveries) ∙ c.self.view_is

pub returns-clause-took : goal.returns-clause-took
returns-clause-took c _ =
    let peer = sym c.is_peer.ensures ∙ c.if-not-is_peer.false in
    let may = sym c.may_carry.ensures ∙ c.if-not-may_carry.false in
    let kept = whole c.self.inside.config c.self.inside.me c.self.inside.live c.self.inside.frames c.self.inside.stream.items (links_of c.self.inside.outgoing) (slots_of c.self.inside.incoming.items) c.self.inside.deliveries in
    let taken = slots_taken c.self.inside.incoming.items c.from-2.result c.args.from c.index_mut-link.result.now c.reserve.new.self c.index_mut-link.ensures.value c.reserve.ensures.same c.self.inside.config c.args.self.now (peer_below c.args.self.now c.args.from peer) (ap (λ (k : Kept). k.config) c.self.view_is) c.self.invariant.peers_in (c.from-2.ensures ∙ c.from.view_is) c.args.slot c.take_reserved.new.self c.take_reserved.ensures.after in
    subst (λ k. SettlesTaken k c.args.from c.args.slot c.args.sender c.args.number (whole c.self.inside.config c.self.inside.me c.self.inside.live (c.self.inside.frames + 1) c.self.inside.stream.items (links_of c.self.inside.outgoing) (slots_of (slice_set c.self.inside.incoming.items c.from-2.result c.take_reserved.new.self)) c.add_knower.new.self)) c.self.view_is
    (settles_taken kept c.args.from c.args.slot c.args.sender c.args.number (subst (λ k. is_peer k c.args.from ≡ true) (sym c.self.view_is) peer) (subst (λ k. may_carry k c.args.slot c.args.sender c.args.number ≡ true) (sym c.self.view_is) may) (c.if-not-is_quiet.ensures refl)
    (ap not c.if-not-self.false) c.self.invariant.peers_in (let few = c.if-self-ge-FRAME_LIMIT.false in omega (arith, few)) _ c.add_knower.new.self taken c.add_knower.ensures)
