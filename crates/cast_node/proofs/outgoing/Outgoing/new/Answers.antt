use Rattle.std.proofs.Common.{◌≡◌, ◌<◌, ℕ, length, map, replicate, sym, ap, ◌∙◌, subst, arith}
use Rattle.std.specs.FinMap as finite
use Rattle.std.specs.FinSet as set
use Rattle.cast_link.specs.Links.{Link}
use Rattle.cast_node.specs.Giving.{AreOwed}
use Rattle.cast_node.specs.Outgoing.{link_through, OwesBelow}
use Rattle.cast_node.proofs.Owing.{owes_none, none_owed, nothing_given_through}
use Rattle.std.proofs.lemmas.List.{length-replicate}
use Rattle.cast_node.proofs.outgoing.Outgoing.new.Goals as goal

pub invariant_of-result : goal.invariant_of-result
invariant_of-result c = record {
  below = subst (OwesBelow _) (sym c.loop-peer.invariant) (owes_none (λ place. place < _) c.loop-peer._peer);
  peers = omega (arith, ap length c.loop-peer.invariant, length-replicate {A = Link ℕ} c.loop-peer._peer (record { given = 0; owed = finite.empty }), c.loop-peer.auto._peer-end, c.requires);
  owes = subst (AreOwed _) (sym c.new-3.ensures) (subst (λ links. AreOwed links set.empty) (sym c.loop-peer.invariant) (none_owed ℕ c.loop-peer._peer));
}

pub returns : goal.returns
returns c =
    let all : c.loop-peer._peer ≡ c.args.peers = omega (arith, c.loop-peer-test.false, c.loop-peer.auto._peer-end) in
    (λ i. map (link_through (c.new-2.ensures.items i)) (c.loop-peer.invariant i))
    ∙ nothing_given_through c.loop-peer._peer
    ∙ ap (λ n. replicate n (record { given = 0; owed = finite.empty })) all
