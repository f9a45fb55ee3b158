use Rattle.std.proofs.Common.{subst}
use Rattle.std.specs.Prelude.{◌↔◌, IsFalse}
use Rattle.cast_node.specs.Giving.{OwesNoneOf, bare}
use Rattle.cast_node.specs.Outgoing.{links_of}
use Rattle.cast_node.proofs.Owing.{none_of_both, none_of_through}
use Rattle.cast_node.proofs.outgoing.Outgoing.owes_one_of.Goals as goal

pub returns : goal.returns
returns c =
    let peers = c.args.peers.now in
    let links = bare c.self.inside.links.items in
    let both = none_of_both links c.self.inside.owed peers c.self.invariant.owes in
    let through = none_of_through c.self.inside.messages.items links peers in
    subst (λ o. IsFalse c.meets.result ↔ OwesNoneOf (links_of o) peers) c.self.view_is
    (λ e. through.0 (both.0 (c.meets.ensures.0 e)), λ h. c.meets.ensures.1 (both.1 (through.1 h)))
