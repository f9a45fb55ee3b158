use Rattle.std.proofs.Common.{◌≡◌, subst, ◌∙◌, ap, length, sym, arith}
use Rattle.std.specs.FinSet as set
use Rattle.std.specs.FinSet.{contains-empty}
use Rattle.std.specs.Ordering.{nat_cmp}
use Rattle.cast_message.specs.Items.{is_close, proposes_in}
use Rattle.std.specs.List.{list_any}
use Rattle.cast_node.specs.Delivering.{Delivering}
use Rattle.cast_node.specs.Sound.{Owes, IsWithin}
use Rattle.cast_node.proofs.Owing.{owes_none}
use Rattle.std.proofs.lemmas.List.{length-replicate}
use Rattle.cast_node.proofs.node.Node.make.Goals as goal

pub invariant_of-result : goal.invariant_of-result
invariant_of-result c =
    let none = c.new-2.ensures.items in
    let ds = c.in_ok-new-2.ensures in
    let out = c.in_ok-new.ensures in
    let peers : c.loop-peer._peer ≡ c.args.config.now.nodes = omega (arith, c.loop-peer-test.false, c.loop-peer.auto._peer-end, c.nodes-peer-end.ensures) in
    record {
      place = c.requires;
      room = λ _. omega (arith, ap length none, c.args.config.now.some_item);
      closes = sym (ap (list_any is_close) none);
      proposals = λ j. ap (λ s. set.contains s j) c.new-3.ensures ∙ contains-empty nat_cmp j ∙ sym (ap (list_any (proposes_in j)) none);
      peers_out = ap length out ∙ length-replicate _ _ ∙ c.nodes.ensures;
      peers_in = ap length c.loop-peer.invariant ∙ length-replicate _ _ ∙ peers;
      senders = ap (λ (d : Delivering). length d.hold_back) ds ∙ length-replicate _ _;
      rows = ap (λ (d : Delivering). length d.knowers) ds ∙ length-replicate _ _;
      owes = subst (Owes c.args.config.now.nodes c.args.config.now.item_limit) (sym out) (owes_none (IsWithin c.args.config.now.nodes c.args.config.now.item_limit) _);
    }
