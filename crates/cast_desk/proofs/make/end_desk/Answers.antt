use Rattle.std.proofs.Common.{◌≡◌, ◌∙◌, ◌∷◌, ◌++◌, ◌≤◌, [], List, ℕ, map, length, ap, sym, subst, rules}
use Rattle.std.specs.Option.{option_to_list}
use Rattle.cast_box.specs.Lists.{StartsWith, IsFair}
use Rattle.cast_box.specs.Ends.{PutterEnd, TakerEnd, AreAllEnds, IsNextToEnd}
use Rattle.cast_journal.specs.declared.order.OrderIn.{OrderIn}
use Rattle.cast_desk.specs.declared.notice.Notice.{Notice}
use Rattle.cast_desk.proofs.Ending.{with_ended, ending_none, next_to_end, tray_ends, ending_more, have_ended, put_all, same_taken, same_size, all_took, orders_fair}
use Rattle.cast_desk.proofs.make.end_desk.Goals as goal

pub loop-client-init : goal.loop-client-init
loop-client-init g c =
    (tt, tt, ending_none c.args.clients.items c.args.desk.orders c.args.desk.trays.items c.requires _ _ c.into_iter-client-iterator.ensures.into_iter_gives.0 c.into_iter-trays.ensures.rest)

pub end-requires : goal.end-requires
end-requires g c =
    let P : PutterEnd OrderIn → Type 0 = λ p. IsNextToEnd p c.loop-client.orders in
    subst P (sym c.into_ends-putter.ensures.ends.0)
    (next_to_end c.args.clients.items c.args.desk.orders c.args.desk.trays.items c.requires c.loop-client.yielded _ _ c.loop-client.orders c.loop-client.invariant.2 c.in-Some.client _ c.in-Some.ensures.steps.0)

pub end_tray-requires : goal.end_tray-requires
end_tray-requires g c =
    let k = c.next-in-loop-client.ensures.items ∙ ap (λ o. option_to_list o ++ c.next-in-loop-client.new.self.rest.items) c.unwrap-tray.ensures in
    let P : TakerEnd Notice → Type 0 = λ t. AreAllEnds (c.unwrap-tray.result ∷ []) t in
    subst P (sym c.into_ends-putter.ensures.ends.1)
    (tray_ends c.args.clients.items c.args.desk.orders c.args.desk.trays.items c.requires c.loop-client.yielded _ _ c.loop-client.orders c.loop-client.invariant.2 c.in-Some.client _ c.in-Some.ensures.steps.0
    c.unwrap-tray.result _ k)

pub loop-client-preserved : goal.loop-client-preserved
loop-client-preserved g c =
    let k = c.next-in-loop-client.ensures.items ∙ ap (λ o. option_to_list o ++ c.next-in-loop-client.new.self.rest.items) c.unwrap-tray.ensures in
    let P : TakerEnd Notice → Type 0 = λ t. StartsWith c.unwrap-tray.result.put (map (λ (m : ℕ × Notice). m.1) t.taken) in
    let now = c.loop-client.orders in
    let Q : List OrderIn → TakerEnd OrderIn = λ l. with_ended now (now.ended ++ l ∷ []) in (
      tt,
      tt,
      ending_more c.args.clients.items c.args.desk.orders c.args.desk.trays.items c.requires c.loop-client.yielded _ _ now c.loop-client.invariant.2 c.in-Some.client _ c.in-Some.ensures.steps.0
          c.unwrap-tray.result _ k c.end.new.self (c.end.ensures ∙ ap (λ (p : PutterEnd OrderIn). Q p.put) c.into_ends-putter.ensures.ends.0) (subst P c.into_ends-putter.ensures.ends.1 c.end_tray.ensures),
    )

pub gather-requires : goal.gather-requires
gather-requires g c =
    let done : length c.loop-client.client-iterator.rest.items ≡ 0 = search rules in
    have_ended c.args.clients.items c.args.desk.orders c.args.desk.trays.items c.requires c.loop-client.yielded _ _ c.loop-client.orders c.loop-client.invariant.2 done

pub returns-clause-orders : goal.returns-clause-orders
returns-clause-orders g c =
    let done : length c.loop-client.client-iterator.rest.items ≡ 0 = search rules in
    let b = c.gather in
    orders_fair c.args.clients.items c.args.desk.orders c.args.desk.trays.items c.requires c.loop-client.yielded _ _ c.loop-client.orders c.loop-client.invariant.2 done
    b.result.put b.result.taken b.result.left b.ensures.put b.ensures.taken b.ensures.fair

pub returns-clause-notices : goal.returns-clause-notices
returns-clause-notices g c =
    let done : length c.loop-client.client-iterator.rest.items ≡ 0 = search rules in
    all_took c.args.clients.items c.args.desk.orders c.args.desk.trays.items c.requires c.loop-client.yielded _ _ c.loop-client.orders c.loop-client.invariant.2 done

pub returns-clause-gathered : goal.returns-clause-gathered
returns-clause-gathered g c =
    let done : length c.loop-client.client-iterator.rest.items ≡ 0 = search rules in
    let b = c.gather in (
      b.ensures.taken ∙ same_taken c.args.clients.items c.args.desk.orders c.args.desk.trays.items c.requires c.loop-client.yielded _ _ c.loop-client.orders c.loop-client.invariant.2 done,
      b.ensures.put ∙ put_all c.args.clients.items c.args.desk.orders c.args.desk.trays.items c.requires c.loop-client.yielded _ _ c.loop-client.orders c.loop-client.invariant.2 done,
    )

pub returns-clause-fair : goal.returns-clause-fair
returns-clause-fair g c =
    let b = c.gather in
    let are = returns-clause-gathered g c in
    let P : List (List OrderIn) → List (ℕ × OrderIn) → Type 0 = λ l t. IsFair l t b.result.left in
    subst (P _) are.0 (subst (λ l. P l b.result.taken) are.1 b.ensures.fair)

pub returns-clause-room : goal.returns-clause-room
returns-clause-room g c =
    let done : length c.loop-client.client-iterator.rest.items ≡ 0 = search rules in
    let b = c.gather in
    subst (λ n. length b.result.left ≤ n) (same_size c.args.clients.items c.args.desk.orders c.args.desk.trays.items c.requires c.loop-client.yielded _ _ c.loop-client.orders c.loop-client.invariant.2 done) b.ensures.room
