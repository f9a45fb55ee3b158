use Rattle.std.proofs.Common.{◌≡◌, ◌-◌, ◌<◌, ◌≤◌, ◌∷◌, ◌++◌, [], true, false, length, slice_index_or, refl, ap, ◌∙◌, subst, rules, arith}
use Rattle.std.specs.List.{flat_map, range_with_len}
use Rattle.cast.specs.Orders.{Visits, times}
use Rattle.cast.proofs.Walks.{with_next, back_again, ends, after_call, of_all, visits_none, sender_passed, sender_seen, stops}
use Rattle.cast.proofs.interleavings.+walk.Goals as goal

-- the only order
pub returns-then-steps-eq0-clause-visits : goal.returns-then-steps-eq0-clause-visits
returns-then-steps-eq0-clause-visits g t c =
    ends g.V.OrderVisitor.sees c.args.counts.now c.args.order.now.items c.as_slice.result.now c.args.steps c.args.visitor.now c.visit.new.self c.in_ok-visit.field-0
    c.if-steps-eq0.true c.as_slice.ensures.value c.in_ok-visit.ensures

pub loop-sender-init : goal.loop-sender-init
loop-sender-init g t c = (refl, visits_none g.V.OrderVisitor.sees c.args.visitor.now)

-- a sender with nothing left
pub loop-sender-preserved-then-count_times-counts : goal.loop-sender-preserved-then-count_times-counts
loop-sender-preserved-then-count_times-counts g t c =
    let l = c.loop-sender in
    let has : c.count_times.result ≡ times l.sender c.args.order.now.items = search rules in (
      l.invariant.0,
      sender_passed g.V.OrderVisitor.sees c.args.counts.now c.args.order.now.items (c.args.steps - 1) l.sender c.args.visitor.now l.visitor
          (subst (λ k. slice_index_or c.args.counts.now l.sender 0 ≤ k) has c.if-count_times-counts.true) l.invariant.1,
    )

pub returns-then-not-branch-clause-visits : goal.returns-then-not-branch-clause-visits
returns-then-not-branch-clause-visits g t c =
    let l = c.loop-sender in
    let sees = g.V.OrderVisitor.sees in
    let begun = c.args.order.now.items in
    let has : c.count_times.result ≡ times l.sender begun = search rules in
    let more : times l.sender begun < slice_index_or c.args.counts.now l.sender 0 = omega (arith, has, c.if-count_times-counts.false) in
    let next : c.push.new.self.items ≡ begun ++ l.sender ∷ [] = c.in_ok-push.ensures.items ∙ ap (λ xs. xs ++ l.sender ∷ []) l.invariant.0 in
    of_all sees c.args.counts.now begun c.args.steps c.args.visitor.now c.walk.new.visitor false (omega (arith, c.if-steps-eq0.false))
    (stops sees c.args.counts.now begun (c.args.steps - 1) l.sender c.args.visitor.now l.visitor c.walk.new.visitor more c.loop-sender-test.true l.invariant.1
    (after_call sees c.args.counts.now (begun ++ l.sender ∷ []) c.push.new.self.items (c.args.steps - 1) l.visitor c.walk.new.visitor c.in_ok-walk.field-0 false next c.if-not-branch.true c.in_ok-walk.ensures.visits))

pub loop-sender-preserved : goal.loop-sender-preserved
loop-sender-preserved g t c =
    let l = c.loop-sender in
    let sees = g.V.OrderVisitor.sees in
    let begun = c.args.order.now.items in
    let has : c.count_times.result ≡ times l.sender begun = search rules in
    let more : times l.sender begun < slice_index_or c.args.counts.now l.sender 0 = omega (arith, has, c.if-count_times-counts.false) in
    let next : c.push.new.self.items ≡ begun ++ l.sender ∷ [] = c.in_ok-push.ensures.items ∙ ap (λ xs. xs ++ l.sender ∷ []) l.invariant.0 in
    let back : c.walk.new.order.items ≡ begun ++ l.sender ∷ [] = c.in_ok-walk.ensures.same c.if-not-branch.false ∙ next in
    let deep : c.len-depth.result ≡ length begun = search rules in
    let same : c.truncate.new.self.items ≡ begun = back_again begun l.sender c.walk.new.order.items c.truncate.new.self.items c.len-depth.result back deep c.truncate.ensures.items in (
      same,
      sender_seen sees c.args.counts.now begun (c.args.steps - 1) l.sender c.args.visitor.now l.visitor c.walk.new.visitor more l.invariant.1
          (after_call sees c.args.counts.now (begun ++ l.sender ∷ []) c.push.new.self.items (c.args.steps - 1) l.visitor c.walk.new.visitor c.in_ok-walk.field-0 true next c.if-not-branch.false c.in_ok-walk.ensures.visits),
    )

pub returns-clause-same : goal.returns-clause-same
returns-clause-same g t c same = c.loop-sender.invariant.0

pub returns-clause-visits : goal.returns-clause-visits
returns-clause-visits g t c =
    let l = c.loop-sender in
    let all : l.sender ≡ length c.args.counts.now = search rules in
    of_all g.V.OrderVisitor.sees c.args.counts.now c.args.order.now.items c.args.steps c.args.visitor.now l.visitor true (omega (arith, c.if-steps-eq0.false))
    (subst (λ n. Visits g.V.OrderVisitor.sees c.args.visitor.now (flat_map (with_next c.args.counts.now (c.args.steps - 1) c.args.order.now.items) (range_with_len 0 n)) l.visitor true) all l.invariant.1)
