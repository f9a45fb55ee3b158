use Rattle.std.proofs.Common.{◌≡◌, ◌≢◌, ◌+◌, ◌<◌, ◌++◌, ◌∙◌, [], length, take, get_or, ap, sym, rules, arith}
use Rattle.std.proofs.lemmas.List.{append-nil}
use Rattle.std.proofs.lemmas.Option.{get_or_from_slice_get}
use Rattle.cast_log.specs.Logged.{shown_entry, shown_kind}
use Rattle.cast_desk.specs.Feed.{feed_from, told_by, orders_of, orders_in}
use Rattle.cast_desk.proofs.Feeds.{fed_at, fed_more, counted_more, silent_tells_none}
use Rattle.cast_desk.proofs.told.feed.Goals.{in-Whole+in_ok-tell, in_default}
use Rattle.cast_desk.proofs.told.feed.Goals as goal

pub returns-in_err-tell-clause-err : goal.returns-in_err-tell-clause-err
returns-in_err-tell-clause-err c =
    let l = c.loop-place in
    let log = c.args.log.now in
    let e = shown_entry c.entry.result in
    let here : e ≡ get_or log l.place e = sym (get_or_from_slice_get log l.place e e c.entry.ensures) in
    let within : l.place < length log = search rules in
    let before : l.orders ≡ 0 + orders_of (take l.place log) = omega (arith, l.invariant.1) in
    let some : feed_from c.args.client 0 log ≢ [] = fed_at c.args.client 0 log l.place e within here
    (λ none. c.in_err-tell.ensures.err (ap (told_by c.args.client l.orders) (sym (ap shown_kind c.in-Whole.is)) ∙ ap (λ n. told_by c.args.client n e.kind) before ∙ none)) in
    search (rules, some)

pub loop-place-preserved : goal.loop-place-preserved
loop-place-preserved c =
    let l = c.loop-place in
    let now = l.invariant in
    let log = c.args.log.now in
    let e = shown_entry c.entry.result in
    let here : e ≡ get_or log l.place e = sym (get_or_from_slice_get log l.place e e c.entry.ensures) in
    let within : l.place < length log = search rules in
    let cap : length log < 18446744073709551616 = search rules in
    elim c.match-entry.branch [
      | in-Whole+in_ok-tell w ↦
          let kind = ap shown_kind w.in-Whole.is in (
            fed_more c.args.client log l.place e within here l.notices _ l.orders now.0 now.1
                (w.notices-is ∙ w.in_ok-tell.ensures.ok ∙ ap (λ k. l.notices ++ told_by c.args.client l.orders k) (sym kind)),
            w.orders-is ∙ counted_more c.args.client log l.place e within here l.orders _ now.1 (w.orders_in-orders.ensures ∙ ap orders_in (sym kind)) cap,
          )
      | in_default w ↦
          let none = silent_tells_none c.entry.result.kind w.in_default.not-Whole c.args.client l.orders in
          let counted = counted_more c.args.client log l.place e within here l.orders 0 now.1 (sym none.1) cap in (
            fed_more c.args.client log l.place e within here l.notices _ l.orders now.0 now.1
                (w.notices-is ∙ sym (append-nil l.notices) ∙ ap (λ told. l.notices ++ told) (sym none.0)),
            omega (arith, w.orders-is, counted, l.auto.orders-fits),
          )
    ]
