use Rattle.std.proofs.Common.{◌≡◌, sym, subst, None, Option, ℕ, ◌+◌}
use Rattle.std.specs.Prelude.{IfSome}
use Rattle.std.proofs.lemmas.Option.{slice_get_within}
use Rattle.cast_desk.specs.declared.notice.Notice.{Notice}
use Rattle.cast_engine.specs.declared.feeding.Place.{Place}
use Rattle.cast_engine.specs.Feeding.{FedAt, IsNext}
use Rattle.cast_engine.proofs.Fed.{fed_still, fed_put}
use Rattle.cast_engine.proofs.Few.{tells_nothing}
use Rattle.cast_engine.proofs.feeding.notify.Goals as goal

pub next_notice-requires : goal.next_notice-requires
next_notice-requires g c = c.requires.2.0

pub returns-in_default-clause-fed : goal.returns-in_default-clause-fed
returns-in_default-clause-fed g c = fed_still c.args.client c.args.log.now.entries c.args.desk.now.trays.items c.args.place.now c.next_notice.new.place c.requires c.next_notice.ensures.placed c.next_notice.ensures.fed

pub returns-in_default-2-clause-fed : goal.returns-in_default-2-clause-fed
returns-in_default-2-clause-fed g c = fed_still c.args.client c.args.log.now.entries c.args.desk.now.trays.items c.args.place.now c.next_notice.new.place c.requires c.next_notice.ensures.placed c.next_notice.ensures.fed

pub notify-requires : goal.notify-requires
notify-requires g c = slice_get_within c.args.desk.now.trays.items c.args.client c.requires.0 c.requires.1

pub returns-in-Ok-clause-fed : goal.returns-in-Ok-clause-fed
returns-in-Ok-clause-fed g c =
    let place = c.next_notice.new.place in
    let notice = c.in-Ok-Some.notice in
    let next = subst (λ (o : Option Notice). IfSome o (λ n. IsNext c.args.client c.args.log.now.entries place n × (place.waiting ≡ None))) c.in-Ok-Some.field-0-is c.in-Ok-Some.ensures.notice in
    let put = c.in-Ok.ensures.tray in
    let P : Place → Type 0 = λ p. FedAt c.args.client c.args.log.now.entries c.args.desk.now.trays.items c.notify.new.self.trays.items p in
    let as_place : ℕ → Option Notice → Place = λ t w. record { entry = place.entry; orders = place.orders; told = t; waiting = w } in
    subst (λ w. P (as_place (place.told + 1) w)) (sym next.1)
    (fed_put c.args.client c.args.log.now.entries c.args.desk.now.trays.items c.args.place.now place c.requires c.next_notice.ensures.placed c.next_notice.ensures.fed notice next.0 put.0 put.1 c.notify.new.self.trays.items put.2 put.3 put.4 put.5)

pub returns-in-Err-clause-idle : goal.returns-in-Err-clause-idle
returns-in-Err-clause-idle g c quiet =
    let tray = c.in-Err.ensures.tray in
    tells_nothing c.args.desk.now.trays.items _ c.args.client tray.0 tray.1 tray.2 tray.3 tray.4 tray.5.1
