use Rattle.std.proofs.Common.{◌≡◌, ◌∙◌, refl, rules, ap, slice_get, length, sym, inl, arith}
use Rattle.std.proofs.lemmas.Option.{slice_get_read, slice_get_past}
use Rattle.cast_journal.specs.declared.parcel.Parcel.{Parcel}
use Rattle.cast_carrier.proofs.Carrying.{put_one}
use Rattle.cast_carrier.proofs.carrier.put.Goals as goal

pub returns-then-to-len : goal.returns-then-to-len
returns-then-to-len g c =
    let xs = c.args.inboxes.now.items in
    let at : c.from-to.result ≡ c.args.parcel.frame.to = c.from-to.ensures ∙ ap (λ (p : Parcel). p.frame.to) c.parcel.view_is in
    let was = slice_get_read xs (length xs) c.from-to.result c.index_mut-inbox.result.now refl (search rules) c.index_mut-inbox.ensures.value in
    put_one c.args.room xs c.args.parcel c.from-to.result c.index_mut-inbox.result.now c.put_into.new.inbox at was c.put_into.ensures.same c.put_into.ensures.put

pub returns-else-to-len : goal.returns-else-to-len
returns-else-to-len g c =
    let xs = c.args.inboxes.now.items in
    let at : c.from-to.result ≡ c.args.parcel.frame.to = c.from-to.ensures ∙ ap (λ (p : Parcel). p.frame.to) c.parcel.view_is in
    inl (ap (slice_get xs) (sym at) ∙ slice_get_past xs c.from-to.result (omega (arith, c.if-to-len.false, c.len.ensures)), refl)
