use Rattle.std.proofs.Common.{sym, subst, inl}
use Rattle.cast_carrier.specs.Carriers.{PutsOne, PutsCopy}
use Rattle.cast_carrier.proofs.carrier.put_copy.Goals as goal

pub returns-in-Ok : goal.returns-in-Ok
returns-in-Ok g c =
    let a = c.args.inboxes.now.items in
    let b = c.put.new.inboxes.items in
    subst (λ t. PutsCopy c.args.room t a c.args.parcel.now b) (sym c.if-not-twice.false) (inl (subst (λ x. PutsOne c.args.room a x b) c.in-Ok.ensures.ok c.put.ensures))
