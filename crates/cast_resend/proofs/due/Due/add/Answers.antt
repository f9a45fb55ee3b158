use Rattle.std.proofs.Common.{◌≡◌, ◌∙◌, Bool, not, if◌then◌else◌, refl, ap, subst, arith}
use Rattle.std.specs.List.{insert}
use Rattle.cast_resend.proofs.Adding.{adds_at}
use Rattle.cast_resend.proofs.due.Due.add.Goals as goal

pub returns-else-is_err : goal.returns-else-is_err
returns-else-is_err c =
    let old = c.args.self.now in
    let P : Bool → Type 0 = λ b. c.insert.new.self.items ≡ (if b then insert old.again.items c.partition_point-place.result c.args.slot else old.again.items) in
    adds_at c.args.slot c.partition_point-place.result old _ (omega (arith, c.if-slot-self.false)) refl (subst P (c.is_err.ensures.negation ∙ ap not c.if-is_err.false) c.insert.ensures.items)
