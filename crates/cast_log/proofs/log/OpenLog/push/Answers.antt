use Rattle.std.proofs.Common.{◌∷◌, ◌++◌, [], ap, ◌∙◌, refl, arith}
use Rattle.cast_log.specs.Logged.{Logged}
use Rattle.cast_log.proofs.Logged.{whole_put}
use Rattle.cast_log.proofs.log.OpenLog.push.Goals as goal

pub returns-clause-entries : goal.returns-clause-entries
returns-clause-entries c =
    whole_put c.self.inside.whole.items c.push_reserved.new.self.items c.self.inside.rows.items c.push_reserved-2.new.self.items _ c.args.entry.kind c.self.invariant
    c.push_reserved.ensures.items c.push_reserved-2.ensures.items refl (omega (arith, c.len-number.ensures, c.self.invariant.few, c.requires))
    ∙ ap (λ (log : Logged). log.entries ++ c.args.entry ∷ []) c.self.view_is
