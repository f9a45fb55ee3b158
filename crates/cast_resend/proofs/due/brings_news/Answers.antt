use Rattle.std.proofs.Common.{◌≡◌, ◌∙◌, Bool, true, false, not, refl, sym}
use Rattle.std.specs.Prelude.{IsFalse}
use Rattle.cast_resend.proofs.Nodes.{less_acknowledgement, less_held}
use Rattle.cast_resend.proofs.due.brings_news.Goals as goal

held : (b : Bool) → IsFalse (not b) → b ≡ true
held true known = refl
held false known = cc

pub returns-in-Took : goal.returns-in-Took
returns-in-Took c = λ told. less_acknowledgement c.args.node.now c.args.frame.now c.in-Took.slot c.in-Took.is

pub returns-in-Carry : goal.returns-in-Carry
returns-in-Carry c = λ told. less_held c.args.node.now c.args.frame.now c.in-Carry.slot c.in-Carry.message c.in-Carry.is (sym c.holds.ensures ∙ held c.holds.result told)
