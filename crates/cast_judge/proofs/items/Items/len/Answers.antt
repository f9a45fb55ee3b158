use Rattle.std.proofs.Common.{◌≡◌, ◌∙◌, sym, ap, length, vec_len, arith}
use Rattle.std.proofs.lemmas.Grind.{common_steps}
use Rattle.cast_judge.proofs.ItemLemmas.{length_items}
use Rattle.cast_judge.proofs.items.Items.len.Goals as goal

pub returns : goal.returns
returns c =
    let same : vec_len c.self.inside.ends ≡ length c.self.inside.ends.items = grind (arith, common_steps) in
    c.len.ensures ∙ same ∙ sym (length_items 0 c.self.inside.ends.items c.self.inside.bytes.items) ∙ ap length c.self.view_is
