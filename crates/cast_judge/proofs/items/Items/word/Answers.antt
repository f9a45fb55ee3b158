use Rattle.std.proofs.Common.{◌≡◌, ◌∙◌, ◌<◌, ◌∷◌, sym, ap, subst, length, get_or, arith, List, ℕ}
use Rattle.cast_judge.specs.ItemList.{IsWordAt, word_between}
use Rattle.cast_judge.proofs.ItemLemmas.{length_items, placed, word_found}
use Rattle.cast_judge.proofs.items.Items.word.Goals as goal

pub returns-then-place-ends : goal.returns-then-place-ends
returns-then-place-ends c =
    let same : length c.args.self.now ≡ length c.as_slice-ends.result.now = sym (ap length c.as_slice-ends.ensures.value ∙ sym (length_items 0 c.self.inside.ends.items c.self.inside.bytes.items) ∙ ap length c.self.view_is) in
    omega (arith, same)

pub part-requires-clause-order : goal.part-requires-clause-order
part-requires-clause-order c =
    let value = c.as_slice-ends.ensures.value in
    let many : c.args.place < length c.self.inside.ends.items = omega (arith, ap length c.as_slice-ends.ensures.value) in
    let first = c.start_of-start.ensures ∙ ap (λ (ends : List ℕ). get_or (0 ∷ ends) c.args.place 0) value in
    let last = ap (λ (ends : List ℕ). get_or ends c.args.place 0) value in
    let at = (placed 0 c.self.inside.ends.items c.self.inside.bytes.items c.args.place c.self.invariant many).at in
    omega (arith, first, last, at.order)

pub part-requires-clause-within : goal.part-requires-clause-within
part-requires-clause-within c =
    let value = c.as_slice-ends.ensures.value in
    let many : c.args.place < length c.self.inside.ends.items = omega (arith, ap length c.as_slice-ends.ensures.value) in
    let last = ap (λ (ends : List ℕ). get_or ends c.args.place 0) value in
    let at = (placed 0 c.self.inside.ends.items c.self.inside.bytes.items c.args.place c.self.invariant many).at in
    omega (arith, last, at.within, ap length c.as_slice.ensures.value)

pub returns : goal.returns
returns c =
    let value = c.as_slice-ends.ensures.value in
    let many : c.args.place < length c.self.inside.ends.items = omega (arith, ap length c.as_slice-ends.ensures.value) in
    let first = c.start_of-start.ensures ∙ ap (λ (ends : List ℕ). get_or (0 ∷ ends) c.args.place 0) value in
    let last = ap (λ (ends : List ℕ). get_or ends c.args.place 0) value in
    let end = get_or c.as_slice-ends.result.now c.args.place 0 in
    let found = word_found c.args.self.now c.start_of-start.result end c.self.inside.ends.items c.self.inside.bytes.items c.args.place c.self.view_is c.self.invariant many first last in
    subst (λ (word : List ℕ). IsWordAt c.args.self.now c.args.place word) (sym (c.part.ensures ∙ ap (word_between c.start_of-start.result end) c.as_slice.ensures.value)) found
