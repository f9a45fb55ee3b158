use Rattle.std.proofs.Common.{◌≡◌, ◌∙◌, ◌+◌, ◌++◌, ◌∷◌, [], ap, length, length-append}
use Rattle.cast_judge.proofs.ItemLemmas.{are_pushed, items_pushed}
use Rattle.cast_judge.proofs.items.Items.push.Goals as goal

pub invariant_of-self-2 : goal.invariant_of-self-2
invariant_of-self-2 c =
    let bytes : c.extend_from_slice.new.self.items ≡ c.self.inside.bytes.items ++ c.as_slice-word.result.now = c.in_ok-extend_from_slice.ensures.items in
    let end : length c.as_slice-bytes.result.now ≡ length c.self.inside.bytes.items + length c.as_slice-word.result.now =
    ap length (c.as_slice-bytes.ensures.value ∙ bytes) ∙ length-append c.self.inside.bytes.items c.as_slice-word.result.now in
    let ends : c.push_reserved.new.self.items ≡ c.self.inside.ends.items ++ (length c.self.inside.bytes.items + length c.as_slice-word.result.now) ∷ [] =
    c.push_reserved.ensures.items ∙ (λ i. c.in_ok-reserve.ensures.items i ++ end i ∷ []) in
    rw (bytes, ends) (are_pushed 0 c.self.inside.ends.items c.self.inside.bytes.items c.as_slice-word.result.now c.args.item.now c.self.invariant c.as_slice-word.ensures)

pub returns : goal.returns
returns c =
    let bytes : c.extend_from_slice.new.self.items ≡ c.self.inside.bytes.items ++ c.as_slice-word.result.now = c.in_ok-extend_from_slice.ensures.items in
    let end : length c.as_slice-bytes.result.now ≡ length c.self.inside.bytes.items + length c.as_slice-word.result.now =
    ap length (c.as_slice-bytes.ensures.value ∙ bytes) ∙ length-append c.self.inside.bytes.items c.as_slice-word.result.now in
    let ends : c.push_reserved.new.self.items ≡ c.self.inside.ends.items ++ (length c.self.inside.bytes.items + length c.as_slice-word.result.now) ∷ [] =
    c.push_reserved.ensures.items ∙ (λ i. c.in_ok-reserve.ensures.items i ++ end i ∷ []) in
    rw (bytes, ends) (items_pushed 0 c.self.inside.ends.items c.self.inside.bytes.items c.as_slice-word.result.now c.args.item.now c.self.invariant c.as_slice-word.ensures ∙ ap (λ items. items ++ c.args.item.now ∷ []) c.self.view_is)
