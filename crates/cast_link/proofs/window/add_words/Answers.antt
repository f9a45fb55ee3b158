use Rattle.std.proofs.Common.{ℕ, List, length, slice_index, ap, ◌∙◌, arith, length-append, ◌∷◌, []}
use Rattle.cast_message.proofs.Numbers.{padded}
use Rattle.cast_link.proofs.window.add_words.Goals as goal

pub push_back_reserved-requires : goal.push_back_reserved-requires
push_back_reserved-requires c =
    let i = c.loop-word.invariant in
    omega (arith, i.len, i.room, c.requires.room, c.requires.place, c.loop-word-test.true, c.loop-word.words.ok)

pub loop-word-preserved : goal.loop-word-preserved
loop-word-preserved c =
    let i = c.loop-word.invariant in
    let items = c.push_back_reserved.ensures.items in
    record {
      len = omega (arith, i.len, ap length items, length-append c.loop-word.words.items (0 ∷ []));
      short = omega (arith, i.len, ap length items, length-append c.loop-word.words.items (0 ∷ []), c.requires.place, c.loop-word-test.true);
      room = c.push_back_reserved.ensures.capacity ∙ i.room;
      same = λ k. ap (λ (ws : List ℕ). slice_index ws k) items ∙ padded c.loop-word.words.items 1 k ∙ i.same k;
    }
