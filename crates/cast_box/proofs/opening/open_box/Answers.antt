use Rattle.std.proofs.Common.{◌≡◌, ap, ◌∙◌, sym, arith, ℕ, length, [], ◌∷◌, slice_get}
use Rattle.std.proofs.lemmas.List.{length-append}
use Rattle.cast_box.specs.Ends.{PutterEnd, OpeningBox}
use Rattle.cast_box.proofs.Closing.{each_more}
use Rattle.cast_box.proofs.opening.open_box.Goals as goal

pub loop-number-preserved : goal.loop-number-preserved
loop-number-preserved g c =
    let was = c.loop-number.invariant in
    let made = c.in_ok-next_putter.ensures in
    let pushed = c.in_ok-push.ensures in
    let fresh : OpeningBox → ℕ → PutterEnd g.row.T.Denot = λ o a. record { home = o.home; size = o.size; putters = o.putters; number = a; put = [] } in (
      ap (λ o. o.made) made.1,
      ap (λ o. o.size) made.1 ∙ was.1,
      ap (λ o. o.putters) made.1 ∙ was.2,
      (let n = length-append c.loop-number.all.items (c.in_ok-next_putter.field-0 ∷ []) in ap length pushed.items ∙ omega arith),
      λ a p e. each_more (λ i q. q ≡ fresh c.next_putter.new.self i) c.loop-number.all.items c.in_ok-next_putter.field-0
          (λ i q at. was.4 i q at ∙ ap (λ o. fresh o i) (sym made.1))
          (made.0 ∙ ap (fresh c.loop-number.opening) (sym was.3) ∙ ap (λ o. fresh o (length c.loop-number.all.items)) (sym made.1))
          a p (ap (λ l. slice_get l a) (sym pushed.items) ∙ e),
    )
