-- Rows by node, one node after another.
use Rattle.std.specs.Prelude.{◌≡◌, ℕ, zero, suc, ◌+◌, List, [], ◌∷◌, ◌++◌, map}
use Rattle.std.specs.List.{range_with_len}
use Rattle.std.proofs.Common.{sym, ap, ◌∙◌, arith}
use Rattle.std.proofs.lemmas.List.{map-append}

pub range-more : (a n : ℕ) → range_with_len a (n + 1) ≡ range_with_len a n ++ (a + n) ∷ []
range-more a zero = ap (λ k. k ∷ []) (let e : a ≡ a + 0 = omega arith in e)
range-more a (suc n) =
    ap (range_with_len a) (let e : suc n + 1 ≡ suc (n + 1) = omega arith in e)
    ∙ ap (λ t. a ∷ t) (range-more (a + 1) n ∙ ap (λ k. range_with_len (a + 1) n ++ k ∷ []) (let e : (a + 1) + n ≡ a + suc n = omega arith in e))

-- one node more
pub made-more : {X : Type 0} (f : ℕ → X) (n : ℕ) (x : X) (rows before : List X) → before ≡ map f (range_with_len 0 n) → x ≡ f n → rows ≡ before ++ x ∷ [] → rows ≡ map f (range_with_len 0 (n + 1))
made-more f n x rows before so_far is more =
    let number : n ≡ 0 + n = omega arith in
    more ∙ (λ i. so_far i ++ (is ∙ ap f number) i ∷ []) ∙ sym (ap (map f) (range-more 0 n) ∙ map-append f (range_with_len 0 n) ((0 + n) ∷ []))
