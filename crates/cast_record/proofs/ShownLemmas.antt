-- How a text that is shown byte by byte comes together.
use Rattle.std.proofs.Common.{◌≡◌, ℕ, ◌+◌, ◌<◌, List, [], ◌∷◌, ◌++◌, append-nil, ap, sym, ◌∙◌, take, length, get_or}
use Rattle.std.specs.List.{flat_map}
use Rattle.std.proofs.lemmas.Grind.{flat_map-append}
use Rattle.std.proofs.lemmas.List.{take_more}

-- one byte more
pub flat_map-more : {X : Type 0} (f : X → List ℕ) (xs : List X) (i : ℕ) (x d : X) (now new : List ℕ) → i < length xs → x ≡ get_or xs i d
    → now ≡ flat_map f (take i xs) → new ≡ now ++ f x → new ≡ flat_map f (take (i + 1) xs)
flat_map-more f xs i x d now new within is before put =
    put
    ∙ ap (λ t. t ++ f x) before
    ∙ ap (λ t. flat_map f (take i xs) ++ t) (sym (append-nil (f x)))
    ∙ sym (flat_map-append f (take i xs) (x ∷ []))
    ∙ ap (λ t. flat_map f t) (ap (λ y. take i xs ++ y ∷ []) is ∙ sym (take_more xs i d within))
