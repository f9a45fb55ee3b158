use Rattle.std.proofs.Common.{◌≡◌, ◌∙◌, sym, ap, List, ℕ, Option, Some, None, option_map}
use Rattle.cast_message.specs.declared.message.Item.TheVariants.{Data}
use Rattle.cast_record.specs.Unhex.{unhex}
use Rattle.cast_record.proofs.ItemWordLemmas.{spells_data, from_on}
use Rattle.cast_record.proofs.item_word.data_item.Goals as goal

absent : {A : Type 0} (f : A → List ℕ) (o : Option A) (bytes : List ℕ) → o ≡ None → option_map f o ≡ Some bytes → ⊥
absent f o bytes e h = let both = sym h ∙ ap (option_map f) e in absurd (cc (both))

present : {A : Type 0} (f : A → List ℕ) (o : Option A) (x : A) (bytes : List ℕ) → o ≡ Some x → option_map f o ≡ Some bytes → bytes ≡ f x
present f o x bytes e h = let both = sym h ∙ ap (option_map f) e in cc (both)

pub unreachable-requires : goal.unreachable-requires
unreachable-requires c =
    let told = spells_data c.args.word.now c.requires in
    absent _ _ _ c.in-None.is (c.in_ok-bytes.ensures.exact ∙ ap unhex (from_on 5 c.args.word.now) ∙ told.digits)

pub returns : goal.returns
returns c =
    let told = spells_data c.args.word.now c.requires in
    let same = present _ _ _ _ c.in-Some.is (c.in_ok-bytes.ensures.exact ∙ ap unhex (from_on 5 c.args.word.now) ∙ told.digits) in
    told.is ∙ ap (λ bytes. Some (Data bytes)) (same ∙ sym c.in_ok-from_vec-in-Some.ensures.ok ∙ sym c.new.ensures)
