-- The items of a job read so far, and those that are left.
use Rattle.std.proofs.Common.{◌≡◌, ℕ, ◌+◌, ◌<◌, List, ◌++◌, length, get_or, drop, map, Option, option_map, option_and_then, ap, sym, ◌∙◌}
use Rattle.serde_json.specs.declared.value.Value.{Value}
use Rattle.serde_json.specs.View.{view}
use Rattle.cast_message.specs.declared.message.Item.{Item}
use Rattle.cast_script.specs.Element.{before, item_of, items_of, places_of}
use Rattle.cast_script.proofs.ElementLemmas.{next_value}

abbrev pub after_items : List Item → Option (List Item) → Option (List Item)
after_items front others = option_map (λ items. front ++ items) others

-- reading stands at i
pub record IsListing (items : List Item) (i : ℕ) (values : List Value) : Type 0 where
  pub goes_on : after_items items (items_of (map view (drop i values))) ≡ items_of (map view values)

here : (items : List Item) (i : ℕ) (values : List Value) (x : Value) → i < length values → x ≡ get_or values i x → IsListing items i values
    → after_items items (before (option_and_then item_of (places_of (view x))) (items_of (map view (drop (i + 1) values)))) ≡ items_of (map view values)
here items i values x within is listing =
    ap (λ vs. after_items items (items_of (map view vs))) (sym (next_value values i x within is)) ∙ listing.goes_on
