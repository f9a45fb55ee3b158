-- The names of an object's members.
use Rattle.std.proofs.Common.{◌≡◌, List, [], ◌∷◌, ◌&&◌, ap, refl, map, String, BTreeMap, string_bytes, Global}
use Rattle.std.specs.List.{list_all}
use Rattle.std.specs.BTreeMap.{keys}
use Rattle.serde_json.specs.declared.value.Value.{Value}
use Rattle.serde_json.specs.View.{members_view}
use Rattle.cast_script.specs.Members.{is_member, all_known}

all_known_entries : (es : List (String Global × Value)) → all_known (members_view es) ≡ list_all (λ k. is_member (string_bytes k)) (map (λ e. e.0) es)
all_known_entries [] = refl
all_known_entries (e ∷ es) = ap (λ r. is_member (string_bytes e.0) && r) (all_known_entries es)

pub all_known_keys : (m : BTreeMap (String Global) Value) → all_known (members_view m.entries) ≡ list_all (λ k. is_member (string_bytes k)) (keys m)
all_known_keys m = all_known_entries m.entries
