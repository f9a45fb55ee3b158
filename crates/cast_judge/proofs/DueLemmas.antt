-- A delivery that is due breaks no rule.
use Rattle.std.proofs.Common.{◌≡◌, ℕ, suc, add-one, ◌<◌, ◌||◌, not, Bool, true, false, cond, nat_eq, List, [], ◌∷◌, ◌++◌, length, drop, slice_index, Some, None, refl, sym, ap, ◌∙◌, arith, get_or}
use Rattle.std.proofs.lemmas.Bool.Decides.{nat_tests}
use Rattle.std.proofs.lemmas.Option.{slice_get-get_or}
use Rattle.std.proofs.lemmas.Bool.{lt-ltb}
use Rattle.cast_message.specs.declared.message.Item.{Item}
use Rattle.cast_message.specs.declared.message.Item.TheVariants.{Close}
use Rattle.cast_record.specs.declared.front.Delivery.{Delivery}
use Rattle.cast_judge.specs.declared.kept.Stage.{Stage}
use Rattle.cast_judge.specs.declared.kept.Stage.TheVariants.{Body}
use Rattle.cast_judge.specs.declared.kept.Kept.{Kept}
use Rattle.cast_record.specs.Fronts.{SaysDelivery}
use Rattle.cast_judge.specs.Kept.{node_at, is_same, has_item, is_out_at, delivered_as, IsDue, IsTaken}
use Rattle.cast_judge.specs.Judges.{IsTakenOff}
use Rattle.cast_judge.specs.ItemList.{BeginsWithWord}
use Rattle.cast_judge.proofs.ItemLemmas.{item_itself}

in_body : (stage : Stage) (n : ℕ) (d : Delivery) (item : Item) → stage ≡ Body → d.node < n → d.sender < n → is_out_at stage n (delivered_as d item) ≡ false
in_body stage n d item a b c = rw (a, lt-ltb d.node n b, lt-ltb d.sender n c) refl

prefix_kept : (number count : ℕ) (b : Bool) → number ≡ count → b ≡ true → (not (nat_eq number count) || not b) ≡ false
prefix_kept number count b e f = let same : nat_eq number count ≡ true = grind (arith, nat_tests) in rw (same, f) refl

pub due : (k : Kept) (d : Delivery) (end : ℕ) → k.stage ≡ Body → d.node < length k.nodes.items → d.sender < length k.nodes.items → (node_at k.nodes.items d.node).crashed ≡ false
    → d.number ≡ slice_index (node_at k.nodes.items d.node).delivered d.sender → BeginsWithWord (node_at k.nodes.items d.sender).items d.number d.rest.now end → IsDue k d end
due k d end stage node sender crashed number begins =
    let items = (node_at k.nodes.items d.sender).items in
    let item = get_or items d.number Close in
    let got = slice_get-get_or items d.number Close begins.is_at.within in
    let here : has_item items d.number item ≡ true = ap (λ o. is_same o item) got ∙ item_itself item in
    record {
      word = begins.word;
      after = begins.after;
      cut = begins.cut;
      ends = begins.ends;
      item = item;
      spells = sym begins.is_at.spells ∙ got;
      sound = (λ i. cond (in_body k.stage (length k.nodes.items) d item stage node sender i) (Some 0) (cond (prefix_kept d.number (slice_index (node_at k.nodes.items d.node).delivered d.sender) (has_item items d.number item) number here i) (Some 1) (cond (crashed i) (Some 5) None)));
      body = stage;
    }

-- ---- a line `d` at the front of a text

past : (word after : List ℕ) → drop (suc (length word)) (word ++ 10 ∷ after) ≡ after
past [] after = refl
past (x ∷ word) after = past word after

pub rest_after : (k : Kept) (d : Delivery) (end : ℕ) → (due : IsDue k d end) → drop end d.rest.now ≡ due.after
rest_after k d end due = (λ i. drop ((due.ends ∙ add-one (length due.word)) i) (due.cut i)) ∙ past due.word due.after

-- what is due stands at the front of the bytes that say the delivery
pub taken_off : (bytes after : List ℕ) (d : Delivery) (old new : Kept) (end : ℕ) → SaysDelivery bytes d → IsTaken old new d end → after ≡ drop end d.rest.now → IsTakenOff bytes after old new
taken_off bytes after d old new end says h follows =
    let begins = says h.due.word (10 ∷ h.due.after) h.due.item h.due.cut h.due.spells in
    record {
      line = delivered_as d h.due.item;
      front = begins.front;
      cut = begins.cut ∙ ap (λ more. begins.front ++ 10 ∷ more) (sym (follows ∙ rest_after old d end h.due));
      read = begins.spells;
      sound = h.due.sound;
      keeps = h.keeps;
    }
