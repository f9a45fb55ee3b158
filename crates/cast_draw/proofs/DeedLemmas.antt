-- Marks are put one by one: those that were put, and then those that are left, are all of them.
use Rattle.std.specs.Prelude.{◌≡◌, ℕ, ◌+◌, ◌<◌, ◌≤◌, List, [], ◌∷◌, ◌++◌, length, map, take, drop, get_or, refl}
use Rattle.std.proofs.Common.{sym, ap, ◌∙◌, append_assoc, append-nil}
use Rattle.std.proofs.lemmas.List.{drop_more, drop_all}
use Rattle.cast_message.proofs.Lists.{drop-next}
use Rattle.cast_message.specs.declared.message.Message.{Message}
use Rattle.cast_message.specs.declared.message.Decision.{Decision}
use Rattle.cast_draw.specs.declared.deeds.At.{At}
use Rattle.cast_draw.specs.declared.mark.Deed.{Deed}
use Rattle.cast_draw.specs.declared.mark.Deed.TheVariants.{Delivers, Decides}
use Rattle.cast_draw.specs.declared.mark.Mark.{Mark}
use Rattle.cast_draw.specs.Deeds.{brought, deeds, done_by}

-- The marks that were put so far, and the deeds that are left.
pub record IsGoing (at : At) (old now : List Mark) (all left : List Deed) : Type 0 where
  pub marks : now ++ map (done_by at) left ≡ old ++ map (done_by at) all

-- one more was put
pub going_more : {at : At} {old now : List Mark} {all left : List Deed} (deed : Deed) (rest : List Deed) (new : List Mark) → left ≡ deed ∷ rest
    → IsGoing at old now all left → new ≡ now ++ done_by at deed ∷ [] → IsGoing at old new all rest
going_more {at} {old} {now} {all} {left} deed rest new is going put =
    record {
      marks =
          ap (λ t. t ++ map (done_by at) rest) put
          ∙ append_assoc now (done_by at deed ∷ []) (map (done_by at) rest)
          ∙ sym (ap (λ l. now ++ map (done_by at) l) is)
          ∙ going.marks;
    }

-- the same that is left
pub going_same : {at : At} {old now : List Mark} {all left : List Deed} (rest : List Deed) → left ≡ rest → IsGoing at old now all left → IsGoing at old now all rest
going_same {at} {old} {now} {all} {left} rest is going = record { marks = ap (λ l. now ++ map (done_by at) l) (sym is) ∙ going.marks }

-- nothing is left
pub going_done : {at : At} {old now : List Mark} {all left : List Deed} → left ≡ [] → IsGoing at old now all left → now ≡ old ++ map (done_by at) all
going_done {at} {old} {now} {all} {left} is going =
    sym (append-nil now) ∙ sym (ap (λ l. now ++ map (done_by at) l) is) ∙ going.marks

-- a decision more
pub going_decision : {at : At} {old now : List Mark} {all : List Deed} (decisions : List Decision) (i : ℕ) (d : Decision) (new : List Mark) → i < length decisions
    → IsGoing at old now all (map Decides (drop i decisions)) → new ≡ now ++ done_by at (Decides (get_or decisions i d)) ∷ []
    → IsGoing at old new all (map Decides (drop (i + 1) decisions))
going_decision decisions i d new within going put =
    going_more (Decides (get_or decisions i d)) (map Decides (drop (i + 1) decisions)) new (ap (map Decides) (drop_more decisions i d within)) going put

-- a delivery more
pub going_delivery : {at : At} {old now : List Mark} {all : List Deed} (messages : List Message) (decisions : List Decision) (i : ℕ) (m : Message) (new : List Mark) → i < length messages → m ≡ get_or messages i m
    → IsGoing at old now all (deeds (drop i messages) decisions) → new ≡ now ++ done_by at (Delivers m) ∷ []
    → IsGoing at old new all (map Decides (take (brought m decisions) decisions) ++ deeds (drop (i + 1) messages) (drop (brought m decisions) decisions))
unfolding deeds
going_delivery messages decisions i m new within is going put =
    going_more (Delivers m) _ new (ap (λ l. deeds l decisions) (drop-next messages i m within is)) going put

-- it brought no decision
pub going_alone : {at : At} {old now : List Mark} {all : List Deed} (messages : List Message) (decisions : List Decision) (count : ℕ) → count ≡ 0
    → IsGoing at old now all (map Decides (take count decisions) ++ deeds messages (drop count decisions)) → IsGoing at old now all (deeds messages decisions)
going_alone messages decisions count none going = going_same (deeds messages decisions) (ap (λ n. map Decides (take n decisions) ++ deeds messages (drop n decisions)) none) going

-- it brought the next
pub going_brought : {at : At} {old now : List Mark} {all : List Deed} (messages : List Message) (decisions : List Decision) (k : ℕ) (d : Decision) (count : ℕ) (new : List Mark) → count ≡ 1
    → k < length decisions → IsGoing at old now all (map Decides (take count (drop k decisions)) ++ deeds messages (drop count (drop k decisions)))
    → new ≡ now ++ done_by at (Decides (get_or decisions k d)) ∷ [] → IsGoing at old new all (deeds messages (drop (k + 1) decisions))
going_brought messages decisions k d count new one within going put =
    going_more (Decides (get_or decisions k d)) (deeds messages (drop (k + 1) decisions)) new
    (ap (λ n. map Decides (take n (drop k decisions)) ++ deeds messages (drop n (drop k decisions))) one
    ∙ ap (λ (l : List Decision). map Decides (take 1 l) ++ deeds messages (drop 1 l)) (drop_more decisions k d within))
    going put

-- all deliveries were put
pub going_last : {at : At} {old now : List Mark} {all : List Deed} (messages : List Message) (decisions : List Decision) (i : ℕ) → length messages ≤ i
    → IsGoing at old now all (deeds (drop i messages) decisions) → IsGoing at old now all (map Decides decisions)
unfolding deeds
going_last messages decisions i past going = going_same (map Decides decisions) (ap (λ l. deeds l decisions) (drop_all i messages past)) going

-- and then what is left was put
pub going_rest : {at : At} {old now : List Mark} {all left : List Deed} (new : List Mark) → IsGoing at old now all left → new ≡ now ++ map (done_by at) left
    → new ≡ old ++ map (done_by at) all
going_rest new going put = put ∙ going.marks
