-- What is counted of several messages, one after the other.
use Rattle.std.specs.Prelude.{◌≡◌, ◌∷◌, ◌++◌, List, []}
use Rattle.std.specs.Option.{option_to_list}
use Rattle.std.proofs.Common.{sym, ap, ◌∙◌, append-nil, append_assoc}
use Rattle.cast_message.specs.declared.message.Message.{Message}
use Rattle.cast_message.specs.declared.message.Decision.{Decision}
use Rattle.cast_agree.specs.Counted.{Counted, counted_after, decision_by}
use Rattle.cast_agree.specs.Journal.{counted_all, decisions_all}

pub counted_all-next : (c new : Counted) (m : Message) (rest all : List Message) → all ≡ m ∷ rest → new ≡ counted_after c m.sender m.item → counted_all new rest ≡ counted_all c all
unfolding counted_all
counted_all-next c new m rest all e n = ap (λ c. counted_all c rest) n ∙ sym (ap (counted_all c) e)

pub counted_all-none : (c : Counted) (all : List Message) → all ≡ [] → counted_all c all ≡ c
unfolding counted_all
counted_all-none c all e = ap (counted_all c) e

pub decisions_all-next : (c new : Counted) (m : Message) (rest all : List Message) (before after : List Decision) → all ≡ m ∷ rest → new ≡ counted_after c m.sender m.item → after ≡ before ++ option_to_list (decision_by c m.sender m.item) → after ++ decisions_all new rest ≡ before ++ decisions_all c all
unfolding decisions_all
decisions_all-next c new m rest all before after e n d =
    (λ i. d i ++ decisions_all (n i) rest)
    ∙ append_assoc before (option_to_list (decision_by c m.sender m.item)) (decisions_all (counted_after c m.sender m.item) rest)
    ∙ ap (λ ms. before ++ decisions_all c ms) (sym e)

pub decisions_all-none : (c : Counted) (all : List Message) (ds : List Decision) → all ≡ [] → ds ++ decisions_all c all ≡ ds
unfolding decisions_all
decisions_all-none c all ds e = ap (λ ms. ds ++ decisions_all c ms) e ∙ append-nil ds
