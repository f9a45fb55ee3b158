-- What an accepted event tells of the history before it.
use Rattle.std.proofs.Common.{◌≡◌, ℕ, ◌<◌, refl, Bool, true, false, cond, List, [], ◌∷◌, length, Some, None}
use Rattle.std.proofs.lemmas.Bool.{not-false, leb-false, ltb-true}
use Rattle.cast_message.specs.declared.config.Config.{Config}
use Rattle.cast_message.specs.declared.event.Event.TheVariants.{Order, Send, Ack}
use Rattle.cast_message.specs.declared.message.Item.{Item}
use Rattle.cast_model.specs.History.{History, given, taken}
use Rattle.cast_model.specs.Refusals.{Cause, first_fault}
use Rattle.cast_model.specs.Replies.{causes, fault}
use Rattle.cast_model.proofs.Members.{Member, here, there}

-- where there is no refusal, no cause holds
pub no_cause : (cause : Cause) (list : List Cause) → first_fault list ≡ None → Member cause list → cause.holds ≡ false
unfolding first_fault
no_cause cause [] e m = elim m [ ]
no_cause cause (other ∷ list) e here = by_test other.holds e
  where
    by_test : (b : Bool) → cond b (Some other.refusal) (first_fault list) ≡ None → b ≡ false
    by_test true e = absurd (cc)
    by_test false e = refl
no_cause cause (other ∷ list) e (there m) = no_cause cause list (by_test other.holds e) m
  where
    by_test : (b : Bool) → cond b (Some other.refusal) (first_fault list) ≡ None → first_fault list ≡ None
    by_test true e = absurd (cc)
    by_test false e = e

pub Send-slot : (config : Config) (past : History) (p q slot : ℕ) → fault config past (Send p q slot) ≡ None → slot < length (given past p q)
unfolding fault causes
Send-slot config past p q slot e = leb-false _ _ (no_cause _ (causes config past (Send p q slot)) e (there (there (there (there here)))))

pub Ack-taken : (config : Config) (past : History) (p q slot : ℕ) → fault config past (Ack p q slot) ≡ None → taken past q p slot ≡ true
unfolding fault causes
Ack-taken config past p q slot e = not-false _ (no_cause _ (causes config past (Ack p q slot)) e (there (there (there (there here)))))

pub Order-node : (config : Config) (past : History) (p : ℕ) (item : Item) → fault config past (Order p item) ≡ None → p < config.nodes
unfolding fault causes
Order-node config past p item e = ltb-true _ _ (not-false _ (no_cause _ (causes config past (Order p item)) e here))
