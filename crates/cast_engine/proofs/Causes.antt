-- Why a client is told no more, client by client.
use Rattle.std.proofs.Common.{◌≡◌, ◌≢◌, ℕ, ◌+◌, ◌<◌, ◌≤◌, sym, refl, ap, ◌∙◌, subst, ⊎_elim, arith, length, List, Bool, true, false, Some}
use Rattle.std.specs.Prelude.{slice_get, slice_set}
use Rattle.std.proofs.Math.Decide.{dec_lt}
use mathlib.Core.Logic.{dite}
use Rattle.cast_box.specs.Ends.{PutterEnd}
use Rattle.cast_box.proofs.Same.{get_set}
use Rattle.cast_log.specs.declared.entry.Entry.{Entry}
use Rattle.cast_desk.specs.declared.notice.Notice.{Notice}
use Rattle.cast_engine.specs.declared.feeding.Place.{Place}
use Rattle.cast_engine.specs.Feeding.{IsTold, put_into}
use Rattle.cast_engine.proofs.Few.{set_elsewhere}

-- where the client's trays are the same
told_so : (told : Bool) (client : ℕ) (log : List Entry) (old new old' new' : List (PutterEnd Notice)) (place : Place) → slice_get old' client ≡ slice_get old client → slice_get new' client ≡ slice_get new client
    → IsTold told client log old new place → IsTold told client log old' new' place
told_so true client log old new old' new' place a b h = ap (λ o. length (put_into o)) b ∙ h ∙ ap (λ o. length (put_into o) + 1) (sym a)
told_so false client log old new old' new' place a b h = (h.0, a ∙ h.1, h.2)

-- the clients before this one, and then this one too
pub told_next : (log : List Entry) (old trays new : List (PutterEnd Notice)) (places : List Place) (client : ℕ) (now : PutterEnd Notice) (place : Place) (told : Bool)
    → ((c : ℕ) → client ≤ c → slice_get trays c ≡ slice_get old c) → new ≡ slice_set trays client now
    → ((c : ℕ) (p : Place) → c < client → slice_get places c ≡ Some p → (t : Bool) × IsTold t c log old trays p)
    → IsTold told client log trays new place
    → (c : ℕ) (p : Place) → c < client + 1 → slice_get (slice_set places client place) c ≡ Some p → (t : Bool) × IsTold t c log old new p
told_next log old trays new places client now place told rest set before one c p lt at = dite (dec_lt c client)
    (λ less.
    let other : c ≢ client = λ e. omega (arith, less, e) in
    let it = before c p less (sym (set_elsewhere places client c place other) ∙ at) in
    (it.0, told_so it.0 c log old trays old new p refl (ap (λ l. slice_get l c) set ∙ set_elsewhere trays client c now other) it.1))
    (λ no.
    let here : c ≡ client = omega arith in
    let is : place ≡ p = ⊎_elim (λ (y : (c ≡ client) × (place ≡ p)). y.1) (λ (y : (c ≢ client) × (slice_get places c ≡ Some p)). absurd (y.0 here)) (get_set places client c place p at) in
    let Q : ℕ → Place → Type 0 = λ c p. (t : Bool) × IsTold t c log old new p in
    subst (λ c. Q c p) (sym here) (subst (Q client) is (told, told_so told client log trays new old new place (sym (rest client (omega arith))) refl one)))
