-- Nothing is forgotten, from the beginning on.
use Rattle.std.proofs.Common.{◌≡◌, ℕ, suc, ◌-◌, ◌<◌, ◌≤◌, true, false, List, [], length, slice_get, Some, sym, ap, ◌∙◌, subst, inl, inr, ⊎_elim, arith}
use Rattle.std.specs.FinSet as set
use Rattle.std.proofs.lemmas.Bool.Decides.{leb_tells}
use Rattle.cast_journal.specs.Lists.{Has}
use Rattle.cast_journal.proofs.Lists.{has_none}
use Rattle.cast_node.specs.Kept.{Kept}
use Rattle.cast_resend.specs.declared.due.Due.{Due}
use Rattle.cast_resend.specs.declared.resend.Resend.{Resend}
use Rattle.cast_resend.specs.Keeps.{Keeps, WasSent, ForgetsNothing}

pub all_remembered : ForgetsNothing
all_remembered kept r q slot d k none member at owed =
    let n = none q member d at in
    elim (leb_tells (suc slot) d.first) [
      | inl l ↦ ⊎_elim (λ (h : Has d.again.items slot). let clash : true ≡ false = sym owed ∙ n.again slot h in absurd cc) (λ (h : WasSent r q slot). inl h) (k.remembers q slot d at (omega (arith, l.1)) owed)
      | inr l ↦ let from : d.first ≤ slot = omega (arith, l.1) in
          ⊎_elim (λ (full : r.window ≤ d.first - d.heard). inr (from, inl full))
          (λ left. elim (leb_tells (suc (slot - d.heard)) r.window) [
            | inl m ↦ let clash : true ≡ false = sym owed ∙ left slot from (omega (arith, m.1)) in absurd cc
            | inr m ↦ inr (from, inr (omega (arith, m.1)))
          ])
          n.first
    ]

-- a peer to which nothing was sent
abbrev pub IsFresh : Due → Type 0
IsFresh d = (d.first ≡ 0) × (d.again.items ≡ [])

-- if nothing was sent
pub keeps_new : (kept : Kept) (r : Resend) → r.hopeful ≡ r.peers → ((q : ℕ) (d : Due) → slice_get r.due.items q ≡ Some d → IsFresh d) → r.turn < length r.sent.items → Keeps kept r
keeps_new kept r all fresh place = record {
  hopes = λ q member. inl (ap (λ t. set.contains t q) all ∙ member);
  remembers = λ q slot d at below owed. let f = fresh q d at in let z : d.first ≡ 0 = f.0 in absurd (omega arith);
  again_below = λ q slot d at h. let f = fresh q d at in absurd (has_none slot (subst (λ (l : List ℕ). Has l slot) f.1 h));
  given = λ q d at. let f = fresh q d at in let z : d.first ≡ 0 = f.0 in omega arith;
  place = place;
}
