use Rattle.std.proofs.Common.{◌≡◌, ◌≤◌, ℕ, Bool, true, false, not, cond, sym, ap, ◌∙◌, arith}
use Rattle.std.specs.FinSet as set
use Rattle.std.proofs.lemmas.Bool.Decides.{nat_tests}
use Rattle.cast_message.specs.Members.{insert-member}
use Rattle.cast_agree.specs.declared.tally.Tally.{Tally}
use Rattle.cast_agree.specs.Tallies.{tally_after, counts, with_proposal}
use Rattle.cast_agree.proofs.tally.Tally.count.Goals as goal
use Rattle.cast_agree.proofs.tally.Tally.count.Goals.{then-counted-quorum-via-then-counted-quorum, then-counted-quorum-via-else-counted-quorum+then-not-insert}

kept : (quorum sender value : ℕ) (tally : Tally) → counts quorum tally sender ≡ false → tally ≡ tally_after quorum tally sender value
kept quorum sender value tally e = sym (ap (λ b. cond b (with_proposal tally sender value) tally) e)

complete : (quorum sender : ℕ) (tally : Tally) → quorum ≤ set.len tally.proposers → counts quorum tally sender ≡ false
complete quorum sender tally l = grind (arith, nat_tests)

present : (quorum sender : ℕ) (tally : Tally) → set.contains tally.proposers sender ≡ true → counts quorum tally sender ≡ false
present quorum sender tally e = grind (arith, nat_tests)

known : (r b : Bool) → r ≡ not b → r ≡ false → b ≡ true
known r b e f = grind (arith, nat_tests)

pub returns-then-counted-quorum-clause-after : goal.returns-then-counted-quorum-clause-after
returns-then-counted-quorum-clause-after c =
    elim c.then-counted-quorum.branch [
      | then-counted-quorum-via-then-counted-quorum w ↦ w.self-is ∙ kept c.args.quorum c.args.sender c.args.value c.args.self.now (complete c.args.quorum c.args.sender c.args.self.now (omega (arith, c.len-counted.ensures, w.if-counted-quorum.true)))
      | then-counted-quorum-via-else-counted-quorum+then-not-insert w ↦
          let hit : set.contains c.args.self.now.proposers c.args.sender ≡ true = known _ _ w.insert.ensures.test w.if-not-insert.true in
          let same = insert-member c.args.self.now.proposers c.args.sender hit in
          w.self-is ∙ (λ i. record { proposers = (w.insert.ensures.members ∙ sym same) i; least = c.args.self.now.least }) ∙ kept c.args.quorum c.args.sender c.args.value c.args.self.now (present c.args.quorum c.args.sender c.args.self.now hit)
    ]
