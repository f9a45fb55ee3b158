use Rattle.std.proofs.Common.{◌≡◌, ◌-◌, sym, subst, length, take, drop, get_or, true, arith, ℕ}
use Rattle.std.specs.Char.{is_ascii_digit}
use Rattle.std.proofs.lemmas.Bool.Decides.{nat_tests}
use Rattle.cast_record.specs.Fronts.{BeginsWithNode}
use Rattle.cast_record.proofs.FrontLemmas.{short_node, long_node}
use Rattle.cast_record.proofs.front.split_node.Goals as goal
use Rattle.cast_record.proofs.front.split_node.Goals.{then-is_short, else-is_short}

pub returns : goal.returns
returns c =
    let bytes = c.args.bytes.now in
    let high : is_ascii_digit (get_or c.args.bytes.now 0 0) ≡ true = grind (arith, nat_tests) in
    elim c.if-is_short.branch [
      | then-is_short w ↦
          let blank : get_or c.args.bytes.now 1 0 ≡ 32 = grind (arith, nat_tests) in
          subst (λ (n : ℕ × ℕ). BeginsWithNode bytes n.0 (take (length bytes - n.1) (drop n.1 bytes))) (sym w.node-is) (short_node bytes c.in-len3-up.len_at_least high blank)
      | else-is_short w ↦
          let low : is_ascii_digit (get_or c.args.bytes.now 1 0) ≡ true = grind (arith, nat_tests) in
          let other : get_or c.args.bytes.now 0 0 ≡ 48 → ⊥ = (λ zero_first. grind (arith, nat_tests)) in
          let blank : get_or c.args.bytes.now 2 0 ≡ 32 = grind (arith, nat_tests) in
          subst (λ (n : ℕ × ℕ). BeginsWithNode bytes n.0 (take (length bytes - n.1) (drop n.1 bytes))) (sym w.node-is) (long_node bytes c.in-len3-up.len_at_least high low other blank)
    ]
