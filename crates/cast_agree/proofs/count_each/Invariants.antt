use Rattle.std.proofs.Common.{◌≡◌, ◌+◌, ◌≤◌, ◌++◌, drop, length, vec_len}
use Rattle.std.specs.Prelude.{vec_capacity}
use Rattle.std.specs.HashMap.{spare}
use Rattle.cast_agree.specs.Counted.{seen}
use Rattle.cast_agree.specs.Journal.{counted_all, decisions_all}
use Rattle.cast_agree.proofs.count_each.Given as goal

abbrev pub invariant-loop-message : goal.invariant-loop-message
invariant-loop-message l =
    let rest = drop l.message-index l.messages in
    let now = seen l.quorum l.tallies.entries in
    let before = seen l.quorum l.fn.tallies.entries in
    record {
      counted : counted_all now rest ≡ counted_all before l.messages;
      decided : l.decisions.items ++ decisions_all now rest ≡ l.fn.decisions.items ++ decisions_all before l.messages;
      room : length rest ≤ spare l.tallies;
      space : vec_len l.decisions + length rest ≤ vec_capacity l.decisions;
    }
