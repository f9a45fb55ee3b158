-- The bytes so far were put.
use Rattle.std.proofs.Common.{◌≡◌, take, string_bytes}
use Rattle.cast_record.specs.Shown.{shown}
use Rattle.cast_record.proofs.shown.escaped.Given as goal

abbrev pub invariant-loop-byte : goal.invariant-loop-byte
invariant-loop-byte l = string_bytes l.text ≡ shown (take l.byte-index l.bytes)
