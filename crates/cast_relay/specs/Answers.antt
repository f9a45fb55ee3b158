-- What an arrival returns: Known if and only if the pair was held.
use Rattle.std.specs.Prelude.{ℕ, if◌then◌else◌}
use Rattle.cast_relay.specs.Pairs.{Pairs, holds}
use Rattle.cast_relay.specs.declared.Taken.{Taken}
use Rattle.cast_relay.specs.declared.Taken.TheVariants.{New, Known}

abbrev pub taken_of : Pairs → ℕ → ℕ → Taken
taken_of held sender number = if holds held sender number then Known else New
