use Rattle.cast_wire.proofs.Cutting.{same_packet}
use Rattle.cast_wire.proofs.Fitting.{not_refused}
use Rattle.cast_wire.proofs.law.has_bytes_of_its_own.Goals as goal

pub returns-clause-own : goal.returns-clause-own
returns-clause-own c = same_packet

pub returns-clause-refused : goal.returns-clause-refused
returns-clause-refused c = not_refused
