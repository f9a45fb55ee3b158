use Rattle.cast_record.proofs.ReadLemmas.{one_text}
use Rattle.cast_record.proofs.Rows.{last_line_without_feed}
use Rattle.cast_record.proofs.laws.has_text_of_its_own.Goals as goal

pub returns : goal.returns
returns c = let e = last_line_without_feed in one_text
