use Rattle.examples.proofs.Agreeing.{sheets_agree}
use Rattle.examples.proofs.ledger.law.sheets_agree_at_rest.Goals as goal

pub returns : goal.returns
returns c = sheets_agree
