use Rattle.cast_resend.proofs.Members.{inserted, still_in}
use Rattle.cast_resend.proofs.resend.Resend.look_at.Goals as goal

pub returns-then-contains-clause-looks : goal.returns-then-contains-clause-looks
returns-then-contains-clause-looks c = record {
  asked = λ member. inserted c.args.self.now.hopeful c.insert.new.self c.args.peer c.insert.ensures;
  still = λ q h. still_in c.args.self.now.hopeful c.insert.new.self c.args.peer q c.insert.ensures h;
}
