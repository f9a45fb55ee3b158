use Rattle.cast_node.proofs.Beginning.{stands_for_nothing}
use Rattle.cast_node.proofs.Continuing.{continues}
use Rattle.cast_node.proofs.Showing.{shows_delivered, shows_decision, shows_owed, shows_known_by, carries, tells_taken}
use Rattle.cast_node.proofs.answers_by_its_steps.Goals as goal

pub returns : goal.returns
returns c = record {
  begins = stands_for_nothing;
  goes_on = continues;
  delivered = shows_delivered;
  decided = shows_decision;
  owed = λ config me steps kept st q l e. (shows_owed config me steps kept st q l e, (st.out q l e).owed);
  known = λ config me steps kept st s i l. (shows_known_by config me steps kept st s i l, λ r. st.knows s i r l);
  frames = λ config me steps kept st. (carries config me steps kept st, tells_taken config me steps kept st);
}
