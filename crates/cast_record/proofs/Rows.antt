-- Worked examples: verdicts on texts, computed by the checker from the definitions.
use Rattle.std.proofs.Common.{◌≡◌, ℕ, List, [], ◌∷◌, ◌++◌, codes, refl}
use Rattle.cast_record.specs.declared.verdict.Verdict.TheVariants.{Good, Bad}
use Rattle.cast_record.specs.Reading.{line_of}
use Rattle.cast_record.specs.Rules.{group_of, broadcasts_of, deliveries_of, has_broadcast, has_closed, has_proposed, is_proposed, has_crashed, values_in, broken}
use Rattle.cast_record.specs.Verdicts.{verdict_after, verdict}

-- the lines, each with its line feed
abbrev text : List (List ℕ) → List ℕ
text [] = []
text (line ∷ lines) = line ++ 10 ∷ text lines

pub empty_text : verdict (text ([])) ≡ Bad 1 0
unfolding line_of group_of broadcasts_of deliveries_of has_broadcast has_closed has_proposed is_proposed has_crashed values_in broken verdict_after verdict
empty_text = refl

pub stops_early : verdict (text (codes "cast/1 1 0 1" ∷ codes "b 0 0 data:61" ∷ [])) ≡ Bad 3 0
unfolding line_of group_of broadcasts_of deliveries_of has_broadcast has_closed has_proposed is_proposed has_crashed values_in broken verdict_after verdict
stops_early = refl

pub out_of_order : verdict (text (codes "cast/1 2 0 1" ∷ codes "b 0 0 data:61" ∷ codes "b 0 1 data:62" ∷ codes "d 1 0 1 data:62" ∷ codes "end" ∷ [])) ≡ Bad 4 1
unfolding line_of group_of broadcasts_of deliveries_of has_broadcast has_closed has_proposed is_proposed has_crashed values_in broken verdict_after verdict
out_of_order = refl

pub after_close : verdict (text (codes "cast/1 1 0 1" ∷ codes "b 0 0 close" ∷ codes "b 0 1 data:61" ∷ codes "end" ∷ [])) ≡ Bad 3 2
unfolding line_of group_of broadcasts_of deliveries_of has_broadcast has_closed has_proposed is_proposed has_crashed values_in broken verdict_after verdict
after_close = refl

pub not_proposed : verdict (text (codes "cast/1 1 0 1" ∷ codes "v 0 7 5" ∷ codes "end" ∷ [])) ≡ Bad 2 3
unfolding line_of group_of broadcasts_of deliveries_of has_broadcast has_closed has_proposed is_proposed has_crashed values_in broken verdict_after verdict
not_proposed = refl

pub too_many_values : verdict (text (codes "cast/1 3 1 2" ∷ codes "b 0 0 prop:7:1" ∷ codes "b 1 0 prop:7:2" ∷ codes "b 2 0 prop:7:3" ∷ codes "v 0 7 1" ∷ codes "v 1 7 2" ∷ codes "v 2 7 3" ∷ codes "end" ∷ [])) ≡ Bad 7 4
unfolding line_of group_of broadcasts_of deliveries_of has_broadcast has_closed has_proposed is_proposed has_crashed values_in broken verdict_after verdict
too_many_values = refl

pub bound_not_claimed : verdict (text (codes "cast/1 3 1 1" ∷ codes "b 0 0 prop:7:1" ∷ codes "b 1 0 prop:7:2" ∷ codes "b 2 0 prop:7:3" ∷ codes "v 0 7 1" ∷ codes "v 1 7 2" ∷ codes "v 2 7 3" ∷ codes "end" ∷ [])) ≡ Good
unfolding line_of group_of broadcasts_of deliveries_of has_broadcast has_closed has_proposed is_proposed has_crashed values_in broken verdict_after verdict
bound_not_claimed = refl

pub after_crash : verdict (text (codes "cast/1 1 0 1" ∷ codes "x 0" ∷ codes "b 0 0 data:61" ∷ codes "end" ∷ [])) ≡ Bad 3 5
unfolding line_of group_of broadcasts_of deliveries_of has_broadcast has_closed has_proposed is_proposed has_crashed values_in broken verdict_after verdict
after_crash = refl

pub after_crash_migrated : verdict (text (codes "cast/2 1 0 1 basic" ∷ codes "x 0" ∷ codes "b 0 0 data:61" ∷ codes "end" ∷ [])) ≡ Bad 3 5
unfolding line_of group_of broadcasts_of deliveries_of has_broadcast has_closed has_proposed is_proposed has_crashed values_in broken verdict_after verdict
after_crash_migrated = refl

pub proposed_twice : verdict (text (codes "cast/1 1 0 1" ∷ codes "b 0 0 prop:7:1" ∷ codes "b 0 1 prop:7:2" ∷ codes "end" ∷ [])) ≡ Bad 3 6
unfolding line_of group_of broadcasts_of deliveries_of has_broadcast has_closed has_proposed is_proposed has_crashed values_in broken verdict_after verdict
proposed_twice = refl

pub propose_alone : verdict (text (codes "cast/1 1 0 1" ∷ codes "b 0 0 data:61" ∷ codes "d 0 0 0 data:61" ∷ codes "b 0 1 prop:7:5" ∷ codes "d 0 0 1 prop:7:5" ∷ codes "v 0 7 5" ∷ codes "end" ∷ [])) ≡ Good
unfolding line_of group_of broadcasts_of deliveries_of has_broadcast has_closed has_proposed is_proposed has_crashed values_in broken verdict_after verdict
propose_alone = refl

pub two_values_decided : verdict (text (codes "cast/1 3 1 2" ∷ codes "b 0 0 prop:7:3" ∷ codes "d 0 0 0 prop:7:3" ∷ codes "b 1 0 prop:7:1" ∷ codes "d 1 1 0 prop:7:1" ∷ codes "b 2 0 prop:7:2" ∷ codes "d 2 2 0 prop:7:2" ∷ codes "d 0 2 0 prop:7:2" ∷ codes "v 0 7 2" ∷ codes "d 1 0 0 prop:7:3" ∷ codes "v 1 7 1" ∷ codes "d 2 1 0 prop:7:1" ∷ codes "v 2 7 1" ∷ codes "end" ∷ [])) ≡ Good
unfolding line_of group_of broadcasts_of deliveries_of has_broadcast has_closed has_proposed is_proposed has_crashed values_in broken verdict_after verdict
two_values_decided = refl

pub second_head : verdict (text (codes "cast/1 1 0 1" ∷ codes "cast/2 1 0 1 basic" ∷ codes "end" ∷ [])) ≡ Bad 2 0
unfolding line_of group_of broadcasts_of deliveries_of has_broadcast has_closed has_proposed is_proposed has_crashed values_in broken verdict_after verdict
second_head = refl

pub after_the_end : verdict (text (codes "cast/1 1 0 1" ∷ codes "end" ∷ codes "end" ∷ [])) ≡ Bad 3 0
unfolding line_of group_of broadcasts_of deliveries_of has_broadcast has_closed has_proposed is_proposed has_crashed values_in broken verdict_after verdict
after_the_end = refl

pub no_such_node : verdict (text (codes "cast/1 1 0 1" ∷ codes "x 1" ∷ codes "end" ∷ [])) ≡ Bad 2 0
unfolding line_of group_of broadcasts_of deliveries_of has_broadcast has_closed has_proposed is_proposed has_crashed values_in broken verdict_after verdict
no_such_node = refl

pub byte_after_the_end : verdict (codes "cast/1 1 0 1" ++ 10 ∷ codes "end" ++ 10 ∷ codes " ") ≡ Bad 3 0
unfolding line_of group_of broadcasts_of deliveries_of has_broadcast has_closed has_proposed is_proposed has_crashed values_in broken verdict_after verdict
byte_after_the_end = refl

pub last_line_without_feed : verdict (codes "cast/1 1 0 1" ++ 10 ∷ codes "end") ≡ Bad 2 0
unfolding line_of group_of broadcasts_of deliveries_of has_broadcast has_closed has_proposed is_proposed has_crashed values_in broken verdict_after verdict
last_line_without_feed = refl
